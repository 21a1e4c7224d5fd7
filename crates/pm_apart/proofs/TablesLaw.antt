-- The closing tables of two runs that are alike: the lines about a unit beyond are the same.
use Rattle.std.proofs.Common.{◌≡◌, ℕ, ◌==◌, ◌&&◌, Bool, true, false, if◌then◌else◌, List, [], ◌∷◌, ◌++◌, refl, ap, sym, ◌∙◌, subst}
use Rattle.std.specs.Prelude.{codes, filter, flat_map}
use Rattle.pm_base.specs.declared.names.NodeId.{NodeId}
use Rattle.pm_base.specs.declared.names.Unit.{Unit}
use Rattle.pm_base.specs.declared.names.Unit.TheVariants.{Node, Line}
use Rattle.pm_topology.specs.declared.places.Kind.{Kind}
use Rattle.pm_topology.specs.declared.places.Kind.TheVariants.{Proc, Slave, Power, Unknown}
use Rattle.pm_topology.specs.declared.topology.Topology.{Topology}
use Rattle.pm_topology.specs.Places.{kind_of}
use Rattle.pm_topology.specs.Units.{same_unit, units_of}
use Rattle.pm_topology.specs.WellFormed.{IsWellFormed}
use Rattle.pm_procs.specs.Modes.{mode_number}
use Rattle.pm_procs.specs.Procs.{mode_at}
use Rattle.pm_state.specs.State.{Fixed, State}
use Rattle.pm_state.specs.Units.{units}
use Rattle.pm_state.specs.Values.{point, point_at, shown, value, value_at}
use Rattle.pm_clock_tree.specs.declared.clock_tree.ClockEnd.{ClockEnd}
use Rattle.pm_clock_tree.specs.Told.{ends}
use Rattle.pm_clock_tree.specs.Tree.{Tree}
use Rattle.pm_run.specs.Run.{IsBookOf, Setup, fixed_of}
use Rattle.pm_laws.specs.Border.{AreObjects, unit_beyond}
use Rattle.pm_laws.specs.ReachBorder.{border_of}
use Rattle.pm_laws.specs.Values.{is_beyond}
use Rattle.pm_apply.specs.Part.{Kept}
use Rattle.pm_record.specs.Record.{kept_value}
use Rattle.pm_trace.specs.declared.line.Word.{Word}
use Rattle.pm_trace.specs.declared.line.Word.TheVariants as word
use Rattle.pm_trace.specs.Closing.{kind_name, unit_name}
use Rattle.pm_trace.specs.Line.{numbers}
use Rattle.pm_apart.specs.Apart.{IsOutOfReach}
use Rattle.pm_apart.specs.Lines.{clock_lines, closing_line, end_line, end_words, is_about}
use Rattle.pm_apart.proofs.FilterLemmas.{left_out, made_alike}
use Rattle.pm_apart.proofs.RunsLaw.{ReachLaws, StandAlike, value_beyond}
use Rattle.pm_apart.proofs.TextsLaw.{none_made}

-- ---- lines of other units

-- a closing line is about its own unit alone
pub end_about : (t : Topology) (x u : Unit) (others : List Word) → is_about u (word.Name (codes "end") ∷ (unit_name t x ++ others)) ≡ same_unit x u
end_about t (Node a) (Node b) others = by (kind_of t a)
  where
    by : (kind : Kind) → is_about (Node b) (word.Name (codes "end") ∷ kind_name kind ∷ word.Number a.0 ∷ others) ≡ same_unit (Node a) (Node b)
    by (Proc p) = refl
    by (Slave s) = refl
    by (Power w) = refl
    by Unknown = refl
end_about t (Node a) (Line b) others = by (kind_of t a)
  where
    by : (kind : Kind) → is_about (Line b) (word.Name (codes "end") ∷ kind_name kind ∷ word.Number a.0 ∷ others) ≡ false
    by (Proc p) = refl
    by (Slave s) = refl
    by (Power w) = refl
    by Unknown = refl
end_about t (Line a) (Node b) others = refl
end_about t (Line a) (Line b) others = refl

pub other_line : (t : Topology) (x u : Unit) (book kept : ℕ) → same_unit x u ≡ false → filter (is_about u) (end_line t x book kept) ≡ []
other_line t x u book kept other = at ((book == 0) && (kept == 0))
  where
    at : (idle : Bool) → filter (is_about u) (if idle then [] else (word.Name (codes "end") ∷ (unit_name t x ++ numbers (book ∷ kept ∷ []))) ∷ []) ≡ []
    at true = refl
    at false = left_out (is_about u) (word.Name (codes "end") ∷ (unit_name t x ++ numbers (book ∷ kept ∷ []))) [] (end_about t x u (numbers (book ∷ kept ∷ [])) ∙ other)

-- the closing line of a clock is about no unit
clock_apart : (u : Unit) (end : ClockEnd) → is_about u (end_words end) ≡ false
clock_apart (Node node) end = refl
clock_apart (Line line) end = refl

pub clocks_apart : (u : Unit) (tree : Tree) → filter (is_about u) (clock_lines tree) ≡ []
clocks_apart u tree = none_made (is_about u) end_words (clock_apart u) (ends tree)

-- ---- two runs that are alike

module _ (laws : ReachLaws) (c : Setup) (m : NodeId) (u : Unit) (object : AreObjects (fixed_of c)) (chip : IsWellFormed c.topology)
    (beyond : IsOutOfReach c m u) where
  abbrev Alike : State → State → Kept → Kept → Type 0
  Alike a b first second = StandAlike laws c m u object chip beyond a b first second

  abbrev both : Fixed
  both = fixed_of c

  module _ (a b : State) (first second : Kept) (s : Alike a b first second) where
    values_same : value u a ≡ value u b
    values_same = value_beyond laws c m u object chip beyond a b s.is_a s.agree

    modes_same : (p : ℕ) → unit_beyond c.object c.topology (border_of (fixed_of c) m) (Proc p) ≡ true → mode_at p a.now.core.procs ≡ mode_at p b.now.core.procs
    modes_same p is =
        let P : Fixed → Type 0 = λ fixed. unit_beyond fixed.object fixed.topology (border_of (fixed_of c) m) (Proc p) ≡ true in
        laws.modes (border_of (fixed_of c) m) p a b (subst P (sym s.is_a.fixed) is) s.agree

    -- the value and the point of a node, by its kind
    value_by : (node : NodeId) (kind : Kind) → u ≡ Node node → kind_of c.topology node ≡ kind → value_at kind both a.now.core ≡ value_at kind both b.now.core
    value_by node kind unit is = sym (at a s.is_a) ∙ (ap (λ x. value x a) (sym unit) ∙ (values_same ∙ (ap (λ x. value x b) unit ∙ at b s.is_b)))
      where
        at : (book : State) → IsBookOf c book → value (Node node) book ≡ value_at kind both book.now.core
        at book of_run =
            ap (λ (f : Fixed). value_at (kind_of f.topology node) f book.now.core) of_run.fixed ∙ ap (λ k. value_at k both book.now.core) is

    point_by : (node : NodeId) (kind : Kind) → u ≡ Node node → kind_of c.topology node ≡ kind → point_at kind both a.now.core ≡ point_at kind both b.now.core
    point_by node (Proc p) unit is =
        let edge = border_of (fixed_of c) m in
        let here : is_beyond c.object c.topology edge (Node node) ≡ true = ap (is_beyond c.object c.topology edge) (sym unit) ∙ beyond in
        ap mode_number (modes_same p (ap (unit_beyond c.object c.topology edge) (sym is) ∙ here))
    point_by node (Slave k) unit is = value_by node (Slave k) unit is
    point_by node (Power k) unit is = value_by node (Power k) unit is
    point_by node Unknown unit is = value_by node Unknown unit is

    shown_same : (x : Unit) → u ≡ x → shown x a ≡ shown x b
    shown_same (Node node) unit = at a s.is_a ∙ (point_by node (kind_of c.topology node) unit refl ∙ sym (at b s.is_b))
      where
        at : (book : State) → IsBookOf c book → point node book ≡ point_at (kind_of c.topology node) both book.now.core
        at book of_run = ap (λ (f : Fixed). point_at (kind_of f.topology node) f book.now.core) of_run.fixed
    shown_same (Line line) unit = ap (λ x. value x a) (sym unit) ∙ (values_same ∙ ap (λ x. value x b) unit)

    same_chip : a.fixed.topology ≡ b.fixed.topology
    same_chip = ap (λ (f : Fixed). f.topology) (s.is_a.fixed ∙ sym s.is_b.fixed)

    pub line_same : closing_line a first u ≡ closing_line b second u
    line_same =
        ap (λ t. end_line t u (shown u a) (kept_value first u)) same_chip
        ∙ (ap (λ v. end_line b.fixed.topology u v (kept_value first u)) (shown_same u refl)
        ∙ ap (end_line b.fixed.topology u (shown u b)) s.kept)

    line_about : (x : Unit) → filter (is_about u) (closing_line a first x) ≡ filter (is_about u) (closing_line b second x)
    line_about x = at (same_unit x u) refl
      where
        at : (same : Bool) → same_unit x u ≡ same → filter (is_about u) (closing_line a first x) ≡ filter (is_about u) (closing_line b second x)
        at true same =
            let P : Unit → Type 0 = λ x. filter (is_about u) (closing_line a first x) ≡ filter (is_about u) (closing_line b second x) in
            subst P (sym (laws.part.chip.units.same x u same)) (ap (filter (is_about u)) line_same)
        at false same =
            other_line a.fixed.topology x u (shown x a) (kept_value first x) same
            ∙ sym (other_line b.fixed.topology x u (shown x b) (kept_value second x) same)

    pub table_same : filter (is_about u) (flat_map (closing_line a first) (units a)) ≡ filter (is_about u) (flat_map (closing_line b second) (units b))
    table_same =
        made_alike (is_about u) (closing_line a first) (closing_line b second) line_about (units a)
        ∙ ap (λ t. filter (is_about u) (flat_map (closing_line b second) (units_of t))) same_chip
