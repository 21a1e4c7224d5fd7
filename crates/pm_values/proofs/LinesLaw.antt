-- The unit of a reset line.
use Rattle.std.proofs.Common.{◌≡◌, ◌<◌, ℕ, ◌==◌, zero, suc, Bool, true, false, cond, List, [], ◌∷◌, length, map, position, slice_get, Option, Some, None, refl, arith, ap, sym, ◌∙◌, subst}
use Rattle.std.specs.Prelude.{option_and_then, option_map}
use Rattle.std.proofs.lemmas.Bool.{eq-eqb, eqb-true}
use Rattle.std.proofs.lemmas.Option.{slice_get-map, slice_get_within}
use Rattle.pm_base.proofs.Searches.{position-first, position-none}
use Rattle.pm_base.specs.declared.names.Unit.{Unit}
use Rattle.pm_base.specs.declared.names.Unit.TheVariants.{Node, Line}
use Rattle.pm_base.specs.declared.names.LineId.{LineId}
use Rattle.pm_topology.specs.declared.topology.LineDef.{LineDef}
use Rattle.pm_topology.specs.declared.topology.Topology.{Topology}
use Rattle.pm_topology.specs.Places.{line_place}
use Rattle.pm_topology.specs.Units.{UnitLaws, same_unit, units_of}
use Rattle.pm_topology.specs.UnitMap.{place_of, units_in}
use Rattle.pm_values.specs.declared.caches.UnitKind.{UnitKind}
use Rattle.pm_values.specs.declared.caches.UnitKind.TheVariants.{Entry, Reset}
use Rattle.pm_values.specs.Caches.{kind_of_unit}
use Rattle.pm_values.specs.Behind.{line_unit}
use Rattle.pm_values.specs.Kinds.{rests_at, woken_in}
use Rattle.pm_values.proofs.KindsLaw.{stands_once, woken_here, woken_other}

-- a unit that is the reset line at place l
record HasLine (t : Topology) (l : ℕ) (u : Option Unit) : Type 0 where
  line : LineDef
  is : u ≡ Some (Line line.line)
  there : slice_get t.lines l ≡ Some line

same_line : (a b : LineId) → a.0 ≡ b.0 → Line a ≡ Line b
same_line a b same = ap (λ n. Line (record { 0 = n })) same

has_line : (t : Topology) (l : ℕ) (u : Option Unit) → option_map (kind_of_unit t) u ≡ Some (Reset (Some l)) → HasLine t l u
has_line t l None at = cc
has_line t l (Some (Node node)) at = cc
has_line t l (Some (Line id)) at =
    let place : line_place t.lines id.0 ≡ Some l = cc in
    let found = position-first (λ (line : LineDef). line.line.0 == id.0) t.lines l place in
    record { line = found.element; is = ap (λ u. Some u) (same_line id found.element.line (sym (eqb-true found.element.line.0 id.0 found.passes))); there = found.here }

unit_at : {T : Type 0} (values : List (Unit × T)) (k : ℕ) (e : Unit × T) → slice_get values k ≡ Some e → slice_get (units_in values) k ≡ Some e.0
unit_at values k e at = slice_get-map (λ e. e.0) values k ∙ ap (option_map (λ e. e.0)) at

entry_at : {T : Type 0} (o : Option (Unit × T)) (u : Unit) → option_map (λ (e : Unit × T). e.0) o ≡ Some u → (e : Unit × T) × (o ≡ Some e) × (e.0 ≡ u)
entry_at None u is = cc
entry_at (Some e) u is = (e, refl, cc)

module _ (laws : UnitLaws) (t : Topology) (kinds : List UnitKind) (values : List (Unit × ℕ)) (l : ℕ) (kinds_are : kinds ≡ map (kind_of_unit t) (units_of t)) (units_are : units_in values ≡ units_of t) where
  line_of : (k : ℕ) → slice_get kinds k ≡ Some (Reset (Some l)) → HasLine t l (slice_get (units_of t) k)
  line_of k at =
      has_line t l (slice_get (units_of t) k)
      (sym (slice_get-map (kind_of_unit t) (units_of t) k) ∙ (ap (λ ks. slice_get ks k) (sym kinds_are) ∙ at))

  -- such a unit stands where the line is found
  pub line_stands : (k : ℕ) (line : LineDef) (place : ℕ) → slice_get kinds k ≡ Some (Reset (Some l)) → slice_get t.lines l ≡ Some line → place_of values (Line line.line) ≡ Some place → k ≡ place
  line_stands k line place at there placed =
      let own = line_of k at in
      let alike : Some own.line ≡ Some line = sym own.there ∙ there in
      let same : own.line ≡ line = cc in
      let found = position-first (λ (e : Unit × ℕ). same_unit e.0 (Line line.line)) values place placed in
      let unit : found.element.0 ≡ Line line.line = laws.same found.element.0 (Line line.line) found.passes in
      stands_once (units_of t) k place (Line line.line) (laws.are t).rising
      (own.is ∙ ap (λ (d : LineDef). Some (Line d.line)) same)
      (ap (λ us. slice_get us place) (sym units_are) ∙ (unit_at values place found.element found.here ∙ ap (λ u. Some u) unit))

  -- and it is found
  pub line_found : (k : ℕ) (line : LineDef) → slice_get kinds k ≡ Some (Reset (Some l)) → slice_get t.lines l ≡ Some line → place_of values (Line line.line) ≡ None → ⊥
  line_found k line at there none =
      let own = line_of k at in
      let alike : Some own.line ≡ Some line = sym own.there ∙ there in
      let same : own.line ≡ line = cc in
      let unit : slice_get (units_in values) k ≡ Some (Line line.line) =
      ap (λ us. slice_get us k) units_are ∙ (own.is ∙ ap (λ (d : LineDef). Some (Line d.line)) same)
      in
      let e = entry_at (slice_get values k) (Line line.line) (sym (slice_get-map (λ (e : Unit × ℕ). e.0) values k) ∙ unit) in
      let fails : same_unit e.0.0 (Line line.line) ≡ false = position-none (λ (e : Unit × ℕ). same_unit e.0 (Line line.line)) values none k e.0 e.1 in
      let holds : same_unit e.0.0 (Line line.line) ≡ true = ap (λ u. same_unit u (Line line.line)) e.2 ∙ laws.itself (Line line.line) in
      let clash : false ≡ true = sym fails ∙ holds in
      cc

  by_place : (k : ℕ) (line : LineDef) → slice_get kinds k ≡ Some (Reset (Some l)) → slice_get t.lines l ≡ Some line
      → (o : Option ℕ) → place_of values (Line line.line) ≡ o → place_of values (Line line.line) ≡ Some k
  by_place k line at there None placed = absurd (line_found k line at there placed)
  by_place k line at there (Some place) placed = placed ∙ ap (λ n. Some n) (sym (line_stands k line place at there placed))

  pub unit_is : (k : ℕ) → slice_get kinds k ≡ Some (Reset (Some l)) → line_unit t.lines values l ≡ Some k
  unit_is k at =
      let own = line_of k at in
      ap (option_and_then (λ (line : LineDef). place_of values (Line line.line))) own.there
      ∙ by_place k own.line at own.there (place_of values (Line own.line.line)) refl

  -- so it doesn't rest once that place is woken
  pub line_woken : (place : Option ℕ) (awake after : List Bool) → place ≡ line_unit t.lines values l → after ≡ woken_in place awake
      → (k : ℕ) → slice_get kinds k ≡ Some (Reset (Some l)) → rests_at after k ≡ false
  line_woken place awake after found woken k at =
      ap (λ aw. rests_at aw k) (woken ∙ ap (λ o. woken_in o awake) (found ∙ unit_is k at)) ∙ woken_here awake k

  pub no_line : (k : ℕ) → slice_get kinds k ≡ Some (Reset (Some l)) → slice_get t.lines l ≡ None → ⊥
  no_line k at none = let own = line_of k at in let clash : None ≡ Some own.line = sym none ∙ own.there in cc

  pub line_within : (k : ℕ) → slice_get kinds k ≡ Some (Reset (Some l)) → l < length t.lines
  line_within k at = let own = line_of k at in slice_get_within t.lines l own.line own.there

pub less_in : (place : Option ℕ) (awake after : List Bool) → after ≡ woken_in place awake → (k : ℕ) → rests_at after k ≡ true → rests_at awake k ≡ true
less_in None awake after woken k is = ap (λ aw. rests_at aw k) (sym woken) ∙ is
less_in (Some j) awake after woken k is = woken_other awake j k (ap (λ aw. rests_at aw k) (sym woken) ∙ is)
