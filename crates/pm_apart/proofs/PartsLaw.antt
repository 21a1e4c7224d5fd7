-- The commands of a core step on a unit, over a device that never fails: they follow from its values before and after, and
-- from the pulse.
use Rattle.std.proofs.Common.{◌≡◌, ℕ, ◌+◌, Bool, true, false, ◌&&◌, if◌then◌else◌, List, [], ◌∷◌, None, refl, ap, sym, ◌∙◌, subst, arith}
use Rattle.std.specs.Prelude.{filter}
use Rattle.std.specs.List.{list_all}
use Rattle.pm_base.proofs.Booleans.{both}
use Rattle.pm_base.specs.declared.names.LineId.{LineId}
use Rattle.pm_base.specs.declared.names.NodeId.{NodeId}
use Rattle.pm_base.specs.declared.names.Unit.{Unit}
use Rattle.pm_base.specs.declared.names.Unit.TheVariants.{Node, Line}
use Rattle.pm_topology.specs.declared.topology.Topology.{Topology}
use Rattle.pm_topology.specs.UnitMap.{units_in}
use Rattle.pm_topology.specs.Units.{has_in, has_unit, same_unit}
use Rattle.pm_topology.specs.WellFormed.{IsWellFormed}
use Rattle.pm_device.specs.Act.{AreHarmless, refusals, value_by, values_after}
use Rattle.pm_core.specs.declared.outbox.Done.{Done}
use Rattle.pm_core.specs.Outbox.{Outputs}
use Rattle.pm_state.specs.State.{Fixed, State}
use Rattle.pm_state.specs.Values.{value}
use Rattle.pm_run.specs.Run.{IsBookOf, Setup}
use Rattle.pm_laws.specs.Border.{Border}
use Rattle.pm_laws.specs.Pulse.{pulse_beyond}
use Rattle.pm_laws.specs.Values.{is_beyond}
use Rattle.pm_apply.specs.Part.{AllSucceed, AllYes, Kept, Part, order_of, orders_of, part_of}
use Rattle.pm_apply.specs.Plan.{plan, turns_of}
use Rattle.pm_record.specs.Record.{IsRecordOf, kept_value}
use Rattle.pm_apart.specs.Lines.{is_on}
use Rattle.pm_apart.proofs.FilterLemmas.{left_out, kept_in}
use Rattle.pm_apart.proofs.LineCommands.{concerns, line_commands, planned, still_line, turns_alike}
use Rattle.pm_apart.proofs.NodeCommands.{moves, moves_none, node_commands, none_lacking}
use Rattle.pm_apart.proofs.RecordFacts.{ChipLaws, marked_kept}

-- what is known of the part of a core step
pub record PartLaws : Type 0 where
  pub chip : ChipLaws
  pub known : (kept : Kept) (answers : List Bool) (book : State) (outputs : Outputs) → IsWellFormed book.fixed.topology
      → AreHarmless book.fixed.topology (orders_of (part_of kept answers book outputs).commands)
  pub is_record : (kept : Kept) (answers : List Bool) (book : State) (outputs : Outputs) → IsWellFormed book.fixed.topology
      → IsRecordOf book.fixed.topology kept → IsRecordOf book.fixed.topology (part_of kept answers book outputs).kept
  pub values : (kept : Kept) (answers : List Bool) (book : State) (outputs : Outputs) → IsWellFormed book.fixed.topology
      → IsRecordOf book.fixed.topology kept → (unit : Unit)
      → kept_value (part_of kept answers book outputs).kept unit ≡ values_after (orders_of (part_of kept answers book outputs).commands) (kept_value kept) unit
  pub succeeds : (kept : Kept) (answers : List Bool) (book : State) (outputs : Outputs)
      → AllYes answers → AllSucceed (part_of kept answers book outputs).commands
  pub reaches : (kept : Kept) (answers : List Bool) (book : State) (outputs : Outputs) → IsWellFormed book.fixed.topology
      → IsRecordOf book.fixed.topology kept → refusals (orders_of (part_of kept answers book outputs).commands) ≡ 0
      → (unit : Unit) → has_unit book.fixed.topology unit ≡ true → kept_value (part_of kept answers book outputs).kept unit ≡ value unit book

sum_none : (a b : ℕ) → a ≡ 0 → b ≡ 0 → a + b ≡ 0
sum_none a b first second = omega arith

-- commands that all succeed are not refused
none_refused : (done : List Done) → AllSucceed done → refusals (orders_of done) ≡ 0
none_refused [] all = refl
none_refused (d ∷ done) all =
    let parts = both d.ok (list_all (λ (d : Done). d.ok) done) all in
    sum_none (if d.ok then 0 else 1) (refusals (orders_of done)) (ap (λ ok. if ok then 0 else 1) parts.0) (none_refused done parts.1)

-- the value of a unit after commands follows from those on it
abbrev value_on : List Done → ℕ → ℕ
value_on [] value = value
value_on (d ∷ done) value = value_on done (if d.ok then d.command.value else value)

after_on : (u : Unit) (done : List Done) (f : Unit → ℕ) → values_after (orders_of done) f u ≡ value_on (filter (is_on u) done) (f u)
after_on u [] f = refl
after_on u (d ∷ done) f = after_on u done (value_by (order_of d) f) ∙ at (same_unit d.command.unit u) refl
  where
    all : (b : Bool) → (b && true) ≡ b
    all true = refl
    all false = refl

    none : (b : Bool) → (b && false) ≡ false
    none true = refl
    none false = refl

    at : (on : Bool) → same_unit d.command.unit u ≡ on → value_on (filter (is_on u) done) (value_by (order_of d) f u) ≡ value_on (filter (is_on u) (d ∷ done)) (f u)
    at true on =
        ap (λ b. value_on (filter (is_on u) done) (if b then d.command.value else f u)) (ap (λ b. d.ok && b) on ∙ all d.ok)
        ∙ ap (λ ds. value_on ds (f u)) (sym (kept_in (is_on u) d done on))
    at false on =
        ap (λ b. value_on (filter (is_on u) done) (if b then d.command.value else f u)) (ap (λ b. d.ok && b) on ∙ none d.ok)
        ∙ ap (λ ds. value_on ds (f u)) (sym (left_out (is_on u) d done on))

module _ (laws : PartLaws) (c : Setup) (well : IsWellFormed c.topology) where
  topology_is : (book : State) → IsBookOf c book → book.fixed.topology ≡ c.topology
  topology_is book is = ap (λ (f : Fixed). f.topology) is.fixed

  -- ---- one core step

  module _ (kept : Kept) (book : State) (outputs : Outputs) (is : IsBookOf c book) (record_of : IsRecordOf c.topology kept) where
    abbrev part : Part
    part = part_of kept [] book outputs

    abbrev values : Unit → ℕ
    values unit = value unit book

    formed : IsWellFormed book.fixed.topology
    formed = subst IsWellFormed (sym (topology_is book is)) well

    here : IsRecordOf book.fixed.topology kept
    here = subst (λ (t : Topology). IsRecordOf t kept) (sym (topology_is book is)) record_of

    pub record_next : IsRecordOf c.topology part.kept
    record_next = subst (λ (t : Topology). IsRecordOf t part.kept) (topology_is book is) (laws.is_record kept [] book outputs formed here)

    -- the value that is kept of a unit follows from the commands on it
    pub kept_next : (u : Unit) → kept_value part.kept u ≡ value_on (filter (is_on u) part.commands) (kept_value kept u)
    kept_next u = laws.values kept [] book outputs formed here u ∙ after_on u part.commands (kept_value kept)

    -- the commands are those of the plan over the chip of the setup
    commands_are : part.commands ≡ (plan c.topology values (turns_of c.topology outputs.pulse) kept []).done
    commands_are = ap (λ (t : Topology). (plan t values (turns_of t outputs.pulse) kept []).done) (topology_is book is)

    reached : (u : Unit) → has_unit c.topology u ≡ true → kept_value (plan c.topology values (turns_of c.topology outputs.pulse) kept []).kept u ≡ values u
    reached u has =
        ap (λ (t : Topology). kept_value (plan t values (turns_of t outputs.pulse) kept []).kept u) (sym (topology_is book is))
        ∙ (sym (marked_kept laws.chip values (plan book.fixed.topology values (turns_of book.fixed.topology outputs.pulse) kept []).kept u)
        ∙ laws.reaches kept [] book outputs formed here (none_refused part.commands (laws.succeeds kept [] book outputs refl)) u
        (ap (λ (t : Topology). has_unit t u) (topology_is book is) ∙ has))

    -- the record has the book's values
    pub part_reached : (u : Unit) → has_unit c.topology u ≡ true → kept_value part.kept u ≡ value u book
    part_reached u has =
        laws.reaches kept [] book outputs formed here (none_refused part.commands (laws.succeeds kept [] book outputs refl)) u
        (ap (λ (t : Topology). has_unit t u) (topology_is book is) ∙ has)

    has_cell : (u : Unit) → has_unit c.topology u ≡ true → has_in (units_in kept) u ≡ true
    has_cell u has = ap (λ units. has_in units u) record_of.units ∙ (laws.chip.units.found c.topology u ∙ has)

    lacking : (u : Unit) → has_unit c.topology u ≡ false → filter (is_on u) part.commands ≡ []
    lacking u lacks =
        none_lacking laws.chip c.topology u lacks part.commands
        (subst (λ (t : Topology). AreHarmless t (orders_of part.commands)) (topology_is book is) (laws.known kept [] book outputs formed))

    on_node : (node : NodeId) → has_unit c.topology (Node node) ≡ true
        → filter (is_on (Node node)) part.commands ≡ moves (Node node) (kept_value kept (Node node)) (values (Node node))
    on_node node has =
        ap (filter (is_on (Node node))) commands_are
        ∙ node_commands laws.chip c.topology values node (turns_of c.topology outputs.pulse) kept (has_cell (Node node) has) (reached (Node node) has)

    on_line : (l : LineId) → has_unit c.topology (Line l) ≡ true
        → filter (is_on (Line l)) part.commands ≡ line_commands l (values (Line l)) (kept_value kept (Line l)) (filter (concerns l) (turns_of c.topology outputs.pulse))
    on_line l has =
        ap (filter (is_on (Line l))) commands_are
        ∙ planned laws.chip c.topology values l (turns_of c.topology outputs.pulse) kept (has_cell (Line l) has)

    -- a unit beyond that is as the book has it, and isn't pulsed, gets no command, and so the same is kept of it
    module _ (border : Border) (still : pulse_beyond c.topology border outputs.pulse ≡ None) where
      nothing_there : (u : Unit) → is_beyond c.object c.topology border u ≡ true → has_unit c.topology u ≡ true → kept_value kept u ≡ value u book
          → filter (is_on u) part.commands ≡ []
      nothing_there (Node node) beyond has same = on_node node has ∙ moves_none (Node node) (kept_value kept (Node node)) (values (Node node)) same
      nothing_there (Line l) beyond has same =
          let turns = filter (concerns l) (turns_of c.topology outputs.pulse) in
          on_line l has
          ∙ (ap (λ from. line_commands l (values (Line l)) from turns) same
          ∙ (ap (line_commands l (values (Line l)) (values (Line l))) (turns_alike c.topology border l beyond outputs.pulse None still)
          ∙ still_line c.topology l (values (Line l))))

      pub nothing_on : (u : Unit) → is_beyond c.object c.topology border u ≡ true → (has_unit c.topology u ≡ true → kept_value kept u ≡ value u book)
          → filter (is_on u) part.commands ≡ []
      nothing_on u beyond same = at (has_unit c.topology u) refl
        where
          at : (has : Bool) → has_unit c.topology u ≡ has → filter (is_on u) part.commands ≡ []
          at true has = nothing_there u beyond has (same has)
          at false has = lacking u has

      pub nothing_kept : (u : Unit) → filter (is_on u) part.commands ≡ [] → kept_value part.kept u ≡ kept_value kept u
      nothing_kept u none = kept_next u ∙ ap (λ ds. value_on ds (kept_value kept u)) none

  -- ---- two core steps

  module _ (border : Border) (first second : Kept) (a b : State) (out other : Outputs)
      (is_a : IsBookOf c a) (is_b : IsBookOf c b) (record_a : IsRecordOf c.topology first) (record_b : IsRecordOf c.topology second)
      (pulses : pulse_beyond c.topology border out.pulse ≡ pulse_beyond c.topology border other.pulse) where
    abbrev SameOn : Unit → Type 0
    SameOn u = filter (is_on u) (part_of first [] a out).commands ≡ filter (is_on u) (part_of second [] b other).commands

    same_there : (u : Unit) → is_beyond c.object c.topology border u ≡ true → kept_value first u ≡ kept_value second u → value u a ≡ value u b
        → has_unit c.topology u ≡ true → SameOn u
    same_there (Node node) beyond kept values has =
        on_node first a out is_a record_a node has
        ∙ (ap (λ from. moves (Node node) from (value (Node node) a)) kept
        ∙ (ap (moves (Node node) (kept_value second (Node node))) values
        ∙ sym (on_node second b other is_b record_b node has)))
    same_there (Line l) beyond kept values has =
        let turns = filter (concerns l) (turns_of c.topology out.pulse) in
        on_line first a out is_a record_a l has
        ∙ (ap (λ from. line_commands l (value (Line l) a) from turns) kept
        ∙ (ap (λ to. line_commands l to (kept_value second (Line l)) turns) values
        ∙ (ap (line_commands l (value (Line l) b) (kept_value second (Line l))) (turns_alike c.topology border l beyond out.pulse other.pulse pulses)
        ∙ sym (on_line second b other is_b record_b l has))))

    -- on a unit beyond the same commands are given
    pub commands_alike : (u : Unit) → is_beyond c.object c.topology border u ≡ true → kept_value first u ≡ kept_value second u → value u a ≡ value u b → SameOn u
    commands_alike u beyond kept values = at (has_unit c.topology u) refl
      where
        at : (has : Bool) → has_unit c.topology u ≡ has → SameOn u
        at true has = same_there u beyond kept values has
        at false has = lacking first a out is_a record_a u has ∙ sym (lacking second b other is_b record_b u has)

    -- and so the same value is kept of it
    pub kept_alike : (u : Unit) → SameOn u → kept_value first u ≡ kept_value second u
        → kept_value (part_of first [] a out).kept u ≡ kept_value (part_of second [] b other).kept u
    kept_alike u same kept =
        kept_next first a out is_a record_a u
        ∙ (ap (λ ds. value_on ds (kept_value first u)) same
        ∙ (ap (value_on (filter (is_on u) (part_of second [] b other).commands)) kept
        ∙ sym (kept_next second b other is_b record_b u)))
