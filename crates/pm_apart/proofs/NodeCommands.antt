-- The commands of a plan on one node, if none is refused: one if its value changes, else none.
use Rattle.std.proofs.Common.{◌≡◌, ◌≢◌, ℕ, ◌==◌, Bool, true, false, cond, if◌then◌else◌, Option, Some, None, List, [], ◌∷◌, refl, ap, sym, ◌∙◌, subst}
use Rattle.std.specs.Prelude.{filter}
use Rattle.std.proofs.lemmas.Bool.{both_ways, eq-eqb, ne_eqb}
use Rattle.pm_base.specs.declared.names.Command.{Command}
use Rattle.pm_base.specs.declared.names.LineId.{LineId}
use Rattle.pm_base.specs.declared.names.NodeId.{NodeId}
use Rattle.pm_base.specs.declared.names.Unit.{Unit}
use Rattle.pm_base.specs.declared.names.Unit.TheVariants.{Node, Line}
use Rattle.pm_topology.specs.declared.topology.Topology.{Topology}
use Rattle.pm_topology.specs.UnitMap.{units_in}
use Rattle.pm_topology.specs.Units.{has_in, has_unit, same_unit}
use Rattle.pm_device.specs.Act.{AreHarmless}
use Rattle.pm_core.specs.declared.outbox.Done.{Done}
use Rattle.pm_apply.specs.declared.turns.Turn.{Turn}
use Rattle.pm_apply.specs.declared.turns.Turn.TheVariants.{PowerOn, Pulse, Apply, PowerOff}
use Rattle.pm_apply.specs.Part.{orders_of}
use Rattle.pm_apply.specs.Plan.{command, due, plan, take_turn}
use Rattle.pm_record.specs.Record.{Kept, keep, kept_value}
use Rattle.pm_apart.specs.Lines.{is_on}
use Rattle.pm_apart.proofs.FilterLemmas.{kept_in, left_out}
use Rattle.pm_apart.proofs.RecordFacts.{ChipLaws, other_kept, own_kept, units_stay}
use Rattle.pm_apart.proofs.TurnFacts.{Sets, command_to, lowers, pulses, raises, settles}

-- the commands that take a unit from one value to another: none if they are equal
abbrev pub moves : Unit → ℕ → ℕ → List Done
moves unit from value = if from == value then [] else command_to unit from value ∷ []

pub moves_none : (unit : Unit) (from value : ℕ) → from ≡ value → moves unit from value ≡ []
moves_none unit from value same = ap (λ b. cond b [] (command_to unit from value ∷ [])) (eq-eqb from value same)

moves_one : (unit : Unit) (from value : ℕ) → from ≢ value → moves unit from value ≡ command_to unit from value ∷ []
moves_one unit from value differs = ap (λ b. cond b [] (command_to unit from value ∷ [])) (ne_eqb from value differs)

-- ---- units that the chip lacks

pub none_lacking : ChipLaws → (t : Topology) (u : Unit) → has_unit t u ≡ false → (done : List Done) → AreHarmless t (orders_of done)
    → filter (is_on u) done ≡ []
none_lacking laws t u lacks [] harmless = refl
none_lacking laws t u lacks (d ∷ done) harmless = at (same_unit d.command.unit u) refl (none_lacking laws t u lacks done harmless.1)
  where
    at : (on : Bool) → same_unit d.command.unit u ≡ on → filter (is_on u) done ≡ [] → filter (is_on u) (d ∷ done) ≡ []
    at true on later = absurd (both_ways (has_unit t u) lacks (ap (has_unit t) (sym (laws.units.same d.command.unit u on)) ∙ harmless.0))
    at false on later = left_out (is_on u) d done on ∙ later

-- ---- nodes

module _ (laws : ChipLaws) (t : Topology) (values : Unit → ℕ) (node : NodeId) where
  abbrev u : Unit
  u = Node node

  abbrev on : List Done → List Done
  on done = filter (is_on u) done

  -- a command on the node sets it to the book's value
  sets_node : (kept : Kept) (c : Command) (x : Unit) → Sets t values kept x c → c.unit ≡ u → Sets t values kept u c
  sets_node kept c x sets is =
      let unit : x ≡ c.unit = ap (λ (c : Command). c.unit) (sym sets.is) in
      subst (λ x. Sets t values kept x c) (unit ∙ is) sets

  line_apart : (line : LineId) → Line line ≡ u → ⊥
  line_apart line is = cc

  turn_sets : (turn : Turn) (kept : Kept) (c : Command) → due t values kept turn ≡ Some c → c.unit ≡ u → Sets t values kept u c
  turn_sets (PowerOn w) kept c is here = let r = raises t values kept w c is in sets_node kept c (Node r.0.node) r.1 here
  turn_sets (Apply unit) kept c is here = sets_node kept c unit (settles t values kept unit c is) here
  turn_sets (PowerOff w) kept c is here = let l = lowers t values kept w c is in sets_node kept c (Node l.0.node) l.1 here
  turn_sets (Pulse line) kept c is here =
      absurd (line_apart line (sym (ap (λ (c : Command). c.unit) (pulses t values kept line c is)) ∙ here))

  -- the plan of these turns has one command on the node if its value changes, given that the record has the book's
  -- value after it
  abbrev IsMoved : List Turn → Type 0
  IsMoved turns =
      (kept : Kept) → has_in (units_in kept) u ≡ true → kept_value (plan t values turns kept []).kept u ≡ values u
      → on (plan t values turns kept []).done ≡ moves u (kept_value kept u) (values u)

  abbrev Reaches : Option Command → Kept → List Turn → Type 0
  Reaches c kept turns = kept_value (take_turn c kept [] (plan t values turns)).kept u ≡ values u

  abbrev Moves : Option Command → Kept → List Turn → Type 0
  Moves c kept turns = on (take_turn c kept [] (plan t values turns)).done ≡ moves u (kept_value kept u) (values u)

  own_turn : (turns : List Turn) (kept : Kept) → kept_value kept u ≢ values u → IsMoved turns → has_in (units_in kept) u ≡ true
      → Reaches (Some (command u (values u))) kept turns → Moves (Some (command u (values u))) kept turns
  own_turn turns kept differs next has reached =
      let after : Kept = keep u (values u) kept in
      kept_in (is_on u) (command_to u (kept_value kept u) (values u)) (plan t values turns after []).done (laws.units.itself u)
      ∙ (ap (λ ds. command_to u (kept_value kept u) (values u) ∷ ds)
      (next after (units_stay laws u (values u) kept u has) reached
      ∙ moves_none u (kept_value after u) (values u) (own_kept laws u (values u) kept has))
      ∙ sym (moves_one u (kept_value kept u) (values u) differs))

  other_turn : (turns : List Turn) (kept : Kept) (c : Command) → same_unit c.unit u ≡ false → IsMoved turns → has_in (units_in kept) u ≡ true
      → Reaches (Some c) kept turns → Moves (Some c) kept turns
  other_turn turns kept c other next has reached =
      let after : Kept = keep c.unit c.value kept in
      left_out (is_on u) (command_to c.unit (kept_value kept c.unit) c.value) (plan t values turns after []).done other
      ∙ (next after (units_stay laws c.unit c.value kept u has) reached
      ∙ ap (λ from. moves u from (values u)) (other_kept laws c.unit c.value kept u other))

  command_turn : (turn : Turn) (turns : List Turn) (kept : Kept) (c : Command) (here : Bool) → same_unit c.unit u ≡ here → due t values kept turn ≡ Some c
      → IsMoved turns → has_in (units_in kept) u ≡ true → Reaches (Some c) kept turns → Moves (Some c) kept turns
  command_turn turn turns kept c false other is next has reached = other_turn turns kept c other next has reached
  command_turn turn turns kept c true here is next has reached =
      let unit : c.unit ≡ u = laws.units.same c.unit u here in
      let sets : Sets t values kept u c = turn_sets turn kept c is unit in
      subst (λ c. Reaches (Some c) kept turns → Moves (Some c) kept turns) (sym sets.is) (own_turn turns kept sets.differs next has) reached

  any_turn : (turn : Turn) (turns : List Turn) (kept : Kept) (c : Option Command) → due t values kept turn ≡ c
      → IsMoved turns → has_in (units_in kept) u ≡ true → Reaches c kept turns → Moves c kept turns
  any_turn turn turns kept None is next has reached = next kept has reached
  any_turn turn turns kept (Some c) is next has reached = command_turn turn turns kept c (same_unit c.unit u) refl is next has reached

  pub node_commands : (turns : List Turn) → IsMoved turns
  node_commands [] kept has reached = sym (moves_none u (kept_value kept u) (values u) reached)
  node_commands (turn ∷ turns) kept has reached = any_turn turn turns kept (due t values kept turn) refl (node_commands turns) has reached
