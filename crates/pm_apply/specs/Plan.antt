-- The commands of a step: what makes a device follow the book, under its answers, and the record that they leave.
use Rattle.std.specs.Prelude.{ℕ, ◌==◌, Bool, true, not, ◌&&◌, ◌||◌, if◌then◌else◌, Option, Some, None, List, [], ◌∷◌, ◌++◌, flat_map, length, map, reverse, slice_get}
use Rattle.std.specs.List.{list_any, range_with_len}
use Rattle.std.specs.Option.{option_map_or}
use Rattle.pm_base.specs.declared.names.LineId.{LineId}
use Rattle.pm_base.specs.declared.names.Unit.{Unit}
use Rattle.pm_base.specs.declared.names.Unit.TheVariants.{Node, Line}
use Rattle.pm_base.specs.declared.names.Command.{Command}
use Rattle.pm_topology.specs.declared.topology.Topology.{Topology}
use Rattle.pm_topology.specs.declared.topology.PowerDef.{PowerDef}
use Rattle.pm_topology.specs.Units.{needs_power, parent_of_unit, same_unit}
use Rattle.pm_base.specs.Places.{is_place}
use Rattle.pm_core.specs.declared.outbox.Done.{Done}
use Rattle.pm_topology.specs.Units.{units_of}
use Rattle.pm_apply.specs.declared.turns.Turn.{Turn}
use Rattle.pm_apply.specs.declared.turns.Turn.TheVariants.{PowerOn, Pulse, Apply, PowerOff}
use Rattle.pm_record.specs.Record.{Kept, kept_value, after_answer}
use Rattle.pm_record.specs.Kinds.{is_power}

-- ---- the order

-- the places of the power nodes
abbrev pub power_places : Topology → List ℕ
power_places t = range_with_len 0 (length t.powers)

-- the turns of the units: power nodes go up, parents first; then the other units take their values; then power nodes go
-- down, parents last
abbrev pub unit_turns : Topology → List Turn
unit_turns t = map PowerOn (power_places t) ++ (map Apply (units_of t) ++ map PowerOff (reverse (power_places t)))

-- the pulse of a unit: it is the reset line that is pulsed
abbrev pub pulse_turn : Option LineId → Unit → List Turn
pulse_turn None unit = []
pulse_turn (Some line) unit = if same_unit (Line line) unit then Pulse line ∷ [] else []

-- the pulse that stands before a turn: before that of a unit its own
abbrev pub pulse_before : Option LineId → Turn → List Turn
pulse_before pulse (Apply unit) = pulse_turn pulse unit
pulse_before pulse _ = []

abbrev pub with_pulse : Option LineId → Turn → List Turn
with_pulse pulse turn = pulse_before pulse turn ++ turn ∷ []

-- the turns of a step, in which this reset line is pulsed, if one is
abbrev pub turns_of : Topology → Option LineId → List Turn
turns_of t pulse = flat_map (with_pulse pulse) (unit_turns t)

-- ---- one turn

-- the unit of the power node at a place, where there is one
abbrev pub power_value : Topology → Kept → ℕ → ℕ
power_value t kept w = option_map_or (λ (p : PowerDef). kept_value kept (Node p.node)) (slice_get t.powers w) 0

-- by the record the power node above is up, or there is none above
abbrev pub is_fed : Topology → Kept → Option ℕ → Bool
is_fed t kept parent = option_map_or (λ w. not (power_value t kept w == 0)) parent true

-- a unit stands directly below the power node at a place, and needs power at this value
abbrev pub uses : Topology → ℕ → Unit → ℕ → Bool
uses t w unit value = is_place w (parent_of_unit t unit) && needs_power t unit value

-- by the record some unit directly below the power node at a place needs power
abbrev pub is_used : Topology → Kept → ℕ → Bool
is_used t kept w = list_any (λ u. uses t w u (kept_value kept u)) (units_of t)

abbrev pub command : Unit → ℕ → Command
command unit value = record { unit = unit; value = value }

abbrev pub where_due : Bool → Command → Option Command
where_due due c = if due then Some c else None

-- a power node that is up in the book and down in the record goes up, unless its parent is down in the record
abbrev pub power_on : Topology → (Unit → ℕ) → Kept → Option PowerDef → Option Command
power_on t values kept None = None
power_on t values kept (Some p) = where_due ((values (Node p.node) == 1) && ((kept_value kept (Node p.node) == 0) && is_fed t kept p.parent)) (command (Node p.node) 1)

-- a reset line that is pulsed goes to 1, unless it is there in the record
abbrev pub pulse : Kept → LineId → Option Command
pulse kept line = where_due (not (kept_value kept (Line line) == 1)) (command (Line line) 1)

-- a unit that is no power node takes the book's value where the record differs, unless that value needs power and the
-- parent is down in the record
abbrev pub apply : Topology → (Unit → ℕ) → Kept → Unit → Option Command
apply t values kept unit = where_due (not (is_power t unit) && (not (kept_value kept unit == values unit) && (not (needs_power t unit (values unit)) || is_fed t kept (parent_of_unit t unit)))) (command unit (values unit))

-- a power node that is down in the book and up in the record goes down, unless by the record a unit directly below
-- needs power
abbrev pub power_off : Topology → (Unit → ℕ) → Kept → ℕ → Option PowerDef → Option Command
power_off t values kept w None = None
power_off t values kept w (Some p) = where_due ((values (Node p.node) == 0) && ((kept_value kept (Node p.node) == 1) && not (is_used t kept w))) (command (Node p.node) 0)

-- the command of a turn, if there is one: from the book's values and the record
abbrev pub due : Topology → (Unit → ℕ) → Kept → Turn → Option Command
due t values kept (PowerOn w) = power_on t values kept (slice_get t.powers w)
due t values kept (Pulse line) = pulse kept line
due t values kept (Apply unit) = apply t values kept unit
due t values kept (PowerOff w) = power_off t values kept w (slice_get t.powers w)

-- ---- the plan

-- the commands that were issued, each with the record before it and its answer, and the record after them
pub record Carried : Type 0 where
  pub done : List Done
  pub kept : Kept

abbrev pub before : Done → Carried → Carried
before d carried = record carried { done = d ∷ carried.done }

abbrev pub done_as : Command → Kept → Bool → Done
done_as c kept ok = record { command = c; from = kept_value kept c.unit; ok = ok }

-- the next answer; one that isn't given is a yes
abbrev pub next_answer : List Bool → Bool
next_answer [] = true
next_answer (ok ∷ answers) = ok

abbrev pub later_answers : List Bool → List Bool
later_answers [] = []
later_answers (ok ∷ answers) = answers

-- a turn, and what comes later; it takes an answer where it has a command
abbrev pub take_turn : Option Command → Kept → List Bool → (Kept → List Bool → Carried) → Carried
take_turn None kept answers later = later kept answers
take_turn (Some c) kept answers later = before (done_as c kept (next_answer answers)) (later (after_answer c (next_answer answers) kept) (later_answers answers))

-- the commands of these turns under these answers of the device, in order
abbrev pub plan : Topology → (Unit → ℕ) → List Turn → Kept → List Bool → Carried
plan t values [] kept answers = record { done = []; kept = kept }
plan t values (turn ∷ turns) kept answers = take_turn (due t values kept turn) kept answers (plan t values turns)

abbrev pub answers_of : List Done → List Bool
answers_of done = map (λ (d : Done). d.ok) done
