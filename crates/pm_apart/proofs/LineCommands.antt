-- The commands of a plan on one reset line, if none is refused: they follow from its value in the record, its value
-- in the book, and whether it is pulsed.
use Rattle.std.proofs.Common.{◌≡◌, ℕ, ◌==◌, Bool, true, false, not, ◌&&◌, cond, if◌then◌else◌, Option, Some, None, List, [], ◌∷◌, ◌++◌, refl, ap, sym, ◌∙◌}
use Rattle.std.specs.Prelude.{filter, flat_map, map, reverse}
use Rattle.std.proofs.lemmas.Bool.{both_ways, eqb-true}
use Rattle.pm_base.specs.declared.names.Command.{Command}
use Rattle.pm_base.specs.declared.names.LineId.{LineId}
use Rattle.pm_base.specs.declared.names.Unit.{Unit}
use Rattle.pm_base.specs.declared.names.Unit.TheVariants.{Line}
use Rattle.pm_topology.specs.declared.topology.Topology.{Topology}
use Rattle.pm_topology.specs.Places.{line_place}
use Rattle.pm_topology.specs.UnitMap.{units_in}
use Rattle.pm_topology.specs.Units.{has_in, same_unit, units_of}
use Rattle.pm_core.specs.declared.outbox.Done.{Done}
use Rattle.pm_laws.specs.Border.{Border, line_beyond}
use Rattle.pm_laws.specs.Pulse.{pulse_beyond}
use Rattle.pm_apply.specs.declared.turns.Turn.{Turn}
use Rattle.pm_apply.specs.declared.turns.Turn.TheVariants.{PowerOn, Pulse, Apply, PowerOff}
use Rattle.pm_apply.specs.Plan.{apply, command, due, plan, power_places, pulse_before, pulse_turn, take_turn, turns_of, unit_turns, where_due, with_pulse}
use Rattle.pm_record.specs.Record.{Kept, keep, kept_value}
use Rattle.pm_apart.specs.Lines.{is_on}
use Rattle.pm_apart.proofs.FilterLemmas.{kept_in, left_out, made_alike, parts_alike}
use Rattle.pm_apart.proofs.NodeCommands.{moves, moves_none}
use Rattle.pm_apart.proofs.RecordFacts.{ChipLaws, other_kept, own_kept, units_stay}
use Rattle.pm_apart.proofs.TurnFacts.{command_to, lowers, pulses, raises, settles}

-- a turn concerns a reset line
abbrev pub concerns : LineId → Turn → Bool
concerns l (PowerOn w) = false
concerns l (Pulse line) = line.0 == l.0
concerns l (Apply unit) = same_unit unit (Line l)
concerns l (PowerOff w) = false

-- ---- the turns that do

module _ (t : Topology) (border : Border) (l : LineId) (beyond : line_beyond border (line_place t.lines l.0) ≡ true) where
  abbrev concerning : List Turn → List Turn
  concerning turns = filter (concerns l) turns

  not_pulsed : (line : LineId) (here : Bool) → (line.0 == l.0) ≡ false → concerning (if here then Pulse line ∷ [] else []) ≡ []
  not_pulsed line true other = left_out (concerns l) (Pulse line) [] other
  not_pulsed line false other = refl

  -- the pulse of another line counts for nothing
  seen_line : (line : LineId) (unit : Unit) (seen : Bool) → line_beyond border (line_place t.lines line.0) ≡ seen
      → concerning (pulse_turn (Some line) unit) ≡ concerning (pulse_turn (if seen then Some line else None) unit)
  seen_line line unit true is = refl
  seen_line line unit false is = not_pulsed line (same_unit (Line line) unit) (other (line.0 == l.0) refl)
    where
      other : (same : Bool) → (line.0 == l.0) ≡ same → (line.0 == l.0) ≡ false
      other false same = same
      other true same =
          absurd (both_ways (line_beyond border (line_place t.lines line.0)) is
          (ap (λ (n : ℕ). line_beyond border (line_place t.lines n)) (eqb-true line.0 l.0 same) ∙ beyond))

  seen_pulse : (pulse : Option LineId) (unit : Unit) → concerning (pulse_turn pulse unit) ≡ concerning (pulse_turn (pulse_beyond t border pulse) unit)
  seen_pulse None unit = refl
  seen_pulse (Some line) unit = seen_line line unit (line_beyond border (line_place t.lines line.0)) refl

  module _ (first second : Option LineId) (same : pulse_beyond t border first ≡ pulse_beyond t border second) where
    before_alike : (turn : Turn) → concerning (pulse_before first turn) ≡ concerning (pulse_before second turn)
    before_alike (Apply unit) =
        seen_pulse first unit ∙ (ap (λ pulse. concerning (pulse_turn pulse unit)) same ∙ sym (seen_pulse second unit))
    before_alike _ = refl

    -- the same pulsed line beyond concerns the same turns
    pub turns_alike : concerning (turns_of t first) ≡ concerning (turns_of t second)
    turns_alike =
        made_alike (concerns l) (with_pulse first) (with_pulse second)
        (λ turn. parts_alike (concerns l) (pulse_before first turn) (turn ∷ []) (pulse_before second turn) (turn ∷ []) (before_alike turn) refl)
        (unit_turns t)

-- ---- the commands

-- the commands of turns that concern a line, to the first value from the second, in the record
abbrev pub line_commands : LineId → ℕ → ℕ → List Turn → List Done
line_commands l value kept [] = []
line_commands l value kept (PowerOn w ∷ turns) = line_commands l value kept turns
line_commands l value kept (Pulse line ∷ turns) = moves (Line l) kept 1 ++ line_commands l value 1 turns
line_commands l value kept (Apply unit ∷ turns) = moves (Line l) kept value ++ line_commands l value value turns
line_commands l value kept (PowerOff w ∷ turns) = line_commands l value kept turns

-- a line that is at its value, and isn't pulsed, gets no command
module _ (t : Topology) (l : LineId) (v : ℕ) where
  abbrev IsStill : List Turn → Type 0
  IsStill turns = line_commands l v v (filter (concerns l) (flat_map (with_pulse None) turns)) ≡ []

  still_unit : (unit : Unit) (turns : List Turn) → IsStill turns → IsStill (Apply unit ∷ turns)
  still_unit unit turns later = at (same_unit unit (Line l)) refl
    where
      rest : List Turn
      rest = flat_map (with_pulse None) turns

      at : (is : Bool) → same_unit unit (Line l) ≡ is → IsStill (Apply unit ∷ turns)
      at true is =
          ap (line_commands l v v) (kept_in (concerns l) (Apply unit) rest is)
          ∙ (ap (λ ds. ds ++ line_commands l v v (filter (concerns l) rest)) (moves_none (Line l) v v refl) ∙ later)
      at false is = ap (line_commands l v v) (left_out (concerns l) (Apply unit) rest is) ∙ later

  still_ups : (places : List ℕ) (turns : List Turn) → IsStill turns → IsStill (map PowerOn places ++ turns)
  still_ups [] turns later = later
  still_ups (w ∷ places) turns later = still_ups places turns later

  still_units : (units : List Unit) (turns : List Turn) → IsStill turns → IsStill (map Apply units ++ turns)
  still_units [] turns later = later
  still_units (unit ∷ units) turns later = still_unit unit (map Apply units ++ turns) (still_units units turns later)

  still_downs : (places : List ℕ) → IsStill (map PowerOff places)
  still_downs [] = refl
  still_downs (w ∷ places) = still_downs places

  pub still_line : line_commands l v v (filter (concerns l) (turns_of t None)) ≡ []
  still_line =
      still_ups (power_places t) (map Apply (units_of t) ++ map PowerOff (reverse (power_places t)))
      (still_units (units_of t) (map PowerOff (reverse (power_places t))) (still_downs (reverse (power_places t))))

and_true : (b : Bool) → (b && true) ≡ b
and_true true = refl
and_true false = refl

module _ (laws : ChipLaws) (t : Topology) (values : Unit → ℕ) (l : LineId) where
  abbrev u : Unit
  u = Line l

  abbrev on : List Done → List Done
  on done = filter (is_on u) done

  abbrev rest : List Turn → ℕ → List Done
  rest turns kept = line_commands l (values u) kept (filter (concerns l) turns)

  -- the plan of these turns has those commands on the line
  abbrev IsPlanned : List Turn → Type 0
  IsPlanned turns = (kept : Kept) → has_in (units_in kept) u ≡ true → on (plan t values turns kept []).done ≡ rest turns (kept_value kept u)

  -- ---- a turn that doesn't concern it

  elsewhere : (turn : Turn) (kept : Kept) (c : Command) → concerns l turn ≡ false → due t values kept turn ≡ Some c → same_unit c.unit u ≡ false
  elsewhere (PowerOn w) kept c other is = ap (λ (c : Command). same_unit c.unit u) (raises t values kept w c is).1.is
  elsewhere (Pulse line) kept c other is = ap (λ (c : Command). same_unit c.unit u) (pulses t values kept line c is) ∙ other
  elsewhere (Apply unit) kept c other is = ap (λ (c : Command). same_unit c.unit u) (settles t values kept unit c is).is ∙ other
  elsewhere (PowerOff w) kept c other is = ap (λ (c : Command). same_unit c.unit u) (lowers t values kept w c is).1.is

  off_turn : (turn : Turn) (turns : List Turn) (kept : Kept) (c : Option Command) → concerns l turn ≡ false → due t values kept turn ≡ c → IsPlanned turns
      → has_in (units_in kept) u ≡ true → on (take_turn c kept [] (plan t values turns)).done ≡ rest turns (kept_value kept u)
  off_turn turn turns kept None other is next has = next kept has
  off_turn turn turns kept (Some c) other is next has =
      let away : same_unit c.unit u ≡ false = elsewhere turn kept c other is in
      let after : Kept = keep c.unit c.value kept in
      left_out (is_on u) (command_to c.unit (kept_value kept c.unit) c.value) (plan t values turns after []).done away
      ∙ (next after (units_stay laws c.unit c.value kept u has) ∙ ap (rest turns) (other_kept laws c.unit c.value kept u away))

  -- ---- a turn that sets it to a value, unless it is there

  set_turn : (turns : List Turn) (kept : Kept) (to : ℕ) (there : Bool) → (kept_value kept u == to) ≡ there → IsPlanned turns
      → has_in (units_in kept) u ≡ true
      → on (take_turn (where_due (not there) (command u to)) kept [] (plan t values turns)).done
      ≡ cond there [] (command_to u (kept_value kept u) to ∷ []) ++ rest turns to
  set_turn turns kept to true is next has = next kept has ∙ ap (rest turns) (eqb-true (kept_value kept u) to is)
  set_turn turns kept to false is next has =
      let after : Kept = keep u to kept in
      kept_in (is_on u) (command_to u (kept_value kept u) to) (plan t values turns after []).done (laws.units.itself u)
      ∙ ap (λ ds. command_to u (kept_value kept u) to ∷ ds) (next after (units_stay laws u to kept u has) ∙ ap (rest turns) (own_kept laws u to kept has))

  set_by : (turns : List Turn) (kept : Kept) (to : ℕ) (c : Option Command) → c ≡ where_due (not (kept_value kept u == to)) (command u to) → IsPlanned turns
      → has_in (units_in kept) u ≡ true
      → on (take_turn c kept [] (plan t values turns)).done ≡ moves u (kept_value kept u) to ++ rest turns to
  set_by turns kept to c is next has =
      ap (λ c. on (take_turn c kept [] (plan t values turns)).done) is
      ∙ set_turn turns kept to (kept_value kept u == to) refl next has

  -- the turns that concern it begin with this one
  begins : (turn : Turn) (turns : List Turn) (kept : ℕ) → concerns l turn ≡ true → line_commands l (values u) kept (turn ∷ filter (concerns l) turns) ≡ rest (turn ∷ turns) kept
  begins turn turns kept is = ap (line_commands l (values u) kept) (sym (kept_in (concerns l) turn turns is))

  on_turn : (turn : Turn) (turns : List Turn) (kept : Kept) → concerns l turn ≡ true → IsPlanned turns → has_in (units_in kept) u ≡ true
      → on (take_turn (due t values kept turn) kept [] (plan t values turns)).done ≡ rest (turn ∷ turns) (kept_value kept u)
  on_turn (PowerOn w) turns kept is next has = cc
  on_turn (PowerOff w) turns kept is next has = cc
  on_turn (Pulse line) turns kept is next has =
      let here : Line line ≡ u = laws.units.same (Line line) u is in
      set_by turns kept 1 (due t values kept (Pulse line)) (ap (λ x. where_due (not (kept_value kept x == 1)) (command x 1)) here) next has
      ∙ begins (Pulse line) turns (kept_value kept u) is
  on_turn (Apply unit) turns kept is next has =
      let here : unit ≡ u = laws.units.same unit u is in
      set_by turns kept (values u) (due t values kept (Apply unit))
      (ap (apply t values kept) here ∙ ap (λ b. where_due b (command u (values u))) (and_true (not (kept_value kept u == values u)))) next has
      ∙ begins (Apply unit) turns (kept_value kept u) is

  -- ---- all turns

  pub planned : (turns : List Turn) → IsPlanned turns
  planned [] kept has = refl
  planned (turn ∷ turns) kept has = at (concerns l turn) refl (planned turns)
    where
      at : (is : Bool) → concerns l turn ≡ is → IsPlanned turns → on (plan t values (turn ∷ turns) kept []).done ≡ rest (turn ∷ turns) (kept_value kept u)
      at true is later = on_turn turn turns kept is later has
      at false is later =
          off_turn turn turns kept (due t values kept turn) is refl later has
          ∙ ap (line_commands l (values u) (kept_value kept u)) (sym (left_out (concerns l) turn turns is))
