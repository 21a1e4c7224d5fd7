-- How many commands the turns of a step have: not more than there is room for.
use Rattle.std.proofs.Common.{◌≡◌, ℕ, ◌+◌, ◌≤◌, ◌==◌, Bool, true, false, ◌&&◌, cond, if◌then◌else◌, Option, Some, None, List, [], ◌∷◌, ◌++◌, length, map, slice_get, refl, ap, ◌∙◌, arith}
use Rattle.std.specs.Prelude.{flat_map, reverse}
use Rattle.std.specs.List.{list_all}
use Rattle.std.specs.Option.{option_map_or}
use Rattle.std.proofs.lemmas.Bool.Decides.{nat_tests}
use Rattle.std.proofs.lemmas.Grind.{reverse_onto}
use Rattle.std.proofs.lemmas.List.{map-append}
use Rattle.std.proofs.lemmas.List.FromFn.{length-range_with_len}
use Rattle.std.proofs.lemmas.List.Sums.{sum_by-cons, sum_by-append}
use Rattle.pm_base.proofs.Booleans.{both}
use Rattle.pm_base.specs.declared.names.LineId.{LineId}
use Rattle.pm_base.specs.declared.names.Unit.{Unit}
use Rattle.pm_base.specs.declared.names.Unit.TheVariants.{Node, Line}
use Rattle.pm_base.specs.declared.names.Command.{Command}
use Rattle.pm_topology.specs.declared.topology.Topology.{Topology}
use Rattle.pm_topology.specs.declared.topology.PowerDef.{PowerDef}
use Rattle.pm_topology.specs.Units.{UnitLaws, entry_count, is_before, rises, same_unit, units_of}
use Rattle.pm_core.specs.Outbox.{command_count}
use Rattle.pm_apply.specs.declared.turns.Turn.{Turn}
use Rattle.pm_apply.specs.declared.turns.Turn.TheVariants.{PowerOn, Pulse, Apply, PowerOff}
use Rattle.pm_record.specs.Record.{Kept, after_answer}
use Rattle.pm_apply.specs.Plan.{plan, due, power_on, power_off, where_due, take_turn, next_answer, later_answers, power_places, pulse_turn, turns_of, with_pulse, Carried}
use Rattle.pm_apply.specs.Room.{most, most_of}
use Rattle.pm_apply.proofs.TurnsLemmas.{raises, lowers}
use Rattle.pm_apply.proofs.PulseLemmas.{settle_pulses, turns_are}

module _ (t : Topology) (values : Unit → ℕ) where
  -- ---- of some turns

  -- one where the test passes
  abbrev counted : Bool → ℕ
  counted b = cond b 1 0

  due_when : (a b : Bool) (command c : Command) → where_due (a && b) command ≡ Some c → a ≡ true
  due_when true b command c is = refl
  due_when false b command c is = cc

  raise_most : (kept : Kept) (c : Command) (power : Option PowerDef) → power_on t values kept power ≡ Some c → counted (option_map_or (λ (p : PowerDef). values (Node p.node) == 1) power false) ≡ 1
  raise_most kept c None is = cc
  raise_most kept c (Some p) is = ap counted (due_when (values (Node p.node) == 1) _ _ c is)

  lower_most : (kept : Kept) (w : ℕ) (c : Command) (power : Option PowerDef) → power_off t values kept w power ≡ Some c → counted (option_map_or (λ (p : PowerDef). values (Node p.node) == 0) power false) ≡ 1
  lower_most kept w c None is = cc
  lower_most kept w c (Some p) is = ap counted (due_when (values (Node p.node) == 0) _ _ c is)

  pub due_most : (turn : Turn) (kept : Kept) (c : Command) → due t values kept turn ≡ Some c → most t values turn ≡ 1
  due_most (PowerOn w) kept c is = raise_most kept c (slice_get t.powers w) is
  due_most (Pulse line) kept c is = refl
  due_most (Apply unit) kept c is = refl
  due_most (PowerOff w) kept c is = lower_most kept w c (slice_get t.powers w) is

  turn_length : (command : Option Command) (n m : ℕ) (kept : Kept) (answers : List Bool) (later : Kept → List Bool → Carried)
      → ((c : Command) → command ≡ Some c → n ≡ 1)
      → ((kept : Kept) (answers : List Bool) → length (later kept answers).done ≤ m)
      → length (take_turn command kept answers later).done ≤ n + m
  turn_length None n m kept answers later one few = let within : length (later kept answers).done ≤ m = few kept answers in omega arith
  turn_length (Some c) n m kept answers later one few =
      let within : length (later (after_answer c (next_answer answers) kept) (later_answers answers)).done ≤ m = few (after_answer c (next_answer answers) kept) (later_answers answers) in
      let is : n ≡ 1 = one c refl in
      omega arith

  pub plan-length : (turns : List Turn) (kept : Kept) (answers : List Bool) → length (plan t values turns kept answers).done ≤ most_of t values turns
  plan-length [] kept answers = omega arith
  plan-length (turn ∷ turns) kept answers =
      rw (sum_by-cons (most t values) turn turns) (turn_length (due t values kept turn) (most t values turn) (most_of t values turns) kept answers (plan t values turns) (due_most turn kept) (plan-length turns))

  -- ---- of all turns of a step

  -- what comes after a line in a rising list is another unit
  other_later : (line : LineId) (u : Unit) → is_before (Line line) u ≡ true → same_unit (Line line) u ≡ false
  other_later line (Node node) later = cc
  other_later line (Line other) later = grind (arith, nat_tests)

  -- the pulses of these units
  abbrev pulses : Option LineId → List Unit → ℕ
  pulses pulse units = most_of t values (flat_map (pulse_turn pulse) units)

  none_pulsed : (units : List Unit) → pulses None units ≡ 0
  none_pulsed [] = refl
  none_pulsed (u ∷ units) = none_pulsed units

  pulse_off : (line : LineId) (u : Unit) (units : List Unit) → same_unit (Line line) u ≡ false → pulses (Some line) (u ∷ units) ≡ pulses (Some line) units
  pulse_off line u units off = ap (λ b. most_of t values ((if b then Pulse line ∷ [] else []) ++ flat_map (pulse_turn (Some line)) units)) off

  none_later : (line : LineId) (units : List Unit) → list_all (is_before (Line line)) units ≡ true → pulses (Some line) units ≡ 0
  none_later line [] all = refl
  none_later line (u ∷ units) all =
      let parts = both (is_before (Line line) u) (list_all (is_before (Line line)) units) all in
      pulse_off line u units (other_later line u parts.0) ∙ none_later line units parts.1

  pulse_on : UnitLaws → (line : LineId) (u : Unit) (units : List Unit) → same_unit (Line line) u ≡ true → list_all (is_before u) units ≡ true → pulses (Some line) (u ∷ units) ≤ 1
  pulse_on laws line u units on all =
      let one : pulses (Some line) (u ∷ units) ≡ most_of t values (Pulse line ∷ flat_map (pulse_turn (Some line)) units) =
      ap (λ b. most_of t values ((if b then Pulse line ∷ [] else []) ++ flat_map (pulse_turn (Some line)) units)) on
      in
      let first = sum_by-cons (most t values) (Pulse line) (flat_map (pulse_turn (Some line)) units) in
      let none : pulses (Some line) units ≡ 0 = none_later line units (ap (λ v. list_all (is_before v) units) (laws.same (Line line) u on) ∙ all) in
      omega (arith, one, first, none)

  pulse_by : UnitLaws → (line : LineId) (u : Unit) (units : List Unit) (here : Bool) → same_unit (Line line) u ≡ here → list_all (is_before u) units ≡ true → pulses (Some line) units ≤ 1 → pulses (Some line) (u ∷ units) ≤ 1
  pulse_by laws line u units true is all few = pulse_on laws line u units is all
  pulse_by laws line u units false is all few = let same = pulse_off line u units is in omega (arith, same, few)

  -- one line is pulsed at most
  few_pulses : UnitLaws → (pulse : Option LineId) (units : List Unit) → rises units ≡ true → pulses pulse units ≤ 1
  few_pulses laws None units rising = let none = none_pulsed units in omega (arith, none)
  few_pulses laws (Some line) [] rising = omega arith
  few_pulses laws (Some line) (u ∷ units) rising =
      let parts = both (list_all (is_before u) units) (rises units) rising in
      pulse_by laws line u units (same_unit (Line line) u) refl parts.0 (few_pulses laws (Some line) units parts.1)

  -- each unit has one turn, besides its pulse
  most_settles : (pulse : Option LineId) (units : List Unit) → most_of t values (flat_map (with_pulse pulse) (map Apply units)) ≡ pulses pulse units + length units
  most_settles pulse [] = refl
  most_settles pulse (u ∷ units) =
      let rest = flat_map (with_pulse pulse) (map Apply units) in
      let later : most_of t values rest ≡ pulses pulse units + length units = most_settles pulse units in
      let here = sum_by-append (most t values) (pulse_turn pulse u ++ Apply u ∷ []) rest in
      let own = sum_by-append (most t values) (pulse_turn pulse u) (Apply u ∷ []) in
      let one = sum_by-cons (most t values) (Apply u) [] in
      let all = sum_by-append (most t values) (pulse_turn pulse u) (flat_map (pulse_turn pulse) units) in
      omega (arith, later, here, own, one, all)

  reverse-cons : (w : ℕ) (ws : List ℕ) → reverse (w ∷ ws) ≡ reverse ws ++ w ∷ []
  reverse-cons w ws = reverse_onto ws w []

  most_at_end : (w : ℕ) (turns : List Turn) → most_of t values (turns ++ PowerOff w ∷ []) ≡ most_of t values turns + most t values (PowerOff w)
  most_at_end w turns =
      let one = sum_by-cons (most t values) (PowerOff w) [] in
      let all = sum_by-append (most t values) turns (PowerOff w ∷ []) in
      omega (arith, one, all)

  most_lower-cons : (w : ℕ) (ws : List ℕ) → most_of t values (map PowerOff (reverse (w ∷ ws))) ≡ most_of t values (map PowerOff (reverse ws)) + most t values (PowerOff w)
  most_lower-cons w ws =
      ap (λ ws. most_of t values (map PowerOff ws)) (reverse-cons w ws)
      ∙ ap (most_of t values) (map-append PowerOff (reverse ws) (w ∷ []))
      ∙ most_at_end w (map PowerOff (reverse ws))

  up_or_down : (value : ℕ) → cond (value == 1) 1 0 + cond (value == 0) 1 0 ≤ 1
  up_or_down value = grind (arith, nat_tests)

  one_way : (power : Option PowerDef) → cond (option_map_or (λ (p : PowerDef). values (Node p.node) == 1) power false) 1 0 + cond (option_map_or (λ (p : PowerDef). values (Node p.node) == 0) power false) 1 0 ≤ 1
  one_way None = omega arith
  one_way (Some p) = up_or_down (values (Node p.node))

  -- no power node goes up and down in one step
  most_both : (ws : List ℕ) → most_of t values (map PowerOn ws) + most_of t values (map PowerOff (reverse ws)) ≤ length ws
  most_both [] = omega arith
  most_both (w ∷ ws) =
      let later = most_both ws in
      let both : most t values (PowerOn w) + most t values (PowerOff w) ≤ 1 = one_way (slice_get t.powers w) in
      let up = sum_by-cons (most t values) (PowerOn w) (map PowerOn ws) in
      omega (arith, later, both, up, most_lower-cons w ws)

  -- the commands of a step fit into its room
  pub most_of_step : UnitLaws → (pulse : Option LineId) → most_of t values (turns_of t pulse) ≤ command_count t
  most_of_step laws pulse =
      let both = most_both (power_places t) in
      let places : length (power_places t) ≡ length t.powers = length-range_with_len 0 (length t.powers) in
      let settled = settle_pulses t pulse in
      let units : most_of t values settled ≡ pulses pulse (units_of t) + length (units_of t) = most_settles pulse (units_of t) in
      let pulsed : pulses pulse (units_of t) ≤ 1 = few_pulses laws pulse (units_of t) (laws.are t).rising in
      let few : length (units_of t) ≤ entry_count t = laws.few t in
      let whole : most_of t values (turns_of t pulse) ≡ most_of t values (raises t ++ (settled ++ lowers t)) = ap (most_of t values) (turns_are t pulse) in
      let first = sum_by-append (most t values) (raises t) (settled ++ lowers t) in
      let second = sum_by-append (most t values) settled (lowers t) in
      omega (arith, both, places, units, pulsed, few, whole, first, second)
