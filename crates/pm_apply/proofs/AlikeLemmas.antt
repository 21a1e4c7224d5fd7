-- Records that differ in their marks alone: a step does the same with them, and leaves the same.
use Rattle.std.proofs.Common.{◌≡◌, ℕ, ◌==◌, Bool, true, false, not, ◌&&◌, ◌||◌, if◌then◌else◌, Option, Some, None, List, [], ◌∷◌, map, slice_get, refl, sym, ap, subst, ◌∙◌}
use Rattle.std.specs.List.{list_any}
use Rattle.std.specs.Option.{option_map_or}
use Rattle.pm_base.specs.declared.names.Unit.{Unit}
use Rattle.pm_base.specs.declared.names.Unit.TheVariants.{Node, Line}
use Rattle.pm_base.specs.declared.names.Command.{Command}
use Rattle.pm_topology.specs.declared.topology.Topology.{Topology}
use Rattle.pm_topology.specs.declared.topology.PowerDef.{PowerDef}
use Rattle.pm_topology.specs.UnitMap.{remade, set_entry, with_value}
use Rattle.pm_topology.specs.Units.{needs_power, parent_of_unit, same_unit, units_of}
use Rattle.pm_core.specs.Outbox.{Outputs}
use Rattle.pm_core.specs.declared.outbox.Done.{Done}
use Rattle.pm_state.specs.State.{State}
use Rattle.pm_state.specs.Values.{value}
use Rattle.pm_record.proofs.Below.{ChipLaws}
use Rattle.pm_record.specs.declared.kept.KeptValue.{KeptValue}
use Rattle.pm_apply.specs.declared.turns.Turn.{Turn}
use Rattle.pm_apply.specs.declared.turns.Turn.TheVariants.{PowerOn, Pulse, Apply, PowerOff}
use Rattle.pm_apply.specs.Part.{part_of}
use Rattle.pm_base.specs.Places.{is_place}
use Rattle.pm_record.specs.Record.{Kept, kept_of, kept_value, mark, marked, after_answer}
use Rattle.pm_record.specs.Kinds.{is_power}
use Rattle.pm_apply.specs.Plan.{Carried, command, done_as, due, is_fed, is_used, later_answers, next_answer, plan, power_off, power_on, take_turn, turns_of, where_due}
use Rattle.pm_apply.proofs.FailingLemmas.{part_by}
use Rattle.pm_record.proofs.RecordLemmas.{kept_value-marked}

-- ---- what a turn has depends on the values alone

any_same : {X : Type 0} (p q : X → Bool) → ((x : X) → p x ≡ q x) → (xs : List X) → list_any p xs ≡ list_any q xs
any_same p q same [] = refl
any_same p q same (x ∷ xs) = let first = same x in let later = any_same p q same xs in cc

module _ (t : Topology) (one two : Kept) (same : (u : Unit) → kept_value one u ≡ kept_value two u) where
  same_power : (power : Option PowerDef) → option_map_or (λ (p : PowerDef). kept_value one (Node p.node)) power 0 ≡ option_map_or (λ (p : PowerDef). kept_value two (Node p.node)) power 0
  same_power None = refl
  same_power (Some p) = same (Node p.node)

  same_fed : (parent : Option ℕ) → is_fed t one parent ≡ is_fed t two parent
  same_fed None = refl
  same_fed (Some w) = ap (λ n. not (n == 0)) (same_power (slice_get t.powers w))

  same_used : (w : ℕ) → is_used t one w ≡ is_used t two w
  same_used w =
      any_same (λ u. is_place w (parent_of_unit t u) && needs_power t u (kept_value one u)) (λ u. is_place w (parent_of_unit t u) && needs_power t u (kept_value two u))
      (λ u. ap (λ n. is_place w (parent_of_unit t u) && needs_power t u n) (same u)) (units_of t)

  module _ (values : Unit → ℕ) where
    same_on : (power : Option PowerDef) → power_on t values one power ≡ power_on t values two power
    same_on None = refl
    same_on (Some p) =
        ap (λ n. where_due ((values (Node p.node) == 1) && ((n == 0) && is_fed t one p.parent)) (command (Node p.node) 1)) (same (Node p.node))
        ∙ ap (λ b. where_due ((values (Node p.node) == 1) && ((kept_value two (Node p.node) == 0) && b)) (command (Node p.node) 1)) (same_fed p.parent)

    same_off : (w : ℕ) (power : Option PowerDef) → power_off t values one w power ≡ power_off t values two w power
    same_off w None = refl
    same_off w (Some p) =
        ap (λ n. where_due ((values (Node p.node) == 0) && ((n == 1) && not (is_used t one w))) (command (Node p.node) 0)) (same (Node p.node))
        ∙ ap (λ b. where_due ((values (Node p.node) == 0) && ((kept_value two (Node p.node) == 1) && not b)) (command (Node p.node) 0)) (same_used w)

    same_due : (turn : Turn) → due t values one turn ≡ due t values two turn
    same_due (PowerOn w) = same_on (slice_get t.powers w)
    same_due (Pulse line) = ap (λ n. where_due (not (n == 1)) (command (Line line) 1)) (same (Line line))
    same_due (Apply unit) =
        ap (λ n. where_due (not (is_power t unit) && (not (n == values unit) && (not (needs_power t unit (values unit)) || is_fed t one (parent_of_unit t unit)))) (command unit (values unit))) (same unit)
        ∙ ap (λ b. where_due (not (is_power t unit) && (not (kept_value two unit == values unit) && (not (needs_power t unit (values unit)) || b))) (command unit (values unit))) (same_fed (parent_of_unit t unit))
    same_due (PowerOff w) = same_off w (slice_get t.powers w)

-- ---- records that are marked alike

-- an entry with its mark, once the unit took a value
abbrev taken : (Unit → ℕ) → Unit → ℕ → Unit × KeptValue → Unit × KeptValue
taken values u v e = if same_unit e.0 u then (e.0, record { value = v; lags = not (v == values e.0) }) else e

taken_entry : (values : Unit → ℕ) (u : Unit) (now : KeptValue) (e : Unit × KeptValue) → remade (mark values) (set_entry u now e) ≡ taken values u now.value (remade (mark values) e)
taken_entry values u now e = at (same_unit e.0 u)
  where
    at : (same : Bool) → remade (mark values) (if same then (e.0, now) else e) ≡ (if same then (e.0, record { value = now.value; lags = not (now.value == values e.0) }) else remade (mark values) e)
    at true = refl
    at false = refl

marked-set : (values : Unit → ℕ) (u : Unit) (now : KeptValue) (kept : Kept) → marked values (with_value u now kept) ≡ map (taken values u now.value) (marked values kept)
marked-set values u now [] = refl
marked-set values u now (e ∷ kept) = let first = taken_entry values u now e in let later = marked-set values u now kept in cc

module _ (laws : ChipLaws) (t : Topology) (values : Unit → ℕ) where
  alike_values : (one two : Kept) → marked values one ≡ marked values two → (u : Unit) → kept_value one u ≡ kept_value two u
  alike_values one two alike u = sym (kept_value-marked laws values one u) ∙ ap (λ kept. kept_value kept u) alike ∙ kept_value-marked laws values two u

  alike_after : (c : Command) (ok : Bool) (one two : Kept) → marked values one ≡ marked values two → marked values (after_answer c ok one) ≡ marked values (after_answer c ok two)
  alike_after c true one two alike =
      marked-set values c.unit (record (kept_of one c.unit) { value = c.value }) one
      ∙ ap (map (taken values c.unit c.value)) alike
      ∙ sym (marked-set values c.unit (record (kept_of two c.unit) { value = c.value }) two)
  alike_after c false one two alike = alike

  -- the same commands, and records that are marked alike
  pub record AreAlike (one two : Carried) : Type 0 where
    pub done : one.done ≡ two.done
    pub kept : marked values one.kept ≡ marked values two.kept

  alike_turn : (command : Option Command) (one two : Kept) (answers : List Bool) (later : Kept → List Bool → Carried)
      → marked values one ≡ marked values two
      → ((one two : Kept) (answers : List Bool) → marked values one ≡ marked values two → AreAlike (later one answers) (later two answers))
      → AreAlike (take_turn command one answers later) (take_turn command two answers later)
  alike_turn None one two answers later alike next = next one two answers alike
  alike_turn (Some c) one two answers later alike next =
      let ok = next_answer answers in
      let rest = next (after_answer c ok one) (after_answer c ok two) (later_answers answers) (alike_after c ok one two alike) in
      record {
        done =
            ap (λ n. record { command = c; from = n; ok = ok } ∷ (later (after_answer c ok one) (later_answers answers)).done) (alike_values one two alike c.unit)
            ∙ ap (λ (done : List Done). done_as c two ok ∷ done) rest.done;
        kept = rest.kept;
      }

  alike_plan : (turns : List Turn) (one two : Kept) (answers : List Bool) → marked values one ≡ marked values two → AreAlike (plan t values turns one answers) (plan t values turns two answers)
  alike_plan [] one two answers alike = record { done = refl; kept = alike }
  alike_plan (turn ∷ turns) one two answers alike =
      let P : Option Command → Type 0 = λ command. AreAlike (take_turn (due t values one turn) one answers (plan t values turns)) (take_turn command two answers (plan t values turns)) in
      subst P (same_due t one two (alike_values one two alike) values turn)
      (alike_turn (due t values one turn) one two answers (plan t values turns) alike (alike_plan turns))

-- the part of a step is that of each record that is marked alike
pub alike_part : ChipLaws → (one two : Kept) (book : State) → ((values : Unit → ℕ) → marked values one ≡ marked values two) → (answers : List Bool) (outputs : Outputs) → part_of one answers book outputs ≡ part_of two answers book outputs
alike_part laws one two book alike answers outputs =
    let values : Unit → ℕ = λ u. value u book in
    let t = book.fixed.topology in
    let same = alike_plan laws t values (turns_of t outputs.pulse) one two answers (alike values) in
    ap (λ done. part_by values outputs done (marked values (plan t values (turns_of t outputs.pulse) one answers).kept)) same.done
    ∙ ap (part_by values outputs (plan t values (turns_of t outputs.pulse) two answers).done) same.kept
