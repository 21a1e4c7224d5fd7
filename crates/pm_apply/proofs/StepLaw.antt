-- The laws of a whole step: of the part of it that a device has, whatever the device answers.
use Rattle.std.proofs.Common.{◌≡◌, ℕ, ◌==◌, Bool, true, false, not, if◌then◌else◌, ◌+◌, List, [], ◌∷◌, ◌++◌, Option, Some, None, refl, sym, ap, ◌∙◌, arith, inl, inr}
use Rattle.std.specs.List.{list_all}
use Rattle.std.proofs.lemmas.List.Folds.{list_all-append}
use Rattle.std.proofs.lemmas.Bool.{and_from, cases_Bool, eqb-true, eqb-false}
use Rattle.pm_base.proofs.Booleans.{both}
use Rattle.pm_base.specs.declared.names.Command.{Command}
use Rattle.pm_base.specs.declared.names.Unit.{Unit}
use Rattle.pm_topology.specs.declared.topology.Topology.{Topology}
use Rattle.pm_topology.specs.WellFormed.{IsWellFormed}
use Rattle.pm_device.specs.Act.{AreHarmless, refusals, values_after}
use Rattle.pm_topology.specs.Units.{has_in, has_unit}
use Rattle.pm_core.specs.declared.outbox.Done.{Done}
use Rattle.pm_core.specs.Outbox.{Outputs}
use Rattle.pm_state.specs.State.{State}
use Rattle.pm_topology.specs.Units.{units_of}
use Rattle.pm_state.specs.Units.{moved}
use Rattle.pm_state.specs.Values.{value}
use Rattle.pm_state.specs.Fed.{IsFed}
use Rattle.pm_record.proofs.Below.{ChipLaws}
use Rattle.pm_apply.specs.declared.turns.Turn.{Turn}
use Rattle.pm_apply.specs.Carried.{AreMarked}
use Rattle.pm_apply.specs.Order.{FailedOn, IsOrdered, LagsAreExplained}
use Rattle.pm_apply.specs.Part.{AllSucceed, AllYes, orders_of, part_of}
use Rattle.pm_record.specs.Record.{after_answer, Kept, IsRecordOf, kept_value}
use Rattle.pm_apply.specs.Plan.{Carried, answers_of, before, done_as, due, later_answers, next_answer, plan, take_turn, turns_of}
use Rattle.pm_apply.proofs.ExplainedLaw.{explained}
use Rattle.pm_apply.proofs.FailingLemmas.{book_is_told, moved_is_listed, part_after}
use Rattle.pm_record.proofs.MarksLemmas.{lags_in-marked}
use Rattle.pm_apply.proofs.OrderLaw.{ordered}
use Rattle.pm_apply.proofs.OrdersUnits.{is_listed, listed-is}
use Rattle.pm_apply.proofs.PlanLemmas.{plan-used}
use Rattle.pm_apply.proofs.RecordLaw.{follows, has_cell_in, marked_record, plan_is_on, record_after, turns_are_of}
use Rattle.pm_record.proofs.RecordLemmas.{kept_value-marked}
use Rattle.pm_apply.proofs.RecordLemmas.{are_on}

-- commands on units of the chip's list are harmless
on_harmless : ChipLaws → (t : Topology) (done : List Done) → are_on (units_of t) done ≡ true → AreHarmless t (orders_of done)
on_harmless laws t [] on = tt
on_harmless laws t (d ∷ done) on =
    let parts = both (is_listed t d.command.unit) (are_on (units_of t) done) on in
    (sym (listed-is laws t d.command.unit) ∙ parts.0, on_harmless laws t done parts.1)

abbrev chip_of : State → Topology
chip_of book = book.fixed.topology

abbrev values_of : State → Unit → ℕ
values_of book u = value u book

-- ---- whatever the device answers

module _ (laws : ChipLaws) (kept : Kept) (answers : List Bool) (book : State) (outputs : Outputs) (well : IsWellFormed book.fixed.topology) where
  pub part_known : AreHarmless (chip_of book) (orders_of (part_of kept answers book outputs).commands)
  part_known = on_harmless laws (chip_of book) _ (plan_is_on laws (chip_of book) (values_of book) well (turns_of (chip_of book) outputs.pulse) kept answers (turns_are_of laws (chip_of book) outputs.pulse))

  module _ (record_of : IsRecordOf (chip_of book) kept) where
    pub part_ordered : IsOrdered (chip_of book) (kept_value kept) (orders_of (part_of kept answers book outputs).commands)
    part_ordered = ordered laws (chip_of book) (values_of book) well (turns_of (chip_of book) outputs.pulse) kept answers (turns_are_of laws (chip_of book) outputs.pulse) record_of

    pub part_explained : IsFed (chip_of book) (values_of book) → LagsAreExplained (chip_of book) (values_of book) (part_of kept answers book outputs).kept (part_of kept answers book outputs).commands
    part_explained fed unit has lags =
        explained laws (chip_of book) (values_of book) well fed outputs.pulse kept answers record_of unit has
        (λ same. lags (kept_value-marked laws (values_of book) (plan (chip_of book) (values_of book) (turns_of (chip_of book) outputs.pulse) kept answers).kept unit ∙ same))

    pub part_record : IsRecordOf (chip_of book) (part_of kept answers book outputs).kept
    part_record = marked_record laws (chip_of book) (values_of book) _ (record_after laws (chip_of book) (values_of book) well (turns_of (chip_of book) outputs.pulse) kept answers record_of)

    pub part_follows : (unit : Unit) → kept_value (part_of kept answers book outputs).kept unit ≡ values_after (orders_of (part_of kept answers book outputs).commands) (kept_value kept) unit
    part_follows unit =
        kept_value-marked laws (values_of book) (plan (chip_of book) (values_of book) (turns_of (chip_of book) outputs.pulse) kept answers).kept unit
        ∙ sym (follows laws (chip_of book) (values_of book) well (turns_of (chip_of book) outputs.pulse) kept answers (turns_are_of laws (chip_of book) outputs.pulse) record_of unit)

    pub part_marks : AreMarked (chip_of book) (values_of book) (part_of kept answers book outputs).kept
    part_marks unit has =
        let left = (plan (chip_of book) (values_of book) (turns_of (chip_of book) outputs.pulse) kept answers).kept in
        lags_in-marked laws (values_of book) left unit
        (has_cell_in (chip_of book) left unit (record_after laws (chip_of book) (values_of book) well (turns_of (chip_of book) outputs.pulse) kept answers record_of) (listed-is laws (chip_of book) unit ∙ has))
        ∙ ap (λ n. not (n == (values_of book) unit)) (sym (kept_value-marked laws (values_of book) left unit))

-- ---- where nothing fails

-- a plan whose commands all succeed is the plan under no answers
module _ (t : Topology) (values : Unit → ℕ) where
  turn_taken : (c : Command) (kept : Kept) (ok : Bool) (answers : List Bool) (later : Kept → List Bool → Carried)
      → ((kept : Kept) → AllSucceed (later kept answers).done → later kept answers ≡ later kept [])
      → AllSucceed (before (done_as c kept ok) (later (after_answer c ok kept) answers)).done
      → before (done_as c kept ok) (later (after_answer c ok kept) answers) ≡ before (done_as c kept true) (later (after_answer c true kept) [])
  turn_taken c kept true answers later same all = ap (before (done_as c kept true)) (same (after_answer c true kept) all)
  turn_taken c kept false answers later same all = cc

  take_taken : (c : Option Command) (kept : Kept) (answers : List Bool) (later : Kept → List Bool → Carried)
      → ((kept : Kept) (answers : List Bool) → AllSucceed (later kept answers).done → later kept answers ≡ later kept [])
      → AllSucceed (take_turn c kept answers later).done
      → take_turn c kept answers later ≡ take_turn c kept [] later
  take_taken None kept answers later same all = same kept answers all
  take_taken (Some c) kept answers later same all =
      turn_taken c kept (next_answer answers) (later_answers answers) later (λ kept. same kept (later_answers answers)) all

  plan_taken : (turns : List Turn) (kept : Kept) (answers : List Bool)
      → AllSucceed (plan t values turns kept answers).done → plan t values turns kept answers ≡ plan t values turns kept []
  plan_taken [] kept answers all = refl
  plan_taken (turn ∷ turns) kept answers all =
      take_taken (due t values kept turn) kept answers (plan t values turns) (plan_taken turns) all

  -- and so is one under answers of which none is a no
  next_yes : (answers : List Bool) → AllYes answers → (next_answer answers ≡ true) × AllYes (later_answers answers)
  next_yes [] agreed = (refl, refl)
  next_yes (ok ∷ answers) agreed = both ok (list_all (λ ok. ok) answers) agreed

  take_succeeds : (c : Option Command) (kept : Kept) (answers : List Bool) (later : Kept → List Bool → Carried)
      → ((kept : Kept) (answers : List Bool) → AllYes answers → AllSucceed (later kept answers).done)
      → AllYes answers
      → AllSucceed (take_turn c kept answers later).done
  take_succeeds None kept answers later next agreed = next kept answers agreed
  take_succeeds (Some c) kept answers later next agreed =
      let parts = next_yes answers agreed in
      and_from (next_answer answers) _ parts.0 (next (after_answer c (next_answer answers) kept) (later_answers answers) parts.1)

  pub plan_succeeds : (turns : List Turn) (kept : Kept) (answers : List Bool)
      → AllYes answers → AllSucceed (plan t values turns kept answers).done
  plan_succeeds [] kept answers agreed = refl
  plan_succeeds (turn ∷ turns) kept answers agreed =
      take_succeeds (due t values kept turn) kept answers (plan t values turns) (plan_succeeds turns) agreed

none_failed : (done : List Done) → AllSucceed done → (unit : Unit) → FailedOn done unit → ⊥
none_failed done all unit failed =
    let p : Done → Bool = λ d. d.ok in
    let whole : list_all p (failed.front ++ failed.d ∷ failed.back) ≡ true = ap (list_all p) (sym failed.is) ∙ all in
    let split = both (list_all p failed.front) (list_all p (failed.d ∷ failed.back)) (sym (list_all-append p failed.front (failed.d ∷ failed.back)) ∙ whole) in
    let here = both failed.d.ok (list_all p failed.back) split.1 in
    let clash : true ≡ false = sym here.0 ∙ failed.failed in
    cc

none_left : (ok : Bool) (later : ℕ) → (if ok then 0 else 1) + later ≡ 0 → (ok ≡ true) × (later ≡ 0)
none_left true later none = (refl, omega arith)
none_left false later none = absurd (omega arith)

-- commands none of which is refused all succeed
pub unrefused_succeed : (commands : List Done) → refusals (orders_of commands) ≡ 0 → AllSucceed commands
unrefused_succeed [] none = refl
unrefused_succeed (d ∷ commands) none =
    let parts = none_left d.ok (refusals (orders_of commands)) none in
    and_from d.ok (list_all (λ (d : Done). d.ok) commands) parts.0 (unrefused_succeed commands parts.1)

module _ (kept : Kept) (answers : List Bool) (book : State) (outputs : Outputs) where
  pub part_taken : AllSucceed (part_of kept answers book outputs).commands → part_of kept answers book outputs ≡ part_of kept [] book outputs
  part_taken all =
      let values : Unit → ℕ = λ u. value u book in
      ap (part_after values outputs) (plan_taken book.fixed.topology values (turns_of book.fixed.topology outputs.pulse) kept answers all)

  pub part_succeeds : AllYes answers → AllSucceed (part_of kept answers book outputs).commands
  part_succeeds agreed = plan_succeeds book.fixed.topology (λ u. value u book) (turns_of book.fixed.topology outputs.pulse) kept answers agreed

  pub part_agreed : AllYes answers → part_of kept answers book outputs ≡ part_of kept [] book outputs
  part_agreed agreed = part_taken (part_succeeds agreed)

  pub part_unrefused : refusals (orders_of (part_of kept answers book outputs).commands) ≡ 0 → part_of kept answers book outputs ≡ part_of kept [] book outputs
  part_unrefused none = part_taken (unrefused_succeed _ none)

  pub part_used : part_of kept (answers_of (part_of kept answers book outputs).commands) book outputs ≡ part_of kept answers book outputs
  part_used =
      let values : Unit → ℕ = λ u. value u book in
      ap (part_after values outputs) (plan-used book.fixed.topology values (turns_of book.fixed.topology outputs.pulse) kept answers)

  pub part_reaches : ChipLaws → IsWellFormed book.fixed.topology → IsFed book.fixed.topology (λ u. value u book) → IsRecordOf book.fixed.topology kept
      → AllSucceed (part_of kept answers book outputs).commands
      → (unit : Unit) → has_unit book.fixed.topology unit ≡ true → kept_value (part_of kept answers book outputs).kept unit ≡ value unit book
  part_reaches laws well fed record_of all unit has =
      let left = kept_value (part_of kept answers book outputs).kept unit in
      elim (cases_Bool (left == value unit book)) [
        | inl same ↦ eqb-true left (value unit book) same
        | inr other ↦
            let why = part_explained laws kept answers book outputs well record_of fed unit has (eqb-false left (value unit book) other) in
            absurd (none_failed _ all why.other why.failed)
      ]

  -- and where each command succeeded the answer is the book's
  pub part_answered : ChipLaws → IsWellFormed book.fixed.topology → IsFed book.fixed.topology (λ u. value u book) → IsRecordOf book.fixed.topology kept
      → (before : Unit → ℕ) → outputs.moved ≡ moved before book
      → AllSucceed (part_of kept answers book outputs).commands
      → (part_of kept answers book outputs).answer ≡ outputs.answer
  part_answered laws well fed record_of before is all =
      let part = part_of kept answers book outputs in
      book_is_told laws.units (λ u. value u book) outputs part.commands part.kept
      (λ u has. part_reaches laws well fed record_of all u
      (sym (laws.units.found book.fixed.topology u) ∙ moved_is_listed laws.units before book u (ap (λ units. has_in units u) (sym is) ∙ has)))
      all
