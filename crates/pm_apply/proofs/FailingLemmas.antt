-- The answer of a step: where each command succeeded it is the book's.
use Rattle.std.proofs.Common.{◌≡◌, ℕ, ◌==◌, Bool, true, false, not, ◌&&◌, ◌||◌, Option, Some, None, List, [], ◌∷◌, refl, sym, ap, ◌∙◌}
use Rattle.std.specs.List.{list_all, list_any}
use Rattle.std.proofs.lemmas.Bool.{eq-eqb, or_left, or_right}
use Rattle.std.proofs.lemmas.Map.Views.{any-filter_same}
use Rattle.pm_base.proofs.Booleans.{both}
use Rattle.pm_base.specs.BoundedList.{Bounded}
use Rattle.pm_base.specs.declared.names.LineId.{LineId}
use Rattle.pm_base.specs.declared.names.Unit.{Unit}
use Rattle.pm_base.specs.declared.names.Unit.TheVariants.{Line}
use Rattle.pm_topology.specs.Units.{UnitLaws, has_in, same_unit}
use Rattle.pm_core.specs.declared.outbox.Done.{Done}
use Rattle.pm_core.specs.declared.outbox.Outbox.{Outbox}
use Rattle.pm_core.specs.declared.replies.Answer.{Answer}
use Rattle.pm_core.specs.Outbox.{Outputs, outputs_in}
use Rattle.pm_state.specs.State.{State}
use Rattle.pm_state.specs.Units.{moved, units}
use Rattle.pm_state.specs.Values.{value}
use Rattle.pm_apply.specs.Carried.{KeepsRest}
use Rattle.pm_apply.specs.Failing.{failed_answer, falls_short, is_failed_pulse, pulse_failed, some_differ, told_answer}
use Rattle.pm_apply.specs.Part.{AllSucceed, Part}
use Rattle.pm_apply.specs.Plan.{Carried}
use Rattle.pm_record.specs.Record.{Kept, kept_value, marked}

-- the part of a step whose commands were these
abbrev pub part_by : (Unit → ℕ) → Outputs → List Done → Kept → Part
part_by values outputs done kept = record {
  commands = done;
  kept = kept;
  answer = told_answer (falls_short values outputs.moved outputs.pulse done kept) outputs.answer;
}

abbrev pub part_after : (Unit → ℕ) → Outputs → Carried → Part
part_after values outputs carried = part_by values outputs carried.done (marked values carried.kept)

-- ---- where nothing fails

none_differ : UnitLaws → (values : Unit → ℕ) (kept : Kept) (those : List Unit)
    → ((u : Unit) → has_in those u ≡ true → kept_value kept u ≡ values u) → some_differ values those kept ≡ false
none_differ laws values kept [] stand = refl
none_differ laws values kept (u ∷ those) stand =
    let here : (kept_value kept u == values u) ≡ true = eq-eqb (kept_value kept u) (values u) (stand u (or_left _ _ (laws.itself u))) in
    ap (λ same. not same || some_differ values those kept) here
    ∙ none_differ laws values kept those (λ x has. stand x (or_right (same_unit u x) _ has))

taken_well : (same raised : Bool) → (same && (raised && false)) ≡ false
taken_well true true = refl
taken_well true false = refl
taken_well false raised = refl

line_is_set : (line : LineId) (done : List Done) → AllSucceed done → list_any (is_failed_pulse line) done ≡ false
line_is_set line [] all = refl
line_is_set line (d ∷ done) all =
    let parts = both d.ok (list_all (λ (d : Done). d.ok) done) all in
    let same = same_unit (Line line) d.command.unit in
    let raised = d.command.value == 1 in
    ap (λ ok. (same && (raised && not ok)) || list_any (is_failed_pulse line) done) parts.0
    ∙ ap (λ failed. failed || list_any (is_failed_pulse line) done) (taken_well same raised)
    ∙ line_is_set line done parts.1

pulse_is_set : (pulse : Option LineId) (done : List Done) → AllSucceed done → pulse_failed pulse done ≡ false
pulse_is_set None done all = refl
pulse_is_set (Some line) done all = line_is_set line done all

-- a unit that moved is one of the chip
pub moved_is_listed : UnitLaws → (before : Unit → ℕ) (book : State) (unit : Unit) → has_in (moved before book) unit ≡ true → has_in (units book) unit ≡ true
moved_is_listed laws before book unit has =
    let differs : Unit → Bool = λ u. not (before u == value u book) in
    (both (differs unit) (has_in (units book) unit)
    (sym (any-filter_same (λ u. same_unit u unit) differs (differs unit) (λ u same. ap differs (laws.same u unit same)) (units book)) ∙ has)).1

-- where each unit that moved has the book's value, and each command succeeded, the book's answer is told
pub book_is_told : UnitLaws → (values : Unit → ℕ) (outputs : Outputs) (done : List Done) (kept : Kept)
    → ((u : Unit) → has_in outputs.moved u ≡ true → kept_value kept u ≡ values u) → AllSucceed done
    → (part_by values outputs done kept).answer ≡ outputs.answer
book_is_told laws values outputs done kept stand all =
    ap (λ differ. told_answer (differ || pulse_failed outputs.pulse done) outputs.answer) (none_differ laws values kept outputs.moved stand)
    ∙ ap (λ failed. told_answer failed outputs.answer) (pulse_is_set outputs.pulse done all)

-- ---- a step that was carried out

-- the answer is by what the step put out
pub told_then : (values : Unit → ℕ) (before after : Outbox) (answer : Answer) (kept : Kept) → KeepsRest before after
    → answer ≡ (part_by values (outputs_in after) after.done.items kept).answer
    → answer ≡ (part_by values (outputs_in before) after.done.items kept).answer
told_then values before after answer kept rest told =
    told
    ∙ ap (λ (moved : List Unit). told_answer (falls_short values moved after.pulse after.done.items kept) after.answer) (ap (λ (list : Bounded Unit). list.items) rest.moved)
    ∙ ap (λ (pulse : Option LineId). told_answer (falls_short values before.moved.items pulse after.done.items kept) after.answer) rest.pulse
    ∙ ap (told_answer (falls_short values before.moved.items before.pulse after.done.items kept)) rest.answer

-- an answer that stays where the device didn't follow stays
pub stays_told : (short : Bool) (answer : Answer) → answer ≡ failed_answer answer → answer ≡ told_answer short answer
stays_told true answer stays = stays
stays_told false answer stays = refl
