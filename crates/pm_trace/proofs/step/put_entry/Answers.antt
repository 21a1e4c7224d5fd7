use Rattle.std.proofs.Common.{◌∙◌, ◌++◌, List, arith, map}
use Rattle.std.specs.Prelude.{option_to_list}
use Rattle.pm_trace.specs.declared.step.StepLine.{StepLine}
use Rattle.pm_trace.specs.declared.step.StepLine.TheVariants as told
use Rattle.pm_trace.specs.Step.{answer_line, late_line, notices_in, step_words, told_lines}
use Rattle.pm_trace.proofs.LineLemmas.{at_end}
use Rattle.pm_trace.proofs.StepLemmas.{in_items, last_at_end, last_told, line_told, past_items, some_last}
use Rattle.pm_trace.proofs.step.put_entry.Goals as goal

pub returns-in-Ok-clause-text : goal.returns-in-Ok-clause-text
returns-in-Ok-clause-text c =
    let out = c.args.out.now in
    let answers : List StepLine = option_to_list (answer_line c.args.answer.now) in
    let calls : List StepLine = map told.Call out.callbacks.items ++ answers in
    let late : List StepLine = map late_line out.late.items ++ calls in
    let starts : List StepLine = map told.Start out.starts.items ++ late in
    line_told c.args.n (told_lines out.done.items (notices_in out) c.args.answer.now) c.args.k (told.Command c.in-Ok.done.now) _
    (in_items told.Command out.done.items _ starts c.args.k c.in-Ok.done.now c.as_slice.ensures c.in-Ok.ensures)
    (at_end 128 c.args.text.now _ _ (omega (arith, c.told-text)) c.put_command.ensures.text)

pub returns-in-Ok-at-clause-text : goal.returns-in-Ok-at-clause-text
returns-in-Ok-at-clause-text c =
    let out = c.args.out.now in
    let answers : List StepLine = option_to_list (answer_line c.args.answer.now) in
    let calls : List StepLine = map told.Call out.callbacks.items ++ answers in
    let late : List StepLine = map late_line out.late.items ++ calls in
    let starts : List StepLine = map told.Start out.starts.items ++ late in
    line_told c.args.n (told_lines out.done.items (notices_in out) c.args.answer.now) c.args.k (told.Start c.in-Ok-at.start.now) _
    (in_items told.Start out.starts.items _ late c.in-Err.k c.in-Ok-at.start.now c.as_slice-2.ensures c.in-Ok-at.ensures
    ∙ past_items told.Command out.done.items _ starts c.args.k c.in-Err.k c.as_slice.ensures c.in-Err.ensures.0 c.in-Err.ensures.1)
    (at_end 128 c.args.text.now _ _ (omega (arith, c.told-text)) c.put_start.ensures.text)

pub returns-in-Ok-at-2-clause-text : goal.returns-in-Ok-at-2-clause-text
returns-in-Ok-at-2-clause-text c =
    let out = c.args.out.now in
    let answers : List StepLine = option_to_list (answer_line c.args.answer.now) in
    let calls : List StepLine = map told.Call out.callbacks.items ++ answers in
    let late : List StepLine = map late_line out.late.items ++ calls in
    let starts : List StepLine = map told.Start out.starts.items ++ late in
    line_told c.args.n (told_lines out.done.items (notices_in out) c.args.answer.now) c.args.k (late_line c.in-Ok-at-2.late.now) _
    (in_items late_line out.late.items _ calls c.in-Err-at.k c.in-Ok-at-2.late.now c.as_slice-3.ensures c.in-Ok-at-2.ensures
    ∙ (past_items told.Start out.starts.items _ late c.in-Err.k c.in-Err-at.k c.as_slice-2.ensures c.in-Err-at.ensures.0 c.in-Err-at.ensures.1
    ∙ past_items told.Command out.done.items _ starts c.args.k c.in-Err.k c.as_slice.ensures c.in-Err.ensures.0 c.in-Err.ensures.1))
    (at_end 128 c.args.text.now _ _ (omega (arith, c.told-text)) c.put_late.ensures.text)

pub returns-in-Ok-at-3-clause-text : goal.returns-in-Ok-at-3-clause-text
returns-in-Ok-at-3-clause-text c =
    let out = c.args.out.now in
    let answers : List StepLine = option_to_list (answer_line c.args.answer.now) in
    let calls : List StepLine = map told.Call out.callbacks.items ++ answers in
    let late : List StepLine = map late_line out.late.items ++ calls in
    let starts : List StepLine = map told.Start out.starts.items ++ late in
    line_told c.args.n (told_lines out.done.items (notices_in out) c.args.answer.now) c.args.k (told.Call c.in-Ok-at-3.call.now) _
    (in_items told.Call out.callbacks.items _ answers c.in-Err-at-2.k c.in-Ok-at-3.call.now c.as_slice-4.ensures c.in-Ok-at-3.ensures
    ∙ (past_items late_line out.late.items _ calls c.in-Err-at.k c.in-Err-at-2.k c.as_slice-3.ensures c.in-Err-at-2.ensures.0 c.in-Err-at-2.ensures.1
    ∙ (past_items told.Start out.starts.items _ late c.in-Err.k c.in-Err-at.k c.as_slice-2.ensures c.in-Err-at.ensures.0 c.in-Err-at.ensures.1
    ∙ past_items told.Command out.done.items _ starts c.args.k c.in-Err.k c.as_slice.ensures c.in-Err.ensures.0 c.in-Err.ensures.1)))
    (at_end 128 c.args.text.now _ _ (omega (arith, c.told-text)) c.put_call.ensures.text)

pub put_answer-requires-clause-told : goal.put_answer-requires-clause-told
put_answer-requires-clause-told c =
    let out = c.args.out.now in
    let answers : List StepLine = option_to_list (answer_line c.args.answer.now) in
    let calls : List StepLine = map told.Call out.callbacks.items ++ answers in
    let late : List StepLine = map late_line out.late.items ++ calls in
    let starts : List StepLine = map told.Start out.starts.items ++ late in
    let there = some_last step_words (answer_line c.args.answer.now) (told_lines out.done.items (notices_in out) c.args.answer.now) c.args.k c.in-Err-at-3.field-0
    (past_items told.Call out.callbacks.items _ answers c.in-Err-at-2.k c.in-Err-at-3.field-0 c.as_slice-4.ensures c.in-Err-at-3.ensures.0 c.in-Err-at-3.ensures.1
    ∙ (past_items late_line out.late.items _ calls c.in-Err-at.k c.in-Err-at-2.k c.as_slice-3.ensures c.in-Err-at-2.ensures.0 c.in-Err-at-2.ensures.1
    ∙ (past_items told.Start out.starts.items _ late c.in-Err.k c.in-Err-at.k c.as_slice-2.ensures c.in-Err-at.ensures.0 c.in-Err-at.ensures.1
    ∙ past_items told.Command out.done.items _ starts c.args.k c.in-Err.k c.as_slice.ensures c.in-Err.ensures.0 c.in-Err.ensures.1))) c.requires.place
    in
    there.1

pub returns-in-Err-at-3-clause-text : goal.returns-in-Err-at-3-clause-text
returns-in-Err-at-3-clause-text c =
    let out = c.args.out.now in
    let answers : List StepLine = option_to_list (answer_line c.args.answer.now) in
    let calls : List StepLine = map told.Call out.callbacks.items ++ answers in
    let late : List StepLine = map late_line out.late.items ++ calls in
    let starts : List StepLine = map told.Start out.starts.items ++ late in
    let there = some_last step_words (answer_line c.args.answer.now) (told_lines out.done.items (notices_in out) c.args.answer.now) c.args.k c.in-Err-at-3.field-0
    (past_items told.Call out.callbacks.items _ answers c.in-Err-at-2.k c.in-Err-at-3.field-0 c.as_slice-4.ensures c.in-Err-at-3.ensures.0 c.in-Err-at-3.ensures.1
    ∙ (past_items late_line out.late.items _ calls c.in-Err-at.k c.in-Err-at-2.k c.as_slice-3.ensures c.in-Err-at-2.ensures.0 c.in-Err-at-2.ensures.1
    ∙ (past_items told.Start out.starts.items _ late c.in-Err.k c.in-Err-at.k c.as_slice-2.ensures c.in-Err-at.ensures.0 c.in-Err-at.ensures.1
    ∙ past_items told.Command out.done.items _ starts c.args.k c.in-Err.k c.as_slice.ensures c.in-Err.ensures.0 c.in-Err.ensures.1))) c.requires.place
    in
    last_told c.args.n (told_lines out.done.items (notices_in out) c.args.answer.now) c.args.k (answer_line c.args.answer.now) _ there
    (last_at_end (answer_line c.args.answer.now) 128 c.args.n c.args.text.now _ (omega (arith, c.told-text)) c.put_answer.ensures.text)
