use Rattle.std.proofs.Common.{◌≡◌, ◌+◌, ◌∙◌, length, sym, ap, arith, Some, List, ℕ}
use Rattle.std.proofs.lemmas.List.{length-map}
use mir.Val.{bool_byte}
use Rattle.std.proofs.lemmas.Result.{err_from_is_err_and}
use Rattle.pm_io.proofs.SinkLemmas.{BreaksIn-joined, BreaksIn-piece, Wrote-piece}
use Rattle.pm_core.specs.declared.outbox.Done.{Done}
use Rattle.pm_trace.specs.Step.{core_lines, notices_in, numbered_line, output_words, step_words, told_lines}
use Rattle.pm_engine.proofs.WritesLemmas.{wrote_by}
use Rattle.pm_engine.proofs.WritingLemmas.{answer_last, command_at, last_written, some_told}
use Rattle.pm_engine.proofs.writing.write_entries.Goals as goal

pub returns-in_err-write_all : goal.returns-in_err-write_all
returns-in_err-write_all g c =
    let done = c.args.outbox.now.done.items in
    let notices = notices_in c.args.outbox.now in
    let all : List (List ℕ) = core_lines c.args.number done notices c.args.answer.now in
    let first = c.args.out.now in
    let mid = c.loop-done.out in
    let last = c.write_all.new.sink in
    let found = command_at _ c.args.number done c.as_slice-commands.result.now notices c.args.answer.now c.loop-done.done-index c.command_entry.new.line.items c.as_slice-commands.ensures c.loop-done-test.true c.command_entry.ensures in
    let p = err_from_is_err_and c.from_residual.result c.from_residual.ensures.1 in
    rw p.1 (BreaksIn-joined g.O.Sink all c.loop-done.done-index first last (BreaksIn-piece g.O.Sink all c.loop-done.done-index c.as_slice.result.now first mid last (found ∙ ap (λ (line : List ℕ). Some line) (sym c.as_slice.ensures.value)) c.loop-done.invariant c.in_err-write_all.ensures.short))

pub loop-done-preserved : goal.loop-done-preserved
loop-done-preserved g c =
    let done = c.args.outbox.now.done.items in
    let notices = notices_in c.args.outbox.now in
    let pieces : List (List ℕ) = core_lines c.args.number done notices c.args.answer.now in
    let found = command_at _ c.args.number done c.as_slice-commands.result.now notices c.args.answer.now c.loop-done.done-index c.command_entry.new.line.items c.as_slice-commands.ensures c.loop-done-test.true c.command_entry.ensures in
    Wrote-piece g.O.Sink.observable pieces c.loop-done.done-index c.as_slice.result.now (g.O.Sink.state c.args.out.now) (g.O.Sink.state c.loop-done.out) (g.O.Sink.state c.write_all.new.sink)
    (found ∙ ap (λ (line : List ℕ). Some line) (sym c.as_slice.ensures.value)) c.loop-done.invariant c.in_ok-write_all.ensures.written

pub returns-in_err-write_all-2 : goal.returns-in_err-write_all-2
returns-in_err-write_all-2 g c =
    let all : List (List ℕ) = core_lines c.args.number c.args.outbox.now.done.items (notices_in c.args.outbox.now) c.args.answer.now in
    let first = c.args.out.now in
    let mid = c.loop-k.out in
    let last = c.write_all-in-loop-k.new.sink in
    let p = err_from_is_err_and c.from_residual-in_err-write_all-2.result c.from_residual-in_err-write_all-2.ensures.1 in
    rw p.1 (BreaksIn-joined g.O.Sink all c.loop-k.k first last (BreaksIn-piece g.O.Sink all c.loop-k.k c.as_slice-in-loop-k.result.now first mid last (c.entry.ensures ∙ ap (λ (line : List ℕ). Some line) (sym c.as_slice-in-loop-k.ensures.value)) c.loop-k.invariant c.in_err-write_all-2.ensures.short))

pub loop-k-preserved : goal.loop-k-preserved
loop-k-preserved g c = Wrote-piece g.O.Sink.observable (core_lines c.args.number c.args.outbox.now.done.items (notices_in c.args.outbox.now) c.args.answer.now) c.loop-k.k c.as_slice-in-loop-k.result.now (g.O.Sink.state c.args.out.now) (g.O.Sink.state c.loop-k.out) (g.O.Sink.state c.write_all-in-loop-k.new.sink) (c.entry.ensures ∙ ap (λ (line : List ℕ). Some line) (sym c.as_slice-in-loop-k.ensures.value)) c.loop-k.invariant c.in_ok-write_all-2.ensures.written

pub returns-then-told : goal.returns-then-told
returns-then-told g c =
    let done = c.args.outbox.now.done.items in
    let notices = notices_in c.args.outbox.now in
    let pieces : List (List ℕ) = core_lines c.args.number done notices c.args.answer.now in
    let piece = c.as_slice-then-told.result.now in
    let there = sym c.is_told-told.ensures ∙ c.if-told.true in
    let told : length (output_words done notices c.args.answer.now) ≡ length (told_lines done notices c.args.answer.now) = length-map (told_lines done notices c.args.answer.now) step_words in
    let at : c.loop-k.k + 1 ≡ length (output_words done notices c.args.answer.now) =
    (let one : c.from.result ≡ 1 = c.from.ensures ∙ ap bool_byte c.if-told.true in
    let some = some_told done notices c.args.answer.now there in
    let held : length c.as_slice-commands.result.now ≡ length done = ap (λ (items : List Done). length items) c.as_slice-commands.ensures in
    omega (arith, c.requires, one, some, held, told, c.loop-k-test.false, c.loop-k.auto.k-end)) in
    let all : length pieces ≡ length (output_words done notices c.args.answer.now) = length-map (output_words done notices c.args.answer.now) (numbered_line c.args.number) in
    let found =
    answer_last c.args.number done notices c.args.answer.now c.loop-k.k c.answer_entry.new.line.items there c.answer_entry.ensures (at ∙ told) in
    last_written g.O.Sink pieces c.loop-k.k piece c.args.out.now c.loop-k.out c.write_all-then-told.new.sink c.write_all-then-told.result
    (found ∙ ap (λ (line : List ℕ). Some line) (sym c.as_slice-then-told.ensures.value)) (at ∙ sym all) c.loop-k.invariant
    (wrote_by g.O.Sink piece c.loop-k.out c.write_all-then-told.new.sink c.write_all-then-told.result c.write_all-then-told.ensures.written c.write_all-then-told.ensures.short)
