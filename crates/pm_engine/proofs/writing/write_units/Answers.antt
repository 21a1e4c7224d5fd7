use Rattle.std.proofs.Common.{◌∙◌, sym, ap, Some, List, ℕ}
use Rattle.std.proofs.lemmas.Result.{err_from_is_err_and}
use Rattle.pm_io.proofs.SinkLemmas.{BreaksIn-joined, BreaksIn-piece, Wrote-piece}
use Rattle.pm_trace.specs.Closing.{closing_lines}
use Rattle.pm_engine.proofs.writing.write_units.Goals as goal

pub returns-in_err-write_all : goal.returns-in_err-write_all
returns-in_err-write_all g c =
    let all : List (List ℕ) = closing_lines c.args.engine.now.book c.args.engine.now.kept in
    let first = c.args.out.now in
    let mid = c.loop-k.out in
    let last = c.write_all.new.sink in
    let p = err_from_is_err_and c.from_residual.result c.from_residual.ensures.1 in
    rw p.1 (BreaksIn-joined g.O.Sink all c.loop-k.k first last (BreaksIn-piece g.O.Sink all c.loop-k.k c.as_slice.result.now first mid last (c.closing_line.ensures ∙ ap (λ (line : List ℕ). Some line) (sym c.as_slice.ensures.value)) c.loop-k.invariant c.in_err-write_all.ensures.short))

pub loop-k-preserved : goal.loop-k-preserved
loop-k-preserved g c = Wrote-piece g.O.Sink.observable (closing_lines c.args.engine.now.book c.args.engine.now.kept) c.loop-k.k c.as_slice.result.now (g.O.Sink.state c.args.out.now) (g.O.Sink.state c.loop-k.out) (g.O.Sink.state c.write_all.new.sink) (c.closing_line.ensures ∙ ap (λ (line : List ℕ). Some line) (sym c.as_slice.ensures.value)) c.loop-k.invariant c.in_ok-write_all.ensures.written
