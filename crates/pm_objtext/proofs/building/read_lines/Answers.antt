use Rattle.std.proofs.Common.{arith, ◌∙◌, sym, ap}
use Rattle.std.proofs.lemmas.Result.{err_from_is_err_and}
use Rattle.pm_io.specs.Lines.{lines_of}
use Rattle.pm_objtext.specs.Building.{judged}
use Rattle.pm_objtext.specs.Draft.{so_far}
use Rattle.pm_objtext.proofs.Judging.{line_fails, line_passes}
use Rattle.pm_objtext.proofs.building.read_lines.Goals as goal

pub returns-in_err-read-clause-bad : goal.returns-in_err-read-clause-bad
returns-in_err-read-clause-bad c =
    let p = err_from_is_err_and c.from_residual.result c.from_residual.ensures.1 in
    let all = ap (λ lines. judged c.lines.draft.line (so_far c.lines.draft) lines) (sym c.in-Some.ensures.lines) ∙ c.lines.invariant.read in
    rw (p.1, p.2) (line_fails c.in_err-read.field-0.0 c.lines.draft.line (so_far c.lines.draft) c.in-Some.line.now (lines_of c.in-Some.after.now) _ all c.in_err-read.ensures.next)

pub lines-preserved : goal.lines-preserved
lines-preserved c =
    let all = ap (λ lines. judged c.lines.draft.line (so_far c.lines.draft) lines) (sym c.in-Some.ensures.lines) ∙ c.lines.invariant.read in
    let next = line_passes c.lines.draft.line (so_far c.lines.draft) (so_far c.read.new.self) c.in-Some.line.now (lines_of c.in-Some.after.now) _ all c.in_ok-read.ensures.next in
    record {
      size = c.in_ok-read.ensures.small;
      line = omega (arith, c.in_ok-read.ensures.line, c.in-Some.ensures.shorter);
      read = ap (λ n. judged n (so_far c.read.new.self) (lines_of c.in-Some.after.now)) c.in_ok-read.ensures.line ∙ next;
    }

pub returns-clause-read : goal.returns-clause-read
returns-clause-read c = ap (λ lines. judged c.lines.draft.line (so_far c.lines.draft) lines) (sym c.in_default.ensures.lines) ∙ c.lines.invariant.read
