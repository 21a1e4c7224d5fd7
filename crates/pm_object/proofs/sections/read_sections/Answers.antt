use Rattle.std.proofs.lemmas.Result.{err_from_is_err_and}
use Rattle.pm_object.proofs.Loop.{sections_go_on, sections_fail, sections_end}
use Rattle.pm_object.proofs.sections.read_sections.Goals as goal

pub returns-in_err-read_section : goal.returns-in_err-read_section
returns-in_err-read_section c =
    let p = err_from_is_err_and c.from_residual.result c.from_residual.ensures.1 in
    rw (p.1, p.2) (sections_fail c.in_err-read_section.field-0.0 c.args.count c.loop.counter c.loop.object c.loop.words _ c.loop-test.true c.loop.invariant c.in_err-read_section.ensures)

pub loop-preserved : goal.loop-preserved
loop-preserved c =
    sections_go_on c.args.count c.loop.counter c.loop.object c.read_section.new.object c.loop.words c.read_section.new.words _ c.loop-test.true c.loop.invariant c.in_ok-read_section.ensures

pub returns : goal.returns
returns c = sections_end c.args.count c.loop.counter c.loop.object c.loop.words _ c.loop-test.false c.loop.invariant
