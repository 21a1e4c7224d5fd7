use Rattle.pm_io.specs.Lines.{lines_of}
use Rattle.pm_objtext.specs.Building.{judged}
use Rattle.pm_objtext.specs.Draft.{so_far}
use Rattle.pm_objtext.specs.SoFar.{start}
use Rattle.pm_objtext.proofs.Judging.{text_ends}
use Rattle.pm_objtext.proofs.building.build_lines.Goals as goal

pub returns-in-Ok : goal.returns-in-Ok
returns-in-Ok c =
    let draft = c.read_lines.new.draft in
    text_ends c.finish.result draft.line (so_far draft) (judged 1 start (lines_of c.args.text.now)) c.in-Ok.ensures.read c.finish.ensures
