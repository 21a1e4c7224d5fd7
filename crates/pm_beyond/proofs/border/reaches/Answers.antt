use Rattle.std.proofs.Common.{◌∙◌}
use Rattle.pm_beyond.proofs.FoundLaw.{reaches_by}
use Rattle.pm_beyond.proofs.border.reaches.Goals as goal

pub returns : goal.returns
returns c = λ objects t from are.
    c.end_at.ensures ∙ reaches_by c.reach_is_decided.ensures objects t from c.args.routes.now c.args.place are
