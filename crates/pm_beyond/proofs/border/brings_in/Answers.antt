use Rattle.std.proofs.Common.{◌∙◌}
use Rattle.pm_beyond.proofs.FoundLaw.{brings_by}
use Rattle.pm_beyond.proofs.border.brings_in.Goals as goal

pub returns : goal.returns
returns c = λ from are.
    c.bring_in.ensures
    ∙ brings_by c.reach_is_decided.ensures c.args.objects.now c.args.t.now from c.args.routes.now c.args.kind c.args.unit are
