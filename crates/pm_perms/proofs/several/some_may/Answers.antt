use Rattle.std.proofs.Common.{◌∙◌}
use Rattle.pm_perms.proofs.SeveralLemmas.{any_may}
use Rattle.pm_perms.proofs.several.some_may.Goals as goal

pub returns : goal.returns
returns c = c.any_may.ensures ∙ any_may c.args.objects.now c.args.t.now c.args.master c.args.act
