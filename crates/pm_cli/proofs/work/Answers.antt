use Rattle.std.proofs.Common.{inr}
use Rattle.pm_cli.proofs.work.Goals as goal

pub returns-clause-ran : goal.returns-clause-ran
returns-clause-ran g c = inr (_, c.run_on.new.out.out, c.run_on.ensures.given)
