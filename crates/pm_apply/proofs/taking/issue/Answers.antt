use Rattle.std.proofs.Common.{Bool, rules, sym, subst}
use Rattle.pm_device.specs.Act.{Order}
use Rattle.pm_apply.proofs.TakesLemmas.{Takes-some}
use Rattle.pm_apply.proofs.taking.issue.Goals as goal

pub returns-clause-takes : goal.returns-clause-takes
returns-clause-takes g c =
    λ t values turn has.
    let Given : Bool → Type 0 = λ ok. g.D.Device.Does (Order c.args.command ok) c.args.dev.now c.command.new.self in
    Takes-some g.D.Device.Does t values turn c.args.command c.is_ok-ok.result c.args.kept.now c.log-from.new.self c.args.out.now.done.items c.push.new.self.items c.args.dev.now c.command.new.self has c.log-from.ensures.kept
    (search rules) (subst Given (sym c.is_ok-ok.ensures.value) c.command.ensures.does)
