use Rattle.std.proofs.Common.{ap, ◌∙◌, ◌∷◌, [], ◌++◌, subst, sym, is_ok}
use Rattle.pm_device.specs.Act.{Act, Order}
use Rattle.pm_device.specs.Model.{Bench, BenchDoes}
use Rattle.pm_device.proofs.DeviceLaw.{model_ordered}
use Rattle.pm_device.proofs.model.ModelDeviceDevice.command.Goals as goal

pub returns-clause-does : goal.returns-clause-does
returns-clause-does c =
    let done = c.carry_out-result.ensures in
    let act : Act = Order c.args.command (is_ok c.carry_out-result.result) in
    let logged = c.push.ensures
    ∙ ap (λ ok. c.self.inside.log.acts ++ Order c.args.command ok ∷ []) c.is_ok.ensures.value
    ∙ ap (λ (b : Bench). b.log ++ act ∷ []) c.self.view_is in
    let P : Bench → Type 0 = λ b. BenchDoes act c.args.self.now (record b { log = c.push.new.self.acts }) in
    subst P (sym c.self.view_is)
    (model_ordered c.args.command c.args.self.now c.carry_out-result.new.self c.push.new.self.acts c.carry_out-result.result
    done.answer done.after done.cause done.values done.units done.broken done.listed done.rising logged)
