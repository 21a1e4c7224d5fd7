use Rattle.std.proofs.Common.{ap, ◌∙◌, ◌∷◌, [], ◌++◌, subst, sym}
use Rattle.pm_device.specs.Act.{Act, Rig}
use Rattle.pm_device.specs.Model.{Bench, BenchDoes}
use Rattle.pm_device.proofs.DeviceLaw.{model_rigged}
use Rattle.pm_device.proofs.model.ModelDeviceDevice.rig.Goals as goal

pub returns-clause-does : goal.returns-clause-does
returns-clause-does c =
    let done = c.set_broken.ensures in
    let act : Act = Rig c.args.node c.args.broken in
    let logged = c.push.ensures ∙ ap (λ (b : Bench). b.log ++ act ∷ []) c.self.view_is in
    let P : Bench → Type 0 = λ b. BenchDoes act c.args.self.now (record b { log = c.push.new.self.acts }) in
    subst P (sym c.self.view_is)
    (model_rigged c.args.node c.args.broken c.args.self.now c.set_broken.new.self c.push.new.self.acts
    done.after done.values done.units done.broken done.rising logged)
