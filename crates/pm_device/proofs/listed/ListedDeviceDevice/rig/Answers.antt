use Rattle.std.proofs.Common.{ap, ◌∙◌, ◌∷◌, [], ◌++◌, subst, sym}
use Rattle.pm_device.specs.Act.{Act, Rig}
use Rattle.pm_device.specs.Listed.{Listed, ListedDoes}
use Rattle.pm_device.proofs.DeviceLaw.{listed_rigged}
use Rattle.pm_device.proofs.listed.ListedDeviceDevice.rig.Goals as goal

pub returns-clause-does : goal.returns-clause-does
returns-clause-does c =
    let act : Act = Rig c.args.node c.args.broken in
    let logged = c.push.ensures ∙ ap (λ (d : Listed). d.log ++ act ∷ []) c.self.view_is in
    let P : Listed → Type 0 = λ d. ListedDoes act c.args.self.now (record d { log = c.push.new.self.acts }) in
    subst P (sym c.self.view_is) (listed_rigged c.args.node c.args.broken c.args.self.now c.push.new.self.acts logged)
