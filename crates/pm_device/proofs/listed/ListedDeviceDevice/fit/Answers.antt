use Rattle.std.proofs.Common.{ap, ◌∙◌, ◌∷◌, [], ◌++◌, subst, sym}
use Rattle.pm_device.specs.Act.{Act, Fit}
use Rattle.pm_device.specs.Listed.{Listed, ListedDoes}
use Rattle.pm_device.proofs.DeviceLaw.{listed_fitted}
use Rattle.pm_device.proofs.listed.ListedDeviceDevice.fit.Goals as goal

pub returns-clause-does : goal.returns-clause-does
returns-clause-does c =
    let values = c.in_ok-values.values in
    let act : Act = Fit c.args.t.now in
    let logged = c.push_fit.ensures ∙ ap (λ (d : Listed). d.log ++ act ∷ []) c.self.view_is in
    let P : Listed → Type 0 = λ d. ListedDoes act c.args.self.now (record d { values = values; log = c.push_fit.new.self.acts }) in
    subst P (sym c.self.view_is)
    (listed_fitted c.args.t.now c.args.self.now values c.push_fit.new.self.acts c.in_ok-values.ensures.entries c.in_ok-values.ensures.values logged)
