use Rattle.std.proofs.Common.{ap, ◌∙◌, ◌∷◌, [], ◌++◌, subst, sym}
use Rattle.pm_device.specs.Act.{Act, Fit}
use Rattle.pm_device.specs.Model.{Bench, BenchDoes}
use Rattle.pm_device.proofs.DeviceLaw.{model_fitted}
use Rattle.pm_device.proofs.model.ModelDeviceDevice.fit.Goals as goal

pub returns-clause-does : goal.returns-clause-does
returns-clause-does c =
    let cells = c.in_ok-cells.cells in
    let made = c.in_ok-cells.ensures in
    let act : Act = Fit c.args.t.now in
    let logged = c.push_fit.ensures ∙ ap (λ (b : Bench). b.log ++ act ∷ []) c.self.view_is in
    let P : Bench → Type 0 = λ b. BenchDoes act c.args.self.now (record b { cells = cells; log = c.push_fit.new.self.acts }) in
    subst P (sym c.self.view_is)
    (model_fitted c.args.t.now c.args.self.now cells c.push_fit.new.self.acts made.entries made.values made.units made.broken logged)
