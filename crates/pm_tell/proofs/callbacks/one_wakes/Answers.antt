use Rattle.pm_tell.proofs.QuietLaw.{none_wakes}
use Rattle.pm_tell.proofs.callbacks.one_wakes.Goals as goal

-- the modes are those before the step
pub returns-then-not-telling : goal.returns-then-not-telling
returns-then-not-telling c = λ stays.
    none_wakes c.args.tables.now c.args.telling.now.modes.items (c.requires.modes c.if-not-telling.true)
