use Rattle.pm_rows.proofs.Calm.{needs_same}
use Rattle.pm_rows.proofs.counting.needs_alike.Goals as goal

pub returns-then-uses_alike : goal.returns-then-uses_alike
returns-then-uses_alike c = λ yes.
    let uses = c.uses_alike.ensures c.if-uses_alike.true in
    let arms = c.arms_alike.ensures yes in
    needs_same c.args.from c.args.to c.args.before c.args.after c.requires uses.0 uses.1 uses.2 arms.0 arms.1
