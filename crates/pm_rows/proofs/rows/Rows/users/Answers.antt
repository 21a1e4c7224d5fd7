use Rattle.std.proofs.Common.{◌≡◌, ◌-◌, ◌^◌, ◌∙◌, min, subst}
use Rattle.pm_rows.specs.Rows.{Rows, users_of}
use Rattle.pm_rows.proofs.ByCounts.{users_tell}
use Rattle.pm_rows.proofs.rows.Rows.users.Goals as goal

pub returns : goal.returns
returns c =
    let P : Rows → Type 0 = λ rows. c.users.result ≡ min (users_of c.args.slave rows) (2 ^ 32 - 1) in
    subst P c.self.view_is
    (c.users.ensures.users
    ∙ users_tell c.args.slave c.self.inside.known.items c.self.inside.table.entries c.self.inside.table.tally c.self.invariant
    c.users.ensures.placed c.users.ensures.few)
