use Rattle.std.proofs.Common.{rules, ◌≡◌, ◌∙◌, ap, is_some}
use Rattle.pm_rows.specs.Seeking.{is_sought}
use Rattle.pm_rows.proofs.Ranges.{any_found}
use Rattle.pm_rows.proofs.seeking.is_found.Goals as goal

pub returns : goal.returns
returns c =
    let told : c.is_some.result ≡ is_some c.found.result = search rules in
    told ∙ ap is_some c.found.ensures ∙ any_found (is_sought c.args.sought) c.args.table.now.entries
