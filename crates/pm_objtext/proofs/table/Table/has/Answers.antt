use Rattle.std.proofs.Common.{◌==◌, ap, ◌∙◌}
use Rattle.std.specs.List.{list_any}
use Rattle.pm_objtext.proofs.TableLaw.{found}
use Rattle.pm_objtext.proofs.table.Table.has.Goals as goal

pub returns : goal.returns
returns g c = c.contains_key.ensures ∙ found g.T.Keyed.key_of c.args.key c.self.inside.entries.entries c.self.invariant ∙ ap (λ records. list_any (λ r. g.T.Keyed.key_of r == c.args.key) records) c.self.view_is
