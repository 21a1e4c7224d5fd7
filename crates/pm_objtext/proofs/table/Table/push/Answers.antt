use Rattle.std.proofs.Common.{◌≡◌, ◌==◌, ◌++◌, ◌∷◌, [], false, sym, subst}
use Rattle.std.specs.Prelude.{OnOk}
use Rattle.std.specs.List.{list_any}
use Rattle.std.specs.Map.{values_of}
use Rattle.pm_objtext.proofs.TableLaw.{pushed_keyed, pushed_values}
use Rattle.pm_objtext.proofs.table.Table.push.Goals as goal

pub invariant_of-self : goal.invariant_of-self
invariant_of-self g c =
    let unused = subst (λ records. list_any (λ r. g.T.Keyed.key_of r == g.T.Keyed.key_of c.args.item) records ≡ false) (sym c.self.view_is) c.requires in
    pushed_keyed g.T.Keyed.key_of c.put_last.result c.args.item c.key-key.result c.self.inside.entries.entries c.put_last.new.entries.entries c.put_last.ensures.put c.put_last.ensures.kept c.key-key.ensures c.self.invariant unused

pub returns : goal.returns
returns g c =
    let unused = subst (λ records. list_any (λ r. g.T.Keyed.key_of r == g.T.Keyed.key_of c.args.item) records ≡ false) (sym c.self.view_is) c.requires in
    subst (λ records. OnOk c.put_last.result (values_of c.put_last.new.entries.entries ≡ records ++ c.args.item ∷ [])) c.self.view_is
    (pushed_values g.T.Keyed.key_of c.put_last.result c.args.item c.key-key.result c.self.inside.entries.entries c.put_last.new.entries.entries c.put_last.ensures.put c.put_last.ensures.kept c.key-key.ensures c.self.invariant unused)
