use Rattle.std.proofs.Common.{◌≡◌, ◌==◌, List, ◌++◌, ◌∷◌, [], false, ap, subst, ◌∙◌, arith}
use Rattle.std.specs.List.{list_any}
use Rattle.std.proofs.lemmas.Grind.{common_steps}
use Rattle.pm_object.specs.declared.object.PreRec.{PreRec}
use Rattle.pm_object.specs.declared.object.PreGroup.{PreGroup}
use Rattle.pm_objtext.specs.Groups.{last_recs}
use Rattle.pm_objtext.proofs.GroupsLemmas.{last_recs-push, preset_added}
use Rattle.pm_objtext.proofs.groups.Groups.add.Goals as goal

pub add-requires : goal.add-requires
add-requires c =
    let old : c.args.self.now ≡ c.pop.new.self.items ++ c.in-Some.group ∷ [] = grind (arith, common_steps) in
    subst (λ (recs : List PreRec). list_any (λ other. other.node == c.args.rec.node) recs ≡ false) (ap last_recs old ∙ last_recs-push c.pop.new.self.items c.in-Some.group) c.requires

pub returns-in_ok-map_err : goal.returns-in_ok-map_err
returns-in_ok-map_err c =
    preset_added c.args.rec c.args.self.now c.pop.new.self.items c.push.new.self.items c.in-Some.group c.add.new.self (grind (arith, common_steps))
    (ap (λ (g : PreGroup). g.mask) c.in_ok-add.ensures) (ap (λ (g : PreGroup). g.recs) c.in_ok-add.ensures) (grind (arith, common_steps))
