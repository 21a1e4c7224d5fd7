use Rattle.std.proofs.Common.{◌==◌, List, subst, sym}
use Rattle.std.specs.Prelude.{IfOk, IsTrue}
use Rattle.std.specs.List.{list_any}
use Rattle.pm_object.specs.declared.object.MasterRec.{MasterRec}
use Rattle.pm_object.specs.declared.object.Object.{Object}
use Rattle.pm_perms.specs.Several.{masters_of}
use Rattle.pm_reach.specs.declared.members.Reach.{Reach}
use Rattle.pm_reach.specs.Membership.{IsReach}
use Rattle.pm_reach.proofs.membership.reach_by_one.Goals as goal

pub reach-requires : goal.reach-requires
reach-requires c =
    let P : List Object → Type 0 = λ objects. IsTrue (list_any (λ (r : MasterRec). r.node == c.args.m.0) (masters_of objects)) in
    subst P (sym c.from_ref.ensures.value) c.requires

pub returns : goal.returns
returns c =
    let P : List Object → Type 0 = λ objects. IfOk c.reach.result (λ (found : Reach). IsReach objects c.args.t.now c.args.m found.members) in
    subst P c.from_ref.ensures.value c.reach.ensures
