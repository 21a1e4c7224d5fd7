use Rattle.std.proofs.Common.{◌≡◌, ◌∙◌, List, ap, subst, sym}
use Rattle.std.proofs.lemmas.Result.{IfOk-at_ok, IfOk-weaker}
use Rattle.pm_object.specs.declared.attached.Attached.{Attached}
use Rattle.pm_object.specs.declared.object.Object.{Object}
use Rattle.pm_topology.specs.declared.topology.Topology.{Topology}
use Rattle.pm_topology.specs.WellFormed.{IsWellFormed}
use Rattle.pm_run.specs.Run.{Stand, loaded, setup}
use Rattle.pm_isolate.proofs.worlds.copy_of.Goals as goal

pub returns : goal.returns
returns c =
    let o = c.args.object.now in
    let a = c.args.attached.now in
    let t = c.args.t.now in
    let second = c.in_ok-attached-2 in
    let third = c.in_ok-attached-3 in
    let attached : second.attached ≡ a = second.ensures.0 ∙ c.in_ok-attached.ensures in
    let object : second.object ≡ o = IfOk-at_ok (λ (x : Object). x ≡ o) second.ensures.1 c.copy.ensures in
    let topology : third.topology ≡ t = IfOk-at_ok (λ (x : Topology). x ≡ t) third.ensures.1 c.copy-2.ensures in
    let same : loaded (setup third.object third.attached third.topology) ≡ loaded (setup o a t) =
    ap (λ (p : List Attached × Object). loaded (setup p.1 p.0 third.topology)) third.ensures.0
    ∙ ap (λ (x : Object). loaded (setup x second.attached third.topology)) object
    ∙ ap (λ (x : List Attached). loaded (setup o x third.topology)) attached
    ∙ ap (λ (x : Topology). loaded (setup o a x)) topology
    in
    IfOk-weaker c.load.result (λ (s : Stand). s ≡ loaded (setup third.object third.attached third.topology)) (λ (s : Stand). s ≡ loaded (setup o a t)) (λ s is. is ∙ same) c.load.ensures

pub load-requires : goal.load-requires
load-requires c =
    let third = c.in_ok-attached-3 in
    record { formed = subst IsWellFormed (sym (IfOk-at_ok (λ (x : Topology). x ≡ c.args.t.now) third.ensures.1 c.copy-2.ensures)) c.requires.formed }
