-- Both books are loaded with what the block attaches. If memory runs out the script was read up to some point.
use Rattle.std.proofs.Common.{◌≡◌, ◌∙◌, ◌==◌, IsTrue, List, ap, refl, subst, sym}
use Rattle.std.specs.List.{list_any}
use Rattle.std.proofs.lemmas.Result.{IfOk-at_ok}
use Rattle.pm_object.specs.declared.attached.Attached.{Attached}
use Rattle.pm_object.specs.declared.object.MasterRec.{MasterRec}
use Rattle.pm_object.specs.declared.object.Object.{Object}
use Rattle.pm_perms.specs.Several.{masters_of}
use Rattle.pm_reader.specs.declared.follow.Front.{Front}
use Rattle.pm_reader.specs.Front.{Attaches, ahead_of}
use Rattle.pm_run.specs.Run.{setup}
use Rattle.pm_state.specs.State.{objects_of}
use Rattle.pm_topology.specs.declared.topology.Topology.{Topology}
use Rattle.pm_topology.specs.WellFormed.{IsWellFormed}
use Rattle.pm_isolate.specs.Sides.{Sides}
use Rattle.pm_isolate.specs.Within.{IsReachText, begun}
use Rattle.pm_isolate.proofs.ComparedLemmas.{prepared_by}
use Rattle.pm_isolate.proofs.comparison.prepare.Goals as goal

pub returns-clause-prepared : goal.returns-clause-prepared
returns-clause-prepared g c =
    let shown = g.I.Inputs.observable in
    let old = g.I.Inputs.state c.args.inputs.now in
    let new = g.I.Inputs.state c.read_ahead-ahead.new.inputs in
    let object = c.args.object in
    let t = c.args.topology in
    let attached = c.in_ok-object.attached in
    let read = c.in_ok-object.ensures in
    let loads = c.in_ok-front.ensures in
    let all = c.in_ok-front-2.ensures in
    let ahead : Attaches shown c.args.id (ahead_of old attached) new c.in_ok-object.front =
    IfOk-at_ok (λ (p : Front × List Attached). Attaches shown c.args.id (ahead_of old p.1) new p.0) read.1 c.read_ahead-ahead.ensures.ahead
    in
    let worlds : c.in_ok-front.worlds ≡ begun (setup object attached t) =
    IfOk-at_ok (λ (w : Sides). w ≡ begun (setup c.in_ok-object.object attached c.in_ok-object.topology)) loads.1 c.load-worlds.ensures
    ∙ ap (λ (p : Object × Topology). begun (setup p.0 attached p.1)) read.0
    in
    let text = IfOk-at_ok (λ v. IsReachText c.as_slice.result.now c.topology.result.now c.args.m v.items) all.1 c.text_of-reach.ensures in (
      attached,
      prepared_by shown c.args.id (ahead_of old attached) new (setup object attached t) c.args.m _ c.in_ok-object.front c.in_ok-front.worlds c.as_slice.result.now c.topology.result.now
          refl ahead worlds (c.as_slice.ensures ∙ c.objects.ensures) c.topology.ensures
          (ap (λ (p : Front × Sides). p.0) all.0 ∙ loads.0) (ap (λ (p : Front × Sides). p.1) all.0) text,
    )

pub load-worlds-requires : goal.load-worlds-requires
load-worlds-requires g c = record { formed = subst (λ (p : Object × Topology). IsWellFormed p.1) (sym c.in_ok-object.ensures.0) c.requires.formed }

pub text_of-reach-requires : goal.text_of-reach-requires
text_of-reach-requires g c =
    let named : List Object → Type 0 = λ objects. IsTrue (list_any (λ (r : MasterRec). r.node == c.args.m.0) (masters_of objects)) in
    let worlds : c.in_ok-front.worlds ≡ begun (setup c.in_ok-object.object c.in_ok-object.attached c.in_ok-object.topology) =
    IfOk-at_ok (λ (w : Sides). w ≡ begun (setup c.in_ok-object.object c.in_ok-object.attached c.in_ok-object.topology)) c.in_ok-front.ensures.1 c.load-worlds.ensures
    in
    subst named (sym (c.as_slice.ensures ∙ c.objects.ensures))
    (subst (λ (w : Sides). named (objects_of w.loud.book.fixed)) (sym worlds)
    (subst (λ (p : Object × Topology). IsTrue (list_any (λ (r : MasterRec). r.node == c.args.m.0) p.0.masters)) (sym c.in_ok-object.ensures.0) c.requires.named))
