use Rattle.std.proofs.Common.{[], ◌∷◌, List, inl, inr, subst, sym, ◌∙◌}
use Rattle.pm_io.specs.declared.prefix.StopReason.{StopReason}
use Rattle.pm_io.specs.Calls.{Call, ReadsEach, named}
use Rattle.pm_io.specs.Readings.{Meanwhile, NameReadBy}
use Rattle.pm_io.proofs.ReadingsLemmas.{meanwhile_map}
use Rattle.pm_object.specs.Reading.{reading}
use Rattle.pm_top.specs.Asked.{object_limit}
use Rattle.pm_top.specs.Reads.{ReadsFor}
use Rattle.pm_top.proofs.ReadsLemmas.{object_for}
use Rattle.pm_top.proofs.objects.read_object.Goals as goal

pub returns-in-Failure-clause-begun : goal.returns-in-Failure-clause-begun
returns-in-Failure-clause-begun g c =
    let S : StopReason → Type 0 = λ stop. Meanwhile (g.I.Inputs.state c.args.inputs.now) (g.I.Inputs.state c.gather.new.inputs) (NameReadBy stop (named c.args.name.now object_limit)) in
    elim c.in-Failure.is [
      | inl is ↦ subst S (sym c.stop.ensures ∙ is) c.in-Ok.ensures.calls
      | inr is ↦ subst S (sym c.stop.ensures ∙ is) c.in-Ok.ensures.calls
    ]

pub returns-clause-begun : goal.returns-clause-begun
returns-clause-begun g c =
    let old = g.I.Inputs.state c.args.inputs.now in
    let new = g.I.Inputs.state c.gather.new.inputs in
    let names = named c.args.name.now object_limit ∷ [] in
    let S : StopReason → Type 0 = λ stop. Meanwhile old new (NameReadBy stop (named c.args.name.now object_limit)) in
    let whole : Meanwhile old new (ReadsEach names) = elim c.in-End.is [
      | inl is ↦ subst S (sym c.stop.ensures ∙ is) c.in-Ok.ensures.calls
      | inr is ↦ subst S (sym c.stop.ensures ∙ is) c.in-Ok.ensures.calls
    ] in
    meanwhile_map old new (ReadsEach names) (ReadsFor c.object_from.result names)
    (λ (calls : List Call) reads. object_for names calls reads c.object_from.result (reading c.bytes.result.now) c.object_from.ensures.exact) whole
