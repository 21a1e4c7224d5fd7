use Rattle.std.proofs.Common.{◌≡◌, ◌∙◌, List, ap, false, refl, subst, sym}
use Rattle.std.proofs.lemmas.Result.{IfOk-at_ok}
use Rattle.pm_object.specs.declared.attached.Attached.{Attached}
use Rattle.pm_object.specs.declared.object.Object.{Object}
use Rattle.pm_topology.specs.declared.topology.Topology.{Topology}
use Rattle.pm_topology.specs.UnitMap.{all_at}
use Rattle.pm_topology.specs.Units.{units_of}
use Rattle.pm_topology.specs.WellFormed.{IsWellFormed}
use Rattle.pm_run.specs.Run.{Stand, loaded, setup}
use Rattle.pm_isolate.specs.declared.worlds.Looked.{Looked}
use Rattle.pm_isolate.specs.Marks.{proc_places}
use Rattle.pm_isolate.proofs.LookedLemmas.{begins, load_marked, load_procs}
use Rattle.pm_isolate.proofs.worlds.Worlds.load.Goals as goal

pub returns : goal.returns
returns c =
    let o = c.args.object in
    let a = c.args.attached in
    let t = c.args.topology in
    let given = c.in_ok-given.ensures in
    let pair = c.in_ok-looked.ensures in
    let start : Stand = loaded (setup o a t) in
    let quiet : c.in_ok-given.quiet ≡ start =
    IfOk-at_ok (λ (b : Looked × Stand). b.1 ≡ loaded (setup o c.as_slice.result.now t)) given.1 c.beside_of-beside.ensures.quiet
    ∙ ap (λ (x : List Attached). loaded (setup o x t)) c.as_slice.ensures
    in
    let differs : c.in_ok-given.looked.differs ≡ all_at false (units_of t) =
    IfOk-at_ok (λ (b : Looked × Stand). b.0.differs ≡ all_at false (units_of t)) given.1 c.beside_of-beside.ensures.differs
    in
    let loud : c.in_ok-looked.loud ≡ start =
    IfOk-at_ok (λ (s : Stand). s ≡ loaded (setup c.in_ok-given.given.0 c.in_ok-given.given.1 c.in_ok-given.given.2)) pair.1 c.load-loud.ensures
    ∙ ap (λ (g : Object × List Attached × Topology). loaded (setup g.0 g.1 g.2)) given.0
    in
    begins o a t c.in_ok-looked.loud c.in_ok-looked.quiet c.in_ok-looked.looked.differs loud
    (ap (λ (p : Looked × Stand). p.1) pair.0 ∙ quiet) (ap (λ (p : Looked × Stand). p.0.differs) pair.0 ∙ differs)

pub invariant_of-result : goal.invariant_of-result
invariant_of-result c =
    let o = c.args.object in
    let a = c.args.attached in
    let t = c.args.topology in
    let given = c.in_ok-given.ensures in
    let pair = c.in_ok-looked.ensures in
    let start : Stand = loaded (setup o a t) in
    let quiet : c.in_ok-given.quiet ≡ start =
    IfOk-at_ok (λ (b : Looked × Stand). b.1 ≡ loaded (setup o c.as_slice.result.now t)) given.1 c.beside_of-beside.ensures.quiet
    ∙ ap (λ (x : List Attached). loaded (setup o x t)) c.as_slice.ensures
    in
    let differs : c.in_ok-given.looked.differs ≡ all_at false (units_of t) =
    IfOk-at_ok (λ (b : Looked × Stand). b.0.differs ≡ all_at false (units_of t)) given.1 c.beside_of-beside.ensures.differs
    in
    let procs : c.in_ok-given.looked.procs.items ≡ proc_places t 0 (units_of t) =
    IfOk-at_ok (λ (b : Looked × Stand). b.0.procs.items ≡ proc_places t 0 (units_of t)) given.1 c.beside_of-beside.ensures.procs
    in
    let loud : c.in_ok-looked.loud ≡ start =
    IfOk-at_ok (λ (s : Stand). s ≡ loaded (setup c.in_ok-given.given.0 c.in_ok-given.given.1 c.in_ok-given.given.2)) pair.1 c.load-loud.ensures
    ∙ ap (λ (g : Object × List Attached × Topology). loaded (setup g.0 g.1 g.2)) given.0
    in (
      load_marked o a t c.in_ok-looked.loud c.in_ok-looked.quiet c.in_ok-looked.looked.differs loud
          (ap (λ (p : Looked × Stand). p.1) pair.0 ∙ quiet) (ap (λ (p : Looked × Stand). p.0.differs) pair.0 ∙ differs),
      load_procs o a t c.in_ok-looked.loud c.in_ok-looked.looked.procs.items loud (ap (λ (p : Looked × Stand). p.0.procs.items) pair.0 ∙ procs),
      refl,
    )

pub load-loud-requires : goal.load-loud-requires
load-loud-requires c = record { formed = subst (λ (g : Object × List Attached × Topology). IsWellFormed g.2) (sym c.in_ok-given.ensures.0) c.requires.formed }
