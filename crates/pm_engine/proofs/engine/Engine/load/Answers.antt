use Rattle.std.proofs.Common.{◌≡◌, List, false, true, subst, sym}
use Rattle.pm_object.specs.declared.attached.Attached.{Attached}
use Rattle.pm_object.specs.declared.object.Object.{Object}
use Rattle.pm_topology.specs.declared.topology.Topology.{Topology}
use Rattle.pm_topology.specs.WellFormed.{IsWellFormed}
use Rattle.pm_engine.proofs.LoadLemmas.{all_made}
use Rattle.pm_engine.proofs.engine.Engine.load.Goals as goal

none_follows : {A : Type 0} → false ≡ true → A
none_follows e = cc

pub load-runner-requires : goal.load-runner-requires
load-runner-requires c =
    let P : Topology × (Object × List Attached) → Type 0 = λ given. IsWellFormed given.0 in
    record { formed = subst P (sym c.in_ok-topology.ensures.0) c.requires.formed }

pub invariant_of-result : goal.invariant_of-result
invariant_of-result c =
    let made = all_made c.args.object c.in_ok-topology.object c.args.attached c.in_ok-topology.attached c.args.topology c.in_ok-topology.topology
    c.in_ok-topology.kept c.in_ok-kept.kept c.in_ok-runner.kept c.in_ok-kept.runner c.in_ok-runner.runner c.in_ok-runner.clocks
    c.load-kept.result c.load-runner.result c.clocks_of-clocks.result
    c.in_ok-topology.ensures.0 c.in_ok-topology.ensures.1 c.in_ok-kept.ensures.0 c.in_ok-kept.ensures.1 c.in_ok-runner.ensures.0 c.in_ok-runner.ensures.1
    c.load-kept.ensures.first c.load-kept.ensures.record c.load-runner.ensures.book c.load-runner.ensures.stand c.load-runner.ensures.out c.clocks_of-clocks.ensures
    in
    (made.is_record, (λ e. none_follows e), made.over)

pub returns : goal.returns
returns c =
    let made = all_made c.args.object c.in_ok-topology.object c.args.attached c.in_ok-topology.attached c.args.topology c.in_ok-topology.topology
    c.in_ok-topology.kept c.in_ok-kept.kept c.in_ok-runner.kept c.in_ok-kept.runner c.in_ok-runner.runner c.in_ok-runner.clocks
    c.load-kept.result c.load-runner.result c.clocks_of-clocks.result
    c.in_ok-topology.ensures.0 c.in_ok-topology.ensures.1 c.in_ok-kept.ensures.0 c.in_ok-kept.ensures.1 c.in_ok-runner.ensures.0 c.in_ok-runner.ensures.1
    c.load-kept.ensures.first c.load-kept.ensures.record c.load-runner.ensures.book c.load-runner.ensures.stand c.load-runner.ensures.out c.clocks_of-clocks.ensures
    in
    record { book = made.book; kept = made.kept; boxes = made.boxes; clocks = made.clocks; out = made.out }
