use Rattle.std.proofs.Common.{◌≡◌, List, get_or, slice_get, Some, arith}
use Rattle.std.proofs.lemmas.Option.{slice_get-get_or}
use Rattle.pm_topology.specs.declared.topology.ProcDef.{ProcDef}
use Rattle.pm_topology.specs.Places.{is_below}
use Rattle.pm_state.specs.Below.{procs_below}
use Rattle.pm_state.proofs.BelowLaw.{passing_next}
use Rattle.pm_state.proofs.below.procs_below.Goals as goal

nobody : ProcDef
nobody = record { node = record { 0 = 0 }; parent = 0; figure = 0; latency = 0 }

pub loop-p-preserved : goal.loop-p-preserved
loop-p-preserved c =
    let procs : List ProcDef = c.args.t.now.procs in
    let proc : ProcDef = get_or procs c.loop-p.p nobody in
    let found : slice_get procs c.loop-p.p ≡ Some proc =
    slice_get-get_or procs c.loop-p.p nobody (omega (arith, c.len-p-end.ensures, c.loop-p-test.true))
    in
    passing_next (λ (proc : ProcDef). is_below c.args.t.now c.args.w proc.node) procs c.loop-p.p proc c.is_proc_below.result c.loop-p.places
    c.push_if.new.places (procs_below c.args.t.now c.args.w) found (c.is_proc_below.ensures proc found) c.in_ok-push_if.ensures
    c.loop-p.invariant
