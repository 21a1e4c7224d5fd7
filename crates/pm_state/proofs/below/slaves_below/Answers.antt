use Rattle.std.proofs.Common.{◌≡◌, List, [], get_or, slice_get, Some, arith}
use Rattle.std.proofs.lemmas.Option.{slice_get-get_or}
use Rattle.pm_topology.specs.declared.topology.SlaveDef.{SlaveDef}
use Rattle.pm_topology.specs.Places.{is_below}
use Rattle.pm_state.specs.Below.{slaves_below}
use Rattle.pm_state.proofs.BelowLaw.{passing_next}
use Rattle.pm_state.proofs.below.slaves_below.Goals as goal

nobody : SlaveDef
nobody = record { node = record { 0 = 0 }; parent = 0; states = [] }

pub loop-s-preserved : goal.loop-s-preserved
loop-s-preserved c =
    let slaves : List SlaveDef = c.args.t.now.slaves in
    let slave : SlaveDef = get_or slaves c.loop-s.s nobody in
    let found : slice_get slaves c.loop-s.s ≡ Some slave =
    slice_get-get_or slaves c.loop-s.s nobody (omega (arith, c.len-s-end.ensures, c.loop-s-test.true))
    in
    passing_next (λ (slave : SlaveDef). is_below c.args.t.now c.args.w slave.node) slaves c.loop-s.s slave c.is_slave_below.result c.loop-s.places
    c.push_if.new.places (slaves_below c.args.t.now c.args.w) found (c.is_slave_below.ensures slave found) c.in_ok-push_if.ensures
    c.loop-s.invariant
