use Rattle.std.proofs.Common.{◌∙◌, ap, slice_get, sym, List}
use Rattle.pm_topology.specs.declared.topology.SlaveDef.{SlaveDef}
use Rattle.pm_topology.specs.declared.topology.Topology.{Topology}
use Rattle.pm_state.specs.Values.{need_of, state_at}
use Rattle.pm_values.proofs.FollowLaw.{chosen_follows}
use Rattle.pm_values.proofs.needs.choose_at.Goals as goal

pub choose_one-need-requires-clause-chosen : goal.choose_one-need-requires-clause-chosen
choose_one-need-requires-clause-chosen c =
    let core = c.args.tables.now.now.core in
    c.requires.state
    ∙ sym (ap (λ o. state_at c.args.s o core)
    (c.in-Some.ensures ∙ (ap (λ (xs : List SlaveDef). slice_get xs c.args.s) c.as_slice.ensures ∙ ap (λ (t : Topology). slice_get t.slaves c.args.s) c.topology.ensures.topology)))

pub returns-in-Some-clause-power : goal.returns-in-Some-clause-power
returns-in-Some-clause-power c =
    let slaves = c.args.tables.now.fixed.topology.slaves in
    let s = c.args.s in
    let slave = c.in-Some.slave.now in
    chosen_follows c.args.needs.now s c.choose_one-need.result (need_of c.args.tables.now.now.core s slave) c.args.power.now c.put.new.power c.choose_one-need.new.needs slaves slave
    c.requires.needs
    (c.in-Some.ensures ∙ (ap (λ (xs : List SlaveDef). slice_get xs s) c.as_slice.ensures ∙ ap (λ (t : Topology). slice_get t.slaves s) c.topology.ensures.topology))
    c.choose_one-need.ensures.need c.choose_one-need.ensures.needs c.put.ensures
