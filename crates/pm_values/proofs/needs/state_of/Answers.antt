use Rattle.std.proofs.Common.{◌≡◌, ℕ, List, ◌∙◌, sym, ap, slice_get, Some}
use Rattle.pm_topology.specs.declared.topology.SlaveDef.{SlaveDef}
use Rattle.pm_topology.specs.declared.topology.Topology.{Topology}
use Rattle.pm_rows.specs.Wanted.{wanted_of}
use Rattle.pm_state.specs.Values.{state_at}
use Rattle.pm_state.specs.Choice.{state_for}
use Rattle.pm_values.proofs.needs.state_of.Goals as goal

-- the slave that was read stands at the place
stands : (slaves read : List SlaveDef) (place : ℕ) (slave : SlaveDef) → read ≡ slaves → Some slave ≡ slice_get read place → slice_get slaves place ≡ Some slave
stands slaves read place slave same is = ap (λ xs. slice_get xs place) (sym same) ∙ sym is

pub chosen_state-requires : goal.chosen_state-requires
chosen_state-requires c =
    let t = c.args.tables.now.fixed.topology in
    let read = c.as_slice.ensures ∙ ap (λ (t : Topology). t.slaves) c.topology.ensures.topology in
    c.stays_well_formed.ensures.states c.args.place c.in-Some.slave.now
    (stands t.slaves c.as_slice.result.now c.args.place c.in-Some.slave.now read c.in-Some.ensures)

pub returns-in-Some : goal.returns-in-Some
returns-in-Some c =
    let book = c.args.tables.now in
    let place = c.args.place in
    let slave = c.in-Some.slave.now in
    let read = c.as_slice.ensures ∙ ap (λ (t : Topology). t.slaves) c.topology.ensures.topology in
    let there = stands book.fixed.topology.slaves c.as_slice.result.now place slave read c.in-Some.ensures in
    c.chosen_state.ensures
    ∙ (ap (λ wanted. state_for wanted slave.states) (c.wanted.ensures ∙ ap (wanted_of place) c.rows.ensures)
    ∙ ap (λ o. state_at place o book.now.core) (sym there))
