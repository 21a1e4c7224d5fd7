use Rattle.std.proofs.Common.{◌≡◌, ℕ, Some, None, slice_get, sym, ap, ◌∙◌}
use Rattle.pm_base.specs.declared.names.Unit.{Unit}
use Rattle.pm_base.specs.declared.names.Unit.TheVariants.{Node}
use Rattle.pm_topology.specs.declared.topology.Topology.{Topology}
use Rattle.pm_state.specs.Values.{value}
use Rattle.pm_apply.specs.Plan.{command, power_off, where_due}
use Rattle.pm_record.proofs.Below.{ChipLaws}
use Rattle.pm_apply.proofs.TakingLemmas.{lowered_is, not_lowered}
use Rattle.pm_apply.proofs.powers.lowered.Goals as goal

pub returns-in_default-clause-none : goal.returns-in_default-clause-none
returns-in_default-clause-none c =
    let t = c.args.book.now.fixed.topology in
    let values : Unit → ℕ = λ u. value u c.args.book.now in
    let here : slice_get t.powers c.args.place ≡ None = ap (λ (t : Topology). slice_get t.powers c.args.place) (sym c.topology.ensures.topology) ∙ (sym c.power_at.ensures ∙ c.in_default.is) in
    ap (power_off t values c.args.kept.now c.args.place) here

pub returns-in_default-lagging-clause-none : goal.returns-in_default-lagging-clause-none
returns-in_default-lagging-clause-none c =
    let t = c.args.book.now.fixed.topology in
    let values : Unit → ℕ = λ u. value u c.args.book.now in
    let laws : ChipLaws = record { units = c.units_stand_in_order.ensures; kinds = c.kinds_are_exact.ensures; table = c.unit_maps.ensures } in
    let here : slice_get t.powers c.args.place ≡ Some c.in-Some.power = ap (λ (t : Topology). slice_get t.powers c.args.place) (sym c.topology.ensures.topology) ∙ (sym c.power_at.ensures ∙ c.in-Some.is) in
    not_lowered laws t values c.args.pulse c.args.kept.now c.requires c.stays_sound.ensures.formed c.args.place c.in-Some.power here c.in_default-lagging.ensures.none

pub falls-requires-clause-at : goal.falls-requires-clause-at
falls-requires-clause-at c =
    ap (λ units. slice_get units c.in-Some-lagging.at) (sym c.requires.units) ∙ c.in-Some-lagging.ensures.there

pub falls-requires-clause-there : goal.falls-requires-clause-there
falls-requires-clause-there c =
    ap (λ (t : Topology). slice_get t.powers c.args.place) (sym c.topology.ensures.topology) ∙ (sym c.power_at.ensures ∙ c.in-Some.is)

pub returns-then-falls-clause-some : goal.returns-then-falls-clause-some
returns-then-falls-clause-some c =
    let t = c.args.book.now.fixed.topology in
    let values : Unit → ℕ = λ u. value u c.args.book.now in
    let here : slice_get t.powers c.args.place ≡ Some c.in-Some.power = ap (λ (t : Topology). slice_get t.powers c.args.place) (sym c.topology.ensures.topology) ∙ (sym c.power_at.ensures ∙ c.in-Some.is) in
    lowered_is t values c.args.kept.now c.args.place c.in-Some.power c.falls.result here c.in-Some-lagging.ensures.value c.falls.ensures
    ∙ ap (λ b. where_due b (command (Node c.in-Some.power.node) 0)) c.if-falls.true

pub returns-else-falls-clause-none : goal.returns-else-falls-clause-none
returns-else-falls-clause-none c =
    let t = c.args.book.now.fixed.topology in
    let values : Unit → ℕ = λ u. value u c.args.book.now in
    let here : slice_get t.powers c.args.place ≡ Some c.in-Some.power = ap (λ (t : Topology). slice_get t.powers c.args.place) (sym c.topology.ensures.topology) ∙ (sym c.power_at.ensures ∙ c.in-Some.is) in
    lowered_is t values c.args.kept.now c.args.place c.in-Some.power c.falls.result here c.in-Some-lagging.ensures.value c.falls.ensures
    ∙ ap (λ b. where_due b (command (Node c.in-Some.power.node) 0)) c.if-falls.false
