use Rattle.std.proofs.Common.{◌≡◌, ℕ, Some, None, slice_get, sym, ap, ◌∙◌}
use Rattle.pm_base.specs.declared.names.Unit.{Unit}
use Rattle.pm_base.specs.declared.names.Unit.TheVariants.{Node}
use Rattle.pm_topology.specs.declared.topology.Topology.{Topology}
use Rattle.pm_state.specs.Values.{value}
use Rattle.pm_apply.specs.Plan.{command, power_on, where_due}
use Rattle.pm_record.proofs.Below.{ChipLaws}
use Rattle.pm_apply.proofs.TakingLemmas.{raised_is, not_raised}
use Rattle.pm_apply.proofs.powers.raised.Goals as goal

pub returns-in_default-clause-none : goal.returns-in_default-clause-none
returns-in_default-clause-none c =
    let t = c.args.book.now.fixed.topology in
    let values : Unit → ℕ = λ u. value u c.args.book.now in
    let here : slice_get t.powers c.args.place ≡ None = ap (λ (t : Topology). slice_get t.powers c.args.place) (sym c.topology.ensures.topology) ∙ (sym c.power_at.ensures ∙ c.in_default.is) in
    ap (power_on t values c.args.kept.now) here

pub returns-in_default-lagging-clause-none : goal.returns-in_default-lagging-clause-none
returns-in_default-lagging-clause-none c =
    let t = c.args.book.now.fixed.topology in
    let values : Unit → ℕ = λ u. value u c.args.book.now in
    let laws : ChipLaws = record { units = c.units_stand_in_order.ensures; kinds = c.kinds_are_exact.ensures; table = c.unit_maps.ensures } in
    let here : slice_get t.powers c.args.place ≡ Some c.in-Some.power = ap (λ (t : Topology). slice_get t.powers c.args.place) (sym c.topology.ensures.topology) ∙ (sym c.power_at.ensures ∙ c.in-Some.is) in
    not_raised laws t values c.args.pulse c.args.kept.now c.requires c.stays_sound.ensures.formed c.args.place c.in-Some.power here c.in_default-lagging.ensures.none

pub rises-requires : goal.rises-requires
rises-requires c =
    ap (λ units. slice_get units c.in-Some-lagging.at) (sym c.requires.units) ∙ c.in-Some-lagging.ensures.there

pub returns-then-rises-clause-some : goal.returns-then-rises-clause-some
returns-then-rises-clause-some c =
    let t = c.args.book.now.fixed.topology in
    let values : Unit → ℕ = λ u. value u c.args.book.now in
    let here : slice_get t.powers c.args.place ≡ Some c.in-Some.power = ap (λ (t : Topology). slice_get t.powers c.args.place) (sym c.topology.ensures.topology) ∙ (sym c.power_at.ensures ∙ c.in-Some.is) in
    raised_is t values c.args.kept.now c.args.place c.in-Some.power c.rises.result here c.in-Some-lagging.ensures.value c.rises.ensures
    ∙ ap (λ b. where_due b (command (Node c.in-Some.power.node) 1)) c.if-rises.true

pub returns-else-rises-clause-none : goal.returns-else-rises-clause-none
returns-else-rises-clause-none c =
    let t = c.args.book.now.fixed.topology in
    let values : Unit → ℕ = λ u. value u c.args.book.now in
    let here : slice_get t.powers c.args.place ≡ Some c.in-Some.power = ap (λ (t : Topology). slice_get t.powers c.args.place) (sym c.topology.ensures.topology) ∙ (sym c.power_at.ensures ∙ c.in-Some.is) in
    raised_is t values c.args.kept.now c.args.place c.in-Some.power c.rises.result here c.in-Some-lagging.ensures.value c.rises.ensures
    ∙ ap (λ b. where_due b (command (Node c.in-Some.power.node) 1)) c.if-rises.false
