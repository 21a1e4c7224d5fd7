use Rattle.std.proofs.Common.{◌≡◌, ℕ, Bool, sym, ap, ◌∙◌, not, ◌&&◌, ◌||◌, ◌==◌, slice_get, Some}
use Rattle.pm_base.specs.declared.names.Unit.{Unit}
use Rattle.pm_topology.specs.declared.topology.Topology.{Topology}
use Rattle.pm_topology.specs.Units.{needs_power, parent_of_unit, units_of}
use Rattle.pm_state.specs.Values.{value}
use Rattle.pm_record.specs.Kinds.{is_power}
use Rattle.pm_apply.specs.Plan.{command, is_fed, where_due}
use Rattle.pm_apply.proofs.ApplyLemmas.{apply_is, no_entry}
use Rattle.pm_record.proofs.Below.{ChipLaws}
use Rattle.pm_apply.proofs.turns.apply_at.Goals as goal

pub returns-in_default : goal.returns-in_default
returns-in_default c =
    let laws : ChipLaws = record { units = c.units_stand_in_order.ensures; kinds = c.kinds_are_exact.ensures; table = c.unit_maps.ensures } in
    absurd (no_entry laws c.args.book.now.fixed.topology (λ u. value u c.args.book.now) c.args.kept.now c.requires.units c.args.place c.args.unit c.requires.there (sym c.entry.ensures ∙ c.in_default.is))

pub returns : goal.returns
returns c =
    let t = c.args.book.now.fixed.topology in
    let values : Unit → ℕ = λ u. value u c.args.book.now in
    let laws : ChipLaws = record { units = c.units_stand_in_order.ensures; kinds = c.kinds_are_exact.ensures; table = c.unit_maps.ensures } in
    let here : slice_get c.args.kept.now c.args.place ≡ Some (c.in-Some.field-0-0, c.in-Some.entry) = sym c.entry.ensures ∙ c.in-Some.is in
    let there : slice_get (units_of t) c.args.place ≡ Some c.args.unit = ap (λ units. slice_get units c.args.place) (sym c.requires.units) ∙ c.requires.there in
    let takes : Topology → ℕ → Bool = λ t v. not (is_power t c.args.unit) && (not (c.in-Some.entry.value == v)
    && (not (needs_power t c.args.unit v) || is_fed t c.args.kept.now (parent_of_unit t c.args.unit))) in
    c.where_due.ensures
    ∙ ap (λ b. where_due b (command c.args.unit c.value_at-value.result)) c.takes_at.ensures
    ∙ ap (λ v. where_due (takes c.topology.result.now v) (command c.args.unit v)) (c.value_at-value.ensures.value c.args.unit there)
    ∙ ap (λ t. where_due (takes t (values c.args.unit)) (command c.args.unit (values c.args.unit))) c.topology.ensures.topology
    ∙ apply_is laws t values c.args.kept.now c.requires.units c.args.place c.args.unit c.requires.there (c.in-Some.field-0-0, c.in-Some.entry) here
