use Rattle.std.proofs.Common.{ℕ, List, subst}
use Rattle.std.proofs.lemmas.List.{take_all}
use Rattle.std.proofs.lemmas.Option.{slice_get-get_or}
use Rattle.pm_record.specs.Record.{Kept}
use Rattle.pm_record.specs.Marks.{LagsWithin}
use Rattle.pm_record.proofs.Below.{ChipLaws}
use Rattle.pm_record.proofs.KindsLemmas.{NonePower, no_power_lags, none_first, none_next}
use Rattle.pm_record.proofs.kept.Kept.has_power_marks.Goals as goal

pub loop-place-init : goal.loop-place-init
loop-place-init c = none_first c.args.t.now c.args.self.now c.as_slice-places.result.now

pub loop-place-preserved : goal.loop-place-preserved
loop-place-preserved c =
    none_next c.args.t.now c.args.self.now c.as_slice-places.result.now c.loop-place.place-index _ (slice_get-get_or c.as_slice-places.result.now c.loop-place.place-index _ c.loop-place-test.true)
    c.loop-place.invariant (c.has_power_at.ensures c.if-has_power_at.false)

pub returns : goal.returns
returns c =
    λ no.
    let laws : ChipLaws = record { units = c.units_stand_in_order.ensures; kinds = c.kinds_are_exact.ensures; table = c.unit_maps.ensures } in
    let t = c.args.t.now in
    let P : List ℕ → Type 0 = λ places. NonePower t c.args.self.now places in
    let none = subst P c.as_slice-places.ensures (subst P (take_all c.loop-place.place-index c.as_slice-places.result.now c.loop-place-test.false) c.loop-place.invariant) in
    let Q : Kept → Type 0 = λ kept. LagsWithin c.self.inside.marked.items kept in
    no_power_lags laws t c.args.self.now c.self.inside.marked.items c.requires (subst Q c.self.view_is c.self.invariant.marks.lags) none
