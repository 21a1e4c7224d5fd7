use Rattle.std.proofs.Common.{◌≡◌, List, ℕ, Some, slice_get, refl, sym, subst, ◌∙◌}
use Rattle.std.proofs.lemmas.List.{drop_all}
use Rattle.std.proofs.lemmas.Option.{slice_get-get_or}
use Rattle.pm_base.specs.declared.names.Unit.{Unit}
use Rattle.pm_record.proofs.ListedLemmas.{IsRemade, remade_first, remade_lags, remade_units, remade_length, remade_marked, remade_next, drop_here}
use Rattle.pm_record.proofs.marks.mark_all.Goals as goal

pub loop-place-init : goal.loop-place-init
loop-place-init g c = record {
  made = remade_first c.units_stand_in_order.ensures (g.W.Wanted.value c.args.wanted.now) c.args.values.now c.args.listed.now.items c.args.places.now c.len-units.ensures.rising c.requires.stands c.requires.lags;
  room = refl;
}

pub mark_at-requires-clause-known : goal.mark_at-requires-clause-known
mark_at-requires-clause-known g c =
    let units = remade_units (record { units = c.units_stand_in_order.ensures; kinds = c.kinds_are_exact.ensures; table = c.unit_maps.ensures }) (g.W.Wanted.value c.args.wanted.now) c.args.values.now c.loop-place.values _ _ c.loop-place.invariant.made in
    let P : List Unit → Type 0 = λ units. (place : ℕ) (unit : Unit) → slice_get units place ≡ Some unit → g.W.Wanted.IsAt c.args.wanted.now place unit in
    (subst P (sym units) c.requires.known) _

pub mark_at-requires-clause-room : goal.mark_at-requires-clause-room
mark_at-requires-clause-room g c =
    c.loop-place.invariant.room
    ∙ (c.requires.room
    ∙ sym (remade_length (record { units = c.units_stand_in_order.ensures; kinds = c.kinds_are_exact.ensures; table = c.unit_maps.ensures }) (g.W.Wanted.value c.args.wanted.now) c.args.values.now c.loop-place.values _ _ c.loop-place.invariant.made))

pub loop-place-preserved : goal.loop-place-preserved
loop-place-preserved g c =
    let values : Unit → ℕ = g.W.Wanted.value c.args.wanted.now in
    let left = drop_here c.args.places.now c.loop-place.place-index _ (slice_get-get_or c.args.places.now c.loop-place.place-index _ c.loop-place-test.true) in
    record {
      made = remade_next values c.args.values.now c.loop-place.values c.mark_at.new.values _ c.loop-place.listed.items c.mark_at.new.listed.items _
          (subst (λ left. IsRemade values c.args.values.now c.loop-place.values c.loop-place.listed.items left) left c.loop-place.invariant.made)
          c.mark_at.ensures.made c.mark_at.ensures.lags c.mark_at.ensures.kept;
      room = c.mark_at.ensures.room ∙ c.loop-place.invariant.room;
    }

pub returns : goal.returns
returns g c =
    let values : Unit → ℕ = g.W.Wanted.value c.args.wanted.now in
    let P : List ℕ → Type 0 = λ left. IsRemade values c.args.values.now c.loop-place.values c.loop-place.listed.items left in
    let done = subst P (drop_all c.loop-place.place-index c.args.places.now c.loop-place-test.false) c.loop-place.invariant.made in
    record {
      marked = remade_marked values c.args.values.now c.loop-place.values c.loop-place.listed.items done;
      lags = remade_lags values c.args.values.now c.loop-place.values c.loop-place.listed.items done;
      room = c.loop-place.invariant.room;
    }
