use Rattle.std.proofs.Common.{◌≡◌, ◌<◌, ℕ, get_or, subst, arith, inl, inr}
use Rattle.std.proofs.lemmas.Bool.{cases_lt}
use Rattle.std.proofs.lemmas.Option.{slice_get-get_or}
use Rattle.pm_record.proofs.PlacesLemmas.{next_nowhere, next_there}
use Rattle.pm_record.proofs.places.first_from.Goals as goal

pub loop-place-preserved : goal.loop-place-preserved
loop-place-preserved c =
    λ j before.
    elim (cases_lt j c.loop-place.place-index) [
      | inl early ↦ c.loop-place.invariant j early
      | inr late ↦ (
          let same : c.loop-place.place-index ≡ j = omega (arith, late, before) in
          let P : ℕ → Type 0 = λ j. get_or c.args.places.now j 0 < c.args.from in
          subst P same (omega (arith, c.if-place-from.false)))
    ]

pub returns-then-place-from : goal.returns-then-place-from
returns-then-place-from c =
    next_there c.args.end c.args.places.now c.args.from c.loop-place.place-index _ c.requires.rise c.loop-place.invariant
    (slice_get-get_or c.args.places.now c.loop-place.place-index _ c.loop-place-test.true) c.if-place-from.true

pub returns : goal.returns
returns c = next_nowhere c.args.end c.args.places.now c.args.from c.loop-place.place-index c.requires.fits c.requires.rise c.loop-place.invariant c.loop-place-test.false
