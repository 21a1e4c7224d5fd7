use Rattle.std.proofs.Common.{◌-◌, ℕ, length, subst, sym, ap, ◌∙◌, arith}
use Rattle.std.proofs.lemmas.Bool.{ltb-true}
use Rattle.std.proofs.lemmas.Option.{get_or_from_slice_get}
use Rattle.pm_base.specs.BoundedList.{Bounded}
use Rattle.pm_record.specs.Places.{RiseWithin}
use Rattle.pm_record.proofs.PlacesLemmas.{stands_first, stands_last}
use Rattle.pm_record.proofs.places.Places.ends_before.Goals as goal

pub returns-then-count-eq0 : goal.returns-then-count-eq0
returns-then-count-eq0 c =
    λ _.
    let same = ap (λ (places : Bounded ℕ). length places.items) c.self.view_is in
    stands_first c.args.self.now.items c.args.place (omega (arith, same, c.len-count.ensures, c.if-count-eq0.true))

pub returns : goal.returns
returns c =
    λ is.
    let P : Bounded ℕ → Type 0 = λ places. RiseWithin 0 places.room places.items in
    let same = ap (λ (places : Bounded ℕ). length places.items) c.self.view_is in
    let there = get_or_from_slice_get c.args.self.now.items (c.len-count.result - 1) c.in-Some.last 0 (sym c.get.ensures ∙ c.in-Some.is) in
    let less = ltb-true c.in-Some.last c.args.place is in
    stands_last c.args.self.now.room c.args.self.now.items c.args.place (c.len-count.result - 1) (subst P c.self.view_is c.self.invariant.rise)
    (omega (arith, same, c.len-count.ensures, c.if-count-eq0.false)) (omega (arith, there, less))
