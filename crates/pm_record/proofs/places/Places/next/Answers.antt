use Rattle.std.proofs.Common.{◌≤◌, ℕ, List, subst, sym}
use Rattle.pm_base.specs.BoundedList.{Bounded}
use Rattle.pm_record.specs.Places.{IsNext, RiseWithin}
use Rattle.pm_record.proofs.places.Places.next.Goals as goal

pub first_from-requires-clause-fits : goal.first_from-requires-clause-fits
first_from-requires-clause-fits c =
    let P : Bounded ℕ → Type 0 = λ places. c.args.from ≤ places.room in
    subst P (sym c.self.view_is) c.requires

pub first_from-requires-clause-rise : goal.first_from-requires-clause-rise
first_from-requires-clause-rise c = subst (RiseWithin 0 c.self.inside.end) (sym c.as_slice.ensures.value) c.self.invariant.rise

pub returns-then-len-le-FEW : goal.returns-then-len-le-FEW
returns-then-len-le-FEW c =
    let P : List ℕ → Type 0 = λ items. IsNext c.self.inside.end items c.args.from c.first_from.result in
    let Q : Bounded ℕ → Type 0 = λ places. IsNext places.room places.items c.args.from c.first_from.result in
    let next = subst Q c.self.view_is (subst P c.as_slice.ensures.value c.first_from.ensures) in
    record { from = next.after; end = next.within; none = next.none }
