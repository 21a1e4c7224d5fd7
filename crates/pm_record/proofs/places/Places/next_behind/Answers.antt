use Rattle.std.proofs.Common.{◌≡◌, ◌+◌, ℕ, ap, subst, sym, arith}
use Rattle.std.proofs.lemmas.Option.{slice_get_within}
use Rattle.pm_base.specs.BoundedList.{Bounded}
use Rattle.pm_record.specs.Places.{IsNext, RiseWithin}
use Rattle.pm_record.proofs.PlacesLemmas.{few_places, next_after}
use Rattle.pm_record.proofs.places.Places.next_behind.Goals as goal

pub overflow_add-i : goal.overflow_add-i
overflow_add-i c =
    let P : Bounded ℕ → Type 0 = λ places. RiseWithin 0 places.room places.items in
    let there = slice_get_within c.args.self.now.items c.args.i c.args.place (c.has_at.ensures c.if-has_at.true) in
    let few = few_places 0 c.args.self.now.room c.args.self.now.items (omega arith) (subst P c.self.view_is c.self.invariant.rise) in
    let room : c.self.inside.end ≡ c.args.self.now.room = ap (λ (places : Bounded ℕ). places.room) c.self.view_is in
    omega (arith, there, few, room)

pub overflow_add-place : goal.overflow_add-place
overflow_add-place c =
    let room : c.self.inside.end ≡ c.args.self.now.room = ap (λ (places : Bounded ℕ). places.room) c.self.view_is in
    omega (arith, room, c.requires)

pub returns-then-has_at : goal.returns-then-has_at
returns-then-has_at c =
    let P : Bounded ℕ → Type 0 = λ places. RiseWithin 0 places.room places.items in
    let rise = subst P c.self.view_is c.self.invariant.rise in
    let next = subst (IsNext c.args.self.now.room c.args.self.now.items (c.args.place + 1)) (sym c.at_or_end.ensures)
    (next_after c.args.self.now.room c.args.self.now.items c.args.place c.args.i rise c.requires (c.has_at.ensures c.if-has_at.true))
    in
    record {
      from = omega (arith, next.after);
      end = next.within;
      none = λ k after before. next.none k (omega (arith, after)) before;
    }

pub returns : goal.returns
returns c = record {
  from = omega (arith, c.next_from.ensures.from);
  end = c.next_from.ensures.end;
  none = λ k after before. c.next_from.ensures.none k (omega (arith, after)) before;
}
