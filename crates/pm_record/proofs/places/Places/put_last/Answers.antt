use Rattle.std.proofs.Common.{◌≡◌, ◌<◌, ◌==◌, ◌||◌, if◌then◌else◌, ℕ, List, [], ◌∷◌, ◌++◌, length, subst, sym, ap, ◌∙◌, arith}
use Rattle.std.specs.Prelude.{insert, is_ok}
use Rattle.pm_base.specs.BoundedList.{Bounded}
use Rattle.pm_base.specs.Places.{has_place}
use Rattle.pm_record.specs.Places.{RiseWithin, StandsBefore}
use Rattle.pm_record.proofs.PlacesLemmas.{has_insert, insert_last, rise_insert, room_left}
use Rattle.pm_record.proofs.places.Places.put_last.Goals as goal

pub unwrap-requires : goal.unwrap-requires
unwrap-requires c =
    let P : Bounded ℕ → Type 0 = λ places. StandsBefore places.items c.args.place (length places.items) in
    let Q : Bounded ℕ → Type 0 = λ places. c.args.place < places.room in
    let room : length c.self.inside.items.items < c.self.inside.end =
    room_left c.self.inside.end c.self.inside.items.items c.args.place (length c.self.inside.items.items) c.self.invariant.rise (subst Q (sym c.self.view_is) c.requires.within) (subst P (sym c.self.view_is) c.requires.stands)
    in
    c.push.ensures.succeeds (omega (arith, room, c.self.invariant.room))

pub invariant_of-self : goal.invariant_of-self
invariant_of-self c =
    let P : Bounded ℕ → Type 0 = λ places. StandsBefore places.items c.args.place (length places.items) in
    let Q : Bounded ℕ → Type 0 = λ places. c.args.place < places.room in
    let items : List ℕ = c.self.inside.items.items in
    let rise : RiseWithin 0 c.self.inside.end (insert items (length items) c.args.place) =
    rise_insert 0 c.self.inside.end items c.args.place (length items) c.self.invariant.rise (omega arith) (subst Q (sym c.self.view_is) c.requires.within) (subst P (sym c.self.view_is) c.requires.stands)
    in
    let made : c.push.new.self.items ≡ items ++ c.args.place ∷ [] =
    subst (λ r. c.push.new.self.items ≡ (if is_ok r then items ++ c.args.place ∷ [] else items)) c.unwrap.ensures c.push.ensures.items
    in
    record {
      room = omega (arith, c.self.invariant.room, c.push.ensures.capacity);
      rise = subst (RiseWithin 0 c.self.inside.end) (insert_last items c.args.place ∙ sym made) rise;
    }

pub returns-clause-has : goal.returns-clause-has
returns-clause-has c =
    λ k.
    let items : List ℕ = c.self.inside.items.items in
    let made : c.push.new.self.items ≡ items ++ c.args.place ∷ [] =
    subst (λ r. c.push.new.self.items ≡ (if is_ok r then items ++ c.args.place ∷ [] else items)) c.unwrap.ensures c.push.ensures.items
    in
    ap (λ places. has_place places k) (made ∙ sym (insert_last items c.args.place))
    ∙ (has_insert items (length items) c.args.place k
    ∙ ap (λ (places : Bounded ℕ). (c.args.place == k) || has_place places.items k) c.self.view_is)
