use Rattle.std.proofs.Common.{◌≡◌, ◌<◌, ◌==◌, ◌||◌, if◌then◌else◌, ℕ, List, length, subst, sym, ap, ◌∙◌, arith}
use Rattle.std.specs.Prelude.{insert, is_ok}
use Rattle.pm_base.specs.BoundedList.{Bounded}
use Rattle.pm_base.specs.Places.{has_place}
use Rattle.pm_record.specs.Places.{RiseWithin, StandsBefore}
use Rattle.pm_record.proofs.PlacesLemmas.{has_insert, rise_insert, room_left}
use Rattle.pm_record.proofs.places.Places.put_in.Goals as goal

pub unwrap-requires : goal.unwrap-requires
unwrap-requires c =
    let P : Bounded ℕ → Type 0 = λ places. StandsBefore places.items c.args.place c.args.i in
    let Q : Bounded ℕ → Type 0 = λ places. c.args.place < places.room in
    let room : length c.self.inside.items.items < c.self.inside.end =
    room_left c.self.inside.end c.self.inside.items.items c.args.place c.args.i c.self.invariant.rise (subst Q (sym c.self.view_is) c.requires.within) (subst P (sym c.self.view_is) c.requires.stands)
    in
    c.insert.ensures.succeeds (omega (arith, room, c.self.invariant.room))

pub invariant_of-self : goal.invariant_of-self
invariant_of-self c =
    let P : Bounded ℕ → Type 0 = λ places. StandsBefore places.items c.args.place c.args.i in
    let Q : Bounded ℕ → Type 0 = λ places. c.args.place < places.room in
    let rise : RiseWithin 0 c.self.inside.end (insert c.self.inside.items.items c.args.i c.args.place) =
    rise_insert 0 c.self.inside.end c.self.inside.items.items c.args.place c.args.i c.self.invariant.rise (omega arith) (subst Q (sym c.self.view_is) c.requires.within) (subst P (sym c.self.view_is) c.requires.stands)
    in
    let items : List ℕ = c.self.inside.items.items in
    let made : c.insert.new.self.items ≡ insert items c.args.i c.args.place =
    subst (λ r. c.insert.new.self.items ≡ (if is_ok r then insert items c.args.i c.args.place else items)) c.unwrap.ensures c.insert.ensures.items
    in
    record {
      room = omega (arith, c.self.invariant.room, c.insert.ensures.capacity);
      rise = subst (RiseWithin 0 c.self.inside.end) (sym made) rise;
    }

pub returns-clause-has : goal.returns-clause-has
returns-clause-has c =
    λ k.
    let items : List ℕ = c.self.inside.items.items in
    let made : c.insert.new.self.items ≡ insert items c.args.i c.args.place =
    subst (λ r. c.insert.new.self.items ≡ (if is_ok r then insert items c.args.i c.args.place else items)) c.unwrap.ensures c.insert.ensures.items
    in
    ap (λ places. has_place places k) made
    ∙ (has_insert items c.args.i c.args.place k
    ∙ ap (λ (places : Bounded ℕ). (c.args.place == k) || has_place places.items k) c.self.view_is)
