use Rattle.std.proofs.Common.{◌≡◌, ◌<◌, ℕ, Bool, true, false, length, ap, sym, subst, ◌∙◌, arith}
use Rattle.std.proofs.lemmas.Option.{get_or_from_slice_get}
use Rattle.pm_base.specs.BoundedList.{Bounded}
use Rattle.std.specs.Prelude.{List, slice_set}
use Rattle.pm_state.specs.Changes.{AreMarked, is_in, is_listed}
use Rattle.pm_state.proofs.ChangesLemmas.{one_added, room_left, unlisted_at, written_back}
use Rattle.pm_state.proofs.changes.Places.add.Goals as goal

pub push-requires : goal.push-requires
push-requires c =
    let is : is_listed c.args.k c.args.self.now ≡ false = sym c.has.ensures ∙ c.if-not-has.true in
    let inside = c.self.inside in
    let at = unlisted_at c.args.k inside.list.items (length inside.marks.items) (ap (is_listed c.args.k) c.self.view_is ∙ is) in
    let mark = get_or_from_slice_get inside.marks.items c.args.k (is_in c.args.k inside.list.items) false (c.self.invariant.right c.args.k at.0) ∙ at.1 in
    record { room = omega (arith, room_left inside.marks.items c.args.k at.0 mark, c.self.invariant.room, c.self.invariant.few) }

pub invariant_of-self : goal.invariant_of-self
invariant_of-self c =
    let is : is_listed c.args.k c.args.self.now ≡ false = sym c.has.ensures ∙ c.if-not-has.true in
    let inside = c.self.inside in
    let at = unlisted_at c.args.k inside.list.items (length inside.marks.items) (ap (is_listed c.args.k) c.self.view_is ∙ is) in
    let places : length c.put_mark.new.marks ≡ inside.marks.len = c.put_mark.auto.marks ∙ c.deref_mut.ensures.len in
    let marks = written_back c.put_mark.new.marks inside.marks.items inside.marks.len places
    ∙ (c.put_mark.ensures ∙ ap (λ (ms : List Bool). slice_set ms c.args.k true) c.deref_mut.ensures.value)
    in
    let P : List Bool → Type 0 = λ ms. AreMarked ms c.push.new.self in
    let Q : Bounded ℕ → Type 0 = λ l. AreMarked (slice_set inside.marks.items c.args.k true) l in
    subst P (sym marks) (subst Q (sym c.push.ensures) (one_added inside.marks.items inside.list c.args.k c.self.invariant at.0 at.1))
