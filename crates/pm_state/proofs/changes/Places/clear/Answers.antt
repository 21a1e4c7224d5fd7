use Rattle.std.proofs.Common.{◌≡◌, ℕ, Bool, List, length, ap, sym, subst, ◌∙◌}
use Rattle.pm_base.specs.BoundedList.{Bounded}
use Rattle.pm_state.specs.Changes.{AreMarked, unmarked}
use Rattle.pm_state.proofs.ChangesLemmas.{all_unmarked, written_back}
use Rattle.pm_state.proofs.changes.Places.clear.Goals as goal

pub invariant_of-self : goal.invariant_of-self
invariant_of-self c =
    let inside = c.self.inside in
    let places : length c.unmark.new.marks ≡ inside.marks.len = c.unmark.auto.marks ∙ c.deref_mut.ensures.len in
    let marks = written_back c.unmark.new.marks inside.marks.items inside.marks.len places
    ∙ (c.unmark.ensures ∙ (ap (λ (ps : List ℕ). unmarked ps c.deref_mut.result.now) c.as_slice.ensures ∙ ap (unmarked inside.list.items) c.deref_mut.ensures.value))
    in
    let P : List Bool → Type 0 = λ ms. AreMarked ms c.clear.new.self in
    let Q : Bounded ℕ → Type 0 = λ l. AreMarked (unmarked inside.list.items inside.marks.items) l in
    subst P (sym marks) (subst Q (sym c.clear.ensures) (all_unmarked inside.marks.items inside.list c.self.invariant))
