use Rattle.std.proofs.Common.{◌≡◌, ℕ, Bool, List, [], ap, sym, subst, ◌∙◌}
use Rattle.std.specs.Prelude.{false, replicate}
use Rattle.std.proofs.lemmas.Result.{IfOk-at_ok}
use Rattle.pm_base.specs.BoundedList.{Bounded}
use Rattle.pm_state.specs.Changes.{AreMarked}
use Rattle.pm_state.proofs.ChangesLemmas.{marked_at_load}
use Rattle.pm_state.proofs.changes.Places.load.Goals as goal

pub invariant_of-result : goal.invariant_of-result
invariant_of-result c =
    let found = c.in_ok-marks-2 in
    let count = c.args.count in
    let marks = ap (λ v. v.items) found.ensures.0 ∙ c.in_ok-marks.ensures in
    let list = IfOk-at_ok (λ (l : Bounded ℕ). l ≡ record { items = []; room = count }) found.ensures.1 c.with_room-list.ensures in
    let P : List Bool → Type 0 = λ ms. AreMarked ms found.list in
    let Q : Bounded ℕ → Type 0 = λ l. AreMarked (replicate count false) l in
    subst P (sym marks) (subst Q (sym list) (marked_at_load count))
