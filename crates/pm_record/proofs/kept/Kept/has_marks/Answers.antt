use Rattle.std.proofs.Common.{ℕ, ◌<◌, List, length, ap, subst}
use Rattle.std.proofs.lemmas.Bool.{not-false}
use Rattle.pm_base.specs.Places.{has_place}
use Rattle.pm_record.specs.Record.{Kept}
use Rattle.pm_record.specs.Marks.{LagsNotAt}
use Rattle.pm_record.proofs.ListedLemmas.{lags_not}
use Rattle.pm_record.proofs.kept.Kept.has_marks.Goals as goal

pub returns : goal.returns
returns c =
    λ no.
    let none = c.is_empty.ensures (not-false c.is_empty.result no) in
    let P : Kept → Type 0 = λ kept. (k : ℕ) → k < length kept → LagsNotAt k kept in
    subst P c.self.view_is
    (λ k within. lags_not c.self.inside.values c.self.inside.marked.items k c.self.invariant.marks.lags (ap (λ (places : List ℕ). has_place places k) none) within)
