use Rattle.std.proofs.Common.{◌≡◌, ℕ, List, Some, subst, MatchResult, slice_get, nat_cmp}
use Rattle.std.specs.List.Sorted.{IsBinarySearchResult}
use Rattle.pm_base.specs.BoundedList.{Bounded}
use Rattle.pm_record.specs.Places.{StandsBefore}
use Rattle.pm_record.proofs.PlacesLemmas.{found_at}
use Rattle.pm_record.proofs.places.Places.find.Goals as goal

pub returns : goal.returns
returns c =
    let P : List ℕ → Type 0 = λ places. IsBinarySearchResult (λ y. nat_cmp y c.args.place) places c.binary_search.result in
    let finds = subst P c.as_slice.ensures.value c.binary_search.ensures.position in
    let Q : Bounded ℕ → Type 0 = λ places. MatchResult c.binary_search.result (λ i. slice_get places.items i ≡ Some c.args.place) (λ i. StandsBefore places.items c.args.place i) in
    subst Q c.self.view_is (found_at c.self.inside.end c.self.inside.items.items c.args.place c.binary_search.result c.self.invariant.rise finds)
