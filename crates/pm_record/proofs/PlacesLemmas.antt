-- Places in rising order: where one goes in, and how many there are.
use Rattle.std.proofs.Common.{◌≡◌, ℕ, ◌+◌, ◌<◌, ◌≤◌, ◌==◌, ◌||◌, Bool, true, false, Some, List, [], ◌∷◌, ◌++◌, length, get_or, slice_get, nat_cmp, refl, sym, ap, subst, ◌∙◌, inl, inr, zero, suc, arith}
use Rattle.std.specs.Prelude.{MatchResult, Result, Ok, Err, insert, unwrap_or}
use Rattle.std.specs.List.Sorted.{IsBinarySearchResult}
use Rattle.std.proofs.lemmas.Bool.{cases_lt, eqb-true}
use Rattle.std.proofs.lemmas.Bool.Decides.{nat_tests}
use Rattle.std.proofs.lemmas.List.Edits.{length-insert}
use Rattle.std.proofs.lemmas.List.Folds.{list_any_none}
use Rattle.std.proofs.lemmas.List.Sorted.{IsPermutation-insert, list_any-IsPermutation, searched}
use Rattle.std.proofs.lemmas.List.{get_or_default}
use Rattle.std.proofs.lemmas.Option.{get_or_from_slice_get, slice_get_cases, slice_get-get_or, slice_get_within}
use Rattle.pm_base.specs.Places.{has_place}
use Rattle.pm_record.specs.Places.{IsNext, RiseWithin, StandsBefore}

-- ---- they rise

-- each is from the first on
from_low : (low end : ℕ) (places : List ℕ) (k : ℕ) → RiseWithin low end places → k < length places → low ≤ get_or places k 0
from_low low end [] k rise within = absurd (omega (arith, within))
from_low low end (p ∷ places) zero rise within = rise.0
from_low low end (p ∷ places) (suc k) rise within =
    let later = from_low (p + 1) end places k rise.2 (omega (arith, within)) in
    omega (arith, later, rise.0)

-- and none is below an earlier one
pub rises_on : (low end : ℕ) (places : List ℕ) → RiseWithin low end places → (i j : ℕ) → i ≤ j → j < length places → get_or places i 0 ≤ get_or places j 0
rises_on low end [] rise i j le within = absurd (omega (arith, within))
rises_on low end (p ∷ places) rise zero zero le within = omega arith
rises_on low end (p ∷ places) rise zero (suc j) le within =
    let later = from_low (p + 1) end places j rise.2 (omega (arith, within)) in
    omega (arith, later)
rises_on low end (p ∷ places) rise (suc i) zero le within = absurd (omega (arith, le))
rises_on low end (p ∷ places) rise (suc i) (suc j) le within = rises_on (p + 1) end places rise.2 i j (omega (arith, le)) (omega (arith, within))

-- each is above an earlier one
rises_more : (low end : ℕ) (places : List ℕ) → RiseWithin low end places → (i j : ℕ) → i < j → j < length places → get_or places i 0 < get_or places j 0
rises_more low end [] rise i j less within = absurd (omega (arith, within))
rises_more low end (p ∷ places) rise i zero less within = absurd (omega (arith, less))
rises_more low end (p ∷ places) rise zero (suc j) less within =
    let later = from_low (p + 1) end places j rise.2 (omega (arith, within)) in
    omega (arith, later)
rises_more low end (p ∷ places) rise (suc i) (suc j) less within = rises_more (p + 1) end places rise.2 i j (omega (arith, less)) (omega (arith, within))

-- there are no more of them than places
pub few_places : (low end : ℕ) (places : List ℕ) → low ≤ end → RiseWithin low end places → length places + low ≤ end
few_places low end [] le rise = omega (arith, le)
few_places low end (p ∷ places) le rise =
    let later = few_places (p + 1) end places (omega (arith, rise.1)) rise.2 in
    omega (arith, later, rise.0)

-- they still do once one went in
pub rise_insert : (low end : ℕ) (places : List ℕ) (place i : ℕ) → RiseWithin low end places → low ≤ place → place < end → StandsBefore places place i
    → RiseWithin low end (insert places i place)
rise_insert low end [] place zero rise from within stands = (from, within, tt)
rise_insert low end [] place (suc i) rise from within stands = absurd (omega (arith, stands.within))
rise_insert low end (p ∷ places) place zero rise from within stands =
    let first : place < p = stands.more 0 (omega arith) (omega arith) in
    (from, within, (omega (arith, first), rise.1, rise.2))
rise_insert low end (p ∷ places) place (suc i) rise from within stands =
    let first : p < place = stands.less 0 (omega arith) in (
      rise.0,
      rise.1,
      rise_insert (p + 1) end places place i rise.2 (omega (arith, first)) within
          (record {
            within = omega (arith, stands.within);
            less = λ k before. stands.less (suc k) (omega (arith, before));
            more = λ k from below. stands.more (suc k) (omega (arith, from)) (omega (arith, below));
          }),
    )

-- there is room for one that isn't there yet
pub room_left : (end : ℕ) (places : List ℕ) (place i : ℕ) → RiseWithin 0 end places → place < end → StandsBefore places place i → length places < end
room_left end places place i rise within stands =
    let few = few_places 0 end (insert places i place) (omega arith) (rise_insert 0 end places place i rise (omega arith) within stands) in
    let more : length (insert places i place) ≡ length places + 1 = length-insert places i place stands.within in
    omega (arith, few, more)

-- ---- which there are

pub has_insert : (places : List ℕ) (i place k : ℕ) → has_place (insert places i place) k ≡ ((place == k) || has_place places k)
has_insert places i place k = sym (list_any-IsPermutation (λ p. p == k) (place ∷ places) (insert places i place) (IsPermutation-insert places i place))

pub has_at : (places : List ℕ) (i place : ℕ) → slice_get places i ≡ Some place → has_place places place ≡ true
has_at [] i place here = cc
has_at (p ∷ places) zero place here = grind (arith, nat_tests)
has_at (p ∷ places) (suc i) place here = let later = has_at places i place here in grind (arith, nat_tests)

pub has_already : (places : List ℕ) (i place k : ℕ) → slice_get places i ≡ Some place → has_place places k ≡ ((place == k) || has_place places k)
has_already places i place k here = at (place == k) refl
  where
    at : (same : Bool) → (place == k) ≡ same → has_place places k ≡ (same || has_place places k)
    at true same = ap (has_place places) (sym (eqb-true place k same)) ∙ has_at places i place here
    at false same = refl

less_differs : (a b : ℕ) → a < b → (a == b) ≡ false
less_differs a b less = grind (arith, nat_tests)

more_differs : (a b : ℕ) → b < a → (a == b) ≡ false
more_differs a b more = grind (arith, nat_tests)

-- none from this place on, up to the next one
none_between : (end : ℕ) (places : List ℕ) (from i k : ℕ) → RiseWithin 0 end places → ((j : ℕ) → j < i → get_or places j 0 < from) → from ≤ k → (i < length places → k < get_or places i 0) → has_place places k ≡ false
none_between end places from i k rise first after before =
    list_any_none (λ p. p == k) places
    (λ j d within.
    ap (λ p. p == k) (get_or_default places j d 0 within)
    ∙ elim (cases_lt j i) [
      | inl early ↦ (let less = first j early in less_differs (get_or places j 0) k (omega (arith, less, after)))
      | inr late ↦ (
          let first : k < get_or places i 0 = before (omega (arith, late, within)) in
          let up : get_or places i 0 ≤ get_or places j 0 = rises_on 0 end places rise i j late within in
          more_differs (get_or places j 0) k (omega (arith, first, up)))
    ])

-- each is below the end
pub below_end : (low end : ℕ) (places : List ℕ) → RiseWithin low end places → (k : ℕ) → k < length places → get_or places k 0 < end
below_end low end [] rise k within = absurd (omega (arith, within))
below_end low end (p ∷ places) rise zero within = rise.1
below_end low end (p ∷ places) rise (suc k) within = below_end (p + 1) end places rise.2 k (omega (arith, within))

pub next_at : (end : ℕ) (places : List ℕ) (from i : ℕ) → from ≤ end → RiseWithin 0 end places → StandsBefore places from i → IsNext end places from (unwrap_or (slice_get places i) end)
next_at end places from i fits rise stands =
    elim ((slice_get_cases places i).1) [
      | inl there ↦ (
          let same : unwrap_or (slice_get places i) end ≡ get_or places i 0 = ap (λ found. unwrap_or found end) (slice_get-get_or places i 0 there.1) in
          let more = stands.more i (omega arith) there.1 in
          let low = below_end 0 end places rise i there.1 in
          subst (IsNext end places from) (sym same)
          (record { after = omega (arith, more); within = omega (arith, low); none = λ k after before. none_between end places from i k rise stands.less after (λ _. before) }))
      | inr past ↦
          subst (IsNext end places from) (sym (ap (λ found. unwrap_or found end) past.1))
          (record { after = fits; within = omega arith; none = λ k after before. none_between end places from i k rise stands.less after (λ within. absurd (omega (arith, within, past.0))) })
    ]

-- the one at a place of the list is the next where those before it are less
pub next_there : (end : ℕ) (places : List ℕ) (from i p : ℕ) → RiseWithin 0 end places → ((j : ℕ) → j < i → get_or places j 0 < from) → slice_get places i ≡ Some p → from ≤ p
    → IsNext end places from p
next_there end places from i p rise less here after =
    let there = slice_get_within places i p here in
    let same : get_or places i 0 ≡ p = get_or_from_slice_get places i p 0 here in
    let low = below_end 0 end places rise i there in
    record { after = after; within = omega (arith, low, same); none = λ k from before. none_between end places _ i k rise less from (λ _. omega (arith, before, same)) }

-- and where all are less there is none
pub next_nowhere : (end : ℕ) (places : List ℕ) (from i : ℕ) → from ≤ end → RiseWithin 0 end places → ((j : ℕ) → j < i → get_or places j 0 < from) → length places ≤ i
    → IsNext end places from end
next_nowhere end places from i fits rise less past =
    record { after = fits; within = omega arith; none = λ k after before. none_between end places from i k rise less after (λ within. absurd (omega (arith, within, past))) }

-- behind the i-th comes the one after it
pub next_after : (end : ℕ) (places : List ℕ) (place i : ℕ) → RiseWithin 0 end places → place < end → slice_get places i ≡ Some place
    → IsNext end places (place + 1) (unwrap_or (slice_get places (i + 1)) end)
next_after end places place i rise below here =
    let there = slice_get_within places i place here in
    let is : get_or places i 0 ≡ place = get_or_from_slice_get places i place 0 here in
    let less : (j : ℕ) → j < i + 1 → get_or places j 0 < place + 1 = λ j before.
    let up = rises_on 0 end places rise j i (omega (arith, before)) there in
    omega (arith, up, is)
    in
    elim ((slice_get_cases places (i + 1)).1) [
      | inl more ↦ (
          let same : unwrap_or (slice_get places (i + 1)) end ≡ get_or places (i + 1) 0 = ap (λ found. unwrap_or found end) (slice_get-get_or places (i + 1) 0 more.1) in
          let up = rises_more 0 end places rise i (i + 1) (omega arith) more.1 in
          subst (IsNext end places (place + 1)) (sym same)
          (next_there end places (place + 1) (i + 1) (get_or places (i + 1) 0) rise less (slice_get-get_or places (i + 1) 0 more.1) (omega (arith, up, is))))
      | inr past ↦
          subst (IsNext end places (place + 1)) (sym (ap (λ found. unwrap_or found end) past.1))
          (next_nowhere end places (place + 1) (i + 1) (omega (arith, below)) rise less (omega (arith, past.0)))
    ]

-- ---- one goes in at the end

-- where the last one comes before it, all do
pub stands_last : (end : ℕ) (places : List ℕ) (place i : ℕ) → RiseWithin 0 end places → i + 1 ≡ length places → get_or places i 0 < place → StandsBefore places place (length places)
stands_last end places place i rise last less = record {
  within = omega arith;
  less = λ k before.
      let up = rises_on 0 end places rise k i (omega (arith, before, last)) (omega (arith, last)) in
      omega (arith, up, less);
  more = λ k from below. absurd (omega (arith, from, below));
}

pub stands_first : (places : List ℕ) (place : ℕ) → length places ≡ 0 → StandsBefore places place (length places)
stands_first places place none = record {
  within = omega arith;
  less = λ k before. absurd (omega (arith, before, none));
  more = λ k from below. absurd (omega (arith, from, below));
}

pub insert_last : (places : List ℕ) (place : ℕ) → insert places (length places) place ≡ places ++ place ∷ []
insert_last [] place = refl
insert_last (p ∷ places) place = ap (λ ps. p ∷ ps) (insert_last places place)

-- ---- the search

pub found_at : (end : ℕ) (places : List ℕ) (place : ℕ) (r : Result ℕ ℕ) → RiseWithin 0 end places → IsBinarySearchResult (λ y. nat_cmp y place) places r
    → MatchResult r (λ i. slice_get places i ≡ Some place) (λ i. StandsBefore places place i)
found_at end places place (Ok i) rise finds =
    let at = searched places place (Ok i) finds (rises_on 0 end places rise) in
    slice_get-get_or places i 0 at.0 ∙ ap Some at.1
found_at end places place (Err i) rise finds =
    let at = searched places place (Err i) finds (rises_on 0 end places rise) in
    record { within = at.0; less = at.1; more = at.2 }
