-- Elements of lists: the first one that passes a test, and those by their places.
use Rattle.std.proofs.Common.{◌≡◌, ◌≢◌, ℕ, zero, suc, ◌+◌, ◌<◌, ◌≤◌, Bool, List, [], ◌∷◌, ◌++◌, length, take, drop, Some, None, refl, ap, ◌∙◌, arith, add-one, drop-cons}
use Rattle.std.specs.Prelude.{slice_get, find, position}
use Rattle.std.specs.List.{position_or_len}
use Rattle.std.proofs.lemmas.Bool.Decides.{nat_tests}
use Rattle.std.proofs.lemmas.List.Folds.{find_at}
use Rattle.std.proofs.lemmas.List.{take_more}
use Rattle.std.proofs.lemmas.Option.{slice_get_past, slice_get_within, get_or_from_slice_get}

-- `find` gives the element at the place that `position` gives
pub find-Some : {X : Type 0} (p : X → Bool) (xs : List X) (k : ℕ) → position p xs ≡ Some k → find p xs ≡ slice_get xs k
find-Some p xs k here =
    let at : position_or_len p xs ≡ k = grind (arith, nat_tests) in
    find_at p xs ∙ ap (λ n. slice_get xs n) at

pub find-None : {X : Type 0} (p : X → Bool) (xs : List X) → position p xs ≡ None → find p xs ≡ None
find-None p xs none =
    let past : length xs ≤ position_or_len p xs = grind (arith, nat_tests) in
    find_at p xs ∙ slice_get_past xs (position_or_len p xs) past

-- an element of a front of a list
pub slice_get-append_left : {X : Type 0} (xs ys : List X) (k : ℕ) (x : X) → slice_get xs k ≡ Some x → slice_get (xs ++ ys) k ≡ Some x
slice_get-append_left [] ys k x found = cc
slice_get-append_left (y ∷ xs) ys zero x found = found
slice_get-append_left (y ∷ xs) ys (suc k) x found = slice_get-append_left xs ys k x found

-- an element after a front of a list
pub slice_get-append_right : {X : Type 0} (xs ys : List X) (k : ℕ) → slice_get (xs ++ ys) (length xs + k) ≡ slice_get ys k
slice_get-append_right [] ys k = let at : 0 + k ≡ k = omega arith in ap (λ n. slice_get ys n) at
slice_get-append_right (x ∷ xs) ys k =
    let at : suc (length xs) + k ≡ suc (length xs + k) = omega arith in
    ap (λ n. slice_get (x ∷ (xs ++ ys)) n) at ∙ slice_get-append_right xs ys k

-- the elements from a place on, and those before the next place
pub drop_found : {X : Type 0} (xs : List X) (k : ℕ) (x : X) → slice_get xs k ≡ Some x → drop k xs ≡ x ∷ drop (k + 1) xs
drop_found xs k x found =
    let within : k < length xs = slice_get_within xs k x found in
    rw (add-one, drop-cons xs k x, get_or_from_slice_get xs k x x found) refl

pub take_next : {X : Type 0} (xs : List X) (k : ℕ) (x : X) → slice_get xs k ≡ Some x → take (k + 1) xs ≡ take k xs ++ x ∷ []
take_next xs k x found = take_more xs k x (slice_get_within xs k x found) ∙ ap (λ y. take k xs ++ y ∷ []) (get_or_from_slice_get xs k x x found)

-- a list with an element isn't empty, whatever follows it
pub append-not_nil : {X : Type 0} (xs ys : List X) → xs ≢ [] → xs ++ ys ≢ []
append-not_nil [] ys some = absurd (some refl)
append-not_nil (x ∷ xs) ys some = λ none. cc
