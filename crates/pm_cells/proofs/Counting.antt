-- How many elements of a list pass a test, where one element changes.
use Rattle.std.proofs.Common.{◌≡◌, ◌≢◌, ℕ, zero, suc, ◌+◌, ◌<◌, ◌≤◌, Bool, true, false, ◌==◌, cond, List, [], ◌∷◌, length, Some, refl, sym, ◌∙◌, ap, arith, inl, inr, ◌⊎◌}
use Rattle.std.specs.Prelude.{count_by, slice_get, slice_set}
use Rattle.std.proofs.lemmas.Bool.{eqb-true, eq-eqb}
use Rattle.pm_base.proofs.Counts.{count_by-cons}

-- 1 where a test passed
abbrev pub one_if : Bool → ℕ
one_if b = cond b 1 0

-- one element is changed: one test more or less passes
pub count_set : {X : Type 0} (p : X → Bool) (xs : List X) (k : ℕ) (x y : X) → slice_get xs k ≡ Some x
    → count_by p (slice_set xs k y) + one_if (p x) ≡ count_by p xs + one_if (p y)
count_set p [] k x y at = cc
count_set p (z ∷ xs) zero x y at =
    let same : z ≡ x = cc in
    let before : one_if (p z) ≡ one_if (p x) = ap (λ w. one_if (p w)) same in
    let one : count_by p (y ∷ xs) ≡ one_if (p y) + count_by p xs = count_by-cons p y xs in
    let two : count_by p (z ∷ xs) ≡ one_if (p z) + count_by p xs = count_by-cons p z xs in
    omega arith
count_set p (z ∷ xs) (suc k) x y at =
    let later : count_by p (slice_set xs k y) + one_if (p x) ≡ count_by p xs + one_if (p y) = count_set p xs k x y at in
    let one : count_by p (z ∷ slice_set xs k y) ≡ one_if (p z) + count_by p (slice_set xs k y) = count_by-cons p z (slice_set xs k y) in
    let two : count_by p (z ∷ xs) ≡ one_if (p z) + count_by p xs = count_by-cons p z xs in
    omega arith

pub count_most : {X : Type 0} (p : X → Bool) (xs : List X) → count_by p xs ≤ length xs
count_most p [] = omega arith
count_most p (x ∷ xs) =
    let one : count_by p (x ∷ xs) ≡ one_if (p x) + count_by p xs = count_by-cons p x xs in
    omega (arith, at (p x), count_most p xs)
  where
    at : (b : Bool) → one_if b ≤ 1
    at true = omega arith
    at false = omega arith

pub count_some : {X : Type 0} (p : X → Bool) (xs : List X) (k : ℕ) (x : X) → slice_get xs k ≡ Some x → p x ≡ true → 0 < count_by p xs
count_some p [] k x at is = cc
count_some p (z ∷ xs) zero x at is =
    let same : z ≡ x = cc in
    let here : one_if (p z) ≡ 1 = ap one_if (ap p same ∙ is) in
    let one : count_by p (z ∷ xs) ≡ one_if (p z) + count_by p xs = count_by-cons p z xs in
    omega arith
count_some p (z ∷ xs) (suc k) x at is =
    let one : count_by p (z ∷ xs) ≡ one_if (p z) + count_by p xs = count_by-cons p z xs in
    omega (arith, count_some p xs k x at is)

-- an element is put: it is there, and all others are as they were
pub get_same : {X : Type 0} (xs : List X) (k : ℕ) (y : X) → k < length xs → slice_get (slice_set xs k y) k ≡ Some y
get_same [] k y within = absurd (omega arith)
get_same (x ∷ xs) zero y within = refl
get_same (x ∷ xs) (suc k) y within = get_same xs k y (omega arith)

pub get_other : {X : Type 0} (xs : List X) (k j : ℕ) (y : X) → k ≢ j → slice_get (slice_set xs k y) j ≡ slice_get xs j
get_other [] k j y other = refl
get_other (x ∷ xs) zero zero y other = absurd (other refl)
get_other (x ∷ xs) zero (suc j) y other = refl
get_other (x ∷ xs) (suc k) zero y other = refl
get_other (x ∷ xs) (suc k) (suc j) y other = get_other xs k j y (λ e. other (ap suc e))

-- two places are the same, or they aren't
pub same_or_not : (m n : ℕ) (b : Bool) → (m == n) ≡ b → (m ≡ n) ⊎ ((n ≢ m) × ((m == n) ≡ false))
same_or_not m n true is = inl (eqb-true m n is)
same_or_not m n false is = inr ((λ e. let yes : (m == n) ≡ true = eq-eqb m n (sym e) in cc), is)
