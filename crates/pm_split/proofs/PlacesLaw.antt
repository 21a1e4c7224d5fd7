-- What is left of a list from a place on.
use Rattle.std.proofs.Common.{◌≡◌, ℕ, zero, suc, ◌+◌, List, [], ◌∷◌, Some, None, drop, slice_get, arith, refl, ap, ◌∙◌}

-- the element at a place is the first of those from there on
pub next_is : {X : Type 0} (xs : List X) (k : ℕ) (x : X) → slice_get xs k ≡ Some x → drop k xs ≡ x ∷ drop (k + 1) xs
next_is [] k x is = cc
next_is (y ∷ ys) zero x is = cc
next_is (y ∷ ys) (suc k) x is =
    let on : suc (k + 1) ≡ suc k + 1 = omega arith in
    next_is ys k x is ∙ ap (λ n. x ∷ drop n (y ∷ ys)) on

pub none_left : {X : Type 0} (xs : List X) (k : ℕ) → slice_get xs k ≡ None → drop k xs ≡ []
none_left [] zero is = refl
none_left [] (suc k) is = refl
none_left (y ∷ ys) zero is = cc
none_left (y ∷ ys) (suc k) is = none_left ys k is
