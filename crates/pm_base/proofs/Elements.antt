-- Whether a list has an element, and what holds of each or of each two of its elements.
use Rattle.std.proofs.Common.{◌≡◌, ◌≢◌, ℕ, zero, suc, ◌<◌, Bool, false, List, [], ◌∷◌, ◌++◌, length, get_or, ◌⊎◌, inl, inr, arith}
use Rattle.std.specs.List.{All, AllByRecursion, AllPairs, Contains, list_any}
use Rattle.std.proofs.lemmas.List.{length-append, get_or_append_left}
use Rattle.std.proofs.lemmas.List.Elements.{All-nil, All-cons, Contains-append_right}
use Rattle.std.proofs.Math.Seq.{get_or-append_seam}
use Rattle.pm_base.proofs.Booleans.{neither}

-- an element other than the first one is among the later ones
pub contains_later : {X : Type 0} (first : X) (xs : List X) (x : X) → first ≢ x → Contains (first ∷ xs) x → Contains xs x
contains_later {X} first xs x differ has = at has.0 has.1 has.2
  where
    at : (k : ℕ) → k < length (first ∷ xs) → get_or (first ∷ xs) k x ≡ x → Contains xs x
    at zero within here = absurd (differ here)
    at (suc k) within here = (k, omega arith, here)

-- where it is known of any two elements whether they are the same, it is known whether a list has one
pub contains_or_not : {X : Type 0} → ((x y : X) → (x ≡ y) ⊎ (x ≢ y)) → (xs : List X) (x : X) → Contains xs x ⊎ (Contains xs x → ⊥)
contains_or_not same [] x = inr (λ (has : Contains [] x). absurd (omega (arith, has.1)))
contains_or_not same (first ∷ xs) x =
    elim (same first x) [
      | inl here ↦ inl (0, omega arith, here)
      | inr differ ↦ elim (contains_or_not same xs x) [
        | inl has ↦ inl (Contains-append_right (first ∷ []) xs x has)
        | inr hasnt ↦ inr (λ (has : Contains (first ∷ xs) x). hasnt (contains_later first xs x differ has))
      ]
    ]

-- a list doesn't have what all of its elements differ from
pub not_among : {X : Type 0} (xs : List X) (x : X) → All (λ y. y ≢ x) xs → Contains xs x → ⊥
not_among xs x all has = all has.0 x has.1 has.2

-- no two elements of an empty list
pub no_pairs : {X : Type 0} (R : X → X → Type 0) → AllPairs R []
no_pairs R i j d before within = absurd (omega arith)

-- what holds of each element of two lists holds of each of both together
pub AllByRecursion-append : {X : Type 0} (P : X → Type 0) (xs ys : List X) → AllByRecursion P xs → AllByRecursion P ys → AllByRecursion P (xs ++ ys)
AllByRecursion-append P [] ys p q = q
AllByRecursion-append P (x ∷ xs) ys p q = (p.0, AllByRecursion-append P xs ys p.1 q)

-- what holds of each two elements holds of the earlier ones against the next
pub earlier_ones : {X : Type 0} (R : X → X → Type 0) (earlier : List X) (x : X) (rest : List X) → AllPairs R (earlier ++ x ∷ rest) → All (λ e. R e x) earlier
earlier_ones R earlier x rest pairs k d within =
    let here : R (get_or (earlier ++ x ∷ rest) k d) (get_or (earlier ++ x ∷ rest) (length earlier) d) = pairs k (length earlier) d within (omega (arith, length-append earlier (x ∷ rest))) in
    rw (get_or_append_left earlier (x ∷ rest) d k within, get_or-append_seam earlier x rest d) at here

pub next_one : {X : Type 0} (P : X → Type 0) (earlier : List X) (x : X) (rest : List X) → All P (earlier ++ x ∷ rest) → P x
next_one P earlier x rest all =
    let here : P (get_or (earlier ++ x ∷ rest) (length earlier) x) = all (length earlier) x (omega (arith, length-append earlier (x ∷ rest))) in
    rw (get_or-append_seam earlier x rest x) at here

-- where no element passes a test, each fails it
pub each_fails : {X : Type 0} (test : X → Bool) (xs : List X) → list_any test xs ≡ false → All (λ x. test x ≡ false) xs
each_fails test [] none = All-nil (λ x. test x ≡ false)
each_fails test (x ∷ xs) none =
    let parts = neither (test x) (list_any test xs) none in
    All-cons (λ x. test x ≡ false) x xs parts.0 (each_fails test xs parts.1)
