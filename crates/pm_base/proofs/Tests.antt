-- Tests over the elements of a list, by their places.
use Rattle.std.proofs.Common.{◌≡◌, ℕ, Bool, true, false, ◌||◌, ◌&&◌, List, [], ◌∷◌, map, slice_get, Some, refl, zero, suc, ap, ◌∙◌, inl, inr}
use Rattle.std.specs.List.{list_any, list_all}
use Rattle.pm_base.proofs.Booleans.{neither, none_of, either, first_passes, later_passes}

pub present_at : {X : Type 0} (p : X → Bool) (xs : List X)
    → list_any p xs ≡ true
    → (k : ℕ) × (x : X) × (slice_get xs k ≡ Some x) × (p x ≡ true)
present_at p [] e = cc
present_at p (y ∷ ys) e =
    elim (either (p y) _ e) [
      | inl here ↦ (zero, y, refl, here)
      | inr later ↦ let found = present_at p ys later in (suc found.0, found.1, found.2, found.3)
    ]

pub present_from : {X : Type 0} (p : X → Bool) (xs : List X) (k : ℕ) (x : X)
    → slice_get xs k ≡ Some x → p x ≡ true
    → list_any p xs ≡ true
present_from p [] k x here holds = cc
present_from p (y ∷ ys) zero x here holds = first_passes (p y) _ (let e : y ≡ x = cc in ap p e ∙ holds)
present_from p (y ∷ ys) (suc k) x here holds = later_passes (p y) _ (present_from p ys k x here holds)

pub absent_at : {X : Type 0} (p : X → Bool) (xs : List X)
    → list_any p xs ≡ false
    → (k : ℕ) (x : X) → slice_get xs k ≡ Some x → p x ≡ false
absent_at p [] e k x here = cc
absent_at p (y ∷ ys) e zero x here = let parts = neither (p y) _ e in cc
absent_at p (y ∷ ys) e (suc k) x here = absent_at p ys ((neither (p y) _ e).1) k x here

pub absent_from : {X : Type 0} (p : X → Bool) (xs : List X)
    → ((k : ℕ) (x : X) → slice_get xs k ≡ Some x → p x ≡ false)
    → list_any p xs ≡ false
absent_from p [] each = refl
absent_from p (y ∷ ys) each = none_of (p y) _ (each zero y refl) (absent_from p ys (λ k x here. each (suc k) x here))

-- a test of what a function makes of each element
pub any-map : {X Y : Type 0} (q : Y → Bool) (f : X → Y) (xs : List X) → list_any q (map f xs) ≡ list_any (λ x. q (f x)) xs
any-map q f [] = refl
any-map q f (x ∷ xs) = ap (λ b. q (f x) || b) (any-map q f xs)

-- tests that agree on each element
pub list_all-same : {X : Type 0} (p q : X → Bool) → ((x : X) → p x ≡ q x) → (xs : List X) → list_all p xs ≡ list_all q xs
list_all-same p q same [] = refl
list_all-same p q same (x ∷ xs) = ap (λ b. b && list_all p xs) (same x) ∙ ap (λ b. q x && b) (list_all-same p q same xs)

pub list_any-same : {X : Type 0} (p q : X → Bool) → ((x : X) → p x ≡ q x) → (xs : List X) → list_any p xs ≡ list_any q xs
list_any-same p q same [] = refl
list_any-same p q same (x ∷ xs) = ap (λ b. b || list_any p xs) (same x) ∙ ap (λ b. q x || b) (list_any-same p q same xs)
