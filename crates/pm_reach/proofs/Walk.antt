-- A walk along a list whose elements come with their places.
use Rattle.std.proofs.Common.{◌≡◌, ℕ, ◌+◌, ◌<◌, Bool, true, false, List, ◌∷◌, length, get_or, drop, drop-cons, add-one, refl, suc, ap, sym, ◌∙◌, subst}
use Rattle.std.specs.List.{list_any, enumerate_from}

-- from a place on: the element there, and those after it
pub from_here : {X : Type 0} (xs : List X) (k : ℕ) (x : X) → k < length xs → x ≡ get_or xs k x → drop k xs ≡ x ∷ drop (k + 1) xs
from_here xs k x within is = rw add-one (drop-cons xs k x within ∙ ap (λ y. y ∷ drop (suc k) xs) (sym is))

next : {X : Type 0} (xs : List X) (k : ℕ) (d : X) → k < length xs
    → enumerate_from k (drop k xs) ≡ (k, get_or xs k d) ∷ enumerate_from (k + 1) (drop (k + 1) xs)
next {X} xs k d within =
    let here : drop k xs ≡ get_or xs k d ∷ drop (k + 1) xs = rw add-one (drop-cons xs k d within) in
    ap (λ ys. enumerate_from k ys) here

-- an element that passes ends the walk
pub passes_here : {X : Type 0} (f : ℕ → X → Bool) (items xs : List X) (k : ℕ) (d : X)
    → items ≡ xs
    → k < length items
    → f k (get_or items k d) ≡ true
    → list_any (λ (e : ℕ × X). f e.0 e.1) (enumerate_from k (drop k xs)) ≡ true
passes_here {X} f items xs k d same within passes =
    let P : List X → Type 0 = λ ys. list_any (λ (e : ℕ × X). f e.0 e.1) (enumerate_from k (drop k ys)) ≡ true in
    subst P same (rw (next items k d within, passes) refl)

-- one that fails leaves it to those after it
pub fails_here : {X : Type 0} (f : ℕ → X → Bool) (items xs : List X) (k : ℕ) (d : X)
    → items ≡ xs
    → k < length items
    → f k (get_or items k d) ≡ false
    → list_any (λ (e : ℕ × X). f e.0 e.1) (enumerate_from k (drop k xs))
    ≡ list_any (λ (e : ℕ × X). f e.0 e.1) (enumerate_from (k + 1) (drop (k + 1) xs))
fails_here {X} f items xs k d same within fails =
    let P : List X → Type 0 = λ ys.
    list_any (λ (e : ℕ × X). f e.0 e.1) (enumerate_from k (drop k ys))
    ≡ list_any (λ (e : ℕ × X). f e.0 e.1) (enumerate_from (k + 1) (drop (k + 1) ys)) in
    subst P same (rw (next items k d within, fails) refl)
