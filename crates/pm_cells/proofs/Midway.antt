-- A list in the middle of a pass.
use Rattle.std.proofs.Common.{◌≡◌, ℕ, zero, suc, ◌+◌, ◌<◌, ◌≤◌, Bool, true, false, ◌||◌, List, [], ◌∷◌, map, length, drop, Some, refl, sym, ◌∙◌, ap, arith}
use Rattle.std.specs.Prelude.{slice_get, slice_set, count_by}
use Rattle.std.specs.List.{list_any}
use Rattle.pm_base.proofs.ListLemmas.{drop_found}
use Rattle.pm_base.proofs.Counts.{count_by-cons}
use Rattle.pm_cells.specs.Midway.{midway}
use Rattle.pm_cells.proofs.Counting.{one_if}

pub midway_get : {X Y : Type 0} (f g : X → Y) (xs : List X) (k : ℕ) (x : X) → slice_get xs k ≡ Some x
    → slice_get (midway f g k xs) k ≡ Some (g x)
midway_get f g [] k x at = cc
midway_get f g (z ∷ xs) zero x at = let is : z ≡ x = cc in ap (λ w. Some (g w)) is
midway_get f g (z ∷ xs) (suc k) x at = midway_get f g xs k x at

set_suc : {X Y : Type 0} (f g : X → Y) (xs : List X) (k : ℕ) (x : X) → slice_get xs k ≡ Some x
    → slice_set (midway f g k xs) k (f x) ≡ midway f g (suc k) xs
set_suc f g [] k x at = cc
set_suc f g (z ∷ xs) zero x at = let is : z ≡ x = cc in ap (λ w. f w ∷ map g xs) (sym is)
set_suc f g (z ∷ xs) (suc k) x at = ap (λ ys. f z ∷ ys) (set_suc f g xs k x at)

same_suc : {X Y : Type 0} (f g : X → Y) (xs : List X) (k : ℕ) (x : X) → slice_get xs k ≡ Some x → f x ≡ g x
    → midway f g k xs ≡ midway f g (suc k) xs
same_suc f g [] k x at is = cc
same_suc f g (z ∷ xs) zero x at is =
    let here : z ≡ x = cc in
    let alike : g z ≡ f z = ap g here ∙ sym is ∙ ap f (sym here) in
    ap (λ y. y ∷ map g xs) alike
same_suc f g (z ∷ xs) (suc k) x at is = ap (λ ys. f z ∷ ys) (same_suc f g xs k x at is)

-- the element at the place is done
pub midway_set : {X Y : Type 0} (f g : X → Y) (xs : List X) (k : ℕ) (x : X) → slice_get xs k ≡ Some x
    → slice_set (midway f g k xs) k (f x) ≡ midway f g (k + 1) xs
midway_set f g xs k x at =
    let next : suc k ≡ k + 1 = omega arith in
    set_suc f g xs k x at ∙ ap (λ n. midway f g n xs) next

-- or it stays as it was
pub midway_same : {X Y : Type 0} (f g : X → Y) (xs : List X) (k : ℕ) (x : X) → slice_get xs k ≡ Some x → f x ≡ g x
    → midway f g k xs ≡ midway f g (k + 1) xs
midway_same f g xs k x at is =
    let next : suc k ≡ k + 1 = omega arith in
    same_suc f g xs k x at is ∙ ap (λ n. midway f g n xs) next

map_both : {X Y Z : Type 0} (h : Y → Z) (g : X → Y) (xs : List X) → map h (map g xs) ≡ map (λ x. h (g x)) xs
map_both h g [] = refl
map_both h g (x ∷ xs) = ap (λ ys. h (g x) ∷ ys) (map_both h g xs)

pub midway_map : {X Y Z : Type 0} (h : Y → Z) (f g : X → Y) (xs : List X) (k : ℕ)
    → map h (midway f g k xs) ≡ midway (λ x. h (f x)) (λ x. h (g x)) k xs
midway_map h f g xs zero = map_both h g xs
midway_map h f g [] (suc k) = refl
midway_map h f g (x ∷ xs) (suc k) = ap (λ ys. h (f x) ∷ ys) (midway_map h f g xs k)

pub midway_len : {X Y : Type 0} (f g : X → Y) (xs : List X) (k : ℕ) → length (midway f g k xs) ≡ length xs
midway_len f g [] zero = refl
midway_len f g [] (suc k) = refl
midway_len f g (x ∷ xs) zero = ap suc (midway_len f g xs zero)
midway_len f g (x ∷ xs) (suc k) = ap suc (midway_len f g xs k)

-- what no change of an element moves
pub midway_count : {X Y : Type 0} (p : Y → Bool) (q : X → Bool) (f g : X → Y) → ((x : X) → p (f x) ≡ q x) → ((x : X) → p (g x) ≡ q x)
    → (xs : List X) (k : ℕ) → count_by p (midway f g k xs) ≡ count_by q xs
midway_count p q f g one two [] zero = refl
midway_count p q f g one two [] (suc k) = refl
midway_count p q f g one two (x ∷ xs) zero =
    count_by-cons p (g x) (map g xs)
    ∙ (ap (λ b. one_if b + count_by p (map g xs)) (two x)
    ∙ (ap (λ n. one_if (q x) + n) (midway_count p q f g one two xs zero) ∙ sym (count_by-cons q x xs)))
midway_count p q f g one two (x ∷ xs) (suc k) =
    count_by-cons p (f x) (midway f g k xs)
    ∙ (ap (λ b. one_if b + count_by p (midway f g k xs)) (one x)
    ∙ (ap (λ n. one_if (q x) + n) (midway_count p q f g one two xs k) ∙ sym (count_by-cons q x xs)))

pub midway_any : {X Y : Type 0} (p : Y → Bool) (q : X → Bool) (f g : X → Y) → ((x : X) → p (f x) ≡ q x) → ((x : X) → p (g x) ≡ q x)
    → (xs : List X) (k : ℕ) → list_any p (midway f g k xs) ≡ list_any q xs
midway_any p q f g one two [] zero = refl
midway_any p q f g one two [] (suc k) = refl
midway_any p q f g one two (x ∷ xs) zero =
    let later = midway_any p q f g one two xs zero in
    ap (λ b. b || list_any p (map g xs)) (two x) ∙ ap (λ b. q x || b) later
midway_any p q f g one two (x ∷ xs) (suc k) =
    ap (λ b. b || list_any p (midway f g k xs)) (one x) ∙ ap (λ b. q x || b) (midway_any p q f g one two xs k)

pub map_same : {X : Type 0} (f : X → X) → ((x : X) → f x ≡ x) → (xs : List X) → map f xs ≡ xs
map_same f is [] = refl
map_same f is (x ∷ xs) = let here = is x in let later = map_same f is xs in cc

pub midway_end : {X Y : Type 0} (f g : X → Y) (xs : List X) (k : ℕ) → k ≡ length xs → midway f g k xs ≡ map f xs
midway_end f g [] zero is = refl
midway_end f g [] (suc k) is = refl
midway_end f g (x ∷ xs) zero is = absurd (omega arith)
midway_end f g (x ∷ xs) (suc k) is = ap (λ ys. f x ∷ ys) (midway_end f g xs k (omega arith))

pub there : {X : Type 0} (xs : List X) (k : ℕ) → k < length xs → (x : X) × (slice_get xs k ≡ Some x)
there [] k within = absurd (omega arith)
there (x ∷ xs) zero within = (x, refl)
there (x ∷ xs) (suc k) within = there xs k (omega arith)

-- ---- whether one passes, element by element

any_at : {X : Type 0} (p : X → Bool) (xs : List X) (k : ℕ) (x : X) → slice_get xs k ≡ Some x
    → list_any p (drop k xs) ≡ (p x || list_any p (drop (k + 1) xs))
any_at p xs k x at = ap (list_any p) (drop_found xs k x at)

pub any_hit : {X : Type 0} (p : X → Bool) (xs : List X) (k : ℕ) (x : X) → slice_get xs k ≡ Some x → p x ≡ true
    → list_any p (drop k xs) ≡ true
any_hit p xs k x at is = any_at p xs k x at ∙ ap (λ b. b || list_any p (drop (k + 1) xs)) is

pub any_miss : {X : Type 0} (p : X → Bool) (xs : List X) (k : ℕ) (x : X) → slice_get xs k ≡ Some x → p x ≡ false
    → list_any p (drop (k + 1) xs) ≡ list_any p (drop k xs)
any_miss p xs k x at is = sym (any_at p xs k x at ∙ ap (λ b. b || list_any p (drop (k + 1) xs)) is)

pub any_end : {X : Type 0} (p : X → Bool) (xs : List X) (k : ℕ) → length xs ≤ k → list_any p (drop k xs) ≡ false
any_end p [] zero past = refl
any_end p [] (suc k) past = refl
any_end p (x ∷ xs) zero past = absurd (omega arith)
any_end p (x ∷ xs) (suc k) past = any_end p xs k (omega arith)
