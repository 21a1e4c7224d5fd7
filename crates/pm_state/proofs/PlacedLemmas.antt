-- Lists that are made of each entry of a list and its place.
use Rattle.std.proofs.Common.{◌≡◌, ℕ, ◌+◌, ◌<◌, List, [], ◌∷◌, ◌++◌, length, take, drop, set, get_or, slice_get, Some, refl, zero, suc, arith, ap, sym, ◌∙◌, append_assoc}
use Rattle.std.specs.Prelude.{option_map, unwrap_or}
use Rattle.std.proofs.lemmas.Grind.{drop_more_same}
use Rattle.std.proofs.lemmas.List.{drop-set-lt, get_or-drop, take_more_set}
use Rattle.std.proofs.lemmas.Option.{unwrap_or-slice_get}
use Rattle.pm_base.proofs.ListLemmas.{drop_found}
use Rattle.pm_state.specs.Values.{placed}

pub slice_get-placed : {X Y : Type 0} (f : ℕ → X → Y) (k : ℕ) (xs : List X) (i at : ℕ) → at ≡ k + i → slice_get (placed f k xs) i ≡ option_map (f at) (slice_get xs i)
slice_get-placed f k [] i at is = refl
slice_get-placed f k (x ∷ xs) zero at is = let same : k ≡ at = omega arith in ap (λ n. Some (f n x)) same
slice_get-placed f k (x ∷ xs) (suc i) at is = slice_get-placed f (k + 1) xs i at (omega arith)

pub length-placed : {X Y : Type 0} (f : ℕ → X → Y) (k : ℕ) (xs : List X) → length (placed f k xs) ≡ length xs
length-placed f k [] = refl
length-placed f k (x ∷ xs) = let later : length (placed f (k + 1) xs) ≡ length xs = length-placed f (k + 1) xs in omega arith

-- one more entry is written, and those that are left make the whole with it
pub placed_step : {X Y : Type 0} (f : ℕ → X → Y) (xs : List X) (ys : List Y) (s : ℕ) (x : X) (y : Y) (whole : List Y) → slice_get xs s ≡ Some x → s < length ys → y ≡ f s x → take s ys ++ placed f s (drop s xs) ≡ whole → take (s + 1) (set ys s y) ++ placed f (s + 1) (drop (s + 1) xs) ≡ whole
placed_step f xs ys s x y whole found within is before =
    let front : take (s + 1) (set ys s y) ≡ take s ys ++ y ∷ [] = take_more_set ys s y within in
    let left : drop s xs ≡ x ∷ drop (s + 1) xs = drop_found xs s x found in
    let was : take s ys ++ (f s x ∷ placed f (s + 1) (drop (s + 1) xs)) ≡ whole = ap (λ zs. take s ys ++ placed f s zs) (sym left) ∙ before in
    ap (λ zs. zs ++ placed f (s + 1) (drop (s + 1) xs)) front
    ∙ (append_assoc (take s ys) (y ∷ []) (placed f (s + 1) (drop (s + 1) xs))
    ∙ (ap (λ z. take s ys ++ (z ∷ placed f (s + 1) (drop (s + 1) xs))) is ∙ was))

-- what is left of two lists from a place on begins alike
pub same_at : {X : Type 0} (xs ys : List X) (m : ℕ) (d : X) → drop m xs ≡ drop m ys → unwrap_or (slice_get xs m) d ≡ unwrap_or (slice_get ys m) d
same_at xs ys m d same =
    let none_more : m + 0 ≡ m = omega arith in
    let first : get_or xs m d ≡ get_or (drop m xs) 0 d = ap (λ k. get_or xs k d) (sym none_more) ∙ sym (get_or-drop m xs 0 d) in
    let second : get_or (drop m ys) 0 d ≡ get_or ys m d = get_or-drop m ys 0 d ∙ ap (λ k. get_or ys k d) none_more in
    unwrap_or-slice_get xs m d ∙ (first ∙ (ap (λ l. get_or l 0 d) same ∙ (second ∙ sym (unwrap_or-slice_get ys m d))))

-- and is alike from the next place on, whatever is written at that place
pub rest_after : {X : Type 0} (xs ys : List X) (m : ℕ) (y : X) → drop m xs ≡ drop m ys → drop (m + 1) (set xs m y) ≡ drop (m + 1) ys
rest_after xs ys m y same = drop-set-lt (m + 1) xs m y (omega arith) ∙ drop_more_same xs ys m same
