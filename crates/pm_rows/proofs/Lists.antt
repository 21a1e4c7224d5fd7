-- Lists whose elements are changed one by one: what passes a test before and afterwards, and how many do.
use Rattle.std.proofs.Common.{◌≡◌, ◌+◌, ◌≤◌, Bool, true, false, ◌&&◌, cond, List, [], ◌∷◌, map, refl, sym, ◌∙◌, ap, arith, ◌⊎◌}
use Rattle.std.specs.Prelude.{count_by}
use Rattle.std.specs.List.{list_all, list_any, AllByRecursion as Each}
use Rattle.std.proofs.lemmas.Bool.{and_parts, and_from}
use Rattle.pm_base.proofs.Booleans.{neither}
use Rattle.pm_base.proofs.Counts.{count_by-cons, count_by_either}

-- what passes a test before passes another one afterwards
pub all_mapped : {X Y : Type 0} (P : X → Type 0) (p : X → Bool) (q : Y → Bool) (f : X → Y)
    → ((x : X) → P x → p x ≡ true → q (f x) ≡ true) → (xs : List X) → Each P xs → list_all p xs ≡ true
    → list_all q (map f xs) ≡ true
all_mapped P p q f keeps [] each all = refl
all_mapped P p q f keeps (x ∷ xs) each all =
    let parts = and_parts (p x) (list_all p xs) all in
    and_from _ _ (keeps x each.0 parts.0) (all_mapped P p q f keeps xs each.1 parts.1)

-- two tests together, and apart again
pub all_both : {X : Type 0} (p q : X → Bool) (xs : List X) → list_all p xs ≡ true → list_all q xs ≡ true
    → list_all (λ x. p x && q x) xs ≡ true
all_both p q [] all other = refl
all_both p q (x ∷ xs) all other =
    let parts = and_parts (p x) (list_all p xs) all in
    let others = and_parts (q x) (list_all q xs) other in
    and_from _ _ (and_from _ _ parts.0 others.0) (all_both p q xs parts.1 others.1)

pub all_first : {X : Type 0} (p q : X → Bool) (xs : List X) → list_all (λ x. p x && q x) xs ≡ true → list_all p xs ≡ true
all_first p q [] all = refl
all_first p q (x ∷ xs) all =
    let parts = and_parts (p x && q x) (list_all (λ x. p x && q x) xs) all in
    and_from _ _ (and_parts (p x) (q x) parts.0).0 (all_first p q xs parts.1)

pub all_second : {X : Type 0} (p q : X → Bool) (xs : List X) → list_all (λ x. p x && q x) xs ≡ true → list_all q xs ≡ true
all_second p q [] all = refl
all_second p q (x ∷ xs) all =
    let parts = and_parts (p x && q x) (list_all (λ x. p x && q x) xs) all in
    and_from _ _ (and_parts (p x) (q x) parts.0).1 (all_second p q xs parts.1)

-- the elements that pass afterwards, counted before
pub count_mapped_same : {X Y : Type 0} (p : Y → Bool) (f : X → Y) (xs : List X) → count_by p (map f xs) ≡ count_by (λ x. p (f x)) xs
count_mapped_same p f [] = refl
count_mapped_same p f (x ∷ xs) =
    count_by-cons p (f x) (map f xs)
    ∙ (ap (λ n. cond (p (f x)) 1 0 + n) (count_mapped_same p f xs) ∙ sym (count_by-cons (λ x. p (f x)) x xs))

-- where each that passes a test afterwards passed one of two before
pub count_mapped : {X Y : Type 0} (p : Y → Bool) (q r : X → Bool) (f : X → Y)
    → ((x : X) → p (f x) ≡ true → (q x ≡ true) ⊎ (r x ≡ true)) → (xs : List X)
    → count_by p (map f xs) ≤ count_by q xs + count_by r xs
count_mapped p q r f either xs = rw (count_mapped_same p f xs) (count_by_either (λ x. p (f x)) q r either xs)

-- a test that implies another counts no more
pub fewer_of : (p q : Bool) → (p ≡ true → q ≡ true) → cond p 1 0 ≤ cond q 1 0
fewer_of false q keeps = omega arith
fewer_of true true keeps = omega arith
fewer_of true false keeps = let is : false ≡ true = keeps refl in cc

-- where each that passes a test afterwards passed another before
pub count_kept : {X Y : Type 0} (p : Y → Bool) (q : X → Bool) (f : X → Y) → ((x : X) → p (f x) ≡ true → q x ≡ true)
    → (xs : List X) → count_by p (map f xs) ≤ count_by q xs
count_kept p q f keeps [] = omega arith
count_kept p q f keeps (x ∷ xs) =
    rw (count_by-cons p (f x) (map f xs), count_by-cons q x xs)
    (omega (arith, count_kept p q f keeps xs, fewer_of (p (f x)) (q x) (keeps x)))

-- a test that no element passes counts none
pub none_passes : {X : Type 0} (p : X → Bool) (xs : List X) → list_any p xs ≡ false → count_by p xs ≡ 0
none_passes p [] none = refl
none_passes p (x ∷ xs) none =
    let parts = neither (p x) (list_any p xs) none in
    rw (count_by-cons p x xs, parts.0) (omega (arith, none_passes p xs parts.1))

-- nothing is asked of each element
pub each_trivial : {X : Type 0} (xs : List X) → Each (λ (x : X). Unit {0}) xs
each_trivial [] = tt
each_trivial (x ∷ xs) = (tt, each_trivial xs)
