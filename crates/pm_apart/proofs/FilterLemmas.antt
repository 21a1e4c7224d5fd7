-- Lists filtered by a test.
use Rattle.std.proofs.Common.{◌≡◌, Bool, true, false, cond, List, [], ◌∷◌, ◌++◌, refl, ap, sym, ◌∙◌}
use Rattle.std.specs.Prelude.{filter, flat_map, map}
use Rattle.std.proofs.lemmas.List.Elements.{filter-append}

-- mapping and then filtering is filtering by the same test before, and then mapping
pub filter_made : {X Y : Type 0} (test : Y → Bool) (p : X → Bool) (f : X → Y) → ((x : X) → test (f x) ≡ p x) → (xs : List X)
    → filter test (map f xs) ≡ map f (filter p xs)
filter_made test p f same [] = refl
filter_made {X} {Y} test p f same (x ∷ xs) =
    ap (λ b. cond b (f x ∷ filter test (map f xs)) (filter test (map f xs))) (same x) ∙ at (p x) (filter_made test p f same xs)
  where
    at : (b : Bool) → filter test (map f xs) ≡ map f (filter p xs)
        → cond b (f x ∷ filter test (map f xs)) (filter test (map f xs)) ≡ map f (cond b (x ∷ filter p xs) (filter p xs))
    at true later = ap (λ ys. f x ∷ ys) later
    at false later = later

-- what fails is left out, and what passes is kept
pub left_out : {X : Type 0} (p : X → Bool) (x : X) (xs : List X) → p x ≡ false → filter p (x ∷ xs) ≡ filter p xs
left_out p x xs fails = ap (λ b. cond b (x ∷ filter p xs) (filter p xs)) fails

pub kept_in : {X : Type 0} (p : X → Bool) (x : X) (xs : List X) → p x ≡ true → filter p (x ∷ xs) ≡ x ∷ filter p xs
kept_in p x xs passes = ap (λ b. cond b (x ∷ filter p xs) (filter p xs)) passes

-- equal findings in both parts of two lists are equal findings in the whole
pub parts_alike : {X : Type 0} (p : X → Bool) (a b c d : List X) → filter p a ≡ filter p c → filter p b ≡ filter p d
    → filter p (a ++ b) ≡ filter p (c ++ d)
parts_alike p a b c d first second =
    filter-append p a b
    ∙ (ap (λ xs. xs ++ filter p b) first
    ∙ (ap (λ xs. filter p c ++ xs) second ∙ sym (filter-append p c d)))

-- two lists without a finding have none when joined
pub none_of_both : {X : Type 0} (p : X → Bool) (a b : List X) → filter p a ≡ [] → filter p b ≡ [] → filter p (a ++ b) ≡ []
none_of_both p a b first second = parts_alike p a b [] [] first second

-- the same passes of what two functions make of each element
pub made_alike : {X Y : Type 0} (p : Y → Bool) (f g : X → List Y) → ((x : X) → filter p (f x) ≡ filter p (g x)) → (xs : List X)
    → filter p (flat_map f xs) ≡ filter p (flat_map g xs)
made_alike p f g same [] = refl
made_alike p f g same (x ∷ xs) = parts_alike p (f x) (flat_map f xs) (g x) (flat_map g xs) (same x) (made_alike p f g same xs)

-- the findings among elements made of two lists are equal if those made of the second ones are
pub after_alike : {X Y : Type 0} (p : Y → Bool) (f : X → Y) (xs ys zs : List X) → filter p (map f ys) ≡ filter p (map f zs)
    → filter p (map f (xs ++ ys)) ≡ filter p (map f (xs ++ zs))
after_alike p f [] ys zs same = same
after_alike p f (x ∷ xs) ys zs same = ap (λ later. cond (p (f x)) (f x ∷ later) later) (after_alike p f xs ys zs same)

-- they are the findings of the first list, if the second has none
pub none_after : {X Y : Type 0} (p : Y → Bool) (f : X → Y) (xs ys : List X) → filter p (map f ys) ≡ []
    → filter p (map f (xs ++ ys)) ≡ filter p (map f xs)
none_after p f [] ys none = none
none_after p f (x ∷ xs) ys none = ap (λ later. cond (p (f x)) (f x ∷ later) later) (none_after p f xs ys none)
