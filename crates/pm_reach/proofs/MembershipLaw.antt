-- Members are put in one by one.
use Rattle.std.proofs.Common.{◌≡◌, ℕ, ◌+◌, ◌-◌, ◌<◌, Bool, true, false, cond, suc, Option, Some, None, List, [], ◌∷◌, ◌++◌, find, position, append_assoc, refl, ap, sym, ◌∙◌, arith}
use Rattle.std.specs.List.{list_any, filter_map, range_with_len, cons_option}
use Rattle.pm_base.proofs.ListLemmas.{find-None}
use Rattle.pm_reach.specs.declared.members.Member.{Member}

-- ---- one more member

-- the places from one on
range_next : (place n : ℕ) → place < n → range_with_len place (n - place) ≡ place ∷ range_with_len (place + 1) (n - (place + 1))
range_next place n less =
    let more : n - place ≡ suc (n - (place + 1)) = omega arith in
    ap (λ k. range_with_len place k) more

-- what the places from one on make, with the member of the first put in, or with none
pub puts : (f : ℕ → Option Member) (before after whole : List Member) (place n : ℕ) (m : Member)
    → place < n
    → before ++ filter_map f (range_with_len place (n - place)) ≡ whole
    → f place ≡ Some m
    → after ≡ before ++ m ∷ []
    → after ++ filter_map f (range_with_len (place + 1) (n - (place + 1))) ≡ whole
puts f before after whole place n m less so made is =
    let rest : List Member = filter_map f (range_with_len (place + 1) (n - (place + 1))) in
    let all : filter_map f (range_with_len place (n - place)) ≡ m ∷ rest =
    ap (λ places. filter_map f places) (range_next place n less) ∙ ap (λ o. cons_option o rest) made in
    let one : after ++ rest ≡ before ++ (m ∷ rest) = ap (λ l. l ++ rest) is ∙ append_assoc before (m ∷ []) rest in
    one ∙ ap (λ l. before ++ l) (sym all) ∙ so

pub puts_none : (f : ℕ → Option Member) (before after whole : List Member) (place n : ℕ)
    → place < n
    → before ++ filter_map f (range_with_len place (n - place)) ≡ whole
    → f place ≡ None
    → after ≡ before
    → after ++ filter_map f (range_with_len (place + 1) (n - (place + 1))) ≡ whole
puts_none f before after whole place n less so made is =
    let rest : List Member = filter_map f (range_with_len (place + 1) (n - (place + 1))) in
    let all : filter_map f (range_with_len place (n - place)) ≡ rest =
    ap (λ places. filter_map f places) (range_next place n less) ∙ ap (λ o. cons_option o rest) made in
    ap (λ l. l ++ rest) is ∙ ap (λ l. before ++ l) (sym all) ∙ so

-- ---- the master whose reach it is

none_found : {X : Type 0} (p : X → Bool) (xs : List X) → find p xs ≡ None → list_any p xs ≡ false
none_found p [] e = refl
none_found {X} p (x ∷ xs) e = at (p x) refl e (none_found p xs)
  where
    at : (b : Bool)
        → p x ≡ b
        → ◌≡◌ {A = Option X} (cond b (Some x) (find p xs)) None
        → (find p xs ≡ None → list_any p xs ≡ false)
        → list_any p (x ∷ xs) ≡ false
    at true here e later = absurd cc
    at false here e later = rw here (later e)

pub is_there : {X : Type 0} (p : X → Bool) (xs : List X) → list_any p xs ≡ true → position p xs ≡ None → ⊥
is_there p xs any none = let e = none_found p xs (find-None p xs none) in absurd cc
