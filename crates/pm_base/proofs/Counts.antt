-- How many elements of a list pass a test, and the first one that does.
use Rattle.std.proofs.Common.{◌≡◌, ◌+◌, ◌≤◌, Bool, true, false, cond, List, [], ◌∷◌, ◌++◌, Some, None, refl, sym, ◌∙◌, ap, arith, inl, inr, ◌⊎◌}
use Rattle.std.specs.Prelude.{count_by, find}
use Rattle.std.proofs.lemmas.List.Sums.{sum_by-append, sum_by-cons}

pub count_by-append : {X : Type 0} (p : X → Bool) (xs ys : List X) → count_by p (xs ++ ys) ≡ count_by p xs + count_by p ys
count_by-append p xs ys = sum_by-append _ xs ys

pub count_by-cons : {X : Type 0} (p : X → Bool) (x : X) (xs : List X) → count_by p (x ∷ xs) ≡ cond (p x) 1 0 + count_by p xs
count_by-cons p x xs = sum_by-cons _ x xs

either_at : (p q r : Bool) → (p ≡ true → (q ≡ true) ⊎ (r ≡ true)) → cond p 1 0 ≤ cond q 1 0 + cond r 1 0
either_at false q r either = omega arith
either_at true true r either = omega arith
either_at true false true either = omega arith
either_at true false false either = elim (either refl) [ inl is ↦ cc | inr is ↦ cc ]

-- where each that passes the first test passes one of the others
pub count_by_either : {X : Type 0} (p q r : X → Bool) → ((x : X) → p x ≡ true → (q x ≡ true) ⊎ (r x ≡ true)) → (xs : List X) → count_by p xs ≤ count_by q xs + count_by r xs
count_by_either p q r either [] = omega arith
count_by_either p q r either (x ∷ xs) =
    rw (count_by-cons p x xs, count_by-cons q x xs, count_by-cons r x xs) (omega (arith, count_by_either p q r either xs, either_at (p x) (q x) (r x) (either x)))

-- the first element that passes, and what stands before and after it
pub record Split {X : Type 0} (p : X → Bool) (xs : List X) (x : X) : Type 0 where
  pub front : List X
  pub back : List X
  pub whole : xs ≡ front ++ x ∷ back
  pub passes : p x ≡ true
  pub before : count_by p front ≡ 0

split_at : {X : Type 0} (p : X → Bool) (y : X) (ys : List X) (x : X) → (b : Bool) → p y ≡ b → (find p ys ≡ Some x → Split p ys x) → cond b (Some y) (find p ys) ≡ Some x → Split p (y ∷ ys) x
split_at {X} p y ys x true is later found =
    let same : y ≡ x = cc in
    record { front = []; back = ys; whole = ap (λ z. z ∷ ys) same; passes = ap p (sym same) ∙ is; before = refl }
split_at {X} p y ys x false is later found =
    let rest : Split p ys x = later found in
    record {
      front = y ∷ rest.front;
      back = rest.back;
      whole = ap (λ zs. y ∷ zs) rest.whole;
      passes = rest.passes;
      before = rw (count_by-cons p y rest.front, is) (omega (arith, rest.before));
    }

pub split : {X : Type 0} (p : X → Bool) (xs : List X) (x : X) → find p xs ≡ Some x → Split p xs x
split p [] x found = cc
split p (y ∷ ys) x found = split_at p y ys x (p y) refl (split p ys x) found

none_at : {X : Type 0} (p : X → Bool) (x : X) (xs : List X) → (b : Bool) → cond b (Some x) (find p xs) ≡ None → (find p xs ≡ None → count_by p xs ≡ 0) → cond b 1 0 + count_by p xs ≡ 0
none_at p x xs true none later = cc
none_at p x xs false none later = omega (arith, later none)

-- none passes where none is found
pub count_by_none : {X : Type 0} (p : X → Bool) (xs : List X) → find p xs ≡ None → count_by p xs ≡ 0
count_by_none p [] none = refl
count_by_none p (x ∷ xs) none = rw (count_by-cons p x xs) (none_at p x xs (p x) none (count_by_none p xs))
