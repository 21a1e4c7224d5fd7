-- What a search by place answers: the first element that passes, or nothing where none does.
use Rattle.std.proofs.Common.{◌≡◌, ℕ, ◌<◌, ◌≤◌, Bool, true, false, Some, None, List, [], ◌∷◌, length, slice_get, get_or, refl, arith, ap, sym, ◌∙◌, position, cond, nat_lt}
use Rattle.std.specs.List.{position_or_len}
use Rattle.std.proofs.lemmas.Bool.{ltb-false}
use Rattle.std.proofs.lemmas.List.Sums.{fails_before_first}
use Rattle.std.proofs.lemmas.List.Quantifiers.{position-Some}
use Rattle.std.proofs.lemmas.Option.{slice_get-get_or, slice_get_within, get_or_from_slice_get}

-- the element at the place that is answered passes, and no earlier one does
pub record IsFirst {X : Type 0} (p : X → Bool) (xs : List X) (k : ℕ) : Type 0 where
  pub element : X
  pub here : slice_get xs k ≡ Some element
  pub passes : p element ≡ true
  pub least : (j : ℕ) (earlier : X) → j < k → slice_get xs j ≡ Some earlier → p earlier ≡ false

pub position-first : {X : Type 0} (p : X → Bool) (xs : List X) (k : ℕ) → position p xs ≡ Some k → IsFirst p xs k
position-first p [] k e = cc
position-first p (x ∷ xs) k e =
    let at = position-Some p (x ∷ xs) k x e in
    record {
      element = get_or (x ∷ xs) k x;
      here = slice_get-get_or (x ∷ xs) k x at.0;
      passes = at.1;
      least = λ j earlier before there. ap p (sym (get_or_from_slice_get (x ∷ xs) j earlier x there)) ∙ at.2 j before;
    }

past : (first len : ℕ) (b : Bool) → nat_lt first len ≡ b → cond b (Some first) None ≡ None → len ≤ first
past first len false is e = ltb-false first len is
past first len true is e = cc

-- where nothing is answered no element passes
pub position-none : {X : Type 0} (p : X → Bool) (xs : List X)
    → position p xs ≡ None
    → (k : ℕ) (x : X) → slice_get xs k ≡ Some x → p x ≡ false
position-none p xs e k x here =
    let all = past (position_or_len p xs) (length xs) _ refl e in
    let within = slice_get_within xs k x here in
    let fails = fails_before_first p xs k x (omega arith) in
    ap p (sym (get_or_from_slice_get xs k x x here)) ∙ fails
