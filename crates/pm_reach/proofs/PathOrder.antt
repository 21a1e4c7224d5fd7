-- The order of paths: it is transitive, and one more step keeps it.
use Rattle.std.proofs.Common.{◌≡◌, ℕ, ◌<◌, ◌==◌, inl, inr, true, nat_lt, List, [], ◌∷◌, ◌++◌, length, refl, sym, ◌∙◌, arith, subst}
use Rattle.std.proofs.lemmas.Bool.{eqb-true}
use Rattle.std.proofs.lemmas.Bool.Decides.{nat_tests}
use Rattle.std.proofs.lemmas.List.{length-append}
use Rattle.pm_base.proofs.Booleans.{both, pair_of, either, first_passes, later_passes, equal}
use Rattle.pm_reach.specs.Paths.{is_lower, comes_before}

less_through : (a b c : ℕ) → nat_lt a b ≡ true → nat_lt b c ≡ true → nat_lt a c ≡ true
less_through a b c e f = grind (arith, nat_tests)

-- ---- paths of one length

is_lower-step : (p q x y : List ℕ) → is_lower p q ≡ true → is_lower (p ++ x) (q ++ y) ≡ true
is_lower-step [] q x y lower = cc
is_lower-step (a ∷ p) [] x y lower = cc
is_lower-step (a ∷ p) (b ∷ q) x y lower =
    elim (either (nat_lt a b) _ lower) [
      | inl less ↦ first_passes (nat_lt a b) _ less
      | inr rest ↦ (let parts = both (a == b) _ rest in
          later_passes (nat_lt a b) _ (pair_of (a == b) _ parts.0 (is_lower-step p q x y parts.1)))
    ]

is_lower-last : (p : List ℕ) (j k : ℕ) → nat_lt j k ≡ true → is_lower (p ++ j ∷ []) (p ++ k ∷ []) ≡ true
is_lower-last [] j k less = first_passes (nat_lt j k) _ less
is_lower-last (a ∷ p) j k less =
    later_passes (nat_lt a a) _ (pair_of (a == a) _ (equal a a refl) (is_lower-last p j k less))

is_lower-through : (p q r : List ℕ) → is_lower p q ≡ true → is_lower q r ≡ true → is_lower p r ≡ true
is_lower-through [] q r e f = cc
is_lower-through (a ∷ p) [] r e f = cc
is_lower-through (a ∷ p) (b ∷ q) [] e f = cc
is_lower-through (a ∷ p) (b ∷ q) (c ∷ r) e f =
    elim (either (nat_lt a b) _ e) [
      | inl less ↦ (elim (either (nat_lt b c) _ f) [
        | inl more ↦ first_passes (nat_lt a c) _ (less_through a b c less more)
        | inr rest ↦ (let same = eqb-true b c (both (b == c) _ rest).0 in
            let P : ℕ → Type 0 = λ n. nat_lt a n ≡ true in
            first_passes (nat_lt a c) _ (subst P same less))
      ])
      | inr rest ↦ (let parts = both (a == b) _ rest in
          let same = eqb-true a b parts.0 in
          elim (either (nat_lt b c) _ f) [
            | inl more ↦ (let P : ℕ → Type 0 = λ n. nat_lt n c ≡ true in
                first_passes (nat_lt a c) _ (subst P (sym same) more))
            | inr later ↦ (let ends = both (b == c) _ later in
                let through = equal a c (same ∙ eqb-true b c ends.0) in
                later_passes (nat_lt a c) _ (pair_of (a == c) _ through (is_lower-through p q r parts.1 ends.1)))
          ])
    ]

-- ---- paths

-- one path comes before another
pub data Before (p q : List ℕ) : Type 0 where
  shorter : length p < length q → Before p q
  lower : length p ≡ length q → is_lower p q ≡ true → Before p q

before : (p q : List ℕ) → comes_before p q ≡ true → Before p q
before p q e =
    elim (either (nat_lt (length p) (length q)) _ e) [
      | inl less ↦ shorter (grind (arith, nat_tests))
      | inr rest ↦ (let parts = both (length p == length q) _ rest in
          lower (eqb-true (length p) (length q) parts.0) parts.1)
    ]

is_before : (p q : List ℕ) → Before p q → comes_before p q ≡ true
is_before p q (shorter less) = first_passes (nat_lt (length p) (length q)) _ (grind (arith, nat_tests))
is_before p q (lower same less) =
    later_passes (nat_lt (length p) (length q)) _ (pair_of (length p == length q) _ (equal _ _ same) less)

through : (p q r : List ℕ) → Before p q → Before q r → Before p r
through p q r (shorter e) (shorter f) = shorter (omega arith)
through p q r (shorter e) (lower same f) = shorter (omega arith)
through p q r (lower same e) (shorter f) = shorter (omega arith)
through p q r (lower e less) (lower f more) = lower (e ∙ f) (is_lower-through p q r less more)

pub before-through : (p q r : List ℕ) → comes_before p q ≡ true → comes_before q r ≡ true → comes_before p r ≡ true
before-through p q r e f = is_before p r (through p q r (before p q e) (before q r f))

steps : (p q : List ℕ) (j k : ℕ) → Before p q → Before (p ++ j ∷ []) (q ++ k ∷ [])
steps p q j k (shorter less) = shorter (omega (arith, length-append p (j ∷ []), length-append q (k ∷ [])))
steps p q j k (lower same less) =
    lower (omega (arith, length-append p (j ∷ []), length-append q (k ∷ []))) (is_lower-step p q (j ∷ []) (k ∷ []) less)

-- of two paths the first stays first, whatever step each takes
pub before-step : (p q : List ℕ) (j k : ℕ) → comes_before p q ≡ true → comes_before (p ++ j ∷ []) (q ++ k ∷ []) ≡ true
before-step p q j k e = is_before (p ++ j ∷ []) (q ++ k ∷ []) (steps p q j k (before p q e))

-- of the steps of one path that to the earlier master comes first
pub before-last : (p : List ℕ) (j k : ℕ) → j < k → comes_before (p ++ j ∷ []) (p ++ k ∷ []) ≡ true
before-last p j k less =
    is_before (p ++ j ∷ []) (p ++ k ∷ []) (
    lower (omega (arith, length-append p (j ∷ []), length-append p (k ∷ []))) (is_lower-last p j k (grind (arith, nat_tests)))
    )
