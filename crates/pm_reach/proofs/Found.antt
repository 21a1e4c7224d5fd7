-- Paths found: one more at the end of their list, and how many masters none ends at.
use Rattle.std.proofs.Common.{◌≡◌, ◌≢◌, ℕ, ◌+◌, ◌<◌, ◌≤◌, ◌⊎◌, ◌==◌, ◌||◌, inl, inr, Bool, true, false, cond, zero, suc, Some, List, [], ◌∷◌, ◌++◌, length, slice_get, refl, ap, ◌∙◌, arith, subst}
use Rattle.std.specs.List.{list_any}
use Rattle.std.proofs.lemmas.Bool.{cases_lt}
use Rattle.std.proofs.lemmas.List.Folds.{list_any-append}
use Rattle.pm_base.proofs.Booleans.{equal, unequal}
use Rattle.pm_reach.specs.declared.routes.Route.{Route}
use Rattle.pm_reach.specs.Search.{unfound}

-- ---- one more element at the end of a list

pub pushed : {X : Type 0} (xs : List X) (y : X) (k : ℕ) (x : X)
    → slice_get (xs ++ y ∷ []) k ≡ Some x
    → (slice_get xs k ≡ Some x) ⊎ ((k ≡ length xs) × (x ≡ y))
pushed [] y zero x e = inr (refl, cc)
pushed [] y (suc k) x e = cc
pushed (z ∷ xs) y zero x e = inl e
pushed (z ∷ xs) y (suc k) x e =
    elim (pushed xs y k x e) [ inl old ↦ inl old | inr new ↦ inr (ap suc new.0, new.1) ]

pub pushed_last : {X : Type 0} (xs : List X) (y : X) → slice_get (xs ++ y ∷ []) (length xs) ≡ Some y
pushed_last [] y = refl
pushed_last (x ∷ xs) y = pushed_last xs y

pub the_same : {X : Type 0} (xs : List X) (j k : ℕ) (x y : X) → slice_get xs j ≡ Some x → slice_get xs k ≡ Some y → j ≡ k → x ≡ y
the_same xs j k x y here there same = cc

pub below_or_at : (n k : ℕ) → n < k + 1 → (n < k) ⊎ (n ≡ k)
below_or_at n k h = elim (cases_lt n k) [ inl less ↦ inl less | inr more ↦ inr (omega arith) ]

-- ---- masters that no path found ends at

-- 1 for a master that no path ends at
abbrev bit : List Route → ℕ → ℕ
bit routes n = cond (list_any (λ (x : Route). x.end == n) routes) 0 1

module _ (routes : List Route) (r : Route) where
  any_more : (n : ℕ) → list_any (λ (x : Route). x.end == n) (routes ++ r ∷ []) ≡ (list_any (λ (x : Route). x.end == n) routes || ((r.end == n) || false))
  any_more n = list_any-append (λ (x : Route). x.end == n) routes (r ∷ [])

  same_bit : (a b : Bool) → b ≡ false → (a || (b || false)) ≡ a
  same_bit true b e = refl
  same_bit false b e = cc

  unfound-others : (n : ℕ) → n ≤ r.end → unfound (routes ++ r ∷ []) n ≡ unfound routes n
  unfound-others zero h = refl
  unfound-others (suc n) h =
      let other : r.end ≢ n = omega arith in
      let same = any_more n ∙ same_bit (list_any (λ (x : Route). x.end == n) routes) (r.end == n) (unequal r.end n other) in
      let rest = unfound-others n (omega arith) in
      cc

  pub unfound-more : (n : ℕ) → r.end < n → list_any (λ (x : Route). x.end == r.end) routes ≡ false
      → unfound (routes ++ r ∷ []) n + 1 ≡ unfound routes n
  unfound-more zero h none = absurd (omega arith)
  unfound-more (suc n) h none =
      elim (cases_lt r.end n) [
        | inl less ↦ (let other : r.end ≢ n = omega arith in
            let same = any_more n ∙ same_bit (list_any (λ (x : Route). x.end == n) routes) (r.end == n) (unequal r.end n other) in
            let rest = unfound-more n less none in
            let bits : bit (routes ++ r ∷ []) n ≡ bit routes n = ap (λ b. cond b 0 1) same in
            omega arith)
        | inr more ↦ (let here : r.end ≡ n = omega arith in
            let rest = unfound-others n more in
            let P : ℕ → Type 0 = λ k. list_any (λ (x : Route). x.end == k) routes ≡ false in
            let new : list_any (λ (x : Route). x.end == n) (routes ++ r ∷ []) ≡ true =
            any_more n ∙ found (list_any (λ (x : Route). x.end == n) routes) (r.end == n) (equal r.end n here) in
            let old : list_any (λ (x : Route). x.end == n) routes ≡ false = subst P here none in
            let bits : bit (routes ++ r ∷ []) n ≡ 0 = ap (λ b. cond b 0 1) new in
            let before : bit routes n ≡ 1 = ap (λ b. cond b 0 1) old in
            omega arith)
      ]
    where
      found : (a b : Bool) → b ≡ true → (a || (b || false)) ≡ true
      found true b e = refl
      found false b e = cc

pub unfound-none : (n : ℕ) → unfound [] n ≡ n
unfound-none zero = refl
unfound-none (suc n) = let rest = unfound-none n in omega arith
