-- A unit is found by its own place.
use Rattle.std.proofs.Common.{◌≡◌, ℕ, ◌+◌, ◌<◌, Bool, true, false, not, cond, if◌then◌else◌, nat_lt, Option, Some, None, List, [], ◌∷◌, length, slice_get, refl, sym, ap, ◌∙◌, zero, suc, arith}
use Rattle.std.specs.Prelude.{unwrap_or}
use Rattle.std.specs.List.{list_all, position_or_len}
use Rattle.std.proofs.lemmas.Bool.{both_ways, lt-ltb}
use Rattle.std.proofs.lemmas.Bool.Decides.{nat_tests}
use Rattle.std.proofs.lemmas.Option.{same_Some}
use Rattle.pm_base.proofs.Booleans.{both}
use Rattle.pm_base.proofs.Searches.{position-first}
use Rattle.pm_base.specs.declared.names.Unit.{Unit}
use Rattle.pm_topology.specs.UnitMap.{place_of, units_in, value_of}
use Rattle.pm_topology.specs.Units.{UnitLaws, is_before, rises, same_unit}
use Rattle.pm_record.specs.declared.kept.KeptValue.{KeptValue}
use Rattle.pm_record.specs.Record.{Kept, idle, kept_of}
use Rattle.pm_record.proofs.EntryLemmas.{kept_at, later_is_other}
use Rattle.pm_record.proofs.ListedLemmas.{unit_there}

module _ (laws : UnitLaws) (u : Unit) (kept : Kept) (place : ℕ) (rising : rises (units_in kept) ≡ true) (at : place_of kept u ≡ Some place) where
  pub kept_there : (e : Unit × KeptValue) → slice_get kept place ≡ Some e → e.1 ≡ kept_of kept u
  kept_there e here =
      let first = position-first (λ (e : Unit × KeptValue). same_unit e.0 u) kept place at in
      let is : first.element ≡ e = same_Some first.element e (sym first.here ∙ here) in
      let same : same_unit e.0 u ≡ true = ap (λ (e : Unit × KeptValue). same_unit e.0 u) (sym is) ∙ first.passes in
      sym (kept_at laws kept place e rising here) ∙ ap (kept_of kept) (laws.same e.0 u same)

pub place_there : (u : Unit) (kept : Kept) (place : ℕ) → place_of kept u ≡ Some place → slice_get kept place ≡ None → ⊥
place_there u kept place at none =
    let first = position-first (λ (e : Unit × KeptValue). same_unit e.0 u) kept place at in
    let gone : None ≡ Some first.element = sym none ∙ first.here in
    cc

-- the unit that stands at its place
pub stands_there : UnitLaws → (u : Unit) (kept : Kept) (place : ℕ) (e : Unit × KeptValue) → place_of kept u ≡ Some place → slice_get kept place ≡ Some e → slice_get (units_in kept) place ≡ Some u
stands_there laws u kept place e at here =
    let first = position-first (λ (e : Unit × KeptValue). same_unit e.0 u) kept place at in
    let is : first.element ≡ e = same_Some first.element e (sym first.here ∙ here) in
    let same : same_unit e.0 u ≡ true = ap (λ (e : Unit × KeptValue). same_unit e.0 u) (sym is) ∙ first.passes in
    unit_there kept place e here ∙ ap Some (laws.same e.0 u same)

-- a unit without a place isn't there
past_length : (n m : ℕ) → cond (nat_lt n m) (Some n) None ≡ None → nat_lt n m ≡ false
past_length n m none = at (nat_lt n m) refl
  where
    at : (b : Bool) → nat_lt n m ≡ b → b ≡ false
    at true is = let gone : Some n ≡ None = ap (λ b. cond b (Some n) None) (sym is) ∙ none in cc
    at false is = refl

gone_from : (u : Unit) (kept : Kept) → nat_lt (position_or_len (λ (e : Unit × KeptValue). same_unit e.0 u) kept) (length kept) ≡ false → value_of kept u ≡ None
gone_from u [] none = refl
gone_from u (x ∷ kept) none = at (same_unit x.0 u) refl (gone_from u kept)
  where
    at : (same : Bool) → same_unit x.0 u ≡ same → (nat_lt (position_or_len (λ (e : Unit × KeptValue). same_unit e.0 u) kept) (length kept) ≡ false → value_of kept u ≡ None) → value_of (x ∷ kept) u ≡ None
    at true same later =
        let first : nat_lt 0 (suc (length kept)) ≡ false = ap (λ b. nat_lt (cond (not b) (1 + position_or_len (λ (e : Unit × KeptValue). same_unit e.0 u) kept) 0) (suc (length kept))) (sym same) ∙ none in
        absurd (both_ways (nat_lt 0 (suc (length kept))) first (lt-ltb 0 (suc (length kept)) (omega arith)))
    at false same later =
        let next : nat_lt (1 + position_or_len (λ (e : Unit × KeptValue). same_unit e.0 u) kept) (suc (length kept)) ≡ false =
        ap (λ b. nat_lt (cond (not b) (1 + position_or_len (λ (e : Unit × KeptValue). same_unit e.0 u) kept) 0) (suc (length kept))) (sym same) ∙ none
        in
        ap (λ b. if b then Some x.1 else value_of kept u) same ∙ later (grind (next, arith, nat_tests))

pub gone_idle : (u : Unit) (kept : Kept) → place_of kept u ≡ None → kept_of kept u ≡ idle
gone_idle u kept none = ap (λ (found : Option KeptValue). unwrap_or found idle) (gone_from u kept (past_length _ _ none))

-- ---- the place of a unit that stands there

passes_at : (p : Unit → Bool) (units : List Unit) (k : ℕ) (u : Unit) → list_all p units ≡ true → slice_get units k ≡ Some u → p u ≡ true
passes_at p [] k u all here = cc
passes_at p (x ∷ units) zero u all here = ap p (sym (same_Some x u here)) ∙ (both (p x) (list_all p units) all).0
passes_at p (x ∷ units) (suc k) u all here = passes_at p units k u (both (p x) (list_all p units) all).1 here

stands_within : (kept : Kept) (k : ℕ) (u : Unit) → slice_get (units_in kept) k ≡ Some u → k < length kept
stands_within [] k u here = cc
stands_within (x ∷ kept) zero u here = omega arith
stands_within (x ∷ kept) (suc k) u here = let later = stands_within kept k u here in omega (arith, later)

stands_first : UnitLaws → (kept : Kept) (k : ℕ) (u : Unit) → rises (units_in kept) ≡ true → slice_get (units_in kept) k ≡ Some u
    → position_or_len (λ (e : Unit × KeptValue). same_unit e.0 u) kept ≡ k
stands_first laws [] k u rising here = cc
stands_first laws (x ∷ kept) zero u rising here =
    ap (λ b. cond (not b) (1 + position_or_len (λ (e : Unit × KeptValue). same_unit e.0 u) kept) 0)
    (ap (λ x. same_unit x u) (same_Some x.0 u here) ∙ laws.itself u)
stands_first laws (x ∷ kept) (suc k) u rising here =
    let parts = both (list_all (is_before x.0) (units_in kept)) (rises (units_in kept)) rising in
    let other = later_is_other x.0 u (passes_at (is_before x.0) (units_in kept) k u parts.0 here) in
    let later = stands_first laws kept k u parts.1 here in
    ap (λ b. cond (not b) (1 + position_or_len (λ (e : Unit × KeptValue). same_unit e.0 u) kept) 0) other ∙ omega (arith, later)

pub stands_at_place : UnitLaws → (kept : Kept) (k : ℕ) (u : Unit) → rises (units_in kept) ≡ true → slice_get (units_in kept) k ≡ Some u → place_of kept u ≡ Some k
stands_at_place laws kept k u rising here =
    ap (λ n. cond (nat_lt n (length kept)) (Some n) None) (stands_first laws kept k u rising here)
    ∙ ap (λ b. cond b (Some k) None) (lt-ltb k (length kept) (stands_within kept k u here))
