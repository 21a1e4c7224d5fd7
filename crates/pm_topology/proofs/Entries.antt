-- Tests over the entries of a list, entry by entry.
use Rattle.std.proofs.Common.{◌≡◌, ℕ, ◌+◌, ◌<◌, ◌≤◌, Bool, true, false, ◌==◌, Option, Some, None, List, [], ◌∷◌, length, take, slice_get, refl, zero, suc, arith, sym, cond, inl, inr}
use Rattle.std.specs.List.{list_any}
use Rattle.std.proofs.lemmas.Bool.{eqb-true}
use Rattle.std.proofs.lemmas.Option.{slice_get_cases}
use Rattle.pm_base.proofs.Booleans.{neither, none_of, differs, unequal, equal}
use Rattle.pm_base.proofs.Tests.{absent_at, absent_from, present_at, present_from}
use Rattle.pm_topology.specs.declared.faults.TopoCause.{TopoCause}
use Rattle.std.specs.Option.{option_or}
use Rattle.pm_topology.specs.FirstFault.{fault_at, first_fault_from}
use Rattle.pm_topology.specs.WellFormed.{EachEntry, HasNumber, AreDistinct, AreApart}

-- a rule that isn't broken leaves it to the next ones
pub pass : (broken : Bool) (cause : TopoCause) (rest : Option TopoCause)
    → cond broken (Some cause) rest ≡ None
    → (broken ≡ false) × (rest ≡ None)
pass false cause rest e = (refl, e)
pass true cause rest e = cc

pub passed : (broken : Bool) (cause : TopoCause) (rest : Option TopoCause)
    → broken ≡ false → rest ≡ None
    → cond broken (Some cause) rest ≡ None
passed false cause rest e f = f
passed true cause rest e f = cc

pub absent_before : {X : Type 0} (p : X → Bool) (xs : List X) (n : ℕ)
    → list_any p (take n xs) ≡ false
    → (k : ℕ) (x : X) → k < n → slice_get xs k ≡ Some x → p x ≡ false
absent_before p xs zero e k x within here = absurd (omega arith)
absent_before p [] (suc n) e k x within here = cc
absent_before p (y ∷ ys) (suc n) e zero x within here = let parts = neither (p y) _ e in cc
absent_before p (y ∷ ys) (suc n) e (suc k) x within here =
    absent_before p ys n ((neither (p y) _ e).1) k x (omega arith) here

pub absent_before-from : {X : Type 0} (p : X → Bool) (xs : List X) (n : ℕ)
    → ((k : ℕ) (x : X) → k < n → slice_get xs k ≡ Some x → p x ≡ false)
    → list_any p (take n xs) ≡ false
absent_before-from p xs zero each = refl
absent_before-from p [] (suc n) each = refl
absent_before-from p (y ∷ ys) (suc n) each =
    none_of (p y) _ (each zero y (omega arith) refl) (absent_before-from p ys n (λ k x within here. each (suc k) x (omega arith) here))

-- neither of two is there
pub neither_there : {X : Type 0} (a b : Option X) → option_or a b ≡ None → (a ≡ None) × (b ≡ None)
neither_there None b e = (refl, e)
neither_there (Some x) b e = cc

pub none_there : {X : Type 0} (a b : Option X) → a ≡ None → b ≡ None → option_or a b ≡ None
none_there None b e f = f
none_there (Some x) b e f = cc

causeless : (place : ℕ) (cause : Option TopoCause) → fault_at place cause ≡ None → cause ≡ None
causeless place None e = refl
causeless place (Some cause) e = cc

faultless : (place : ℕ) (cause : Option TopoCause) → cause ≡ None → fault_at place cause ≡ None
faultless place None e = refl
faultless place (Some cause) e = cc

-- where no entry has a fault, none has a cause at its place
pub faultless_at : {X : Type 0} (cause_of : ℕ → X → Option TopoCause) (place : ℕ) (xs : List X)
    → first_fault_from cause_of place xs ≡ None
    → (k : ℕ) (x : X) (at : ℕ) → slice_get xs k ≡ Some x → at ≡ place + k → cause_of at x ≡ None
faultless_at cause_of place [] e k x at here is = cc
faultless_at {X} cause_of place (y ∷ ys) e zero x at here is =
    let parts = neither_there (fault_at place (cause_of place y)) _ e in
    let none = causeless place (cause_of place y) parts.0 in
    let same : y ≡ x = cc in
    let placed : at ≡ place = omega arith in
    cc
faultless_at cause_of place (y ∷ ys) e (suc k) x at here is =
    faultless_at cause_of (place + 1) ys ((neither_there (fault_at place (cause_of place y)) _ e).1) k x at here (omega arith)

pub faultless_from : {X : Type 0} (cause_of : ℕ → X → Option TopoCause) (place : ℕ) (xs : List X)
    → ((k : ℕ) (x : X) (at : ℕ) → slice_get xs k ≡ Some x → at ≡ place + k → cause_of at x ≡ None)
    → first_fault_from cause_of place xs ≡ None
faultless_from cause_of place [] each = refl
faultless_from cause_of place (y ∷ ys) each =
    none_there (fault_at place (cause_of place y)) _
    (faultless place _ (each zero y place refl (omega arith)))
    (faultless_from cause_of (place + 1) ys (λ k x at here is. each (suc k) x at here (omega arith)))

-- the numbers of a list are distinct where no entry has that of an earlier one
pub distinct_from : {X : Type 0} (number : X → ℕ) (xs : List X)
    → EachEntry xs (λ k x. list_any (λ e. number e == number x) (take k xs) ≡ false)
    → AreDistinct number xs
distinct_from {X} number xs each j k x y here there same =
    let not_less : j < k → ⊥ = λ less. differs (number x) (number y) (absent_before (λ (e : X). number e == number y) xs k (each k y there) j x less here) same in
    let not_more : k < j → ⊥ = λ more. differs (number y) (number x) (absent_before (λ (e : X). number e == number x) xs j (each j x here) k y more there) (sym same) in
    omega (arith, not_less, not_more)

pub distinct_to : {X : Type 0} (number : X → ℕ) (xs : List X)
    → AreDistinct number xs
    → EachEntry xs (λ k x. list_any (λ e. number e == number x) (take k xs) ≡ false)
distinct_to {X} number xs distinct k x here =
    absent_before-from (λ (e : X). number e == number x) xs k
    (λ j e within there. unequal (number e) (number x) (λ same. let at = distinct j k e x there here same in absurd (omega arith)))

pub apart_from : {X Y : Type 0} (number : X → ℕ) (xs : List X) (number' : Y → ℕ) (ys : List Y)
    → EachEntry ys (λ _ y. list_any (λ e. number e == number' y) xs ≡ false)
    → AreApart number xs number' ys
apart_from {X} {Y} number xs number' ys each j k x y here there same =
    differs (number x) (number' y) (absent_at (λ (e : X). number e == number' y) xs (each k y there) j x here) same

pub apart_to : {X Y : Type 0} (number : X → ℕ) (xs : List X) (number' : Y → ℕ) (ys : List Y)
    → AreApart number xs number' ys
    → EachEntry ys (λ _ y. list_any (λ e. number e == number' y) xs ≡ false)
apart_to {X} {Y} number xs number' ys apart k y there =
    absent_from (λ (e : X). number e == number' y) xs (λ j x here. unequal (number x) (number' y) (apart j k x y here there))

-- a number that a test finds is that of an entry
pub number_at : {X : Type 0} (number : X → ℕ) (xs : List X) (n : ℕ)
    → list_any (λ e. number e == n) xs ≡ true → HasNumber number xs n
number_at {X} number xs n e =
    let found = present_at (λ (e : X). number e == n) xs e in
    (found.0, found.1, found.2, eqb-true (number found.1) n found.3)

pub number_from : {X : Type 0} (number : X → ℕ) (xs : List X) (n : ℕ)
    → HasNumber number xs n → list_any (λ e. number e == n) xs ≡ true
number_from {X} number xs n found =
    present_from (λ (e : X). number e == n) xs found.0 found.1 found.2 (equal (number found.1) n found.3)

-- a list within a limit has no entry at it
pub within_limit : {X : Type 0} (xs : List X) (limit : ℕ)
    → ((x : X) → slice_get xs limit ≡ Some x → ⊥)
    → length xs ≤ limit
within_limit xs limit none =
    elim ((slice_get_cases xs limit).1) [
      | inl there ↦ absurd (none there.0 there.2)
      | inr past ↦ past.0
    ]
