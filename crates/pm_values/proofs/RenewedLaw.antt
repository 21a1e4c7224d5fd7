-- Lists with one item for each slave, some of which are found anew.
use Rattle.std.proofs.Common.{◌≡◌, ℕ, ◌+◌, ◌<◌, ◌≤◌, ◌==◌, ◌&&◌, ◌||◌, Bool, true, false, if◌then◌else◌, List, [], ◌∷◌, length, take, slice_get, Option, Some, None, refl, zero, suc, arith, ap, sym, ◌∙◌, ◌⊎◌, inl, inr}
use Rattle.std.specs.Prelude.{slice_set}
use Rattle.std.proofs.lemmas.Bool.{eqb-true}
use Rattle.std.proofs.lemmas.Bool.Decides.{nat_tests}
use Rattle.std.proofs.lemmas.List.Folds.{list_any-append}
use Rattle.pm_base.proofs.ListLemmas.{take_next}
use Rattle.pm_topology.specs.declared.topology.SlaveDef.{SlaveDef}
use Rattle.pm_state.specs.Changes.{is_in}
use Rattle.pm_state.specs.Values.{placed}
use Rattle.pm_values.specs.Caches.{renewed, renewed_at}

module _ {A : Type 0} (new : ℕ → SlaveDef → A) where
  -- where none is asked for, none is found anew
  pub renewed_none : (k : ℕ) (slaves : List SlaveDef) (items : List A) → length items ≡ length slaves → renewed (λ s. false) new k slaves items ≡ items
  renewed_none k [] items places = refl
  renewed_none k (x ∷ slaves) [] places = refl
  renewed_none k (x ∷ slaves) (item ∷ items) places = ap (λ more. item ∷ more) (renewed_none (k + 1) slaves items (omega arith))

  -- by tests that agree from a place on the same are
  renewed_same : (one two : ℕ → Bool) (k : ℕ) (slaves : List SlaveDef) (items : List A) → ((s : ℕ) → k ≤ s → one s ≡ two s) → renewed one new k slaves items ≡ renewed two new k slaves items
  renewed_same one two k [] items same = refl
  renewed_same one two k (x ∷ slaves) [] same = refl
  renewed_same one two k (x ∷ slaves) (item ∷ items) same =
      ap (λ b. (if b then new k x else item) ∷ renewed one new (k + 1) slaves items) (same k (omega arith))
      ∙ ap (λ more. (if two k then new k x else item) ∷ more) (renewed_same one two (k + 1) slaves items (λ s from. same s (omega (arith, from))))

  -- the item at place i is written, which is that of the slave at place s
  abbrev write : Bool → ℕ → ℕ → Option SlaveDef → List A → List A
  write asked s i None items = items
  write asked s i (Some slave) items = if asked then slice_set items i (new s slave) else items

  write_nothing : (asked : Bool) (s i : ℕ) (slave : Option SlaveDef) → write asked s i slave [] ≡ []
  write_nothing asked s i None = refl
  write_nothing true s i (Some slave) = refl
  write_nothing false s i (Some slave) = refl

  write_later : (asked : Bool) (s i : ℕ) (slave : Option SlaveDef) (item : A) (items : List A) → write asked s (suc i) slave (item ∷ items) ≡ item ∷ write asked s i slave items
  write_later asked s i None item items = refl
  write_later true s i (Some slave) item items = refl
  write_later false s i (Some slave) item items = refl

  no_more : (test : ℕ → Bool) (k : ℕ) (slaves : List SlaveDef) → renewed test new k slaves [] ≡ []
  no_more test k [] = refl
  no_more test k (x ∷ slaves) = refl

  -- the test passes the slave at place s too, if it is asked for
  abbrev and_one : (ℕ → Bool) → Bool → ℕ → ℕ → Bool
  and_one test asked s j = test j || ((s == j) && asked)

  first_item : (test asked : Bool) (a b : A) (rest : List A) → (if asked then slice_set ((if test then a else b) ∷ rest) 0 a else (if test then a else b) ∷ rest) ≡ (if (test || (true && asked)) then a else b) ∷ rest
  first_item true true a b rest = refl
  first_item true false a b rest = refl
  first_item false true a b rest = refl
  first_item false false a b rest = refl

  or_none : (b : Bool) → (b || false) ≡ b
  or_none true = refl
  or_none false = refl

  write_at : (test : ℕ → Bool) (asked : Bool) (i k s : ℕ) (slaves : List SlaveDef) (items : List A) → s ≡ k + i
      → write asked s i (slice_get slaves i) (renewed test new k slaves items) ≡ renewed (and_one test asked s) new k slaves items
  write_at test asked i k s [] items is = refl
  write_at test asked i k s (x ∷ slaves) [] is = write_nothing asked s i (slice_get (x ∷ slaves) i)
  write_at test asked zero k s (x ∷ slaves) (item ∷ items) is =
      let here : s ≡ k = omega arith in
      let self : (s == k) ≡ true = grind (arith, nat_tests) in
      let rest : List A = renewed test new (k + 1) slaves items in
      let later : rest ≡ renewed (and_one test asked s) new (k + 1) slaves items =
      renewed_same test (and_one test asked s) (k + 1) slaves items
      (λ j from.
      let apart : (s == j) ≡ false = grind (arith, nat_tests) in
      sym (ap (λ b. test j || (b && asked)) apart ∙ or_none (test j)))
      in
      ap (λ n. if asked then slice_set ((if test k then new k x else item) ∷ rest) 0 (new n x) else (if test k then new k x else item) ∷ rest) here
      ∙ (first_item (test k) asked (new k x) item rest
      ∙ (ap (λ b. (if (test k || (b && asked)) then new k x else item) ∷ rest) (sym self)
      ∙ ap (λ more. (if (and_one test asked s k) then new k x else item) ∷ more) later))
  write_at test asked (suc i) k s (x ∷ slaves) (item ∷ items) is =
      let apart : (s == k) ≡ false = grind (arith, nat_tests) in
      write_later asked s i (slice_get slaves i) (if test k then new k x else item) (renewed test new (k + 1) slaves items)
      ∙ (ap (λ more. (if test k then new k x else item) ∷ more) (write_at test asked i (k + 1) s slaves items (omega arith))
      ∙ ap (λ b. (if b then new k x else item) ∷ renewed (and_one test asked s) new (k + 1) slaves items)
      (sym (ap (λ b. test k || (b && asked)) apart ∙ or_none (test k))))

  renewed_at_is : (asked : Bool) (s : ℕ) (slave : Option SlaveDef) (items : List A) → renewed_at asked new s slave items ≡ write asked s s slave items
  renewed_at_is asked s None items = refl
  renewed_at_is asked s (Some slave) items = refl

  -- those that no test asks for are right already
  pub renewed_all : (test : ℕ → Bool) (old : ℕ → SlaveDef → A) → ((s : ℕ) (slave : SlaveDef) → test s ≡ false → old s slave ≡ new s slave)
      → (k : ℕ) (slaves : List SlaveDef) → renewed test new k slaves (placed old k slaves) ≡ placed new k slaves
  renewed_all test old right k [] = refl
  renewed_all test old right k (x ∷ slaves) =
      ap (λ item. item ∷ renewed test new (k + 1) slaves (placed old (k + 1) slaves)) (by (test k) refl)
      ∙ ap (λ more. new k x ∷ more) (renewed_all test old right (k + 1) slaves)
    where
      by : (b : Bool) → test k ≡ b → (if b then new k x else old k x) ≡ new k x
      by true is = refl
      by false is = right k x is

  -- ---- row by row

  -- ---- place by place

  and_is : (b : Bool) → (b || false) ≡ (b && true)
  and_is true = refl
  and_is false = refl

  -- one place more
  pub in_next : (places : List ℕ) (k p s : ℕ) → slice_get places k ≡ Some p → is_in s (take (k + 1) places) ≡ (is_in s (take k places) || ((p == s) && true))
  in_next places k p s at =
      ap (is_in s) (take_next places k p at)
      ∙ (list_any-append (λ j. j == s) (take k places) (p ∷ [])
      ∙ ap (λ b. is_in s (take k places) || b) (and_is (p == s)))

  pub renewed_place : (places : List ℕ) (k p : ℕ) (slaves : List SlaveDef) (start items after : List A) → slice_get places k ≡ Some p
      → items ≡ renewed (λ s. is_in s (take k places)) new 0 slaves start
      → after ≡ renewed_at true new p (slice_get slaves p) items
      → after ≡ renewed (λ s. is_in s (take (k + 1) places)) new 0 slaves start
  renewed_place places k p slaves start items after at before written =
      let was : ℕ → Bool = λ s. is_in s (take k places) in
      written
      ∙ (renewed_at_is true p (slice_get slaves p) items
      ∙ (ap (λ xs. write true p p (slice_get slaves p) xs) before
      ∙ (write_at was true p 0 p slaves start (omega arith)
      ∙ renewed_same (and_one was true p) (λ s. is_in s (take (k + 1) places)) 0 slaves start
      (λ j from. sym (in_next places k p j at)))))

  -- by tests that agree on the slaves that there are the same are
  pub renewed_within : (one two : ℕ → Bool) (k : ℕ) (slaves : List SlaveDef) (items : List A) → ((s : ℕ) → k ≤ s → s < k + length slaves → one s ≡ two s) → renewed one new k slaves items ≡ renewed two new k slaves items
  renewed_within one two k [] items same = refl
  renewed_within one two k (x ∷ slaves) [] same = refl
  renewed_within one two k (x ∷ slaves) (item ∷ items) same =
      ap (λ b. (if b then new k x else item) ∷ renewed one new (k + 1) slaves items) (same k (omega arith) (omega arith))
      ∙ ap (λ more. (if two k then new k x else item) ∷ more)
      (renewed_within one two (k + 1) slaves items (λ s from to. same s (omega (arith, from)) (omega (arith, to))))

-- the item of a slave that no test asks for stays
pub renewed_left : {A : Type 0} (new : ℕ → SlaveDef → A) (test : ℕ → Bool) (k i s : ℕ) (slaves : List SlaveDef) (items : List A) → s ≡ k + i → test s ≡ false
    → slice_get (renewed test new k slaves items) i ≡ slice_get items i
renewed_left new test k i s [] items is none = refl
renewed_left new test k i s (x ∷ slaves) [] is none = refl
renewed_left new test k zero s (x ∷ slaves) (item ∷ items) is none =
    let here : k ≡ s = omega arith in
    ap (λ b. Some (if b then new k x else item)) (ap test here ∙ none)
renewed_left new test k (suc i) s (x ∷ slaves) (item ∷ items) is none = renewed_left new test (k + 1) i s slaves items (omega arith) none

-- one place more, where each such slave is otherwise right
pub right_place : (Right : Type 0) (places : List ℕ) (k p s : ℕ) → slice_get places k ≡ Some p
    → (is_in s (take k places) ≡ false) ⊎ Right
    → (p ≡ s → is_in s (take k places) ≡ false → Right)
    → (is_in s (take (k + 1) places) ≡ false) ⊎ Right
right_place Right places k p s at before own = elim before [
  | inl none ↦ by none (p == s) refl
  | inr right ↦ inr right
]
  where
    by : is_in s (take k places) ≡ false → (here : Bool) → (p == s) ≡ here → (is_in s (take (k + 1) places) ≡ false) ⊎ Right
    by none true here = inr (own (eqb-true p s here) none)
    by none false here =
        inl (in_next {A = ℕ} (λ s slave. 0) places k p s at ∙ (ap (λ b. b || ((p == s) && true)) none ∙ ap (λ b. b && true) here))
