-- Masters are compared one after another.
use Rattle.std.proofs.Common.{◌≡◌, ℕ, zero, suc, ◌+◌, ◌≤◌, ◌&&◌, Bool, true, false, List, [], ◌∷◌, length, drop, Some, slice_get, refl, sym, ap, ◌∙◌, arith}
use Rattle.pm_base.proofs.ListLemmas.{drop_found}
use Rattle.pm_object.specs.declared.object.MasterRec.{MasterRec}
use Rattle.pm_object.specs.Attached.{have_same_masters, is_same_master}

-- another one later is enough
and_later : (one later : Bool) → later ≡ false → (one && later) ≡ false
and_later true later is = is
and_later false later is = refl

-- first many masters
pub unlike_many : (first bs : List MasterRec) → (length first ≡ length bs → ⊥) → have_same_masters first bs ≡ false
unlike_many [] [] differ = absurd (differ refl)
unlike_many [] (b ∷ bs) differ = refl
unlike_many (a ∷ first) [] differ = refl
unlike_many (a ∷ first) (b ∷ bs) differ =
    and_later (is_same_master a b) (have_same_masters first bs) (unlike_many first bs (λ same. differ (ap suc same)))

module _ (first bs : List MasterRec) (k : ℕ) (a b : MasterRec) (here : slice_get first k ≡ Some a) (there : slice_get bs k ≡ Some b) where
  at_place : have_same_masters (drop k first) (drop k bs) ≡ (is_same_master a b && have_same_masters (drop (k + 1) first) (drop (k + 1) bs))
  at_place =
      ap (λ xs. have_same_masters xs (drop k bs)) (drop_found first k a here)
      ∙ ap (λ ys. have_same_masters (a ∷ drop (k + 1) first) ys) (drop_found bs k b there)

  pub like_here : is_same_master a b ≡ true → have_same_masters (drop k first) (drop k bs) ≡ have_same_masters (drop (k + 1) first) (drop (k + 1) bs)
  like_here same = at_place ∙ ap (λ one. one && have_same_masters (drop (k + 1) first) (drop (k + 1) bs)) same

  pub unlike_here : is_same_master a b ≡ false → have_same_masters (drop k first) (drop k bs) ≡ false
  unlike_here other = at_place ∙ ap (λ one. one && have_same_masters (drop (k + 1) first) (drop (k + 1) bs)) other

-- no master is left
pub none_left : (first bs : List MasterRec) (k : ℕ) → length first ≡ length bs → length first ≤ k → have_same_masters (drop k first) (drop k bs) ≡ true
none_left [] [] k many past = none k
  where
    none : (k : ℕ) → have_same_masters (drop k []) (drop k []) ≡ true
    none zero = refl
    none (suc k) = refl
none_left [] (b ∷ bs) k many past = absurd (omega arith)
none_left (a ∷ first) [] k many past = absurd (omega arith)
none_left (a ∷ first) (b ∷ bs) zero many past = absurd (omega arith)
none_left (a ∷ first) (b ∷ bs) (suc k) many past = none_left first bs k (omega arith) (omega arith)
