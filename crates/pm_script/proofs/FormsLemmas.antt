-- The table of line forms.
use Rattle.std.proofs.Common.{◌≡◌, ◌≤◌, ℕ, Bool, true, false, List, [], ◌∷◌, Option, Some, None, find, length, map, nat_le, option_map, refl, sym, ◌∙◌, ap, arith, IfSome}
use Rattle.std.specs.Str.{bytes_eq}
use Rattle.std.specs.List.{list_all}
use Rattle.std.proofs.lemmas.Bool.Decides.{nat_tests}
use Rattle.pm_script.specs.declared.forms.LineForm.{LineForm}
use Rattle.pm_script.specs.Forms.{Row, first_with, line_forms, row_of, row_with}

-- what is found first stays the first where things are told in other words
find_told : {X Y : Type 0} (f : X → Y) (test : Y → Bool) (xs : List X) → option_map f (find (λ x. test (f x)) xs) ≡ find test (map f xs)
find_told f test [] = refl
find_told f test (x ∷ xs) = by (test (f x)) refl (find_told f test xs)
  where
    by : (b : Bool) → test (f x) ≡ b → option_map f (find (λ x. test (f x)) xs) ≡ find test (map f xs) → option_map f (find (λ x. test (f x)) (x ∷ xs)) ≡ find test (map f (x ∷ xs))
    by true is later = rw is refl
    by false is later = rw is later

-- a test that all of them pass is passed by the one that is found
passes_found : {X : Type 0} (pass test : X → Bool) (xs : List X) → list_all pass xs ≡ true → (x : X) → find test xs ≡ Some x → pass x ≡ true
passes_found pass test [] all x is = cc
passes_found pass test (y ∷ ys) all x is = by (pass y) (test y) refl refl all (λ rest. passes_found pass test ys rest x) is
  where
    by : (p t : Bool) → pass y ≡ p → test y ≡ t → list_all pass (y ∷ ys) ≡ true → (list_all pass ys ≡ true → find test ys ≡ Some x → pass x ≡ true) → find test (y ∷ ys) ≡ Some x → pass x ≡ true
    by false t passes found all later is = let none : list_all pass (y ∷ ys) ≡ false = rw passes refl in cc
    by true true passes found all later is =
        let first : find test (y ∷ ys) ≡ Some y = rw found refl in
        let same : y ≡ x = cc in
        ap pass (sym same) ∙ passes
    by true false passes found all later is =
        let others : list_all pass (y ∷ ys) ≡ list_all pass ys = rw passes refl in
        let after : find test (y ∷ ys) ≡ find test ys = rw found refl in
        later (sym others ∙ all) (sym after ∙ is)

-- the row of the form that is found is the row that is found
pub found_row : (word : List ℕ) (forms : List LineForm) (found : Option LineForm) → found ≡ first_with word forms → option_map row_of found ≡ find (λ row. bytes_eq row.keyword word) (map row_of forms)
unfolding first_with
found_row word forms found is =
    ap (option_map row_of) is
    ∙ find_told row_of (λ (row : Row). bytes_eq row.keyword word) forms

-- no row has more than seven arguments
pub found_short : (word : List ℕ) (found : Option LineForm) → option_map row_of found ≡ row_with word → IfSome found (λ form. length form.3.now ≤ 7)
found_short word None is = tt
found_short word (Some form) is =
    let short : nat_le (length (row_of form).widths) 7 ≡ true = passes_found (λ (row : Row). nat_le (length row.widths) 7) (λ (row : Row). bytes_eq row.keyword word) line_forms refl (row_of form) (sym is) in
    grind (arith, nat_tests)
