-- The lines of a script that are left.
use Rattle.std.proofs.Common.{◌≡◌, ℕ, suc, ◌+◌, ◌-◌, ◌<◌, ◌≤◌, List, ◌++◌, append_assoc, sym, ap, ◌∙◌, arith}
use Rattle.std.proofs.lemmas.List.{append-nil}
use Rattle.pm_gen.specs.Script.{line_of, lines_from, next}

-- the first of the lines that are left
first_line : (n i state : ℕ) → i < n → lines_from (n - i) state ≡ line_of (next state) ++ lines_from (n - (i + 1)) (next state)
unfolding lines_from
first_line n i state within =
    let count : n - i ≡ suc (n - (i + 1)) = omega arith in
    ap (λ (k : ℕ). lines_from k state) count

-- one more line was written
pub one_more : (text line whole : List ℕ) (n i state later : ℕ) → i < n → later ≡ next state → line ≡ text ++ line_of later → text ++ lines_from (n - i) state ≡ whole → line ++ lines_from (n - (i + 1)) later ≡ whole
one_more text line whole n i state later within after is so_far =
    ap (λ (l : List ℕ). l ++ lines_from (n - (i + 1)) later) is
    ∙ append_assoc text (line_of later) (lines_from (n - (i + 1)) later)
    ∙ ap (λ (x : ℕ). text ++ (line_of x ++ lines_from (n - (i + 1)) x)) after
    ∙ ap (λ (l : List ℕ). text ++ l) (sym (first_line n i state within))
    ∙ so_far

-- none are left
pub no_more : (text whole : List ℕ) (n i state : ℕ) → n ≤ i → text ++ lines_from (n - i) state ≡ whole → text ≡ whole
unfolding lines_from
no_more text whole n i state past so_far =
    let none : n - i ≡ 0 = omega arith in
    sym (ap (λ (k : ℕ). text ++ lines_from k state) none ∙ append-nil text) ∙ so_far
