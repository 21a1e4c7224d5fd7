-- What is read of a reset line after a write.
use Rattle.std.proofs.Common.{◌≡◌, ◌≢◌, ℕ, ◌<◌, ◌≤◌, ◌&&◌, Bool, true, false, cond, ◌==◌, nat_lt, List, length, refl, ap, sym, ◌∙◌, arith, ⊎_elim}
use Rattle.std.specs.Prelude.{slice_set}
use Rattle.std.proofs.lemmas.List.{get_or-set_same, get_or-set_other, get_or-replicate, get_or_past, length-replicate, length-set, set_past}
use Rattle.std.proofs.lemmas.Bool.{cases_lt}
use Rattle.std.proofs.lemmas.Bool.Decides.{nat_tests}
use Rattle.std.proofs.lemmas.Option.{unwrap_or-slice_get}
use Rattle.pm_base.proofs.Booleans.{at_most_one, differs}
use Rattle.pm_resets.specs.Resets.{all_released, is_asserted, line_value, value_of, with_line}

-- ---- one line is written

put_here : (l : ℕ) (asserted : Bool) (lines : List Bool) (b : Bool) → nat_lt l (length lines) ≡ b → is_asserted l (with_line l asserted lines) ≡ cond b asserted (is_asserted l lines)
put_here l asserted lines true is =
    let within : l < length lines = grind (arith, nat_tests) in
    unwrap_or-slice_get (slice_set lines l asserted) l false ∙ get_or-set_same lines l asserted false within
put_here l asserted lines false is =
    let past : length lines ≤ l = grind (arith, nat_tests) in
    ap (is_asserted l) (set_past lines l asserted past)

put_there : (l k : ℕ) (asserted : Bool) (lines : List Bool) → k ≢ l → is_asserted k (with_line l asserted lines) ≡ is_asserted k lines
put_there l k asserted lines other =
    unwrap_or-slice_get (slice_set lines l asserted) k false ∙ get_or-set_other lines l k asserted false other ∙ sym (unwrap_or-slice_get lines k false)

put_at : (l k : ℕ) (asserted : Bool) (lines : List Bool) (b : Bool) → (k == l) ≡ b → is_asserted k (with_line l asserted lines) ≡ cond (b && nat_lt l (length lines)) asserted (is_asserted k lines)
put_at l k asserted lines true is = let at : k ≡ l = grind (arith, nat_tests) in rw at (put_here l asserted lines (nat_lt l (length lines)) refl)
put_at l k asserted lines false is = put_there l k asserted lines (differs k l is)

told : (b c d : Bool) → line_value (cond b c d) ≡ cond b (line_value c) (line_value d)
told true c d = refl
told false c d = refl

pub puts : (l k : ℕ) (asserted : Bool) (lines : List Bool) → value_of k (with_line l asserted lines) ≡ cond ((k == l) && nat_lt l (length lines)) (line_value asserted) (value_of k lines)
puts l k asserted lines = ap line_value (put_at l k asserted lines (k == l) refl) ∙ told ((k == l) && nat_lt l (length lines)) asserted (is_asserted k lines)

-- ---- all lines

pub loads : (count l : ℕ) → value_of l (all_released count) ≡ 0
loads count l =
    ap line_value (unwrap_or-slice_get (all_released count) l false
    ∙ ⊎_elim (λ within. get_or-replicate count l false false within) (λ past. get_or_past (all_released count) l false (rw (length-replicate count false) past)) (cases_lt l count))

pub stays : (l : ℕ) (asserted : Bool) (lines : List Bool) → length (with_line l asserted lines) ≡ length lines
stays l asserted lines = length-set lines l asserted

pub bound : (l : ℕ) (lines : List Bool) → value_of l lines ≤ 1
bound l lines = at_most_one (is_asserted l lines)
