-- A row is counted, or passed over.
use Rattle.std.proofs.Common.{◌≡◌, ℕ, ◌+◌, ◌≤◌, Bool, true, false, cond, List, drop, Some, ap, refl, ◌∙◌, arith}
use Rattle.std.specs.Prelude.{slice_get, count_by}
use Rattle.std.specs.Int.{from_bool}
use Rattle.pm_base.proofs.Counts.{count_by-cons}
use Rattle.pm_base.proofs.ListLemmas.{drop_found}

one : (b : Bool) → cond b 1 0 ≡ from_bool b
one true = refl
one false = refl

pub counted : {X : Type 0} (p : X → Bool) (xs : List X) (k : ℕ) (x : X) → slice_get xs k ≡ Some x
    → count_by p (drop k xs) ≡ from_bool (p x) + count_by p (drop (k + 1) xs)
counted p xs k x at =
    ap (count_by p) (drop_found xs k x at)
    ∙ (count_by-cons p x (drop (k + 1) xs) ∙ ap (λ n. n + count_by p (drop (k + 1) xs)) (one (p x)))

pub at_most_one : (b : Bool) → from_bool b ≤ 1
at_most_one true = omega arith
at_most_one false = omega arith
