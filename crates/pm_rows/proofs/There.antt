-- Where there is a row.
use Rattle.std.proofs.Common.{◌≡◌, ℕ, ◌+◌, ◌<◌, Bool, cond, nat_lt, is_some, List, ◌∷◌, Option, Some, None, refl, ◌∙◌, ap, arith}
use Rattle.std.specs.Prelude.{count_by, find}
use Rattle.std.proofs.lemmas.Bool.Decides.{nat_tests}
use Rattle.pm_base.proofs.Counts.{Split, split, count_by-append, count_by-cons, count_by_none}
use Rattle.pm_rows.specs.declared.row.Pair.{Pair}
use Rattle.pm_rows.specs.Rows.{Rows, is_at, entry_at}
use Rattle.pm_rows.specs.Sound.{is_pair, AreSound}
use Rattle.pm_rows.proofs.Mapped.{rows_at}

-- an element is found exactly where some pass
some_counts : {X : Type 0} (p : X → Bool) (xs : List X) (found : Option X) → find p xs ≡ found
    → is_some found ≡ nat_lt 0 (count_by p xs)
some_counts p xs None is = let none : count_by p xs ≡ 0 = count_by_none p xs is in rw none refl
some_counts p xs (Some x) is =
    let parts : Split p xs x = split p xs x is in
    let whole : count_by p xs ≡ count_by p parts.front + count_by p (x ∷ parts.back) =
    ap (count_by p) parts.whole ∙ count_by-append p parts.front (x ∷ parts.back)
    in
    let here : count_by p (x ∷ parts.back) ≡ 1 + count_by p parts.back =
    count_by-cons p x parts.back ∙ ap (λ b. cond b 1 0 + count_by p parts.back) parts.passes
    in
    let some : 0 < count_by p xs = omega arith in
    grind (arith, nat_tests)

-- a pair has a row exactly where it is permitted
pub there_exactly : (permitted : List Pair) (rows : Rows) (m s : ℕ) → AreSound permitted rows
    → is_some (entry_at m s rows) ≡ nat_lt 0 (count_by (is_pair m s) permitted)
there_exactly permitted rows m s sound =
    some_counts (is_at m s) rows.entries (entry_at m s rows) refl
    ∙ ap (nat_lt 0) (rows_at m s rows.entries ∙ ap (count_by (is_pair m s)) sound.pairs)
