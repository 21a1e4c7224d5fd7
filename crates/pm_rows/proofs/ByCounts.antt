-- What is wanted of a slave, by the counts.
use Rattle.std.proofs.Common.{◌≡◌, ℕ, zero, suc, ◌+◌, ◌-◌, ◌*◌, ◌^◌, ◌<◌, ◌≤◌, min, max, Bool, true, false, ◌&&◌, ◌==◌, cond, if◌then◌else◌, nat_lt, List, [], ◌∷◌, map, length, fold, Option, None, is_some, refl, sym, ◌∙◌, ap, arith}
use Rattle.std.specs.Prelude.{slice_get, slice_index, count_by, unwrap_or, bit_and, bit_or}
use Rattle.std.specs.List.{list_all}
use Rattle.std.specs.Int.{bit_at}
use Rattle.std.proofs.lemmas.Bool.{and_parts, ltb-true}
use Rattle.std.proofs.lemmas.Bool.Decides.{nat_tests}
use Rattle.std.proofs.lemmas.List.{get_or_past}
use Rattle.std.proofs.lemmas.Nat.Bits.{bit_at_and, bit_at_or, bit_at-zero, bit_at-lt, bit_at_above, same_from_bits}
use Rattle.pm_base.proofs.Counts.{count_by-cons}
use Rattle.pm_base.specs.declared.names.Mode.{Mode}
use Rattle.pm_base.specs.declared.names.Mode.TheVariants.{Off, Active, Asleep, Suspending}
use Rattle.pm_rows.specs.declared.row.Entry.{Entry}
use Rattle.pm_rows.specs.declared.wanted.Wanted.{Wanted}
use Rattle.pm_rows.specs.Modes.{mode_in}
use Rattle.pm_rows.specs.Rows.{no_caps, is_user}
use Rattle.pm_rows.specs.Wanted.{by_use, by_arming, by_hold, while_asleep, both, required_by, limit_by, least, with_row, nothing_wanted}
use Rattle.pm_rows.specs.Counted.{Tally, AreTallied, counted, entry_in, wants, uses, on, with_limit, limit_of, is_placed, is_narrow_pair, is_narrow_row, is_narrow_entry, flag, wanted_in}
use Rattle.pm_cells.proofs.Counting.{one_if, count_most}
use Rattle.pm_rows.proofs.Tallies.{with_off, with_on}

-- a row of known capabilities requires none past the third
required_bit : (mode : Mode) (e : Entry) (i : ℕ) → 3 ≤ i → is_narrow_entry e ≡ true → bit_at (required_by mode e).0 i ≡ 0
required_bit mode e i above is =
    let one = bit_at_or (by_use e).0 (bit_or (by_arming mode e).0 (by_hold e).0) i in
    let two = bit_at_or (by_arming mode e).0 (by_hold e).0 i in
    omega (arith, one, two, used e.row.used, armed (is_some e.row.armed) mode, held e.row.hold)
  where
    parts : (is_narrow_pair e.seed ≡ true) × (is_narrow_row e.row ≡ true)
    parts = and_parts (is_narrow_pair e.seed) (is_narrow_row e.row) is

    all_zero : bit_at e.seed.all.0 i ≡ 0
    all_zero = (let small : e.seed.all.0 < 2 ^ 3 = ltb-true _ _ parts.0 in bit_at_above _ 3 i small above)

    now_zero : bit_at e.row.now.0 i ≡ 0
    now_zero = (let small : e.row.now.0 < 2 ^ 3 = ltb-true _ _ parts.1 in bit_at_above _ 3 i small above)

    used : (b : Bool) → bit_at (if b then e.row.now else no_caps).0 i ≡ 0
    used true = now_zero
    used false = bit_at-zero i

    held : (b : Bool) → bit_at (if b then e.seed.all else no_caps).0 i ≡ 0
    held true = all_zero
    held false = bit_at-zero i

    cut : bit_at (bit_and 4 e.seed.all.0) i ≡ 0
    cut = (let both = bit_at_and 4 e.seed.all.0 i in let none = all_zero in omega arith)

    armed : (b : Bool) (mode : Mode) → bit_at (if b then while_asleep mode (record { 0 = bit_and 4 e.seed.all.0 }) else no_caps).0 i ≡ 0
    armed true Asleep = cut
    armed true Off = bit_at-zero i
    armed true Active = bit_at-zero i
    armed true Suspending = bit_at-zero i
    armed false mode = bit_at-zero i

row_on : (s : ℕ) (modes : List Mode) (w : Wanted) (e : Entry) → (e.seed.slave == s) ≡ true
    → with_row s modes w e ≡ record { caps = both w.caps (required_by (mode_in e.seed.master modes) e); limit = least w.limit (limit_by e) }
row_on s modes w e is =
    ap (λ b. if b then record { caps = both w.caps (required_by (mode_in e.seed.master modes) e); limit = least w.limit (limit_by e) } else w) is

pub row_off : (s : ℕ) (modes : List Mode) (w : Wanted) (e : Entry) → (e.seed.slave == s) ≡ false → with_row s modes w e ≡ w
row_off s modes w e is =
    ap (λ b. if b then record { caps = both w.caps (required_by (mode_in e.seed.master modes) e); limit = least w.limit (limit_by e) } else w) is

-- the test of a bit, as a number
bit_is : (n i : ℕ) → one_if (bit_at n i == 1) ≡ bit_at n i
bit_is n i = at (bit_at n i) (bit_at-lt n i)
  where
    at : (b : ℕ) → b < 2 → one_if (b == 1) ≡ b
    at zero below = refl
    at (suc zero) below = refl
    at (suc (suc b)) below = absurd (omega arith)

pub bits_of_wanted : (s : ℕ) (modes : List Mode) (es : List Entry) (w : Wanted) (i : ℕ)
    → bit_at (fold (with_row s modes) w es).caps.0 i ≡ max (bit_at w.caps.0 i) (min 1 (count_by (on s (wants i)) (map (counted modes) es)))
bits_of_wanted s modes [] w i = omega arith
bits_of_wanted s modes (e ∷ es) w i =
    let later = bits_of_wanted s modes es (with_row s modes w e) i in
    let whole : count_by (on s (wants i)) (map (counted modes) (e ∷ es)) ≡ one_if (on s (wants i) (counted modes e)) + count_by (on s (wants i)) (map (counted modes) es) =
    count_by-cons (on s (wants i)) (counted modes e) (map (counted modes) es)
    in
    at (e.seed.slave == s) refl later whole
  where
    at : (b : Bool) → (e.seed.slave == s) ≡ b
        → bit_at (fold (with_row s modes) (with_row s modes w e) es).caps.0 i ≡ max (bit_at (with_row s modes w e).caps.0 i) (min 1 (count_by (on s (wants i)) (map (counted modes) es)))
        → count_by (on s (wants i)) (map (counted modes) (e ∷ es)) ≡ one_if (on s (wants i) (counted modes e)) + count_by (on s (wants i)) (map (counted modes) es)
        → bit_at (fold (with_row s modes) (with_row s modes w e) es).caps.0 i ≡ max (bit_at w.caps.0 i) (min 1 (count_by (on s (wants i)) (map (counted modes) (e ∷ es))))
    at true is later whole =
        let required : ℕ = (required_by (mode_in e.seed.master modes) e).0 in
        let here : bit_at (with_row s modes w e).caps.0 i ≡ max (bit_at w.caps.0 i) (bit_at required i) =
        ap (λ (v : Wanted). bit_at v.caps.0 i) (row_on s modes w e is) ∙ bit_at_or w.caps.0 required i
        in
        let one : one_if (on s (wants i) (counted modes e)) ≡ bit_at required i =
        ap (λ b. one_if (b && (bit_at required i == 1))) is ∙ bit_is required i
        in
        let below : bit_at required i < 2 = bit_at-lt required i in
        omega arith
    at false is later whole =
        let here : bit_at (with_row s modes w e).caps.0 i ≡ bit_at w.caps.0 i = ap (λ (v : Wanted). bit_at v.caps.0 i) (row_off s modes w e is) in
        let none : one_if (on s (wants i) (counted modes e)) ≡ 0 =
        ap (λ b. one_if (b && (bit_at (required_by (mode_in e.seed.master modes) e).0 i == 1))) is
        in
        omega arith

pub limit_of_wanted : (s : ℕ) (modes : List Mode) (es : List Entry) (w : Wanted)
    → (fold (with_row s modes) w es).limit ≡ fold (with_limit s) w.limit es
limit_of_wanted s modes [] w = refl
limit_of_wanted s modes (e ∷ es) w =
    limit_of_wanted s modes es (with_row s modes w e) ∙ ap (λ l. fold (with_limit s) l es) (at (e.seed.slave == s) refl)
  where
    at : (b : Bool) → (e.seed.slave == s) ≡ b → (with_row s modes w e).limit ≡ with_limit s w.limit e
    at true is = ap (λ (v : Wanted). v.limit) (row_on s modes w e is) ∙ sym (with_on s w.limit e is)
    at false is = ap (λ (v : Wanted). v.limit) (row_off s modes w e is) ∙ sym (with_off s w.limit e is)

-- no row wants a capability past the third
pub none_above : (s : ℕ) (modes : List Mode) (es : List Entry) (i : ℕ) → 3 ≤ i → list_all is_narrow_entry es ≡ true
    → count_by (on s (wants i)) (map (counted modes) es) ≡ 0
none_above s modes [] i above all = refl
none_above s modes (e ∷ es) i above all =
    let parts = and_parts (is_narrow_entry e) (list_all is_narrow_entry es) all in
    let later = none_above s modes es i above parts.1 in
    let zero_is : bit_at (required_by (mode_in e.seed.master modes) e).0 i ≡ 0 = required_bit (mode_in e.seed.master modes) e i above parts.0 in
    let whole : count_by (on s (wants i)) (map (counted modes) (e ∷ es)) ≡ one_if (on s (wants i) (counted modes e)) + count_by (on s (wants i)) (map (counted modes) es) =
    count_by-cons (on s (wants i)) (counted modes e) (map (counted modes) es)
    in
    let none : one_if (on s (wants i) (counted modes e)) ≡ 0 = ap (λ n. one_if ((e.seed.slave == s) && (n == 1))) zero_is ∙ off (e.seed.slave == s) in
    omega arith
  where
    off : (b : Bool) → one_if (b && (0 == 1)) ≡ 0
    off true = refl
    off false = refl

-- three tests make a set
three : (x y z : Bool) → (bit_at (one_if x + (2 * one_if y + 4 * one_if z)) 0 ≡ one_if x)
    × (bit_at (one_if x + (2 * one_if y + 4 * one_if z)) 1 ≡ one_if y)
    × (bit_at (one_if x + (2 * one_if y + 4 * one_if z)) 2 ≡ one_if z)
three true true true = (refl, refl, refl)
three true true false = (refl, refl, refl)
three true false true = (refl, refl, refl)
three true false false = (refl, refl, refl)
three false true true = (refl, refl, refl)
three false true false = (refl, refl, refl)
three false false true = (refl, refl, refl)
three false false false = (refl, refl, refl)

some_is : (n : ℕ) → nat_lt 0 (suc n) ≡ true
some_is n = let some : 0 < suc n = omega arith in grind (arith, nat_tests)

none_is : (n : ℕ) → (suc n == 0) ≡ false
none_is n = grind (arith, nat_tests)

min_is : (n : ℕ) → min 1 n ≡ one_if (nat_lt 0 n)
min_is zero = refl
min_is (suc n) = let one : one_if (nat_lt 0 (suc n)) ≡ 1 = ap one_if (some_is n) in omega arith

flag_is : (n v : ℕ) → flag n v ≡ cond (nat_lt 0 n) v 0
flag_is zero v = refl
flag_is (suc n) v = ap (λ b. cond b 0 v) (none_is n) ∙ sym (ap (λ b. cond b v 0) (some_is n))

twice : (b : Bool) → cond b 2 0 ≡ 2 * one_if b
twice true = refl
twice false = refl

fourfold : (b : Bool) → cond b 4 0 ≡ 4 * one_if b
fourfold true = refl
fourfold false = refl

-- three counts make a set
pub flags : (a b c : ℕ) → flag a 1 + (flag b 2 + flag c 4)
    ≡ one_if (nat_lt 0 a) + (2 * one_if (nat_lt 0 b) + 4 * one_if (nat_lt 0 c))
flags a b c =
    let one = flag_is a 1 in
    let two = flag_is b 2 ∙ twice (nat_lt 0 b) in
    let three = flag_is c 4 ∙ fourfold (nat_lt 0 c) in
    ap (λ n. n + (flag b 2 + flag c 4)) one ∙ (ap (λ n. one_if (nat_lt 0 a) + (n + flag c 4)) two
    ∙ ap (λ n. one_if (nat_lt 0 a) + (2 * one_if (nat_lt 0 b) + n)) three)

-- the counts tell what is wanted
pub caps_wanted : (s : ℕ) (modes : List Mode) (es : List Entry) (t : Tally) → AreTallied (map (counted modes) es) t
    → list_all is_narrow_entry es ≡ true → s < length t.users
    → flag (slice_index t.access s) 1 + (flag (slice_index t.context s) 2 + flag (slice_index t.wakeup s) 4)
    ≡ (fold (with_row s modes) nothing_wanted es).caps.0
caps_wanted s modes es t are narrow within = same_from_bits _ _ (λ i. sym (bit i ∙ sym (flag_bit i)))
  where
    bit : (i : ℕ) → bit_at (fold (with_row s modes) nothing_wanted es).caps.0 i ≡ min 1 (count_by (on s (wants i)) (map (counted modes) es))
    bit i = let is = bits_of_wanted s modes es nothing_wanted i in let none = bit_at-zero i in omega arith

    most : (b : Bool) → one_if b ≤ 1
    most true = omega arith
    most false = omega arith

    small : flag (slice_index t.access s) 1 + (flag (slice_index t.context s) 2 + flag (slice_index t.wakeup s) 4) < 2 ^ 3
    small =
        let is = flags (slice_index t.access s) (slice_index t.context s) (slice_index t.wakeup s) in
        omega (arith, is, most (nat_lt 0 (slice_index t.access s)), most (nat_lt 0 (slice_index t.context s)), most (nat_lt 0 (slice_index t.wakeup s)))

    flag_bit : (i : ℕ) → bit_at (flag (slice_index t.access s) 1 + (flag (slice_index t.context s) 2 + flag (slice_index t.wakeup s) 4)) i
        ≡ min 1 (count_by (on s (wants i)) (map (counted modes) es))
    flag_bit zero =
        ap (λ n. bit_at n 0) (flags (slice_index t.access s) (slice_index t.context s) (slice_index t.wakeup s))
        ∙ ((three (nat_lt 0 (slice_index t.access s)) (nat_lt 0 (slice_index t.context s)) (nat_lt 0 (slice_index t.wakeup s))).0
        ∙ (sym (min_is (slice_index t.access s)) ∙ ap (min 1) (are.access.right s within)))
    flag_bit (suc zero) =
        ap (λ n. bit_at n 1) (flags (slice_index t.access s) (slice_index t.context s) (slice_index t.wakeup s))
        ∙ ((three (nat_lt 0 (slice_index t.access s)) (nat_lt 0 (slice_index t.context s)) (nat_lt 0 (slice_index t.wakeup s))).1
        ∙ (sym (min_is (slice_index t.context s)) ∙ ap (min 1) (are.context.right s within)))
    flag_bit (suc (suc zero)) =
        ap (λ n. bit_at n 2) (flags (slice_index t.access s) (slice_index t.context s) (slice_index t.wakeup s))
        ∙ ((three (nat_lt 0 (slice_index t.access s)) (nat_lt 0 (slice_index t.context s)) (nat_lt 0 (slice_index t.wakeup s))).2
        ∙ (sym (min_is (slice_index t.wakeup s)) ∙ ap (min 1) (are.wakeup.right s within)))
    flag_bit (suc (suc (suc i))) =
        bit_at_above _ 3 (suc (suc (suc i))) small (omega arith)
        ∙ ap (min 1) (sym (none_above s modes es (suc (suc (suc i))) (omega arith) narrow))

-- ---- what is wanted

entries_back : (modes : List Mode) (es : List Entry) → map entry_in (map (counted modes) es) ≡ es
entries_back modes [] = refl
entries_back modes (e ∷ es) = ap (λ xs. e ∷ xs) (entries_back modes es)

none_wants : (s n : ℕ) (modes : List Mode) (es : List Entry) → list_all (is_placed n) es ≡ true → n ≤ s → (w : Wanted)
    → fold (with_row s modes) w es ≡ w
none_wants s n modes [] all past w = refl
none_wants s n modes (e ∷ es) all past w =
    let parts = and_parts (is_placed n e) (list_all (is_placed n) es) all in
    let below : e.seed.slave < n = ltb-true _ _ parts.0 in
    let apart : (e.seed.slave == s) ≡ false = (let other : e.seed.slave < s = omega arith in grind (arith, nat_tests)) in
    ap (λ v. fold (with_row s modes) v es) (row_off s modes w e apart) ∙ none_wants s n modes es parts.1 past w

pub counts_tell : (s : ℕ) (modes : List Mode) (es : List Entry) (t : Tally) → AreTallied (map (counted modes) es) t
    → list_all is_narrow_entry es ≡ true → list_all (is_placed (length t.users)) es ≡ true
    → wanted_in s t ≡ fold (with_row s modes) nothing_wanted es
counts_tell s modes es t are narrow placed = at (nat_lt s (length t.users)) refl
  where
    at : (b : Bool) → nat_lt s (length t.users) ≡ b
        → (if b then record {
          caps = record { 0 = flag (slice_index t.access s) 1 + (flag (slice_index t.context s) 2 + flag (slice_index t.wakeup s) 4) };
          limit = unwrap_or (slice_get t.limits s) None;
        } else nothing_wanted) ≡ fold (with_row s modes) nothing_wanted es
    at true is =
        let within : s < length t.users = ltb-true _ _ is in
        let one = caps_wanted s modes es t are narrow within in
        let limit : unwrap_or (slice_get t.limits s) None ≡ (fold (with_row s modes) nothing_wanted es).limit =
        ap (λ (got : Option (Option ℕ)). unwrap_or got None) (are.limits.right s within)
        ∙ (ap (limit_of s) (entries_back modes es) ∙ sym (limit_of_wanted s modes es nothing_wanted))
        in
        ap (λ n. record { caps = record { 0 = n }; limit = unwrap_or (slice_get t.limits s) None }) one
        ∙ ap (λ l. record { caps = record { 0 = (fold (with_row s modes) nothing_wanted es).caps.0 }; limit = l }) limit
    at false is =
        let past : length t.users ≤ s = grind (arith, nat_tests) in
        sym (none_wants s (length t.users) modes es placed past nothing_wanted)

-- ---- how many use a slave

users_mapped : (s : ℕ) (modes : List Mode) (es : List Entry) → count_by (on s uses) (map (counted modes) es) ≡ count_by (is_user s) es
users_mapped s modes [] = refl
users_mapped s modes (e ∷ es) =
    let one : count_by (on s uses) (map (counted modes) (e ∷ es)) ≡ one_if (is_user s e) + count_by (on s uses) (map (counted modes) es) =
    count_by-cons (on s uses) (counted modes e) (map (counted modes) es)
    in
    let two : count_by (is_user s) (e ∷ es) ≡ one_if (is_user s e) + count_by (is_user s) es = count_by-cons (is_user s) e es in
    let later = users_mapped s modes es in
    omega arith

none_users : (s n : ℕ) (es : List Entry) → list_all (is_placed n) es ≡ true → n ≤ s → count_by (is_user s) es ≡ 0
none_users s n [] all past = refl
none_users s n (e ∷ es) all past =
    let parts = and_parts (is_placed n e) (list_all (is_placed n) es) all in
    let below : e.seed.slave < n = ltb-true _ _ parts.0 in
    let apart : (e.seed.slave == s) ≡ false = (let other : e.seed.slave < s = omega arith in grind (arith, nat_tests)) in
    let none : one_if (is_user s e) ≡ 0 = ap (λ b. one_if (b && e.row.used)) apart in
    let whole : count_by (is_user s) (e ∷ es) ≡ one_if (is_user s e) + count_by (is_user s) es = count_by-cons (is_user s) e es in
    let later = none_users s n es parts.1 past in
    omega arith

pub users_tell : (s : ℕ) (modes : List Mode) (es : List Entry) (t : Tally) → AreTallied (map (counted modes) es) t
    → list_all (is_placed (length t.users)) es ≡ true → length es < 2 ^ 31
    → slice_index t.users s ≡ min (count_by (is_user s) es) (2 ^ 32 - 1)
users_tell s modes es t are placed few = at (nat_lt s (length t.users)) refl
  where
    at : (b : Bool) → nat_lt s (length t.users) ≡ b → slice_index t.users s ≡ min (count_by (is_user s) es) (2 ^ 32 - 1)
    at true is =
        let right : slice_index t.users s ≡ count_by (on s uses) (map (counted modes) es) = are.users.right s (ltb-true _ _ is) in
        let alike = users_mapped s modes es in
        let most = count_most (is_user s) es in
        omega arith
    at false is =
        let past : length t.users ≤ s = grind (arith, nat_tests) in
        let none : slice_index t.users s ≡ 0 = get_or_past t.users s 0 past in
        let nobody = none_users s (length t.users) es placed past in
        omega arith
