-- What a change doesn't write down is as it was before it, and so it is along a step. One case for each change.
use Rattle.std.proofs.Common.{◌≡◌, ◌≢◌, ℕ, zero, suc, ◌+◌, ◌<◌, ◌≤◌, ◌==◌, ◌&&◌, ◌||◌, Bool, true, false, not, cond, nat_lt, if◌then◌else◌, List, [], ◌∷◌, ◌++◌, length, map, slice_get, unwrap_or, Option, Some, None, refl, arith, sym, ap, ◌∙◌, inl, inr}
use Rattle.std.specs.Prelude.{count_by, fold, slice_set}
use Rattle.std.specs.List.{list_any}
use Rattle.std.proofs.lemmas.Bool.{eqb-true}
use Rattle.std.proofs.lemmas.List.{get_or-set_other, length-set}
use Rattle.std.proofs.lemmas.List.Folds.{list_any-append}
use Rattle.std.proofs.lemmas.Grind.{get_or-set_at}
use Rattle.std.proofs.lemmas.Option.{slice_get-get_or, unwrap_or-slice_get}
use Rattle.pm_base.proofs.Booleans.{differs, neither, unequal}
use Rattle.pm_base.proofs.Counts.{count_by-cons}
use Rattle.pm_base.specs.declared.caps.Caps.{Caps}
use Rattle.pm_base.specs.declared.names.Mode.{Mode}
use Rattle.pm_base.specs.declared.names.Mode.TheVariants.{Off}
use Rattle.pm_object.specs.declared.object.Object.{Object}
use Rattle.pm_procs.specs.Procs.{gone, off, proc_at}
use Rattle.pm_resets.specs.Resets.{is_asserted}
use Rattle.pm_rows.specs.declared.row.Change.{Change}
use Rattle.pm_rows.specs.declared.row.Entry.{Entry}
use Rattle.pm_rows.specs.declared.row.Row.{Row}
use Rattle.pm_rows.specs.declared.wanted.Wanted.{Wanted}
use Rattle.pm_rows.specs.Modes.{mode_in}
use Rattle.pm_rows.specs.Passes.{is_idle}
use Rattle.pm_rows.specs.Rows.{Rows, applied, change_at, cleared, cleared_entry, dropped_at, is_at, is_user, mode_of, settled_at, users_of}
use Rattle.pm_rows.specs.Shift.{is_start, is_taken, shift_at, shifted_row}
use Rattle.pm_rows.specs.Wanted.{both, least, limit_by, nothing_wanted, required_by, wanted_of, with_row}
use Rattle.pm_state.specs.Changes.{Keeps, Listed, Written, all_listed, is_in, is_listed, is_of, listed, listed_from, listed_if, listed_rows, unwritten, with_master, with_masters, with_rows_of, writes, written, written_along, written_by, written_stage}
use Rattle.pm_state.specs.Members.{owns}
use Rattle.pm_state.specs.Prims.{Prim, At_row, Settle, Put_proc, Put_line, Shift, Clear, Halt, Reload, Enforce, apply, applies, apply_core, changed, enforced, proc_put, reloaded}
use Rattle.pm_state.specs.Stages.{after_stage, after_stages, follow, last_of, path_from}
use Rattle.pm_state.specs.State.{CoreHalf, Fixed, Now, State, object_at}
use Rattle.pm_rows.proofs.Left.{idle_is}
use Rattle.pm_state.proofs.ChangesLemmas.{unlisted_at}
use Rattle.pm_state.proofs.FollowLemmas.{other_mode}
use Rattle.pm_rows.proofs.Left.{idle_needs, idle_shifts}
use Rattle.pm_state.proofs.IdleLemmas.{Apart, apart_of, idle_adds, idle_of, idle_unused}

-- ---- what isn't written down after one more wasn't before

or_false : (b : Bool) → (b || false) ≡ false → b ≡ false
or_false true off = cc
or_false false off = refl

left_by : (k j : ℕ) (places : Listed) (there : Bool) → is_listed k places ≡ there → is_listed j (if there then places else record places { list = places.list ++ k ∷ [] }) ≡ false
    → (is_listed j places ≡ false) × (j ≢ k)
left_by k j places true there clear = (clear, λ same. let no : is_listed k places ≡ false = ap (λ i. is_listed i places) (sym same) ∙ clear in cc)
left_by k j places false there clear =
    let parts = neither (not (nat_lt j places.count)) (is_in j (places.list ++ k ∷ [])) clear in
    let among = neither (is_in j places.list) (is_in j (k ∷ [])) (sym (list_any-append (λ i. i == j) places.list (k ∷ [])) ∙ parts.1) in
    let apart : (k == j) ≡ false = or_false (k == j) among.1 in (
      ap (λ b. b || is_in j places.list) parts.0 ∙ among.0,
      λ same. differs k j apart (sym same),
    )

pub listed_left : (k j : ℕ) (places : Listed) → is_listed j (listed k places) ≡ false → (is_listed j places ≡ false) × (j ≢ k)
listed_left k j places clear = left_by k j places (is_listed k places) refl clear

-- a row on the slave at place s that passes a test
abbrev is_on : ℕ → (Entry → Bool) → Entry → Bool
is_on s test e = (e.seed.slave == s) && test e

if_left : (asked : Bool) (k j : ℕ) (places : Listed) → is_listed j (listed_if asked k places) ≡ false → (is_listed j places ≡ false) × (((k == j) && asked) ≡ false)
if_left false k j places clear = (clear, and_false (k == j))
  where
    and_false : (b : Bool) → (b && false) ≡ false
    and_false true = refl
    and_false false = refl
if_left true k j places clear =
    let left = listed_left k j places clear in
    (left.0, ap (λ b. b && true) (unequal k j (λ same. left.1 (sym same))))

pub rows_left : (test : Entry → Bool) (es : List Entry) (j : ℕ) (places : Listed) → is_listed j (listed_rows test es places) ≡ false → (is_listed j places ≡ false) × (list_any (is_on j test) es ≡ false)
rows_left test [] j places clear = (clear, refl)
rows_left test (e ∷ es) j places clear =
    let later = rows_left test es j (listed_if (test e) e.seed.slave places) clear in
    let first = if_left (test e) e.seed.slave j places later.0 in
    (first.0, ap (λ b. b || list_any (is_on j test) es) first.1 ∙ later.1)

-- none of these places is left
abbrev Past : (count k j : ℕ) → Type 0
Past count k j = (i : ℕ) → k ≤ i → i < k + count → j ≢ i

past_one : (count k j i : ℕ) → j ≢ k → Past count (k + 1) j → k ≤ i → i < k + suc count → (here : Bool) → (k == i) ≡ here → j ≢ i
past_one count k j i apart past from to true is = λ same. apart (same ∙ sym (eqb-true k i is))
past_one count k j i apart past from to false is = past i (omega (arith, from, differs k i is)) (omega (arith, to))

from_left : (count k j : ℕ) (places : Listed) → is_listed j (listed_from count k places) ≡ false → (is_listed j places ≡ false) × Past count k j
from_left zero k j places clear = (clear, λ i from to. absurd (omega (arith, from, to)))
from_left (suc count) k j places clear =
    let later = from_left count (k + 1) j (listed k places) clear in
    let first = listed_left k j places later.0 in
    (first.0, λ i from to. past_one count k j i first.1 later.1 from to (k == i) refl)

none_left : {A : Type 0} (j : ℕ) (places : Listed) → is_listed j places ≡ false → Past places.count 0 j → A
none_left j places clear past = absurd (past j (omega arith) (omega (arith, (unlisted_at j places.list places.count clear).0)) refl)

-- ---- the modes of masters that are written down

abbrev Was : Written → Rows → Type 0
Was w before = (m : ℕ) → m < length w.modes → is_in m w.masters.list ≡ true → slice_get w.modes m ≡ Some (mode_of m before)

record Knows (w : Written) (before rows : Rows) : Type 0 where
  unlisted : (m : ℕ) → is_listed m w.masters ≡ false → mode_of m rows ≡ mode_of m before
  was : Was w before

or_last : (b c : Bool) → (b || (c || false)) ≡ true → c ≡ false → b ≡ true
or_last true c is off = refl
or_last false true is off = cc
or_last false false is off = cc

was_by : (m : ℕ) (w : Written) (before rows : Rows) → Knows w before rows → (there : Bool) → is_listed m w.masters ≡ there
    → Was (record w { masters = if there then w.masters else record w.masters { list = w.masters.list ++ m ∷ [] }; modes = if there then w.modes else slice_set w.modes m (mode_of m rows) }) before
was_by m w before rows knows true there = knows.was
was_by m w before rows knows false there = λ j within among.
    let same_length = length-set w.modes m (mode_of m rows) in
    let so : (here : Bool) → (m == j) ≡ here → slice_get (slice_set w.modes m (mode_of m rows)) j ≡ Some (mode_of j before) = λ here is. one j within among same_length here is in
    so (m == j) refl
  where
    one : (j : ℕ) → j < length (slice_set w.modes m (mode_of m rows)) → is_in j (w.masters.list ++ m ∷ []) ≡ true → length (slice_set w.modes m (mode_of m rows)) ≡ length w.modes
        → (here : Bool) → (m == j) ≡ here → slice_get (slice_set w.modes m (mode_of m rows)) j ≡ Some (mode_of j before)
    one j within among same_length true is =
        let same : m ≡ j = eqb-true m j is in
        slice_get-get_or (slice_set w.modes m (mode_of m rows)) j Off within
        ∙ (ap (λ x. Some x) (get_or-set_at w.modes m j (mode_of m rows) Off (sym same) (omega (arith, within, same, same_length)))
        ∙ ap (λ x. Some x) (knows.unlisted m there ∙ ap (λ i. mode_of i before) same))
    one j within among same_length false is =
        let in_it : is_in j w.masters.list ≡ true =
        or_last (is_in j w.masters.list) (m == j) (sym (list_any-append (λ i. i == j) w.masters.list (m ∷ [])) ∙ among) is
        in
        let inside : j < length w.modes = omega (arith, within, same_length) in
        slice_get-get_or (slice_set w.modes m (mode_of m rows)) j Off within
        ∙ (ap (λ x. Some x) (get_or-set_other w.modes m j (mode_of m rows) Off (λ same. differs m j is (sym same)))
        ∙ (sym (slice_get-get_or w.modes j Off inside) ∙ knows.was j inside in_it))

master_known : (m : ℕ) (w : Written) (before rows : Rows) → Knows w before rows → Knows (with_master m (mode_of m rows) w) before rows
master_known m w before rows knows = record {
  unlisted = λ j clear. knows.unlisted j (listed_left m j w.masters clear).0;
  was = was_by m w before rows knows (is_listed m w.masters) refl;
}

masters_known : (count m : ℕ) (w : Written) (before rows : Rows) → Knows w before rows → Knows (with_masters count m rows w) before rows
masters_known zero m w before rows knows = knows
masters_known (suc count) m w before rows knows =
    masters_known count (m + 1) (with_master m (mode_of m rows) w) before rows (master_known m w before rows knows)

-- what else is written down stays so
record Beside (w after : Written) : Type 0 where
  slaves : after.slaves ≡ w.slaves
  procs : after.procs ≡ w.procs
  lines : after.lines ≡ w.lines

masters_beside : (count m : ℕ) (rows : Rows) (w : Written) → Beside w (with_masters count m rows w)
masters_beside zero m rows w = record { slaves = refl; procs = refl; lines = refl }
masters_beside (suc count) m rows w =
    let later = masters_beside count (m + 1) rows (with_master m (mode_of m rows) w) in
    record { slaves = later.slaves; procs = later.procs; lines = later.lines }

masters_left : (count m j : ℕ) (rows : Rows) (w : Written) → is_listed j (with_masters count m rows w).masters ≡ false → (is_listed j w.masters ≡ false) × Past count m j
masters_left zero m j rows w clear = (clear, λ i from to. absurd (omega (arith, from, to)))
masters_left (suc count) m j rows w clear =
    let later = masters_left count (m + 1) j rows (with_master m (mode_of m rows) w) clear in
    let first = listed_left m j w.masters later.0 in
    (first.0, λ i from to. past_one count m j i first.1 later.1 from to (m == i) refl)

-- ---- what is wanted of a slave, and who uses it

-- of the rows that pass the test, none is on the slave; the others stay, and require the same in the modes afterwards
module _ (s : ℕ) (known next : List Mode) (f : Entry → Entry) (test : Entry → Bool) (seeds : (e : Entry) → (f e).seed ≡ e.seed) (same : (e : Entry) → test e ≡ false → f e ≡ e)
    (needs : (e : Entry) → test e ≡ false → required_by (mode_in e.seed.master next) e ≡ required_by (mode_in e.seed.master known) e)
  where
    wanted_if : (wanted : Wanted) (e : Entry) (here : Bool) → (e.seed.slave == s) ≡ here → (here && test e) ≡ false → with_row s next wanted (f e) ≡ with_row s known wanted e
    wanted_if wanted e false is clear =
        let apart : ((f e).seed.slave == s) ≡ false = ap (λ seed. seed.slave == s) (seeds e) ∙ is in
        rw (apart, is) refl
    wanted_if wanted e true is clear =
        ap (with_row s next wanted) (same e clear)
        ∙ ap (λ (caps : Caps). if e.seed.slave == s then record { caps = both wanted.caps caps; limit = least wanted.limit (limit_by e) } else wanted) (needs e clear)

    user_if : (e : Entry) (here : Bool) → (e.seed.slave == s) ≡ here → (here && test e) ≡ false → is_user s (f e) ≡ is_user s e
    user_if e false is clear =
        ap (λ seed. (seed.slave == s) && (f e).row.used) (seeds e)
        ∙ (ap (λ b. b && (f e).row.used) is ∙ sym (ap (λ b. b && e.row.used) is))
    user_if e true is clear = ap (is_user s) (same e clear)

    wanted_all : (wanted : Wanted) (es : List Entry) → list_any (is_on s test) es ≡ false → fold (with_row s next) wanted (map f es) ≡ fold (with_row s known) wanted es
    wanted_all wanted [] clear = refl
    wanted_all wanted (e ∷ es) clear =
        let parts = neither (is_on s test e) (list_any (is_on s test) es) clear in
        ap (λ w. fold (with_row s next) w (map f es)) (wanted_if wanted e (e.seed.slave == s) refl parts.0)
        ∙ wanted_all (with_row s known wanted e) es parts.1

    users_all : (es : List Entry) → list_any (is_on s test) es ≡ false → count_by (is_user s) (map f es) ≡ count_by (is_user s) es
    users_all [] clear = refl
    users_all (e ∷ es) clear =
        let parts = neither (is_on s test e) (list_any (is_on s test) es) clear in
        count_by-cons (is_user s) (f e) (map f es)
        ∙ (ap (λ b. cond b 1 0 + count_by (is_user s) (map f es)) (user_if e (e.seed.slave == s) refl parts.0)
        ∙ (ap (λ n. cond (is_user s e) 1 0 + n) (users_all es parts.1)
        ∙ sym (count_by-cons (is_user s) e es)))

-- on a slave whose rows are idle nothing is wanted, and nobody uses it
none_on : (s : ℕ) (known : List Mode) (wanted : Wanted) (es : List Entry) → list_any (is_on s (is_of None false)) es ≡ false → fold (with_row s known) wanted es ≡ wanted
none_on s known wanted [] clear = refl
none_on s known wanted (e ∷ es) clear =
    let parts = neither (is_on s (is_of None false) e) (list_any (is_on s (is_of None false)) es) clear in
    ap (λ w. fold (with_row s known) w es) (idle_adds (mode_in e.seed.master known) wanted e (e.seed.slave == s) parts.0) ∙ none_on s known wanted es parts.1

abbrev counted : Bool → ℕ
counted b = cond b 1 0

no_users : (s : ℕ) (es : List Entry) → list_any (is_on s (is_of None false)) es ≡ false → count_by (is_user s) es ≡ 0
no_users s [] clear = refl
no_users s (e ∷ es) clear =
    let parts = neither (is_on s (is_of None false) e) (list_any (is_on s (is_of None false)) es) clear in
    let apart : is_user s e ≡ false = idle_unused e (e.seed.slave == s) parts.0 in
    let one : counted (is_user s e) ≡ 0 = ap counted apart in
    rw (count_by-cons (is_user s) e es) (omega (arith, one, no_users s es parts.1))

-- the rows on one slave are none on another
apart_none : (s k : ℕ) (es : List Entry) → s ≢ k → list_any (is_on s (λ e. e.seed.slave == k)) es ≡ false
apart_none s k [] apart = refl
apart_none s k (e ∷ es) apart =
    ap (λ b. b || list_any (is_on s (λ e. e.seed.slave == k)) es) (two e (e.seed.slave == s) refl) ∙ apart_none s k es apart
  where
    two : (e : Entry) (here : Bool) → (e.seed.slave == s) ≡ here → (here && (e.seed.slave == k)) ≡ false
    two e false is = refl
    two e true is = unequal e.seed.slave k (λ same. apart (sym (eqb-true e.seed.slave s is) ∙ same))

-- ---- one change

-- what a change of the core half leaves of what it doesn't write down
record Leaves (w after : Written) (core next : CoreHalf) : Type 0 where
  slaves : (s : ℕ) → is_listed s after.slaves ≡ false
      → (is_listed s w.slaves ≡ false) × (wanted_of s next.rows ≡ wanted_of s core.rows) × (users_of s next.rows ≡ users_of s core.rows)
  procs : (p : ℕ) → is_listed p after.procs ≡ false → (is_listed p w.procs ≡ false) × (proc_at p next.procs ≡ proc_at p core.procs)
  lines : (l : ℕ) → is_listed l after.lines ≡ false → (is_listed l w.lines ≡ false) × (is_asserted l next.lines ≡ is_asserted l core.lines)
  masters : (m : ℕ) → is_listed m after.masters ≡ false → (is_listed m w.masters ≡ false) × (mode_of m next.rows ≡ mode_of m core.rows)

kept_on : (w after : Written) (before core next : CoreHalf) → Keeps w before core → Leaves w after core next → Was after before.rows → Keeps after before next
kept_on w after before core next keeps leaves was = record {
  wanted = λ s clear. let left = leaves.slaves s clear in left.1 ∙ keeps.wanted s left.0;
  users = λ s clear. let left = leaves.slaves s clear in left.2 ∙ keeps.users s left.0;
  procs = λ p clear. let left = leaves.procs p clear in left.1 ∙ keeps.procs p left.0;
  lines = λ l clear. let left = leaves.lines l clear in left.1 ∙ keeps.lines l left.0;
  modes = λ m clear. let left = leaves.masters m clear in left.1 ∙ keeps.modes m left.0;
  was = was;
}

nothing_leaves : (w : Written) (core : CoreHalf) → Leaves w w core core
nothing_leaves w core = record {
  slaves = λ s clear. (clear, refl, refl);
  procs = λ p clear. (clear, refl);
  lines = λ l clear. (clear, refl);
  masters = λ m clear. (clear, refl);
}

at_elsewhere : {X : Type 0} (xs : List X) (k j : ℕ) (x d : X) → j ≢ k → unwrap_or (slice_get (slice_set xs k x) j) d ≡ unwrap_or (slice_get xs j) d
at_elsewhere xs k j x d apart =
    unwrap_or-slice_get (slice_set xs k x) j d ∙ (get_or-set_other xs k j x d apart ∙ sym (unwrap_or-slice_get xs j d))

change_if : (m s : ℕ) (by : Change) (e : Entry) (here : Bool) → (if here then record e { row = applied by e.row } else e).seed ≡ e.seed
change_if m s by e true = refl
change_if m s by e false = refl

not_at : (m s : ℕ) (e : Entry) → (e.seed.slave == s) ≡ false → is_at m s e ≡ false
not_at m s e apart = ap (λ b. (e.seed.master == m) && b) apart ∙ and_false (e.seed.master == m)
  where
    and_false : (b : Bool) → (b && false) ≡ false
    and_false true = refl
    and_false false = refl

row_changes : (m s : ℕ) (by : Change) (core : CoreHalf) (w : Written)
    → (k : ℕ) → k ≢ s → (wanted_of k (record core.rows { entries = map (change_at m s by) core.rows.entries }) ≡ wanted_of k core.rows)
    × (users_of k (record core.rows { entries = map (change_at m s by) core.rows.entries }) ≡ users_of k core.rows)
row_changes m s by core w k apart =
    let none = apart_none k s core.rows.entries apart in
    let seeds : (e : Entry) → (change_at m s by e).seed ≡ e.seed = λ e. change_if m s by e (is_at m s e) in
    let same : (e : Entry) → (e.seed.slave == s) ≡ false → change_at m s by e ≡ e =
    λ e off. ap (λ b. if b then record e { row = applied by e.row } else e) (not_at m s e off)
    in (
      wanted_all k core.rows.known core.rows.known (change_at m s by) (λ e. e.seed.slave == s) seeds same (λ e off. refl) nothing_wanted core.rows.entries none,
      users_all k core.rows.known core.rows.known (change_at m s by) (λ e. e.seed.slave == s) seeds same (λ e off. refl) core.rows.entries none,
    )

drop_if : (e : Entry) (here : Bool) → (if here then record e { row = cleared e.row } else e).seed ≡ e.seed
drop_if e true = refl
drop_if e false = refl

row_drops : (s : ℕ) (core : CoreHalf) (k : ℕ) → k ≢ s
    → (wanted_of k (record core.rows { entries = map (dropped_at s) core.rows.entries }) ≡ wanted_of k core.rows)
    × (users_of k (record core.rows { entries = map (dropped_at s) core.rows.entries }) ≡ users_of k core.rows)
row_drops s core k apart =
    let none = apart_none k s core.rows.entries apart in
    let seeds : (e : Entry) → (dropped_at s e).seed ≡ e.seed = λ e. drop_if e (e.seed.slave == s) in
    let same : (e : Entry) → (e.seed.slave == s) ≡ false → dropped_at s e ≡ e = λ e off. ap (λ b. if b then record e { row = cleared e.row } else e) off in (
      wanted_all k core.rows.known core.rows.known (dropped_at s) (λ e. e.seed.slave == s) seeds same (λ e off. refl) nothing_wanted core.rows.entries none,
      users_all k core.rows.known core.rows.known (dropped_at s) (λ e. e.seed.slave == s) seeds same (λ e off. refl) core.rows.entries none,
    )

settle_if : (e : Entry) (here : Bool) → (if here then record e { row = record e.row { hold = false } } else e).seed ≡ e.seed
settle_if e true = refl
settle_if e false = refl

row_settles : (m : ℕ) (core : CoreHalf) (k : ℕ) → list_any (is_on k (is_of (Some m) false)) core.rows.entries ≡ false
    → (wanted_of k (record core.rows { entries = map (settled_at m) core.rows.entries }) ≡ wanted_of k core.rows)
    × (users_of k (record core.rows { entries = map (settled_at m) core.rows.entries }) ≡ users_of k core.rows)
row_settles m core k none =
    let seeds : (e : Entry) → (settled_at m e).seed ≡ e.seed = λ e. settle_if e (e.seed.master == m) in
    let same : (e : Entry) → is_of (Some m) false e ≡ false → settled_at m e ≡ e = λ e off. at e (apart_of (Some m) false e off) in (
      wanted_all k core.rows.known core.rows.known (settled_at m) (is_of (Some m) false) seeds same (λ e off. refl) nothing_wanted core.rows.entries none,
      users_all k core.rows.known core.rows.known (settled_at m) (is_of (Some m) false) seeds same (λ e off. refl) core.rows.entries none,
    )
  where
    stays : (e : Entry) (b : Bool) → is_idle e.row ≡ true → (if b then record e { row = record e.row { hold = false } } else e) ≡ e
    stays e true idle =
        ap (λ (row : Row). record e { row = record row { hold = false } }) (idle_is e.row idle) ∙ sym (ap (λ (row : Row). record e { row = row }) (idle_is e.row idle))
    stays e false idle = refl

    at : (e : Entry) → Apart (Some m) false e → settled_at m e ≡ e
    at e (inl other) = ap (λ b. if b then record e { row = record e.row { hold = false } } else e) other
    at e (inr left) = stays e (e.seed.master == m) left.0

shift_if : (from to : Mode) (taken : Bool) (e : Entry) (here : Bool) → (if here then record e { row = shifted_row from to taken e.row } else e).seed ≡ e.seed
shift_if from to taken e true = refl
shift_if from to taken e false = refl

row_shifts : (m : ℕ) (from to : Mode) (core : CoreHalf) (k : ℕ) → list_any (is_on k (is_of (Some m) (is_start from to))) core.rows.entries ≡ false
    → (wanted_of k (record core.rows { entries = map (shift_at core.rows.entries m from to) core.rows.entries; known = slice_set core.rows.known m to }) ≡ wanted_of k core.rows)
    × (users_of k (record core.rows { entries = map (shift_at core.rows.entries m from to) core.rows.entries; known = slice_set core.rows.known m to }) ≡ users_of k core.rows)
row_shifts m from to core k none =
    let f : Entry → Entry = shift_at all m from to in
    let test : Entry → Bool = is_of (Some m) (is_start from to) in
    let seeds : (e : Entry) → (f e).seed ≡ e.seed = λ e. shift_if from to (is_taken all e) e (e.seed.master == m) in
    let same : (e : Entry) → test e ≡ false → f e ≡ e = λ e off. at e (apart_of (Some m) (is_start from to) e off) in
    let needs : (e : Entry) → test e ≡ false → required_by (mode_in e.seed.master (slice_set known m to)) e ≡ required_by (mode_in e.seed.master known) e =
    λ e off. alike e (apart_of (Some m) (is_start from to) e off)
    in (
      wanted_all k known (slice_set known m to) f test seeds same needs nothing_wanted all none,
      users_all k known (slice_set known m to) f test seeds same needs all none,
    )
  where
    all : List Entry
    all = core.rows.entries

    known : List Mode
    known = core.rows.known

    stays : (e : Entry) (b : Bool) → is_idle e.row ≡ true → (not (is_start from to) || (e.row.preset.0 == 0)) ≡ true
        → (if b then record e { row = shifted_row from to (is_taken all e) e.row } else e) ≡ e
    stays e true idle none = ap (λ (row : Row). record e { row = row }) (idle_shifts from to (is_taken all e) e.row idle none)
    stays e false idle none = refl

    at : (e : Entry) → Apart (Some m) (is_start from to) e → shift_at all m from to e ≡ e
    at e (inl other) = ap (λ b. if b then record e { row = shifted_row from to (is_taken all e) e.row } else e) other
    at e (inr parts) = stays e (e.seed.master == m) parts.0 parts.1

    alike : (e : Entry) → Apart (Some m) (is_start from to) e → required_by (mode_in e.seed.master (slice_set known m to)) e ≡ required_by (mode_in e.seed.master known) e
    alike e (inl other) = ap (λ (mode : Mode). required_by mode e) (other_mode known m e.seed.master to (differs e.seed.master m other))
    alike e (inr parts) = idle_needs _ _ e parts.0

row_clears : (core : CoreHalf) (k : ℕ) → list_any (is_on k (is_of None false)) core.rows.entries ≡ false
    → (wanted_of k (record core.rows { entries = map cleared_entry core.rows.entries }) ≡ wanted_of k core.rows)
    × (users_of k (record core.rows { entries = map cleared_entry core.rows.entries }) ≡ users_of k core.rows)
row_clears core k none =
    let same : (e : Entry) → is_of None false e ≡ false → cleared_entry e ≡ e =
    λ e off. sym (ap (λ (row : Row). record e { row = row }) (idle_is e.row (idle_of e off)))
    in (
      wanted_all k core.rows.known core.rows.known cleared_entry (is_of None false) (λ e. refl) same (λ e off. refl) nothing_wanted core.rows.entries none,
      users_all k core.rows.known core.rows.known cleared_entry (is_of None false) (λ e. refl) same (λ e off. refl) core.rows.entries none,
    )

-- rows in place of others, neither of which are on the slave
rows_replaced : (before after : Rows) (k : ℕ) → list_any (is_on k (is_of None false)) before.entries ≡ false → list_any (is_on k (is_of None false)) after.entries ≡ false
    → (wanted_of k after ≡ wanted_of k before) × (users_of k after ≡ users_of k before)
rows_replaced before after k none_before none_after = (
  none_on k after.known nothing_wanted after.entries none_after ∙ sym (none_on k before.known nothing_wanted before.entries none_before),
  no_users k after.entries none_after ∙ sym (no_users k before.entries none_before),
)

put_if : (fixed : Fixed) (m p : ℕ) (mode : Mode) (address : ℕ) (w : Written) (core : CoreHalf) (own : Bool)
    → Leaves w (if own then record w { procs = listed p w.procs } else w) core (if own then record core { procs = proc_put p mode address core.procs } else core)
put_if fixed m p mode address w core false = nothing_leaves w core
put_if fixed m p mode address w core true = record {
  slaves = λ s clear. (clear, refl, refl);
  procs = λ j clear.
      let left = listed_left p j w.procs clear in
      (left.0, at_elsewhere core.procs p j (gone mode (record { mode = mode; address = address })) off left.1);
  lines = λ l clear. (clear, refl);
  masters = λ j clear. (clear, refl);
}

put_was : (m p : ℕ) (w : Written) (before : Rows) (own : Bool) → Was w before → Was (if own then record w { procs = listed p w.procs } else w) before
put_was m p w before true was = was
put_was m p w before false was = was

enforce_if : (fixed : Fixed) (object : Option Object) (w : Written) (core : CoreHalf) → Leaves w (with_rows_of fixed object core w) core (enforced fixed object core)
enforce_if fixed None w core = nothing_leaves w core
enforce_if fixed (Some object) w core =
    let after : Rows = (enforced fixed (Some object) core).rows in
    record {
      slaves = λ s clear.
          let later = rows_left (is_of None false) after.entries s (listed_rows (is_of None false) core.rows.entries w.slaves) clear in
          let first = rows_left (is_of None false) core.rows.entries s w.slaves later.0 in
          let same = rows_replaced core.rows after s first.1 later.1 in
          (first.0, same.0, same.1);
      procs = λ p clear. (clear, refl);
      lines = λ l clear. (clear, refl);
      masters = λ j clear. (clear, refl);
    }

enforce_was : (fixed : Fixed) (object : Option Object) (w : Written) (core : CoreHalf) (before : Rows) → Was w before → Was (with_rows_of fixed object core w) before
enforce_was fixed None w core before was = was
enforce_was fixed (Some object) w core before was = was

reload_leaves : (fixed : Fixed) (force : Object) (w : Written) (core : CoreHalf) → Leaves w (written fixed force Reload core w) core (reloaded fixed force core)
reload_leaves fixed force w core =
    let after : Rows = (reloaded fixed force core).rows in
    let beside = masters_beside w.masters.count 0 core.rows (record w { procs = all_listed w.procs; lines = all_listed w.lines }) in
    record {
      slaves = λ s clear.
          let later = rows_left (is_of None false) after.entries s _ clear in
          let first = rows_left (is_of None false) core.rows.entries s _ later.0 in
          let same = rows_replaced core.rows after s first.1 later.1 in
          (sym (ap (is_listed s) beside.slaves) ∙ first.0, same.0, same.1);
      procs = λ p clear.
          let left = from_left w.procs.count 0 p w.procs (sym (ap (is_listed p) beside.procs) ∙ clear) in
          none_left p w.procs left.0 left.1;
      lines = λ l clear.
          let left = from_left w.lines.count 0 l w.lines (sym (ap (is_listed l) beside.lines) ∙ clear) in
          none_left l w.lines left.0 left.1;
      masters = λ j clear.
          let left = masters_left w.masters.count 0 j core.rows (record w { procs = all_listed w.procs; lines = all_listed w.lines }) clear in
          none_left j w.masters left.0 left.1;
    }

known_before : (w : Written) (before core : CoreHalf) → Keeps w before core → Knows w before.rows core.rows
known_before w before core keeps = record { unlisted = keeps.modes; was = keeps.was }

-- the law: what a change doesn't write down is as it was
pub keeps_prim : (fixed : Fixed) (force : Object) (prim : Prim) (w : Written) (before core : CoreHalf) → Keeps w before core
    → Keeps (written fixed force prim core w) before (apply_core fixed force prim core)
keeps_prim fixed force (At_row m s by) w before core keeps =
    kept_on w _ before core _ keeps (record {
      slaves = λ k clear. let left = listed_left s k w.slaves clear in let same = row_changes m s by core w k left.1 in (left.0, same.0, same.1);
      procs = λ p clear. (clear, refl);
      lines = λ l clear. (clear, refl);
      masters = λ j clear. (clear, refl);
    }) keeps.was
keeps_prim fixed force (Settle m) w before core keeps =
    kept_on w _ before core _ keeps (record {
      slaves = λ k clear. let left = rows_left (is_of (Some m) false) core.rows.entries k w.slaves clear in let same = row_settles m core k left.1 in (left.0, same.0, same.1);
      procs = λ p clear. (clear, refl);
      lines = λ l clear. (clear, refl);
      masters = λ j clear. (clear, refl);
    }) keeps.was
keeps_prim fixed force (Put_proc m p mode address) w before core keeps =
    kept_on w _ before core _ keeps (put_if fixed m p mode address w core (owns fixed.object fixed.topology m p))
    (put_was m p w before.rows (owns fixed.object fixed.topology m p) keeps.was)
keeps_prim fixed force (Put_line l asserted) w before core keeps =
    kept_on w _ before core _ keeps (record {
      slaves = λ s clear. (clear, refl, refl);
      procs = λ p clear. (clear, refl);
      lines = λ j clear. let left = listed_left l j w.lines clear in (left.0, at_elsewhere core.lines l j asserted false left.1);
      masters = λ j clear. (clear, refl);
    }) keeps.was
keeps_prim fixed force (Shift m mode) w before core keeps =
    let from : Mode = mode_of m core.rows in
    kept_on w _ before core _ keeps (record {
      slaves = λ k clear.
          let left = rows_left (is_of (Some m) (is_start from mode)) core.rows.entries k w.slaves clear in
          let same = row_shifts m from mode core k left.1 in
          (left.0, same.0, same.1);
      procs = λ p clear. (clear, refl);
      lines = λ l clear. (clear, refl);
      masters = λ j clear. let left = listed_left m j w.masters clear in (left.0, other_mode core.rows.known m j mode left.1);
    }) (master_known m w before.rows core.rows (known_before w before core keeps)).was
keeps_prim fixed force (Clear s) w before core keeps =
    kept_on w _ before core _ keeps (record {
      slaves = λ k clear. let left = listed_left s k w.slaves clear in let same = row_drops s core k left.1 in (left.0, same.0, same.1);
      procs = λ p clear. (clear, refl);
      lines = λ l clear. (clear, refl);
      masters = λ j clear. (clear, refl);
    }) keeps.was
keeps_prim fixed force Halt w before core keeps =
    kept_on w _ before core _ keeps (record {
      slaves = λ k clear. let left = rows_left (is_of None false) core.rows.entries k w.slaves clear in let same = row_clears core k left.1 in (left.0, same.0, same.1);
      procs = λ p clear. (clear, refl);
      lines = λ l clear. (clear, refl);
      masters = λ j clear. (clear, refl);
    }) keeps.was
keeps_prim fixed force Reload w before core keeps =
    kept_on w _ before core _ keeps (reload_leaves fixed force w core)
    (masters_known w.masters.count 0 (record w { procs = all_listed w.procs; lines = all_listed w.lines }) before.rows core.rows
    (record { unlisted = keeps.modes; was = keeps.was })).was
keeps_prim fixed force (Enforce k) w before core keeps =
    kept_on w _ before core _ keeps (enforce_if fixed (object_at fixed k) w core) (enforce_was fixed (object_at fixed k) w core before.rows keeps.was)

-- ---- changes one after another, stages, and a step

keeps_prims : (fixed : Fixed) (prims : List Prim) (now : Now) (w : Written) (before : CoreHalf) → Keeps w before now.core
    → Keeps (writes fixed prims now w) before (applies fixed prims now).core
keeps_prims fixed [] now w before keeps = keeps
keeps_prims fixed (prim ∷ prims) now w before keeps =
    keeps_prims fixed prims (apply fixed prim now) (written fixed now.force prim now.core w) before
    (keeps_prim fixed now.force prim w before now.core keeps)

keeps_stage : (stage : List Prim) (book : State) (w : Written) (before : CoreHalf) → Keeps w before book.now.core
    → Keeps (written_stage stage book w) before (after_stage stage book).now.core
keeps_stage stage book w before keeps =
    keeps_prims book.fixed (follow (changed stage book)) (changed stage book).now (written_by stage book w) before
    (keeps_prims book.fixed stage book.now w before keeps)

keeps_path : (stages : List (List Prim)) (book : State) (w : Written) (before : CoreHalf) → Keeps w before book.now.core
    → Keeps (written_along stages book w) before (last_of book (path_from stages book)).now.core
keeps_path [] book w before keeps = keeps
keeps_path (stage ∷ later) book w before keeps =
    keeps_path later (after_stage stage book) (written_stage stage book w) before (keeps_stage stage book w before keeps)

nothing_keeps : (w : Written) (core : CoreHalf) → Keeps (unwritten w) core core
nothing_keeps w core = record {
  wanted = λ s clear. refl;
  users = λ s clear. refl;
  procs = λ p clear. refl;
  lines = λ l clear. refl;
  modes = λ m clear. refl;
  was = λ m within among. cc;
}

pub keeps_step : (stages : List (List Prim)) (book : State) (w : Written)
    → Keeps (written_along stages book (unwritten w)) book.now.core (after_stages stages book).now.core
keeps_step stages book w = keeps_path stages book (unwritten w) book.now.core (nothing_keeps w book.now.core)
