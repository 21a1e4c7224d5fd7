-- A change of a row that fits keeps sound rows sound.
use Rattle.std.proofs.Common.{◌≡◌, ◌≢◌, ℕ, ◌+◌, ◌≤◌, Bool, true, false, not, ◌&&◌, ◌==◌, cond, if◌then◌else◌, List, [], ◌∷◌, length, Option, Some, None, refl, sym, ◌∙◌, ap, subst, arith, inl, inr, ◌⊎◌}
use Rattle.std.specs.Prelude.{count_by, find, option_map}
use Rattle.std.specs.List.{list_any, AllByRecursion as Each}
use Rattle.std.proofs.lemmas.Bool.{and_parts, and_from, eqb-true, eq-eqb, cases_Bool}
use Rattle.pm_base.specs.declared.caps.Caps.{Caps}
use Rattle.pm_base.specs.declared.names.Mode.{Mode}
use Rattle.pm_base.specs.declared.names.Mode.TheVariants.{Off, Active, Asleep, Suspending}
use Rattle.pm_base.proofs.Booleans.{none_of, later_passes}
use Rattle.pm_base.proofs.Counts.{count_by-cons}
use Rattle.pm_rows.specs.declared.row.Pair.{Pair}
use Rattle.pm_rows.specs.declared.row.Entry.{Entry}
use Rattle.pm_rows.specs.declared.row.Row.{Row}
use Rattle.pm_rows.specs.declared.row.Change.{Change}
use Rattle.pm_rows.specs.declared.row.Change.TheVariants.{Request, Release, Set, Limit, Arm}
use Rattle.pm_rows.specs.Modes.{mode_in}
use Rattle.pm_rows.specs.Rows.{Rows, has_all, set_in, applied, is_at, is_rival, rival_of, entry_at, change_at, row_changed}
use Rattle.pm_rows.specs.Sound.{is_plain_in, is_idle_in, is_sole_user, AreOnce, AreSound, IsFit}
use Rattle.pm_rows.proofs.Bits.{has_all_nothing}
use Rattle.pm_rows.proofs.Mapped.{RightIn, right_in, right_from, right_alike, is_right, once, mapped_sound, alone_mapped}

-- ---- the one row at a place

none_first : (b : Bool) (n : ℕ) → cond b 1 0 + n ≡ 0 → (b ≡ false) × (n ≡ 0)
none_first true n none = absurd (omega arith)
none_first false n none = (refl, omega arith)

each_none : (p : Entry → Bool) (xs : List Entry) (entry : Entry) → count_by p xs ≡ 0
    → Each (λ (y : Entry). p y ≡ true → y ≡ entry) xs
each_none p [] entry none = tt
each_none p (x ∷ xs) entry none =
    let parts = none_first (p x) (count_by p xs) (rw (← count_by-cons p x xs) none) in
    (λ at. let not_at : false ≡ true = sym parts.0 ∙ at in cc, each_none p xs entry parts.1)

-- what is found at a place that no two rows have is each row at that place
found_at : (p : Entry → Bool) (x : Entry) (xs : List Entry) (entry : Entry) (b : Bool) → p x ≡ b
    → cond b 1 0 + count_by p xs ≤ 1 → cond b (Some x) (find p xs) ≡ Some entry
    → (count_by p xs ≤ 1 → find p xs ≡ Some entry → Each (λ (y : Entry). p y ≡ true → y ≡ entry) xs)
    → (p x ≡ true → x ≡ entry) × Each (λ (y : Entry). p y ≡ true → y ≡ entry) xs
found_at p x xs entry true is few found later =
    let same : x ≡ entry = cc in
    let none : count_by p xs ≡ 0 = omega arith in
    (λ at. same, each_none p xs entry none)
found_at p x xs entry false is few found later =
    (λ at. let not_at : false ≡ true = sym is ∙ at in cc, later (omega arith) found)

each_found : (p : Entry → Bool) (xs : List Entry) (entry : Entry) → count_by p xs ≤ 1 → find p xs ≡ Some entry
    → Each (λ (y : Entry). p y ≡ true → y ≡ entry) xs
each_found p [] entry few found = tt
each_found p (x ∷ xs) entry few found =
    found_at p x xs entry (p x) refl (rw (← count_by-cons p x xs) few) found (each_found p xs entry)

-- ---- rivals

none_mapped : (o : Option Entry) → option_map (λ (entry : Entry). entry.seed.master) o ≡ None → o ≡ None
none_mapped None is = refl
none_mapped (Some entry) is = cc

none_any : (p : Entry → Bool) (x : Entry) (xs : List Entry) (b : Bool) → p x ≡ b → cond b (Some x) (find p xs) ≡ None
    → (find p xs ≡ None → list_any p xs ≡ false) → list_any p (x ∷ xs) ≡ false
none_any p x xs true is none later = cc
none_any p x xs false is none later = none_of (p x) (list_any p xs) is (later none)

any_none : (p : Entry → Bool) (xs : List Entry) → find p xs ≡ None → list_any p xs ≡ false
any_none p [] none = refl
any_none p (x ∷ xs) none = none_any p x xs (p x) refl none (any_none p xs)

no_rival : (m s : ℕ) (rows : Rows) → rival_of m s rows ≡ None → list_any (is_rival m s) rows.entries ≡ false
no_rival m s rows free = any_none (is_rival m s) rows.entries (none_mapped (find (is_rival m s) rows.entries) free)

-- ---- the changed row

pub plain_same : (mode : Mode) (row : Row) → row.next ≡ row.now → is_plain_in mode row ≡ true
plain_same Off row same = refl
plain_same Active row same = later_passes (not row.used) (row.next.0 == row.now.0) (eq-eqb _ _ (ap (λ (caps : Caps). caps.0) same))
plain_same Asleep row same = refl
plain_same Suspending row same = refl

idle_awake : (mode : Mode) (row : Row) → mode ≢ Off → is_idle_in mode row ≡ true
idle_awake Off row awake = absurd (awake refl)
idle_awake Active row awake = refl
idle_awake Asleep row awake = refl
idle_awake Suspending row awake = refl

pub idle_unused : (mode : Mode) (row : Row) → row.used ≡ false → is_idle_in mode row ≡ true
idle_unused Off row unused = ap not unused
idle_unused Active row unused = refl
idle_unused Asleep row unused = refl
idle_unused Suspending row unused = refl

set_right : (masters : ℕ) (mode : Mode) (caps : Caps) (x : Entry) → has_all x.seed.all caps ≡ true
    → RightIn masters mode x → RightIn masters mode (record x { row = set_in mode caps x.row })
set_right masters Active caps x has parts =
    let first = and_parts (has_all x.seed.all x.row.now) (has_all x.seed.all x.row.next && has_all x.seed.all x.row.preset) parts.able in
    let second = and_parts (has_all x.seed.all x.row.next) (has_all x.seed.all x.row.preset) first.1 in
    record {
      within = parts.within;
      able = and_from _ _ has (and_from _ _ has second.1);
      plain = plain_same Active (set_in Active caps x.row) refl;
      idle = refl;
    }
set_right masters Suspending caps x has parts =
    let first = and_parts (has_all x.seed.all x.row.now) (has_all x.seed.all x.row.next && has_all x.seed.all x.row.preset) parts.able in
    let second = and_parts (has_all x.seed.all x.row.next) (has_all x.seed.all x.row.preset) first.1 in
    record { within = parts.within; able = and_from _ _ first.0 (and_from _ _ has second.1); plain = refl; idle = refl }
set_right masters Asleep caps x has parts = record { within = parts.within; able = parts.able; plain = parts.plain; idle = parts.idle }
set_right masters Off caps x has parts = record { within = parts.within; able = parts.able; plain = parts.plain; idle = parts.idle }

applied_right : (m s : ℕ) (by : Change) (rows : Rows) (x : Entry) → x.seed.master ≡ m → IsFit m s by x rows
    → is_right rows.known x ≡ true → is_right rows.known (record x { row = applied by x.row }) ≡ true
applied_right m s (Request caps) rows x at fit is =
    let parts : RightIn (length rows.known) (mode_in x.seed.master rows.known) x = right_in rows.known x is in
    let first = and_parts (has_all x.seed.all x.row.now) (has_all x.seed.all x.row.next && has_all x.seed.all x.row.preset) parts.able in
    let second = and_parts (has_all x.seed.all x.row.next) (has_all x.seed.all x.row.preset) first.1 in
    let P : ℕ → Type 0 = λ k. mode_in k rows.known ≢ Off in
    let awake : mode_in x.seed.master rows.known ≢ Off = subst P (sym at) fit.2 in
    right_from rows.known (record x { row = applied (Request caps) x.row }) (mode_in x.seed.master rows.known) refl
    (record {
      within = parts.within;
      able = and_from _ _ fit.0 (and_from _ _ fit.0 second.1);
      plain = plain_same (mode_in x.seed.master rows.known) (applied (Request caps) x.row) refl;
      idle = idle_awake (mode_in x.seed.master rows.known) (applied (Request caps) x.row) awake;
    })
applied_right m s Release rows x at fit is =
    let parts : RightIn (length rows.known) (mode_in x.seed.master rows.known) x = right_in rows.known x is in
    let first = and_parts (has_all x.seed.all x.row.now) (has_all x.seed.all x.row.next && has_all x.seed.all x.row.preset) parts.able in
    let second = and_parts (has_all x.seed.all x.row.next) (has_all x.seed.all x.row.preset) first.1 in
    right_from rows.known (record x { row = applied Release x.row }) (mode_in x.seed.master rows.known) refl
    (record {
      within = parts.within;
      able = and_from _ _ (has_all_nothing x.seed.all) (and_from _ _ (has_all_nothing x.seed.all) second.1);
      plain = plain_same (mode_in x.seed.master rows.known) (applied Release x.row) refl;
      idle = idle_unused (mode_in x.seed.master rows.known) (applied Release x.row) refl;
    })
applied_right m s (Set mode caps) rows x at fit is =
    let P : ℕ → Type 0 = λ k. mode_in k rows.known ≡ mode in
    let known : mode_in x.seed.master rows.known ≡ mode = subst P (sym at) fit.1 in
    let Q : Mode → Type 0 = λ mode. RightIn (length rows.known) mode x in
    let parts : RightIn (length rows.known) mode x = subst Q known (right_in rows.known x is) in
    right_from rows.known (record x { row = set_in mode caps x.row }) mode known (set_right (length rows.known) mode caps x fit.0 parts)
applied_right m s (Limit latency) rows x at fit is = right_alike rows.known x x.row.hold x.row.armed (Some latency) is
applied_right m s (Arm target) rows x at fit is = right_alike rows.known x x.row.hold target x.row.latency is

-- ---- the rows

change_seed : (x : Entry) (row : Row) (b : Bool) → (if b then record x { row = row } else x).seed ≡ x.seed
change_seed x row true = refl
change_seed x row false = refl

change_right : (m s : ℕ) (by : Change) (rows : Rows) (entry x : Entry) (b : Bool) → is_at m s x ≡ b
    → IsFit m s by entry rows → (is_at m s x ≡ true → x ≡ entry) → is_right rows.known x ≡ true
    → is_right rows.known (if b then record x { row = applied by x.row } else x) ≡ true
change_right m s by rows entry x true at fit only is =
    let P : Entry → Type 0 = λ y. IsFit m s by y rows in
    let own : IsFit m s by x rows = subst P (sym (only at)) fit in
    applied_right m s by rows x (eqb-true _ _ (and_parts (x.seed.master == m) (x.seed.slave == s) at).0) own is
change_right m s by rows entry x false at fit only is = is

change_other : (m s : ℕ) (by : Change) (x : Entry) → (x.seed.master == m) ≡ false → change_at m s by x ≡ x
change_other m s by x other = ap (λ (b : Bool). if b && (x.seed.slave == s) then record x { row = applied by x.row } else x) other

set_used : (mode : Mode) (caps : Caps) (row : Row) → (set_in mode caps row).used ≡ row.used
set_used Active caps row = refl
set_used Suspending caps row = refl
set_used Asleep caps row = refl
set_used Off caps row = refl

-- only a request makes a row used
applied_used : (m s : ℕ) (by : Change) (entry : Entry) (rows : Rows) → IsFit m s by entry rows
    → (rival_of m s rows ≡ None) ⊎ ((row : Row) → (applied by row).used ≡ true → row.used ≡ true)
applied_used m s (Request caps) entry rows fit = inl fit.1
applied_used m s Release entry rows fit = inr (λ row used. let none : false ≡ true = used in cc)
applied_used m s (Set mode caps) entry rows fit = inr (λ row used. sym (set_used mode caps row) ∙ used)
applied_used m s (Limit latency) entry rows fit = inr (λ row used. used)
applied_used m s (Arm target) entry rows fit = inr (λ row used. used)

sole_changed : (t : ℕ) (by : Change) (x : Entry) → ((row : Row) → (applied by row).used ≡ true → row.used ≡ true)
    → (b : Bool) → is_sole_user t (if b then record x { row = applied by x.row } else x) ≡ true
    → is_sole_user t x ≡ true
sole_changed t by x keeps true is =
    let first = and_parts (x.seed.slave == t) ((applied by x.row).used && not x.seed.shareable) is in
    let second = and_parts (applied by x.row).used (not x.seed.shareable) first.1 in
    and_from _ _ first.0 (and_from _ _ (keeps x.row second.0) second.1)
sole_changed t by x keeps false is = is

-- a row on another slave isn't the changed one
sole_elsewhere : (m s t : ℕ) (by : Change) (x : Entry) (b : Bool) → is_at m s x ≡ b → (t == s) ≡ false
    → is_sole_user t (if b then record x { row = applied by x.row } else x) ≡ true → is_sole_user t x ≡ true
sole_elsewhere m s t by x true at other is =
    let slave : x.seed.slave ≡ s = eqb-true _ _ (and_parts (x.seed.master == m) (x.seed.slave == s) at).1 in
    let here : x.seed.slave ≡ t = eqb-true _ _ (and_parts (x.seed.slave == t) ((applied by x.row).used && not x.seed.shareable) is).0 in
    let same : (t == s) ≡ true = eq-eqb t s (sym here ∙ slave) in
    cc
sole_elsewhere m s t by x false at other is = is

change_alone : (m s t : ℕ) (by : Change) (entry : Entry) (rows : Rows) → IsFit m s by entry rows
    → (list_any (is_rival m t) rows.entries ≡ false) ⊎ ((x : Entry) → is_sole_user t (change_at m s by x) ≡ true → is_sole_user t x ≡ true)
change_alone m s t by entry rows fit =
    elim (cases_Bool (t == s)) [
      | inl here ↦ elim (applied_used m s by entry rows fit) [
        | inl free ↦
            let P : ℕ → Type 0 = λ k. list_any (is_rival m k) rows.entries ≡ false in
            inl (subst P (sym (eqb-true t s here)) (no_rival m s rows free))
        | inr keeps ↦ inr (λ x. sole_changed t by x keeps (is_at m s x))
      ]
      | inr elsewhere ↦ inr (λ x. sole_elsewhere m s t by x (is_at m s x) refl elsewhere)
    ]

keeps_at : (permitted : List Pair) (rows : Rows) (m s : ℕ) (by : Change) (entry : Entry) → AreOnce permitted
    → AreSound permitted rows → entry_at m s rows ≡ Some entry → IsFit m s by entry rows
    → AreSound permitted (row_changed m s by rows)
keeps_at permitted rows m s by entry distinct sound found fit =
    mapped_sound permitted rows (λ (x : Entry). is_at m s x ≡ true → x ≡ entry) (change_at m s by) rows.known sound
    (λ x. change_seed x (applied by x.row) (is_at m s x))
    (each_found (is_at m s) rows.entries entry (once m s permitted rows distinct sound) found)
    (λ x only is. change_right m s by rows entry x (is_at m s x) refl fit only is)
    (λ t. alone_mapped m t (change_at m s by) rows.entries
    (λ x. change_seed x (applied by x.row) (is_at m s x))
    (change_other m s by)
    (once m t permitted rows distinct sound)
    (sound.alone t)
    (change_alone m s t by entry rows fit))

found_passes : (p : Entry → Bool) (x : Entry) (xs : List Entry) (entry : Entry) (b : Bool) → p x ≡ b
    → cond b (Some x) (find p xs) ≡ Some entry → (find p xs ≡ Some entry → p entry ≡ true) → p entry ≡ true
found_passes p x xs entry true is found later = let same : x ≡ entry = cc in ap p (sym same) ∙ is
found_passes p x xs entry false is found later = later found

passes_found : (p : Entry → Bool) (xs : List Entry) (entry : Entry) → find p xs ≡ Some entry → p entry ≡ true
passes_found p [] entry found = cc
passes_found p (x ∷ xs) entry found = found_passes p x xs entry (p x) refl found (passes_found p xs entry)

-- a change that fits, of a row that is there, keeps the rows sound
pub change_keeps : (permitted : List Pair) (rows : Rows) (m s : ℕ) (by : Change) (entry : Entry) → AreOnce permitted
    → AreSound permitted rows → entry_at m s rows ≡ Some entry → IsFit m s by entry rows
    → AreSound permitted (row_changed entry.seed.master entry.seed.slave by rows)
change_keeps permitted rows m s by entry distinct sound found fit =
    let place = and_parts (entry.seed.master == m) (entry.seed.slave == s) (passes_found (is_at m s) rows.entries entry found) in
    let master : entry.seed.master ≡ m = eqb-true _ _ place.0 in
    let slave : entry.seed.slave ≡ s = eqb-true _ _ place.1 in
    rw (master, slave) (keeps_at permitted rows m s by entry distinct sound found fit)
