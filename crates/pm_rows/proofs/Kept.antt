-- Dropped holds and rows that are cleared keep sound rows sound.
use Rattle.std.proofs.Common.{◌≡◌, ℕ, ◌≤◌, Bool, true, false, ◌&&◌, ◌==◌, if◌then◌else◌, List, map, length, refl, arith}
use Rattle.std.specs.Prelude.{count_by}
use Rattle.std.proofs.lemmas.Bool.{and_parts, and_from}
use Rattle.pm_base.specs.declared.names.Mode.{Mode}
use Rattle.pm_base.specs.declared.names.Mode.TheVariants.{Off, Active, Asleep, Suspending}
use Rattle.pm_rows.specs.declared.row.Pair.{Pair}
use Rattle.pm_rows.specs.declared.row.Entry.{Entry}
use Rattle.pm_rows.specs.declared.row.Row.{Row}
use Rattle.pm_rows.specs.Modes.{mode_in}
use Rattle.pm_rows.specs.Rows.{Rows, has_all, cleared, settled_at, settled, dropped_at, slave_dropped, cleared_entry, all_cleared}
use Rattle.pm_rows.specs.Sound.{is_plain_in, is_idle_in, is_sole_user, AreSound}
use Rattle.pm_rows.proofs.Bits.{has_all_nothing}
use Rattle.pm_rows.proofs.Lists.{count_kept, each_trivial}
use Rattle.pm_rows.proofs.Mapped.{RightIn, right_in, right_from, is_right, right_alike, mapped_sound}

-- where no further row becomes used, slaves that can't be shared stay with at most one user
fewer_used : (permitted : List Pair) (rows : Rows) (f : Entry → Entry) → AreSound permitted rows
    → ((s : ℕ) (x : Entry) → is_sole_user s (f x) ≡ true → is_sole_user s x ≡ true) → (s : ℕ)
    → count_by (is_sole_user s) (map f rows.entries) ≤ 1
fewer_used permitted rows f sound fewer s =
    let most = count_kept (is_sole_user s) (is_sole_user s) f (fewer s) rows.entries in
    omega (arith, most, sound.alone s)

-- ---- holds

hold_seed : (x : Entry) (b : Bool) → (if b then record x { row = record x.row { hold = false } } else x).seed ≡ x.seed
hold_seed x true = refl
hold_seed x false = refl

hold_right : (modes : List Mode) (x : Entry) (b : Bool) → is_right modes x ≡ true
    → is_right modes (if b then record x { row = record x.row { hold = false } } else x) ≡ true
hold_right modes x true is = right_alike modes x false x.row.armed x.row.latency is
hold_right modes x false is = is

hold_sole : (s : ℕ) (x : Entry) (b : Bool)
    → is_sole_user s (if b then record x { row = record x.row { hold = false } } else x) ≡ is_sole_user s x
hold_sole s x true = refl
hold_sole s x false = refl

pub settle_keeps : (permitted : List Pair) (rows : Rows) (m : ℕ) → AreSound permitted rows
    → AreSound permitted (settled m rows)
settle_keeps permitted rows m sound =
    mapped_sound permitted rows (λ (x : Entry). Unit {0}) (settled_at m) rows.known sound
    (λ x. hold_seed x (x.seed.master == m))
    (each_trivial rows.entries)
    (λ x here right. hold_right rows.known x (x.seed.master == m) right)
    (fewer_used permitted rows (settled_at m) sound (λ s x is. rw (← hold_sole s x (x.seed.master == m)) is))

-- ---- rows that are cleared

plain_cleared : (mode : Mode) (row : Row) → is_plain_in mode (cleared row) ≡ true
plain_cleared Off row = refl
plain_cleared Active row = refl
plain_cleared Asleep row = refl
plain_cleared Suspending row = refl

idle_cleared : (mode : Mode) (row : Row) → is_idle_in mode (cleared row) ≡ true
idle_cleared Off row = refl
idle_cleared Active row = refl
idle_cleared Asleep row = refl
idle_cleared Suspending row = refl

clear_seed : (x : Entry) (b : Bool) → (if b then record x { row = cleared x.row } else x).seed ≡ x.seed
clear_seed x true = refl
clear_seed x false = refl

clear_right : (modes : List Mode) (x : Entry) (b : Bool) → is_right modes x ≡ true
    → is_right modes (if b then record x { row = cleared x.row } else x) ≡ true
clear_right modes x true is =
    let parts : RightIn (length modes) (mode_in x.seed.master modes) x = right_in modes x is in
    let first = and_parts (has_all x.seed.all x.row.now) (has_all x.seed.all x.row.next && has_all x.seed.all x.row.preset) parts.able in
    let second = and_parts (has_all x.seed.all x.row.next) (has_all x.seed.all x.row.preset) first.1 in
    right_from modes (record x { row = cleared x.row }) (mode_in x.seed.master modes) refl
    (record {
      within = parts.within;
      able = and_from _ _ (has_all_nothing x.seed.all) (and_from _ _ (has_all_nothing x.seed.all) second.1);
      plain = plain_cleared (mode_in x.seed.master modes) x.row;
      idle = idle_cleared (mode_in x.seed.master modes) x.row;
    })
clear_right modes x false is = is

clear_sole : (s : ℕ) (x : Entry) (b : Bool) → is_sole_user s (if b then record x { row = cleared x.row } else x) ≡ true
    → is_sole_user s x ≡ true
clear_sole s x true is =
    let none : false ≡ true = (and_parts (x.seed.slave == s) false is).1 in
    cc
clear_sole s x false is = is

pub drop_keeps : (permitted : List Pair) (rows : Rows) (s : ℕ) → AreSound permitted rows
    → AreSound permitted (slave_dropped s rows)
drop_keeps permitted rows s sound =
    mapped_sound permitted rows (λ (x : Entry). Unit {0}) (dropped_at s) rows.known sound
    (λ x. clear_seed x (x.seed.slave == s))
    (each_trivial rows.entries)
    (λ x here right. clear_right rows.known x (x.seed.slave == s) right)
    (fewer_used permitted rows (dropped_at s) sound (λ t x is. clear_sole t x (x.seed.slave == s) is))

pub clear_keeps : (permitted : List Pair) (rows : Rows) → AreSound permitted rows → AreSound permitted (all_cleared rows)
clear_keeps permitted rows sound =
    mapped_sound permitted rows (λ (x : Entry). Unit {0}) cleared_entry rows.known sound
    (λ x. refl)
    (each_trivial rows.entries)
    (λ x here right. clear_right rows.known x true right)
    (fewer_used permitted rows cleared_entry sound (λ t x is. clear_sole t x true is))
