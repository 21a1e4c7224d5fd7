-- The rows at load, and rows that are made anew, are sound.
use Rattle.std.proofs.Common.{◌≡◌, ℕ, ◌<◌, ◌≤◌, Bool, true, false, not, ◌&&◌, ◌==◌, is_some, IfSome, IsTrue, List, [], ◌∷◌, Option, Some, None, map, length, replicate, refl, sym, ◌∙◌, ap, subst, arith}
use Rattle.std.specs.Prelude.{count_by, unwrap_or}
use Rattle.std.specs.List.{list_all, AllByRecursion as Each}
use Rattle.std.proofs.lemmas.Bool.{and_parts, and_from, eq-eqb, lt-ltb}
use Rattle.std.proofs.lemmas.List.{length-replicate}
use Rattle.pm_base.specs.declared.caps.Caps.{Caps}
use Rattle.pm_base.specs.declared.names.Mode.{Mode}
use Rattle.pm_base.specs.declared.names.Mode.TheVariants.{Off, Active, Asleep, Suspending}
use Rattle.pm_base.proofs.Counts.{count_by-cons}
use Rattle.pm_rows.specs.declared.row.RowSeed.{RowSeed}
use Rattle.pm_rows.specs.declared.row.Row.{Row}
use Rattle.pm_rows.specs.Modes.{mode_in, loaded_modes}
use Rattle.pm_rows.specs.Rows.{Rows, has_all, no_caps, loaded, loaded_entry, loaded_rows, pair_of, remade}
use Rattle.pm_rows.specs.Sound.{pair_in, is_pair, is_idle_in, is_not_off, is_sole_user, takes_alone, AreOnce, AreSound, IsLoadable, IsRemadeRight}
use Rattle.pm_rows.proofs.Bits.{has_all_nothing}
use Rattle.pm_rows.proofs.Changed.{plain_same, idle_unused}
use Rattle.pm_rows.proofs.Known.{count_at_load}
use Rattle.pm_rows.proofs.Lists.{fewer_of}
use Rattle.pm_rows.proofs.Mapped.{right_from, is_right, sound_from}
use Rattle.pm_rows.proofs.Shifted.{mode_set_same}

pairs_at_load : (seeds : List RowSeed) → map pair_in (map loaded_entry seeds) ≡ map pair_of seeds
pairs_at_load [] = refl
pairs_at_load (x ∷ xs) = ap (λ zs. pair_of x ∷ zs) (pairs_at_load xs)

-- ---- each row is right

start_able : (all : Caps) (start : Option Caps) → IfSome start (λ caps. IsTrue (has_all all caps))
    → has_all all (unwrap_or start no_caps) ≡ true
start_able all None has = has_all_nothing all
start_able all (Some caps) has = has

idle_loaded : (mode : Mode) (row : Row) (b : Bool) → row.used ≡ b → (b ≡ true → mode ≡ Active) → is_idle_in mode row ≡ true
idle_loaded mode row true used awake = let P : Mode → Type 0 = λ mode. is_idle_in mode row ≡ true in subst P (sym (awake refl)) refl
idle_loaded mode row false unused awake = idle_unused mode row unused

active_at : (masters boot : ℕ) (x : RowSeed) → IsLoadable masters boot x → is_some x.start ≡ true
    → mode_in x.master (loaded_modes masters boot) ≡ Active
active_at masters boot x loadable used =
    let at : x.master ≡ boot = loadable.first used in
    let within : boot < length (replicate masters Off) = rw (length-replicate masters Off) (rw at at loadable.place) in
    ap (λ n. mode_in n (loaded_modes masters boot)) at ∙ mode_set_same (replicate masters Off) boot Active within

loaded_right : (masters boot : ℕ) (x : RowSeed) → IsLoadable masters boot x
    → is_right (loaded_modes masters boot) (loaded_entry x) ≡ true
loaded_right masters boot x loadable =
    let start : has_all x.all (unwrap_or x.start no_caps) ≡ true = start_able x.all x.start loadable.start in
    right_from (loaded_modes masters boot) (loaded_entry x) (mode_in x.master (loaded_modes masters boot)) refl
    (record {
      within = rw (count_at_load masters boot) (lt-ltb x.master masters loadable.place);
      able = and_from _ _ start (and_from _ _ start loadable.preset);
      plain = plain_same (mode_in x.master (loaded_modes masters boot)) (loaded x) refl;
      idle = idle_loaded (mode_in x.master (loaded_modes masters boot)) (loaded x) (is_some x.start) refl (active_at masters boot x loadable);
    })

right_at_load : (masters boot : ℕ) (seeds : List RowSeed) → Each (IsLoadable masters boot) seeds
    → list_all (is_right (loaded_modes masters boot)) (map loaded_entry seeds) ≡ true
right_at_load masters boot [] each = refl
right_at_load masters boot (x ∷ xs) each =
    and_from _ _ (loaded_right masters boot x each.0) (right_at_load masters boot xs each.1)

-- ---- only one master uses a slave

first_uses : (masters boot s : ℕ) (x : RowSeed) → IsLoadable masters boot x → is_sole_user s (loaded_entry x) ≡ true
    → is_pair boot s (pair_of x) ≡ true
first_uses masters boot s x loadable is =
    let parts = and_parts (x.slave == s) (is_some x.start && not x.shareable) is in
    let used = and_parts (is_some x.start) (not x.shareable) parts.1 in
    and_from _ _ (eq-eqb x.master boot (loadable.first used.0)) parts.0

users_at_load : (masters boot s : ℕ) (seeds : List RowSeed) → Each (IsLoadable masters boot) seeds
    → count_by (is_sole_user s) (map loaded_entry seeds) ≤ count_by (is_pair boot s) (map pair_of seeds)
users_at_load masters boot s [] each = omega arith
users_at_load masters boot s (x ∷ xs) each =
    rw (count_by-cons (is_sole_user s) (loaded_entry x) (map loaded_entry xs), count_by-cons (is_pair boot s) (pair_of x) (map pair_of xs))
    (omega (arith, users_at_load masters boot s xs each.1, fewer_of (is_sole_user s (loaded_entry x)) (is_pair boot s (pair_of x)) (first_uses masters boot s x each.0)))

pub load_sound : (masters slaves boot room : ℕ) (seeds : List RowSeed) → AreOnce (map pair_of seeds)
    → Each (IsLoadable masters boot) seeds → AreSound (map pair_of seeds) (loaded_rows masters slaves boot room seeds)
load_sound masters slaves boot room seeds distinct each =
    sound_from (map pair_of seeds) (loaded_rows masters slaves boot room seeds) (pairs_at_load seeds)
    (λ s. omega (arith, users_at_load masters boot s seeds each, distinct boot s))
    (right_at_load masters boot seeds each)

-- ---- rows that are made anew

idle_remade : (mode : Mode) (row : Row) (b : Bool) → row.used ≡ b → (b ≡ true → is_not_off mode ≡ true) → is_idle_in mode row ≡ true
idle_remade Off row true used on = let no : false ≡ true = on refl in cc
idle_remade Active row true used on = refl
idle_remade Asleep row true used on = refl
idle_remade Suspending row true used on = refl
idle_remade mode row false unused on = idle_unused mode row unused

remade_right : (modes : List Mode) (x : RowSeed) → IsRemadeRight modes x → is_right modes (loaded_entry x) ≡ true
remade_right modes x right =
    let start : has_all x.all (unwrap_or x.start no_caps) ≡ true = start_able x.all x.start right.start in
    right_from modes (loaded_entry x) (mode_in x.master modes) refl
    (record {
      within = lt-ltb x.master (length modes) right.place;
      able = and_from _ _ start (and_from _ _ start right.preset);
      plain = plain_same (mode_in x.master modes) (loaded x) refl;
      idle = idle_remade (mode_in x.master modes) (loaded x) (is_some x.start) refl right.awake;
    })

right_remade : (modes : List Mode) (seeds : List RowSeed) → Each (IsRemadeRight modes) seeds → list_all (is_right modes) (map loaded_entry seeds) ≡ true
right_remade modes [] each = refl
right_remade modes (x ∷ xs) each = and_from _ _ (remade_right modes x each.0) (right_remade modes xs each.1)

-- a used row of a slave that can't be shared is that of a taker
takers : (s : ℕ) (seeds : List RowSeed) → count_by (is_sole_user s) (map loaded_entry seeds) ≡ count_by (takes_alone s) seeds
takers s [] = refl
takers s (x ∷ xs) =
    let first = count_by-cons (is_sole_user s) (loaded_entry x) (map loaded_entry xs) in
    let second = count_by-cons (takes_alone s) x xs in
    let later = takers s xs in
    omega (arith, first, second, later)

pub remade_sound : (seeds : List RowSeed) (rows : Rows) → AreOnce (map pair_of seeds) → Each (IsRemadeRight rows.known) seeds
    → ((s : ℕ) → count_by (takes_alone s) seeds ≤ 1) → AreSound (map pair_of seeds) (remade seeds rows)
remade_sound seeds rows distinct each one =
    sound_from (map pair_of seeds) (remade seeds rows) (pairs_at_load seeds) (λ s. omega (arith, takers s seeds, one s)) (right_remade rows.known seeds each)
