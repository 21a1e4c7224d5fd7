-- Rows that are changed one by one: each keeps its pair, and is right afterwards where it was right before.
use Rattle.std.proofs.Common.{◌≡◌, ℕ, ◌+◌, ◌≤◌, Bool, true, false, not, ◌&&◌, ◌==◌, cond, List, [], ◌∷◌, map, length, Option, refl, sym, ◌∙◌, ap, subst, arith, inl, inr, ◌⊎◌}
use Rattle.std.specs.Prelude.{count_by}
use Rattle.std.specs.List.{list_all, list_any, AllByRecursion as Each}
use Rattle.std.proofs.lemmas.Bool.{and_parts, and_from}
use Rattle.pm_base.specs.declared.names.Mode.{Mode}
use Rattle.pm_base.specs.declared.names.Mode.TheVariants.{Off, Active, Asleep, Suspending}
use Rattle.pm_base.specs.declared.names.NodeId.{NodeId}
use Rattle.pm_base.proofs.Counts.{count_by-cons}
use Rattle.pm_rows.specs.declared.row.Pair.{Pair}
use Rattle.pm_rows.specs.declared.row.Row.{Row}
use Rattle.pm_rows.specs.declared.row.Entry.{Entry}
use Rattle.pm_rows.specs.Modes.{mode_in}
use Rattle.pm_rows.specs.Rows.{Rows, is_at, is_rival}
use Rattle.pm_rows.specs.Sound.{pair_in, is_pair, is_sole_user, is_able, is_plain_in, is_idle_in, is_within, in_mode, AreOnce, AreSound}
use Rattle.pm_rows.proofs.Lists.{all_mapped, all_both, all_first, all_second, count_mapped, count_kept, none_passes}

-- what holds of one row in the modes of the masters: it suits the mode of its master, besides wants only what its slave has,
-- and besides has a master that is known
abbrev pub suits : List Mode → Entry → Bool
suits modes entry = in_mode is_plain_in modes entry && in_mode is_idle_in modes entry

abbrev pub is_fitting : List Mode → Entry → Bool
is_fitting modes entry = is_able entry && suits modes entry

abbrev pub is_right : List Mode → Entry → Bool
is_right modes entry = is_within (length modes) entry && is_fitting modes entry

-- the same in a mode of its master, where so many masters are
pub record RightIn (masters : ℕ) (mode : Mode) (entry : Entry) : Type 0 where
  pub within : is_within masters entry ≡ true
  pub able : is_able entry ≡ true
  pub plain : is_plain_in mode entry.row ≡ true
  pub idle : is_idle_in mode entry.row ≡ true

pub right_in : (modes : List Mode) (x : Entry) → is_right modes x ≡ true → RightIn (length modes) (mode_in x.seed.master modes) x
right_in modes x is =
    let first = and_parts (is_within (length modes) x) (is_fitting modes x) is in
    let second = and_parts (is_able x) (suits modes x) first.1 in
    let third = and_parts (in_mode is_plain_in modes x) (in_mode is_idle_in modes x) second.1 in
    record { within = first.0; able = second.0; plain = third.0; idle = third.1 }

pub right_from : (modes : List Mode) (x : Entry) (mode : Mode) → mode_in x.seed.master modes ≡ mode
    → RightIn (length modes) mode x → is_right modes x ≡ true
right_from modes x mode known parts =
    let P : Mode → Type 0 = λ mode. RightIn (length modes) mode x in
    let here : RightIn (length modes) (mode_in x.seed.master modes) x = subst P (sym known) parts in
    and_from _ _ here.within (and_from _ _ here.able (and_from _ _ here.plain here.idle))

plain_alike : (mode : Mode) (row : Row) (hold : Bool) (armed : Option NodeId) (latency : Option ℕ)
    → is_plain_in mode (record row { hold = hold; armed = armed; latency = latency }) ≡ is_plain_in mode row
plain_alike Off row hold armed latency = refl
plain_alike Active row hold armed latency = refl
plain_alike Asleep row hold armed latency = refl
plain_alike Suspending row hold armed latency = refl

idle_alike : (mode : Mode) (row : Row) (hold : Bool) (armed : Option NodeId) (latency : Option ℕ)
    → is_idle_in mode (record row { hold = hold; armed = armed; latency = latency }) ≡ is_idle_in mode row
idle_alike Off row hold armed latency = refl
idle_alike Active row hold armed latency = refl
idle_alike Asleep row hold armed latency = refl
idle_alike Suspending row hold armed latency = refl

-- what a row is held, armed and limited with makes it neither right nor wrong
pub right_alike : (modes : List Mode) (x : Entry) (hold : Bool) (armed : Option NodeId) (latency : Option ℕ)
    → is_right modes x ≡ true
    → is_right modes (record x { row = record x.row { hold = hold; armed = armed; latency = latency } }) ≡ true
right_alike modes x hold armed latency is =
    let parts : RightIn (length modes) (mode_in x.seed.master modes) x = right_in modes x is in
    right_from modes (record x { row = record x.row { hold = hold; armed = armed; latency = latency } }) (mode_in x.seed.master modes) refl
    (record {
      within = parts.within;
      able = parts.able;
      plain = plain_alike (mode_in x.seed.master modes) x.row hold armed latency ∙ parts.plain;
      idle = idle_alike (mode_in x.seed.master modes) x.row hold armed latency ∙ parts.idle;
    })

pub right : (permitted : List Pair) (rows : Rows) → AreSound permitted rows
    → list_all (is_right rows.known) rows.entries ≡ true
right permitted rows sound =
    let mode = all_both (in_mode is_plain_in rows.known) (in_mode is_idle_in rows.known) rows.entries sound.plain sound.idle in
    let fitting = all_both is_able (suits rows.known) rows.entries sound.able mode in
    all_both (is_within (length rows.known)) (is_fitting rows.known) rows.entries sound.within fitting

pub sound_from : (permitted : List Pair) (rows : Rows) → map pair_in rows.entries ≡ permitted
    → ((s : ℕ) → count_by (is_sole_user s) rows.entries ≤ 1) → list_all (is_right rows.known) rows.entries ≡ true
    → AreSound permitted rows
sound_from permitted rows pairs alone all =
    let fitting = all_second (is_within (length rows.known)) (is_fitting rows.known) rows.entries all in
    let mode = all_second is_able (suits rows.known) rows.entries fitting in
    record {
      pairs = pairs;
      within = all_first (is_within (length rows.known)) (is_fitting rows.known) rows.entries all;
      alone = alone;
      able = all_first is_able (suits rows.known) rows.entries fitting;
      plain = all_first (in_mode is_plain_in rows.known) (in_mode is_idle_in rows.known) rows.entries mode;
      idle = all_second (in_mode is_plain_in rows.known) (in_mode is_idle_in rows.known) rows.entries mode;
    }

-- rows that keep their pairs keep the list of pairs
pub pairs_mapped : (f : Entry → Entry) → ((x : Entry) → (f x).seed ≡ x.seed) → (xs : List Entry)
    → map pair_in (map f xs) ≡ map pair_in xs
pairs_mapped f same [] = refl
pairs_mapped f same (x ∷ xs) =
    let here : (f x).seed ≡ x.seed = same x in
    let later : map pair_in (map f xs) ≡ map pair_in xs = pairs_mapped f same xs in
    cc

-- as many rows as pairs are at a place
pub rows_at : (m s : ℕ) (rows : List Entry) → count_by (is_at m s) rows ≡ count_by (is_pair m s) (map pair_in rows)
rows_at m s [] = refl
rows_at m s (x ∷ xs) =
    count_by-cons (is_at m s) x xs
    ∙ (ap (λ n. cond (is_at m s x) 1 0 + n) (rows_at m s xs) ∙ sym (count_by-cons (is_pair m s) (pair_in x) (map pair_in xs)))

-- no pair has two rows
pub once : (m s : ℕ) (permitted : List Pair) (rows : Rows) → AreOnce permitted → AreSound permitted rows
    → count_by (is_at m s) rows.entries ≤ 1
once m s permitted rows distinct sound = rw (rows_at m s rows.entries, sound.pairs) (distinct m s)

-- rows that keep their pairs, are right afterwards and are used alone afterwards are sound
pub mapped_sound : (permitted : List Pair) (rows : Rows) (P : Entry → Type 0) (f : Entry → Entry) (modes : List Mode)
    → AreSound permitted rows
    → ((x : Entry) → (f x).seed ≡ x.seed)
    → Each P rows.entries
    → ((x : Entry) → P x → is_right rows.known x ≡ true → is_right modes (f x) ≡ true)
    → ((s : ℕ) → count_by (is_sole_user s) (map f rows.entries) ≤ 1)
    → AreSound permitted (record rows { entries = map f rows.entries; known = modes })
mapped_sound permitted rows P f modes sound same each keeps alone =
    sound_from permitted (record rows { entries = map f rows.entries; known = modes })
    (pairs_mapped f same rows.entries ∙ sound.pairs)
    alone
    (all_mapped P (is_right rows.known) (is_right modes) f keeps rows.entries each (right permitted rows sound))

-- ---- slaves that can't be shared

-- a used row on a slave that can't be shared is the master's own, or a rival's
user_at : (here own used alone : Bool) → (here && (used && alone)) ≡ true
    → ((own && here) ≡ true) ⊎ ((((not own && here) && used) && alone) ≡ true)
user_at here true used alone is = inl (and_parts here (used && alone) is).0
user_at here false used alone is =
    let first = and_parts here (used && alone) is in
    let second = and_parts used alone first.1 in
    inr (and_from _ _ (and_from _ _ first.0 second.0) second.1)

user_of : (m t : ℕ) (x : Entry) → is_sole_user t x ≡ true → (is_at m t x ≡ true) ⊎ (is_rival m t x ≡ true)
user_of m t x is = user_at (x.seed.slave == t) (x.seed.master == m) x.row.used (not x.seed.shareable) is

own_or_rival : (m t : ℕ) (x y : Entry) → y.seed ≡ x.seed → (b : Bool) → (x.seed.master == m) ≡ b → (b ≡ false → y ≡ x)
    → is_sole_user t y ≡ true → (is_at m t x ≡ true) ⊎ (is_rival m t x ≡ true)
own_or_rival m t x y same true own stays is =
    let parts = and_parts (y.seed.slave == t) (y.row.used && not y.seed.shareable) is in
    let P : Pair → Type 0 = λ seed. (seed.slave == t) ≡ true in
    let here : (x.seed.slave == t) ≡ true = subst P same parts.0 in
    inl (and_from _ _ own here)
own_or_rival m t x y same false own stays is =
    user_of m t x (let P : Entry → Type 0 = λ z. is_sole_user t z ≡ true in subst P (stays refl) is)

-- a change of rows of one master alone leaves a slave that can't be shared at most one user, where no other master uses it or
-- the change makes no further row used on it
pub alone_mapped : (m t : ℕ) (f : Entry → Entry) (xs : List Entry)
    → ((x : Entry) → (f x).seed ≡ x.seed)
    → ((x : Entry) → (x.seed.master == m) ≡ false → f x ≡ x)
    → count_by (is_at m t) xs ≤ 1
    → count_by (is_sole_user t) xs ≤ 1
    → (list_any (is_rival m t) xs ≡ false) ⊎ ((x : Entry) → is_sole_user t (f x) ≡ true → is_sole_user t x ≡ true)
    → count_by (is_sole_user t) (map f xs) ≤ 1
alone_mapped m t f xs same stays once before how =
    elim how [
      | inl free ↦
          let none : count_by (is_rival m t) xs ≡ 0 = none_passes (is_rival m t) xs free in
          let either : count_by (is_sole_user t) (map f xs) ≤ count_by (is_at m t) xs + count_by (is_rival m t) xs =
          count_mapped (is_sole_user t) (is_at m t) (is_rival m t) f (λ x is. own_or_rival m t x (f x) (same x) (x.seed.master == m) refl (stays x) is) xs
          in
          omega arith
      | inr fewer ↦
          let most : count_by (is_sole_user t) (map f xs) ≤ count_by (is_sole_user t) xs = count_kept (is_sole_user t) (is_sole_user t) f fewer xs in
          omega arith
    ]
