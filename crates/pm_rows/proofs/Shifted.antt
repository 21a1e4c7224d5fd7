-- What a shift leaves of the rows, and that it leaves sound rows sound.
use Rattle.std.proofs.Common.{◌≡◌, ◌≢◌, ℕ, ◌<◌, Bool, true, false, not, ◌||◌, ◌&&◌, ◌==◌, if◌then◌else◌, List, ◌++◌, map, take, drop, length, set, refl, sym, ◌∙◌, ap, subst, inl, inr, ◌⊎◌, None}
use Rattle.std.specs.List.{list_any}
use Rattle.std.proofs.lemmas.Bool.{eqb-true, eq-eqb, ltb-true, and_parts, and_from, cases_Bool}
use Rattle.std.proofs.lemmas.List.{take-append-drop, length-set, get_or-set_same, get_or-set_other}
use Rattle.std.proofs.lemmas.List.Folds.{list_any-append}
use Rattle.std.proofs.lemmas.Option.{unwrap_or-slice_get}
use Rattle.pm_base.specs.declared.caps.Caps.{Caps}
use Rattle.pm_base.specs.declared.names.Mode.{Mode}
use Rattle.pm_base.specs.declared.names.Mode.TheVariants.{Off, Active, Asleep, Suspending}
use Rattle.pm_base.proofs.Booleans.{first_passes, later_passes, differs}
use Rattle.pm_base.proofs.Tests.{any-map, list_any-same}
use Rattle.pm_rows.specs.declared.row.Pair.{Pair}
use Rattle.pm_rows.specs.declared.row.Entry.{Entry}
use Rattle.pm_rows.specs.declared.row.Row.{Row}
use Rattle.pm_rows.specs.Modes.{mode_in}
use Rattle.pm_rows.specs.Rows.{Rows, mode_of, cleared, has_all, is_rival}
use Rattle.pm_rows.specs.Shift.{unscheduled, exchanged, restored, preallocated, shift_at, shifted_row, shifted, is_taken}
use Rattle.pm_rows.specs.Sound.{is_plain, is_plain_in, is_idle_in, is_sole_user, AreOnce, AreSound}
use Rattle.pm_rows.proofs.Bits.{has_all_nothing}
use Rattle.pm_rows.proofs.Lists.{each_trivial}
use Rattle.pm_rows.proofs.Mapped.{RightIn, right_in, right_from, is_right, once, mapped_sound, alone_mapped}

-- a test that a function leaves alone, over the elements of which some are changed
any_stays : {X : Type 0} (p : X → Bool) (f : X → X) → ((x : X) → p (f x) ≡ p x) → (xs : List X) (k : ℕ)
    → list_any p (map f (take k xs) ++ drop k xs) ≡ list_any p xs
any_stays p f same xs k =
    list_any-append p (map f (take k xs)) (drop k xs)
    ∙ (ap (λ b. b || list_any p (drop k xs)) (any-map p f (take k xs) ∙ list_any-same (λ x. p (f x)) p same (take k xs))
    ∙ (sym (list_any-append p (take k xs) (drop k xs)) ∙ ap (list_any p) (take-append-drop k xs)))

rival_at : (m s : ℕ) (x : Entry) (r : Row) (b : Bool) → (x.seed.master == m) ≡ b
    → is_rival m s (if b then record x { row = r } else x) ≡ is_rival m s x
rival_at m s x r true is = rw is refl
rival_at m s x r false is = refl

-- a shift of a master makes no row its rival, nor the other way round
pub rival_stays : (entries : List Entry) (m s : ℕ) (from to : Mode) (x : Entry)
    → is_rival m s (shift_at entries m from to x) ≡ is_rival m s x
rival_stays entries m s from to x =
    rival_at m s x (shifted_row from to (is_taken entries x) x.row) (x.seed.master == m) refl

alike_at : (xs ys : List Entry) (m : ℕ) (from to : Mode) (x : Entry)
    → ((s : ℕ) → list_any (is_rival m s) ys ≡ list_any (is_rival m s) xs) → (b : Bool) → (x.seed.master == m) ≡ b
    → (if b then record x { row = shifted_row from to (is_taken ys x) x.row } else x)
    ≡ (if b then record x { row = shifted_row from to (is_taken xs x) x.row } else x)
alike_at xs ys m from to x same true is =
    let at : x.seed.master ≡ m = eqb-true _ _ is in
    let taken : is_taken ys x ≡ is_taken xs x = rw at (same x.seed.slave) in
    ap (λ (t : Bool). record x { row = shifted_row from to t x.row }) taken
alike_at xs ys m from to x same false is = refl

-- judged on rows of which some are shifted already, a row is shifted as judged on the rows as they were
pub shift_alike : (xs : List Entry) (k m : ℕ) (from to : Mode) (ys : List Entry) (x : Entry)
    → ys ≡ map (shift_at xs m from to) (take k xs) ++ drop k xs → shift_at ys m from to x ≡ shift_at xs m from to x
shift_alike xs k m from to ys x so_far =
    let same : (s : ℕ) → list_any (is_rival m s) ys ≡ list_any (is_rival m s) xs = λ s.
    ap (list_any (is_rival m s)) so_far ∙ any_stays (is_rival m s) (shift_at xs m from to) (rival_stays xs m s from to) xs k
    in
    alike_at xs ys m from to x same (x.seed.master == m) refl

-- ---- what a shift sees

if_both : {X : Type 0} (f : Row → X) (v : X) (b : Bool) (x y : Row) → f x ≡ v → f y ≡ v → f (if b then x else y) ≡ v
if_both f v true x y is other = is
if_both f v false x y is other = other

-- what depends on none of use and capabilities is after a shift what it was, or is cleared
unseen : {X : Type 0} (f : Row → X)
    → ((row : Row) (used : Bool) (now next : Caps) → f (record row { used = used; now = now; next = next }) ≡ f row)
    → ((a b : Row) → f (cleared a) ≡ f (cleared b)) → (from to : Mode) (taken other : Bool) (a b : Row) → f a ≡ f b
    → f (shifted_row from to taken a) ≡ f (shifted_row from to other b)
unseen f blind clear Off Off taken other a b same = same
unseen f blind clear Off Active taken other a b same =
    if_both f (f a) ((a.preset.0 == 0) || taken) a _ refl (blind a true a.preset a.preset)
    ∙ (same ∙ sym (if_both f (f b) ((b.preset.0 == 0) || other) b _ refl (blind b true b.preset b.preset)))
unseen f blind clear Off Asleep taken other a b same = same
unseen f blind clear Off Suspending taken other a b same = same
unseen f blind clear Active Off taken other a b same = clear a b
unseen f blind clear Active Active taken other a b same = same
unseen f blind clear Active Asleep taken other a b same =
    if_both f (f a) a.used _ a (blind a a.used a.next a.now) refl ∙ (same ∙ sym (if_both f (f b) b.used _ b (blind b b.used b.next b.now) refl))
unseen f blind clear Active Suspending taken other a b same =
    if_both f (f a) a.used _ a (blind a a.used a.now a.now) refl ∙ (same ∙ sym (if_both f (f b) b.used _ b (blind b b.used b.now b.now) refl))
unseen f blind clear Asleep Off taken other a b same = clear a b
unseen f blind clear Asleep Active taken other a b same =
    if_both f (f a) a.used _ a (blind a a.used a.next a.next) refl ∙ (same ∙ sym (if_both f (f b) b.used _ b (blind b b.used b.next b.next) refl))
unseen f blind clear Asleep Asleep taken other a b same = same
unseen f blind clear Asleep Suspending taken other a b same = same
unseen f blind clear Suspending Off taken other a b same = clear a b
unseen f blind clear Suspending Active taken other a b same =
    if_both f (f a) a.used _ a (blind a a.used a.now a.now) refl ∙ (same ∙ sym (if_both f (f b) b.used _ b (blind b b.used b.now b.now) refl))
unseen f blind clear Suspending Asleep taken other a b same =
    if_both f (f a) a.used _ a (blind a a.used a.next a.now) refl ∙ (same ∙ sym (if_both f (f b) b.used _ b (blind b b.used b.next b.now) refl))
unseen f blind clear Suspending Suspending taken other a b same = same

pub armed_shifted : (from to : Mode) (taken other : Bool) (a b : Row) → a.armed ≡ b.armed
    → (shifted_row from to taken a).armed ≡ (shifted_row from to other b).armed
armed_shifted from to taken other a b same =
    unseen (λ (row : Row). row.armed) (λ row used now next. refl) (λ a b. refl) from to taken other a b same

pub hold_shifted : (from to : Mode) (taken other : Bool) (a b : Row) → a.hold ≡ b.hold
    → (shifted_row from to taken a).hold ≡ (shifted_row from to other b).hold
hold_shifted from to taken other a b same =
    unseen (λ (row : Row). row.hold) (λ row used now next. refl) (λ a b. refl) from to taken other a b same

-- what a shift doesn't see stays, or the row is cleared
stays_or_cleared : {X : Type 0} (f : Row → X)
    → ((row : Row) (used : Bool) (now next : Caps) → f (record row { used = used; now = now; next = next }) ≡ f row)
    → (from to : Mode) (taken : Bool) (a : Row)
    → (f (shifted_row from to taken a) ≡ f a) ⊎ (f (shifted_row from to taken a) ≡ f (cleared a))
stays_or_cleared f blind Off Off taken a = inl refl
stays_or_cleared f blind Off Active taken a =
    inl (if_both f (f a) ((a.preset.0 == 0) || taken) a _ refl (blind a true a.preset a.preset))
stays_or_cleared f blind Off Asleep taken a = inl refl
stays_or_cleared f blind Off Suspending taken a = inl refl
stays_or_cleared f blind Active Off taken a = inr refl
stays_or_cleared f blind Active Active taken a = inl refl
stays_or_cleared f blind Active Asleep taken a = inl (if_both f (f a) a.used _ a (blind a a.used a.next a.now) refl)
stays_or_cleared f blind Active Suspending taken a = inl (if_both f (f a) a.used _ a (blind a a.used a.now a.now) refl)
stays_or_cleared f blind Asleep Off taken a = inr refl
stays_or_cleared f blind Asleep Active taken a = inl (if_both f (f a) a.used _ a (blind a a.used a.next a.next) refl)
stays_or_cleared f blind Asleep Asleep taken a = inl refl
stays_or_cleared f blind Asleep Suspending taken a = inl refl
stays_or_cleared f blind Suspending Off taken a = inr refl
stays_or_cleared f blind Suspending Active taken a = inl (if_both f (f a) a.used _ a (blind a a.used a.now a.now) refl)
stays_or_cleared f blind Suspending Asleep taken a = inl (if_both f (f a) a.used _ a (blind a a.used a.next a.now) refl)
stays_or_cleared f blind Suspending Suspending taken a = inl refl

pub armed_kept : (from to : Mode) (taken : Bool) (row : Row)
    → ((shifted_row from to taken row).armed ≡ row.armed) ⊎ ((shifted_row from to taken row).armed ≡ None)
armed_kept from to taken row = stays_or_cleared (λ (row : Row). row.armed) (λ row used now next. refl) from to taken row

-- ---- a shift keeps each row right

seed_at : (x : Entry) (row : Row) (b : Bool) → (if b then record x { row = row } else x).seed ≡ x.seed
seed_at x row true = refl
seed_at x row false = refl

pub seed_shifted : (entries : List Entry) (m : ℕ) (from to : Mode) (x : Entry) → (shift_at entries m from to x).seed ≡ x.seed
seed_shifted entries m from to x = seed_at x (shifted_row from to (is_taken entries x) x.row) (x.seed.master == m)

pub others_shifted : (entries : List Entry) (m : ℕ) (from to : Mode) (x : Entry) → (x.seed.master == m) ≡ false
    → shift_at entries m from to x ≡ x
others_shifted entries m from to x other = ap (λ (b : Bool). if b then record x { row = shifted_row from to (is_taken entries x) x.row } else x) other

-- a row wants only these capabilities
abbrev wants_only : Caps → Row → Bool
wants_only all row = has_all all row.now && (has_all all row.next && has_all all row.preset)

if_passes : (p : Row → Bool) (b : Bool) (x y : Row) → p x ≡ true → p y ≡ true → p (if b then x else y) ≡ true
if_passes p true x y is other = is
if_passes p false x y is other = other

able_by : (all : Caps) (from to : Mode) (taken : Bool) (row : Row) → wants_only all row ≡ true
    → wants_only all (cleared row) ≡ true → wants_only all (unscheduled row) ≡ true
    → wants_only all (exchanged row) ≡ true → wants_only all (restored row) ≡ true
    → wants_only all (preallocated taken row) ≡ true → wants_only all (shifted_row from to taken row) ≡ true
able_by all Off Off taken row able none early change back first = able
able_by all Off Active taken row able none early change back first = first
able_by all Off Asleep taken row able none early change back first = able
able_by all Off Suspending taken row able none early change back first = able
able_by all Active Off taken row able none early change back first = none
able_by all Active Active taken row able none early change back first = able
able_by all Active Asleep taken row able none early change back first = change
able_by all Active Suspending taken row able none early change back first = early
able_by all Asleep Off taken row able none early change back first = none
able_by all Asleep Active taken row able none early change back first = back
able_by all Asleep Asleep taken row able none early change back first = able
able_by all Asleep Suspending taken row able none early change back first = able
able_by all Suspending Off taken row able none early change back first = none
able_by all Suspending Active taken row able none early change back first = early
able_by all Suspending Asleep taken row able none early change back first = change
able_by all Suspending Suspending taken row able none early change back first = able

able_shifted : (all : Caps) (from to : Mode) (taken : Bool) (row : Row) → wants_only all row ≡ true
    → wants_only all (shifted_row from to taken row) ≡ true
able_shifted all from to taken row able =
    let first = and_parts (has_all all row.now) (has_all all row.next && has_all all row.preset) able in
    let second = and_parts (has_all all row.next) (has_all all row.preset) first.1 in
    let none : wants_only all (cleared row) ≡ true = and_from _ _ (has_all_nothing all) (and_from _ _ (has_all_nothing all) second.1) in
    let early : wants_only all (unscheduled row) ≡ true =
    if_passes (wants_only all) row.used _ row (and_from _ _ first.0 (and_from _ _ first.0 second.1)) able
    in
    let change : wants_only all (exchanged row) ≡ true =
    if_passes (wants_only all) row.used _ row (and_from _ _ second.0 (and_from _ _ first.0 second.1)) able
    in
    let back : wants_only all (restored row) ≡ true =
    if_passes (wants_only all) row.used _ row (and_from _ _ second.0 (and_from _ _ second.0 second.1)) able
    in
    let first_use : wants_only all (preallocated taken row) ≡ true =
    if_passes (wants_only all) ((row.preset.0 == 0) || taken) row _ able (and_from _ _ second.1 (and_from _ _ second.1 second.1))
    in
    able_by all from to taken row able none early change back first_use

plain_if_unused : (row : Row) → not row.used ≡ true → is_plain row ≡ true
plain_if_unused row unused = first_passes (not row.used) (row.next.0 == row.now.0) unused

-- what a used row becomes is plain where next is now
plain_made : (row made : Row) (b : Bool) → row.used ≡ b → made.next ≡ made.now → is_plain (if b then made else row) ≡ true
plain_made row made true used same = later_passes (not made.used) (made.next.0 == made.now.0) (eq-eqb _ _ (ap (λ (caps : Caps). caps.0) same))
plain_made row made false used same = plain_if_unused row (ap not used)

plain_preallocated : (row : Row) (b : Bool) → not row.used ≡ true
    → is_plain (if b then row else record row { used = true; now = row.preset; next = row.preset }) ≡ true
plain_preallocated row true unused = plain_if_unused row unused
plain_preallocated row false unused = eq-eqb row.preset.0 row.preset.0 refl

plain_shifted : (from to : Mode) (taken : Bool) (row : Row) → is_plain_in from row ≡ true → is_idle_in from row ≡ true
    → is_plain_in to (shifted_row from to taken row) ≡ true
plain_shifted from Off taken row plain idle = refl
plain_shifted from Asleep taken row plain idle = refl
plain_shifted from Suspending taken row plain idle = refl
plain_shifted Off Active taken row plain idle = plain_preallocated row ((row.preset.0 == 0) || taken) idle
plain_shifted Active Active taken row plain idle = plain
plain_shifted Asleep Active taken row plain idle = plain_made row (record row { now = row.next }) row.used refl refl
plain_shifted Suspending Active taken row plain idle = plain_made row (record row { next = row.now }) row.used refl refl

idle_shifted : (from to : Mode) (taken : Bool) (row : Row) → is_idle_in from row ≡ true
    → is_idle_in to (shifted_row from to taken row) ≡ true
idle_shifted from Active taken row idle = refl
idle_shifted from Asleep taken row idle = refl
idle_shifted from Suspending taken row idle = refl
idle_shifted Off Off taken row idle = idle
idle_shifted Active Off taken row idle = refl
idle_shifted Asleep Off taken row idle = refl
idle_shifted Suspending Off taken row idle = refl

-- the mode of a master after its change, and of another master
pub mode_set_same : (modes : List Mode) (m : ℕ) (to : Mode) → m < length modes → mode_in m (set modes m to) ≡ to
mode_set_same modes m to within = unwrap_or-slice_get (set modes m to) m Off ∙ get_or-set_same modes m to Off within

pub mode_set_other : (modes : List Mode) (m k : ℕ) (to : Mode) → k ≢ m → mode_in k (set modes m to) ≡ mode_in k modes
mode_set_other modes m k to other =
    unwrap_or-slice_get (set modes m to) k Off ∙ (get_or-set_other modes m k to Off other ∙ sym (unwrap_or-slice_get modes k Off))

right_at : (entries : List Entry) (modes : List Mode) (m : ℕ) (to : Mode) (x : Entry) (b : Bool)
    → (x.seed.master == m) ≡ b → RightIn (length modes) (mode_in x.seed.master modes) x
    → is_right (set modes m to) (if b then record x { row = shifted_row (mode_in m modes) to (is_taken entries x) x.row } else x) ≡ true
right_at entries modes m to x true is parts =
    let at : x.seed.master ≡ m = eqb-true _ _ is in
    let here : m < length modes = rw at at (ltb-true _ _ parts.within) in
    let P : ℕ → Type 0 = λ k. RightIn (length modes) (mode_in k modes) x in
    let own : RightIn (length modes) (mode_in m modes) x = subst P at parts in
    let Q : ℕ → Type 0 = λ k. mode_in k (set modes m to) ≡ to in
    right_from (set modes m to) (record x { row = shifted_row (mode_in m modes) to (is_taken entries x) x.row }) to
    (subst Q (sym at) (mode_set_same modes m to here))
    (record {
      within = rw (length-set modes m to) own.within;
      able = able_shifted x.seed.all (mode_in m modes) to (is_taken entries x) x.row own.able;
      plain = plain_shifted (mode_in m modes) to (is_taken entries x) x.row own.plain own.idle;
      idle = idle_shifted (mode_in m modes) to (is_taken entries x) x.row own.idle;
    })
right_at entries modes m to x false is parts =
    right_from (set modes m to) x (mode_in x.seed.master modes)
    (mode_set_other modes m x.seed.master to (differs x.seed.master m is))
    (record { within = rw (length-set modes m to) parts.within; able = parts.able; plain = parts.plain; idle = parts.idle })

-- ---- slaves that can't be shared

used_before : (row made : Row) (empty taken : Bool) → taken ≡ true → (if empty || taken then row else made).used ≡ true
    → row.used ≡ true
used_before row made true taken is used = used
used_before row made false true is used = used
used_before row made false false is used = cc

still_used : (row made : Row) (b : Bool) → made.used ≡ row.used → (if b then made else row).used ≡ true → row.used ≡ true
still_used row made true same used = sym same ∙ used
still_used row made false same used = used

used_at : (from to : Mode) (taken : Bool) (row : Row) → taken ≡ true → (shifted_row from to taken row).used ≡ true
    → row.used ≡ true
used_at Off Off taken row is used = used
used_at Off Active taken row is used =
    used_before row (record row { used = true; now = row.preset; next = row.preset }) (row.preset.0 == 0) taken is used
used_at Off Asleep taken row is used = used
used_at Off Suspending taken row is used = used
used_at Active Off taken row is used = cc
used_at Active Active taken row is used = used
used_at Active Asleep taken row is used = still_used row (record row { now = row.next; next = row.now }) row.used refl used
used_at Active Suspending taken row is used = still_used row (record row { next = row.now }) row.used refl used
used_at Asleep Off taken row is used = cc
used_at Asleep Active taken row is used = still_used row (record row { now = row.next }) row.used refl used
used_at Asleep Asleep taken row is used = used
used_at Asleep Suspending taken row is used = used
used_at Suspending Off taken row is used = cc
used_at Suspending Active taken row is used = still_used row (record row { next = row.now }) row.used refl used
used_at Suspending Asleep taken row is used = still_used row (record row { now = row.next; next = row.now }) row.used refl used
used_at Suspending Suspending taken row is used = used

-- where another master uses a slave alone, a shift makes no further row used on it
fewer_at : (entries : List Entry) (m t : ℕ) (from to : Mode) (x : Entry) (b : Bool) → (x.seed.master == m) ≡ b
    → list_any (is_rival m t) entries ≡ true
    → is_sole_user t (if b then record x { row = shifted_row from to (is_taken entries x) x.row } else x) ≡ true
    → is_sole_user t x ≡ true
fewer_at entries m t from to x true is rival sole =
    let parts = and_parts (x.seed.slave == t) ((shifted_row from to (is_taken entries x) x.row).used && not x.seed.shareable) sole in
    let later = and_parts (shifted_row from to (is_taken entries x) x.row).used (not x.seed.shareable) parts.1 in
    let master : x.seed.master ≡ m = eqb-true _ _ is in
    let slave : x.seed.slave ≡ t = eqb-true _ _ parts.0 in
    let taken : is_taken entries x ≡ true = rw (master, slave) rival in
    and_from _ _ parts.0 (and_from _ _ (used_at from to (is_taken entries x) x.row taken later.0) later.1)
fewer_at entries m t from to x false is rival sole = sole

-- a change of a master's mode keeps sound rows sound
pub shift_keeps : (permitted : List Pair) (rows : Rows) (m : ℕ) (to : Mode) → AreOnce permitted
    → AreSound permitted rows → AreSound permitted (shifted m to rows)
shift_keeps permitted rows m to distinct sound =
    let from : Mode = mode_of m rows in
    mapped_sound permitted rows (λ (x : Entry). Unit {0}) (shift_at rows.entries m from to) (set rows.known m to) sound
    (seed_shifted rows.entries m from to)
    (each_trivial rows.entries)
    (λ x here right. right_at rows.entries rows.known m to x (x.seed.master == m) refl (right_in rows.known x right))
    (λ t. alone_mapped m t (shift_at rows.entries m from to) rows.entries
    (seed_shifted rows.entries m from to)
    (others_shifted rows.entries m from to)
    (once m t permitted rows distinct sound)
    (sound.alone t)
    (elim (cases_Bool (list_any (is_rival m t) rows.entries)) [
      | inl rival ↦ inr (λ x. fewer_at rows.entries m t from to x (x.seed.master == m) refl rival)
      | inr free ↦ inl free
    ]))
