-- The two facts of each change of rows: made in both books it keeps them alike beyond the border; invisible and made
-- in one it does so too.
use Rattle.std.proofs.Common.{◌≡◌, ℕ, Bool, true, false, not, ◌&&◌, ◌||◌, ◌==◌, if◌then◌else◌, List, map, refl, sym, ◌∙◌, ap, subst}
use Rattle.std.specs.List.{list_any, AllByRecursion as Each}
use Rattle.std.proofs.lemmas.Bool.{eqb-true}
use Rattle.pm_base.specs.declared.caps.Caps.{Caps}
use Rattle.pm_laws.proofs.Common.{BelowLaws, Border, Both, Entry, IsBeyond, IsWithin, Mode, Off, Pair, SameRow, SameRows, is_arming}
use Rattle.pm_base.proofs.Booleans.{both}
use Rattle.pm_rows.specs.declared.row.Change.{Change}
use Rattle.pm_rows.specs.declared.row.Change.TheVariants.{Request, Release, Set, Limit, Arm}
use Rattle.pm_rows.specs.declared.row.Row.{Row}
use Rattle.pm_rows.specs.Rows.{applied, cleared, cleared_entry, dropped_at, set_in, is_at, is_rival, change_at, settled_at}
use Rattle.pm_rows.specs.Shift.{shifted_row, is_taken, shift_at}
use Rattle.pm_laws.proofs.AgreeLaw.{clash}
use Rattle.pm_laws.proofs.Places.{Both-map, Both-map_left, Both-any, Each-map}

-- ---- one row

-- an entry with another row, if a test holds
abbrev rewritten : Bool → Row → Entry → Entry
rewritten b row x = if b then record x { row = row } else x

pair_kept : (b : Bool) (row : Row) (x : Entry) → (rewritten b row x).seed ≡ x.seed
pair_kept true row x = refl
pair_kept false row x = refl

-- two rows are rewritten alike
record RewrittenAlike (border : Border) (x : Entry) (r s : Row) : Type 0 where
  pub armed : IsBeyond border x.seed.master → r.armed ≡ s.armed
  pub hold : IsBeyond border x.seed.master → r.hold ≡ s.hold
  pub row : border.slave x.seed.slave ≡ true → r ≡ s

alike_if : (border : Border) (b : Bool) (x y : Entry) (r s : Row) → SameRow border x y → RewrittenAlike border x r s → SameRow border (rewritten b r x) (rewritten b s y)
alike_if border false x y r s same alike = same
alike_if border true x y r s same alike =
    record { seed = same.seed; closed = same.closed; users = same.users; armed = alike.armed; hold = alike.hold; row = alike.row }

alike_by : (border : Border) (b c : Bool) (x y : Entry) (r s : Row) → b ≡ c → SameRow border x y → RewrittenAlike border x r s → SameRow border (rewritten b r x) (rewritten c s y)
alike_by border b c x y r s is same alike =
    let P : Bool → Type 0 = λ d. SameRow border (rewritten b r x) (rewritten d s y) in
    subst P is (alike_if border b x y r s same alike)

-- a row is rewritten without a trace beyond the border
unseen_if : (border : Border) (b : Bool) (x y : Entry) (r : Row) → SameRow border x y → (b ≡ true → RewrittenAlike border x r x.row) → SameRow border (rewritten b r x) y
unseen_if border false x y r same traceless = same
unseen_if border true x y r same traceless =
    let alike : RewrittenAlike border x r x.row = traceless refl in
    record {
      seed = same.seed;
      closed = same.closed;
      users = same.users;
      armed = λ is. alike.armed is ∙ same.armed is;
      hold = λ is. alike.hold is ∙ same.hold is;
      row = λ is. alike.row is ∙ same.row is;
    }

-- nothing is seen of a row whose master is within
within_traceless : (border : Border) (x y : Entry) (r : Row) → SameRow border x y → border.master x.seed.master ≡ false → RewrittenAlike border x r x.row
within_traceless border x y r same within = record {
  armed = λ is. clash (border.master x.seed.master) is within;
  hold = λ is. clash (border.master x.seed.master) is within;
  row = λ is. clash (border.master x.seed.master) (same.closed is) within;
}

-- ---- all rows

rows_map : (border : Border) (some : Bool) (f g : Entry → Entry) (a b : List Entry) → ((x : Entry) → (f x).seed ≡ x.seed) → ((x : Entry) → (g x).seed ≡ x.seed) → (Both (SameRow border) a b → (x y : Entry) → SameRow border x y → SameRow border (f x) (g y)) → SameRows border some a b → SameRows border some (map f a) (map g b)
rows_map border true f g a b pair_f pair_g each same = Both-map (SameRow border) f g (each same) a b same
rows_map border false f g a b pair_f pair_g each same =
    let P : Pair → Type 0 = λ seed. border.slave seed.slave ≡ false in (
      Each-map (IsWithin border) f (λ x within. subst P (sym (pair_f x)) within) a same.0,
      Each-map (IsWithin border) g (λ x within. subst P (sym (pair_g x)) within) b same.1,
    )

rows_map_left : (border : Border) (some : Bool) (f : Entry → Entry) (a b : List Entry) → ((x : Entry) → (f x).seed ≡ x.seed) → ((x y : Entry) → SameRow border x y → SameRow border (f x) y) → SameRows border some a b → SameRows border some (map f a) b
rows_map_left border true f a b pair each same = Both-map_left (SameRow border) f each a b same
rows_map_left border false f a b pair each same =
    let P : Pair → Type 0 = λ seed. border.slave seed.slave ≡ false in
    (Each-map (IsWithin border) f (λ x within. subst P (sym (pair x)) within) a same.0, same.1)

-- ---- a change of one row

set_armed : (mode : Mode) (a b : Row) (caps : Caps) → a.armed ≡ b.armed → (set_in mode caps a).armed ≡ (set_in mode caps b).armed
set_armed Off a b caps is = is
set_armed _ a b caps is = is

applied_armed : (by : Change) (a b : Row) → a.armed ≡ b.armed → (applied by a).armed ≡ (applied by b).armed
applied_armed (Request caps) a b is = is
applied_armed Release a b is = is
applied_armed (Set mode caps) a b is = set_armed mode a b caps is
applied_armed (Limit latency) a b is = is
applied_armed (Arm target) a b is = refl

set_hold : (mode : Mode) (a : Row) (caps : Caps) → (set_in mode caps a).hold ≡ a.hold
set_hold Off a caps = refl
set_hold _ a caps = refl

applied_hold : (by : Change) (a : Row) → (applied by a).hold ≡ a.hold
applied_hold (Request caps) a = refl
applied_hold Release a = refl
applied_hold (Set mode caps) a = set_hold mode a caps
applied_hold _ a = refl

set_arming : (mode : Mode) (a : Row) (caps : Caps) → (set_in mode caps a).armed ≡ a.armed
set_arming Off a caps = refl
set_arming _ a caps = refl

unarmed : (by : Change) (a : Row) → is_arming by ≡ false → (applied by a).armed ≡ a.armed
unarmed (Request caps) a is = refl
unarmed Release a is = refl
unarmed (Set mode caps) a is = set_arming mode a caps
unarmed (Limit latency) a is = refl
unarmed (Arm target) a is = cc

change_alike : (border : Border) (m s : ℕ) (by : Change) (x y : Entry) → SameRow border x y → SameRow border (change_at m s by x) (change_at m s by y)
change_alike border m s by x y same =
    alike_by border (is_at m s x) (is_at m s y) x y (applied by x.row) (applied by y.row)
    (ap (λ (seed : Pair). (seed.master == m) && (seed.slave == s)) same.seed) same
    (record {
      armed = λ is. applied_armed by x.row y.row (same.armed is);
      hold = λ is. applied_hold by x.row ∙ (same.hold is ∙ sym (applied_hold by y.row));
      row = λ is. ap (applied by) (same.row is);
    })

unseen_slave : (a b c : Bool) → (a && (b || c)) ≡ false → a ≡ true → b ≡ false
unseen_slave true true c is here = cc
unseen_slave true false c is here = refl
unseen_slave false b c is here = cc

unseen_arming : (a b c : Bool) → (a && (b || c)) ≡ false → a ≡ true → c ≡ false
unseen_arming true true c is here = cc
unseen_arming true false c is here = is
unseen_arming false b c is here = cc

change_traceless : (border : Border) (by : Change) (x y : Entry) → (border.master x.seed.master && (border.slave x.seed.slave || is_arming by)) ≡ false → SameRow border x y → RewrittenAlike border x (applied by x.row) x.row
change_traceless border by x y unseen same =
    let master : Bool = border.master x.seed.master in
    let slave : Bool = border.slave x.seed.slave in
    record {
      armed = λ is. unarmed by x.row (unseen_arming master slave (is_arming by) unseen is);
      hold = λ is. applied_hold by x.row;
      row = λ is. clash slave is (unseen_slave master slave (is_arming by) unseen (same.closed is));
    }

change_unseen : (border : Border) (m s : ℕ) (by : Change) → (border.master m && (border.slave s || is_arming by)) ≡ false → (x y : Entry) → SameRow border x y → SameRow border (change_at m s by x) y
change_unseen border m s by unseen x y same =
    unseen_if border (is_at m s x) x y (applied by x.row) same (λ is.
    let parts = both (x.seed.master == m) (x.seed.slave == s) is in
    let own : x.seed.master ≡ m = eqb-true x.seed.master m parts.0 in
    let there : x.seed.slave ≡ s = eqb-true x.seed.slave s parts.1 in
    let P : ℕ → Type 0 = λ k. (border.master k && (border.slave s || is_arming by)) ≡ false in
    let Q : ℕ → Type 0 = λ k. (border.master x.seed.master && (border.slave k || is_arming by)) ≡ false in
    change_traceless border by x y (subst Q (sym there) (subst P (sym own) unseen)) same)

pub rows_changed_alike : (border : Border) (m s : ℕ) (by : Change) (a b : List Entry) → SameRows border border.some a b → SameRows border border.some (map (change_at m s by) a) (map (change_at m s by) b)
rows_changed_alike border m s by a b same =
    let pair : (x : Entry) → (change_at m s by x).seed ≡ x.seed = λ x. pair_kept (is_at m s x) (applied by x.row) x in
    rows_map border border.some (change_at m s by) (change_at m s by) a b pair pair (λ both. change_alike border m s by) same

pub rows_changed_unseen : (border : Border) (m s : ℕ) (by : Change) (a b : List Entry) → (border.master m && (border.slave s || is_arming by)) ≡ false → SameRows border border.some a b → SameRows border border.some (map (change_at m s by) a) b
rows_changed_unseen border m s by a b unseen same =
    let pair : (x : Entry) → (change_at m s by x).seed ≡ x.seed = λ x. pair_kept (is_at m s x) (applied by x.row) x in
    rows_map_left border border.some (change_at m s by) a b pair (change_unseen border m s by unseen) same

-- ---- dropped holds

abbrev unheld : Row → Row
unheld row = record row { hold = false }

settle_alike : (border : Border) (m : ℕ) (x y : Entry) → SameRow border x y → SameRow border (settled_at m x) (settled_at m y)
settle_alike border m x y same =
    alike_by border (x.seed.master == m) (y.seed.master == m) x y (unheld x.row) (unheld y.row)
    (ap (λ (seed : Pair). seed.master == m) same.seed) same
    (record { armed = same.armed; hold = λ is. refl; row = λ is. ap unheld (same.row is) })

-- nothing is seen of rewritten rows of a master within
own_unseen : (border : Border) (m : ℕ) (r : Entry → Row) → border.master m ≡ false → (x y : Entry) → SameRow border x y → SameRow border (rewritten (x.seed.master == m) (r x) x) y
own_unseen border m r within x y same =
    unseen_if border (x.seed.master == m) x y (r x) same (λ is.
    let own : x.seed.master ≡ m = eqb-true x.seed.master m is in
    within_traceless border x y (r x) same (ap border.master own ∙ within))

pub rows_settled_alike : (border : Border) (m : ℕ) (a b : List Entry) → SameRows border border.some a b → SameRows border border.some (map (settled_at m) a) (map (settled_at m) b)
rows_settled_alike border m a b same =
    let pair : (x : Entry) → (settled_at m x).seed ≡ x.seed = λ x. pair_kept (x.seed.master == m) (unheld x.row) x in
    rows_map border border.some (settled_at m) (settled_at m) a b pair pair (λ both. settle_alike border m) same

pub rows_settled_unseen : (border : Border) (m : ℕ) (a b : List Entry) → border.master m ≡ false → SameRows border border.some a b → SameRows border border.some (map (settled_at m) a) b
rows_settled_unseen border m a b within same =
    let pair : (x : Entry) → (settled_at m x).seed ≡ x.seed = λ x. pair_kept (x.seed.master == m) (unheld x.row) x in
    rows_map_left border border.some (settled_at m) a b pair (own_unseen border m (λ x. unheld x.row) within) same

-- ---- shifts

second_fails : (a b c d : Bool) → b ≡ false → (((a && b) && c) && d) ≡ false
second_fails true true c d is = cc
second_fails true false c d is = refl
second_fails false b c d is = refl

-- a row on another slave makes no rival
pub no_rival : (m s : ℕ) (x : Entry) → (x.seed.slave == s) ≡ false → is_rival m s x ≡ false
no_rival m s x is = second_fails (not (x.seed.master == m)) (x.seed.slave == s) x.row.used (not x.seed.shareable) is

-- on a slave beyond the same masters use it
pub rival_alike : (border : Border) (m s : ℕ) (here : Bool) (x y : Entry) → border.slave s ≡ true → (x.seed.slave == s) ≡ here → SameRow border x y → is_rival m s x ≡ is_rival m s y
rival_alike border m s true x y beyond is same =
    let there : x.seed.slave ≡ s = eqb-true x.seed.slave s is in
    let seed : x.seed ≡ y.seed = same.seed in
    let row : x.row ≡ y.row = same.row (ap border.slave there ∙ beyond) in
    cc
rival_alike border m s false x y beyond is same =
    let seed : x.seed ≡ y.seed = same.seed in
    let other : (y.seed.slave == s) ≡ false = subst (λ (d : Pair). (d.slave == s) ≡ false) seed is in
    no_rival m s x is ∙ sym (no_rival m s y other)

taken_alike : (border : Border) (a b : List Entry) (x y : Entry) → Both (SameRow border) a b → SameRow border x y → border.slave x.seed.slave ≡ true → is_taken a x ≡ is_taken b y
taken_alike border a b x y same here beyond =
    let m : ℕ = x.seed.master in
    let s : ℕ = x.seed.slave in
    Both-any (SameRow border) (is_rival m s) (is_rival m s) (λ u v each. rival_alike border m s (u.seed.slave == s) u v beyond refl each) a b same
    ∙ ap (λ (seed : Pair). list_any (is_rival seed.master seed.slave) b) here.seed

shift_alike : BelowLaws → (border : Border) (m : ℕ) (from to : Mode) (a b : List Entry) → Both (SameRow border) a b → (x y : Entry) → SameRow border x y → SameRow border (shift_at a m from to x) (shift_at b m from to y)
shift_alike laws border m from to a b both x y same =
    alike_by border (x.seed.master == m) (y.seed.master == m) x y (shifted_row from to (is_taken a x) x.row) (shifted_row from to (is_taken b y) y.row)
    (ap (λ (seed : Pair). seed.master == m) same.seed) same
    (record {
      armed = λ is. laws.armed from to (is_taken a x) (is_taken b y) x.row y.row (same.armed is);
      hold = λ is. laws.hold from to (is_taken a x) (is_taken b y) x.row y.row (same.hold is);
      row = λ is.
          ap (λ taken. shifted_row from to taken x.row) (taken_alike border a b x y both same is)
          ∙ ap (shifted_row from to (is_taken b y)) (same.row is);
    })

pub rows_shifted_alike : BelowLaws → (border : Border) (m : ℕ) (from to : Mode) (a b : List Entry) → SameRows border border.some a b → SameRows border border.some (map (shift_at a m from to) a) (map (shift_at b m from to) b)
rows_shifted_alike laws border m from to a b same =
    rows_map border border.some (shift_at a m from to) (shift_at b m from to) a b
    (λ x. pair_kept (x.seed.master == m) (shifted_row from to (is_taken a x) x.row) x)
    (λ x. pair_kept (x.seed.master == m) (shifted_row from to (is_taken b x) x.row) x)
    (shift_alike laws border m from to a b) same

pub rows_shifted_unseen : (border : Border) (m : ℕ) (from to : Mode) (a b : List Entry) → border.master m ≡ false → SameRows border border.some a b → SameRows border border.some (map (shift_at a m from to) a) b
rows_shifted_unseen border m from to a b within same =
    rows_map_left border border.some (shift_at a m from to) a b
    (λ x. pair_kept (x.seed.master == m) (shifted_row from to (is_taken a x) x.row) x)
    (own_unseen border m (λ x. shifted_row from to (is_taken a x) x.row) within) same

-- ---- rows that are cleared

drop_alike : (border : Border) (s : ℕ) (x y : Entry) → SameRow border x y → SameRow border (dropped_at s x) (dropped_at s y)
drop_alike border s x y same =
    alike_by border (x.seed.slave == s) (y.seed.slave == s) x y (cleared x.row) (cleared y.row)
    (ap (λ (seed : Pair). seed.slave == s) same.seed) same
    (record { armed = λ is. refl; hold = λ is. refl; row = λ is. ap cleared (same.row is) })

pub rows_dropped_alike : (border : Border) (s : ℕ) (a b : List Entry) → SameRows border border.some a b → SameRows border border.some (map (dropped_at s) a) (map (dropped_at s) b)
rows_dropped_alike border s a b same =
    let pair : (x : Entry) → (dropped_at s x).seed ≡ x.seed = λ x. pair_kept (x.seed.slave == s) (cleared x.row) x in
    rows_map border border.some (dropped_at s) (dropped_at s) a b pair pair (λ both. drop_alike border s) same

-- on a slave that no master beyond may use
drop_unseen : (border : Border) (s : ℕ) → border.used s ≡ false → (x y : Entry) → SameRow border x y → SameRow border (dropped_at s x) y
drop_unseen border s unused x y same =
    unseen_if border (x.seed.slave == s) x y (cleared x.row) same (λ is.
    let there : x.seed.slave ≡ s = eqb-true x.seed.slave s is in
    within_traceless border x y (cleared x.row) same (same.users (ap border.used there ∙ unused)))

pub rows_dropped_unseen : (border : Border) (s : ℕ) (a b : List Entry) → border.used s ≡ false → SameRows border border.some a b → SameRows border border.some (map (dropped_at s) a) b
rows_dropped_unseen border s a b unused same =
    let pair : (x : Entry) → (dropped_at s x).seed ≡ x.seed = λ x. pair_kept (x.seed.slave == s) (cleared x.row) x in
    rows_map_left border border.some (dropped_at s) a b pair (drop_unseen border s unused) same

clear_alike : (border : Border) (x y : Entry) → SameRow border x y → SameRow border (cleared_entry x) (cleared_entry y)
clear_alike border x y same =
    record { seed = same.seed; closed = same.closed; users = same.users; armed = λ is. refl; hold = λ is. refl; row = λ is. ap cleared (same.row is) }

pub rows_cleared_alike : (border : Border) (a b : List Entry) → SameRows border border.some a b → SameRows border border.some (map cleared_entry a) (map cleared_entry b)
rows_cleared_alike border a b same =
    rows_map border border.some cleared_entry cleared_entry a b (λ x. refl) (λ x. refl) (λ both. clear_alike border) same

-- without a master beyond, rows may be rewritten in one book
pub rows_alone : (border : Border) (f : Entry → Entry) (a b : List Entry) → ((x : Entry) → (f x).seed ≡ x.seed) → border.some ≡ false → SameRows border border.some a b → SameRows border border.some (map f a) b
rows_alone border f a b pair none same =
    let P : Bool → Type 0 = λ some. SameRows border some a b in
    let Q : Bool → Type 0 = λ some. SameRows border some (map f a) b in
    let S : Pair → Type 0 = λ seed. border.slave seed.slave ≡ false in
    let within : Each (IsWithin border) a × Each (IsWithin border) b = subst P none same in
    let kept : Each (IsWithin border) (map f a) × Each (IsWithin border) b = (Each-map (IsWithin border) f (λ x is. subst S (sym (pair x)) is) a within.0, within.1) in
    subst Q (sym none) kept
