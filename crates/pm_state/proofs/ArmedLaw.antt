-- Each change keeps what the rows are armed with: nothing, or a processor of their own master.
use Rattle.std.proofs.Common.{◌≡◌, ℕ, ◌==◌, Bool, true, false, if◌then◌else◌, List, [], ◌∷◌, map, Option, refl, sym, subst, inl, inr}
use Rattle.std.specs.Prelude.{⊤}
use Rattle.std.specs.List.{list_all}
use Rattle.std.proofs.lemmas.Bool.{eqb-true}
use Rattle.pm_base.proofs.Booleans.{both, pair_of}
use Rattle.pm_base.specs.declared.names.Mode.{Mode}
use Rattle.pm_base.specs.declared.names.Mode.TheVariants.{Off, Active, Asleep, Suspending}
use Rattle.pm_base.specs.declared.names.NodeId.{NodeId}
use Rattle.pm_rows.specs.declared.row.Entry.{Entry}
use Rattle.pm_rows.specs.declared.row.Row.{Row}
use Rattle.pm_rows.specs.declared.row.RowSeed.{RowSeed}
use Rattle.pm_rows.specs.declared.row.Change.{Change}
use Rattle.pm_rows.specs.declared.row.Change.TheVariants.{Request, Release, Set, Limit, Arm}
use Rattle.pm_rows.specs.Rows.{applied, change_at, cleared, cleared_entry, dropped_at, is_at, loaded_entry, settled_at}
use Rattle.pm_rows.specs.Shift.{is_taken, shift_at, shifted_row}
use Rattle.pm_state.specs.Sound.{arms_own, is_armed_own}
use Rattle.pm_state.specs.State.{Fixed}
use Rattle.pm_state.proofs.RowLaws.{RowLaws}

-- what a change may arm a row of the master at place m with
abbrev pub MayArm : Fixed → ℕ → Change → Type 0
MayArm fixed m (Arm target) = arms_own fixed m target ≡ true
MayArm fixed m (Request caps) = ⊤
MayArm fixed m Release = ⊤
MayArm fixed m (Set mode caps) = ⊤
MayArm fixed m (Limit latency) = ⊤

mapped : (p : Entry → Bool) (f : Entry → Entry) → ((e : Entry) → p e ≡ true → p (f e) ≡ true) → (es : List Entry) → list_all p es ≡ true → list_all p (map f es) ≡ true
mapped p f keeps [] all = refl
mapped p f keeps (e ∷ es) all =
    let parts = both (p e) (list_all p es) all in
    pair_of (p (f e)) (list_all p (map f es)) (keeps e parts.0) (mapped p f keeps es parts.1)

-- ---- a change of a row

set_arms : (fixed : Fixed) (m : ℕ) (row : Row) (by : Change) → arms_own fixed m row.armed ≡ true → MayArm fixed m by → arms_own fixed m (applied by row).armed ≡ true
set_arms fixed m row (Request caps) is may = is
set_arms fixed m row Release is may = is
set_arms fixed m row (Set Off caps) is may = is
set_arms fixed m row (Set Active caps) is may = is
set_arms fixed m row (Set Asleep caps) is may = is
set_arms fixed m row (Set Suspending caps) is may = is
set_arms fixed m row (Limit latency) is may = is
set_arms fixed m row (Arm target) is may = may

change_by : (fixed : Fixed) (m s : ℕ) (by : Change) (e : Entry) (there : Bool) → is_at m s e ≡ there → MayArm fixed m by → is_armed_own fixed e ≡ true → is_armed_own fixed (if there then record e { row = applied by e.row } else e) ≡ true
change_by fixed m s by e false is may own = own
change_by fixed m s by e true is may own =
    let same : e.seed.master ≡ m = eqb-true e.seed.master m (both (e.seed.master == m) (e.seed.slave == s) is).0 in
    let P : ℕ → Type 0 = λ k. MayArm fixed k by in
    set_arms fixed e.seed.master e.row by own (subst P (sym same) may)

pub change_arms : (fixed : Fixed) (m s : ℕ) (by : Change) (es : List Entry) → MayArm fixed m by → list_all (is_armed_own fixed) es ≡ true → list_all (is_armed_own fixed) (map (change_at m s by) es) ≡ true
change_arms fixed m s by es may all =
    mapped (is_armed_own fixed) (change_at m s by) (λ e own. change_by fixed m s by e (is_at m s e) refl may own) es all

-- ---- a shift

shift_by : RowLaws → (fixed : Fixed) (es : List Entry) (from to : Mode) (e : Entry) (there : Bool) → is_armed_own fixed e ≡ true → is_armed_own fixed (if there then record e { row = shifted_row from to (is_taken es e) e.row } else e) ≡ true
shift_by laws fixed es from to e false own = own
shift_by laws fixed es from to e true own =
    let P : Option NodeId → Type 0 = λ armed. arms_own fixed e.seed.master armed ≡ true in
    elim (laws.armed from to (is_taken es e) e.row) [
      | inl same ↦ subst P (sym same) own
      | inr none ↦ subst P (sym none) refl
    ]

pub shift_arms : RowLaws → (fixed : Fixed) (m : ℕ) (from to : Mode) (es : List Entry) → list_all (is_armed_own fixed) es ≡ true → list_all (is_armed_own fixed) (map (shift_at es m from to) es) ≡ true
shift_arms laws fixed m from to es all =
    mapped (is_armed_own fixed) (shift_at es m from to) (λ e own. shift_by laws fixed es from to e (e.seed.master == m) own) es all

-- ---- dropped holds, and the load

settle_by : (fixed : Fixed) (e : Entry) (there : Bool) → is_armed_own fixed e ≡ true → is_armed_own fixed (if there then record e { row = record e.row { hold = false } } else e) ≡ true
settle_by fixed e true own = own
settle_by fixed e false own = own

pub settle_arms : (fixed : Fixed) (m : ℕ) (es : List Entry) → list_all (is_armed_own fixed) es ≡ true → list_all (is_armed_own fixed) (map (settled_at m) es) ≡ true
settle_arms fixed m es all =
    mapped (is_armed_own fixed) (settled_at m) (λ e own. settle_by fixed e (e.seed.master == m) own) es all

clear_by : (fixed : Fixed) (e : Entry) (there : Bool) → is_armed_own fixed e ≡ true → is_armed_own fixed (if there then record e { row = cleared e.row } else e) ≡ true
clear_by fixed e true own = refl
clear_by fixed e false own = own

-- rows that are cleared, those on one slave and all
pub drop_arms : (fixed : Fixed) (s : ℕ) (es : List Entry) → list_all (is_armed_own fixed) es ≡ true → list_all (is_armed_own fixed) (map (dropped_at s) es) ≡ true
drop_arms fixed s es all =
    mapped (is_armed_own fixed) (dropped_at s) (λ e own. clear_by fixed e (e.seed.slave == s) own) es all

pub clear_arms : (fixed : Fixed) (es : List Entry) → list_all (is_armed_own fixed) es ≡ true → list_all (is_armed_own fixed) (map cleared_entry es) ≡ true
clear_arms fixed es all = mapped (is_armed_own fixed) cleared_entry (λ e own. refl) es all

pub load_arms : (fixed : Fixed) (seeds : List RowSeed) → list_all (is_armed_own fixed) (map loaded_entry seeds) ≡ true
load_arms fixed [] = refl
load_arms fixed (seed ∷ seeds) = load_arms fixed seeds
