-- In sound rows what is wanted of a slave is within its capabilities.
use Rattle.std.proofs.Common.{◌≡◌, ℕ, Bool, true, false, ◌&&◌, ◌==◌, if◌then◌else◌, is_some, IsTrue, List, [], ◌∷◌, map, refl, sym, subst}
use Rattle.std.specs.Prelude.{fold}
use Rattle.std.specs.List.{list_all, AllByRecursion as Each}
use Rattle.std.proofs.lemmas.Bool.{and_parts, eqb-true}
use Rattle.pm_base.specs.declared.caps.Caps.{Caps}
use Rattle.pm_base.specs.declared.names.Mode.{Mode}
use Rattle.pm_base.specs.declared.names.Mode.TheVariants.{Off, Active, Asleep, Suspending}
use Rattle.pm_rows.specs.declared.wanted.Wanted.{Wanted}
use Rattle.pm_rows.specs.declared.row.Pair.{Pair}
use Rattle.pm_rows.specs.declared.row.Entry.{Entry}
use Rattle.pm_rows.specs.Modes.{mode_in}
use Rattle.pm_rows.specs.Rows.{Rows, no_caps, has_all}
use Rattle.pm_rows.specs.Wanted.{wakeup, both, by_use, by_arming, by_hold, while_asleep, limit_by, least, required_by, with_row, wanted_of, nothing_wanted}
use Rattle.pm_rows.specs.Sound.{pair_in, is_able, AreSound}
use Rattle.pm_rows.proofs.Bits.{has_all_nothing, has_all_self, has_all_cut, has_all_union}

-- a row on the slave at place s wants only these capabilities, in any mode of its master
abbrev pub WantsOnly : Caps → ℕ → Entry → Type 0
WantsOnly all s entry = entry.seed.slave ≡ s → (mode : Mode) → IsTrue (has_all all (required_by mode entry))

-- the pairs on the slave at place s have these capabilities
abbrev pub HasAll : Caps → ℕ → Pair → Type 0
HasAll all s pair = pair.slave ≡ s → pair.all ≡ all

if_has : (all : Caps) (b : Bool) (caps : Caps) → IsTrue (has_all all caps) → IsTrue (has_all all (if b then caps else no_caps))
if_has all true caps has = has
if_has all false caps has = has_all_nothing all

asleep_has : (all : Caps) (mode : Mode) (caps : Caps) → IsTrue (has_all all caps) → IsTrue (has_all all (while_asleep mode caps))
asleep_has all Asleep caps has = has
asleep_has all Off caps has = has_all_nothing all
asleep_has all Active caps has = has_all_nothing all
asleep_has all Suspending caps has = has_all_nothing all

required_able : (mode : Mode) (entry : Entry) → IsTrue (is_able entry) → IsTrue (has_all entry.seed.all (required_by mode entry))
required_able mode entry able =
    let all : Caps = entry.seed.all in
    let first = and_parts (has_all all entry.row.now) (has_all all entry.row.next && has_all all entry.row.preset) able in
    has_all_union all (by_use entry) (both (by_arming mode entry) (by_hold entry))
    (if_has all entry.row.used entry.row.now first.0)
    (has_all_union all (by_arming mode entry) (by_hold entry)
    (if_has all (is_some entry.row.armed) (while_asleep mode _) (asleep_has all mode _ (has_all_cut all wakeup)))
    (if_has all entry.row.hold all (has_all_self all)))

row_wants_only : (all : Caps) (s : ℕ) (entry : Entry) → HasAll all s entry.seed → IsTrue (is_able entry) → WantsOnly all s entry
row_wants_only all s entry has able here mode =
    let P : Caps → Type 0 = λ all. IsTrue (has_all all (required_by mode entry)) in
    subst P (has here) (required_able mode entry able)

rows_want_only : (all : Caps) (s : ℕ) (rows : List Entry) → Each (HasAll all s) (map pair_in rows)
    → IsTrue (list_all is_able rows) → Each (WantsOnly all s) rows
rows_want_only all s [] have able = tt
rows_want_only all s (x ∷ xs) have able =
    let both = and_parts (is_able x) (list_all is_able xs) able in
    (row_wants_only all s x have.0 both.0, rows_want_only all s xs have.1 both.1)

with_row_able : (all : Caps) (modes : List Mode) (wanted : Wanted) (entry : Entry) (s : ℕ) (b : Bool)
    → (entry.seed.slave == s) ≡ b → IsTrue (has_all all wanted.caps) → WantsOnly all s entry
    → IsTrue (has_all all (if b then record {
      caps = both wanted.caps (required_by (mode_in entry.seed.master modes) entry);
      limit = least wanted.limit (limit_by entry);
    } else wanted).caps)
with_row_able all modes wanted entry s true is before only =
    has_all_union all wanted.caps (required_by (mode_in entry.seed.master modes) entry) before (only (eqb-true _ _ is) (mode_in entry.seed.master modes))
with_row_able all modes wanted entry s false is before only = before

rows_able : (all : Caps) (s : ℕ) (modes : List Mode) (rows : List Entry) (wanted : Wanted)
    → IsTrue (has_all all wanted.caps) → Each (WantsOnly all s) rows
    → IsTrue (has_all all (fold (with_row s modes) wanted rows).caps)
rows_able all s modes [] wanted before each = before
rows_able all s modes (x ∷ xs) wanted before each =
    rows_able all s modes xs (with_row s modes wanted x) (with_row_able all modes wanted x s (x.seed.slave == s) refl before each.0) each.1

-- what is wanted of a slave is within its capabilities
pub wanted_able : (permitted : List Pair) (rows : Rows) (s : ℕ) (all : Caps) → AreSound permitted rows
    → Each (HasAll all s) permitted → IsTrue (has_all all (wanted_of s rows).caps)
wanted_able permitted rows s all sound have =
    let P : List Pair → Type 0 = λ pairs. Each (HasAll all s) pairs in
    rows_able all s rows.known rows.entries nothing_wanted (has_all_nothing all) (rows_want_only all s rows.entries (subst P (sym sound.pairs) have) sound.able)
