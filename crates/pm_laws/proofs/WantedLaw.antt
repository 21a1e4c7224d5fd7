-- The requirements in force on a slave beyond are equal in two books that agree.
use Rattle.std.proofs.Common.{◌≡◌, ℕ, Bool, true, false, ◌==◌, if◌then◌else◌, List, refl, ◌∙◌, ap}
use Rattle.std.proofs.lemmas.Bool.{eqb-true}
use Rattle.pm_laws.proofs.Common.{Agree, Border, Entry, IsBeyond, Mode, Pair, SameRow, State}
use Rattle.pm_rows.specs.declared.wanted.Wanted.{Wanted}
use Rattle.pm_rows.specs.Modes.{mode_in}
use Rattle.pm_rows.specs.Wanted.{both, least, limit_by, nothing_wanted, required_by, wanted_of, with_row}
use Rattle.pm_laws.proofs.CallsAlike.{entry_alike, rows_both}
use Rattle.pm_laws.proofs.Places.{Both-fold}
use Rattle.pm_laws.proofs.PrimFacts.{known_alike}

-- the requirement that this entry adds, if it is on the slave
abbrev wants : Bool → Mode → Wanted → Entry → Wanted
wants here mode wanted entry =
    if here then record { caps = both wanted.caps (required_by mode entry); limit = least wanted.limit (limit_by entry) } else wanted

-- a row on a slave beyond requires the same in both books, since its master is beyond
wants_alike : (border : Border) (s : ℕ) (a b : List Mode) (wanted : Wanted) (x y : Entry) (here : Bool) → (x.seed.slave == s) ≡ here → border.slave s ≡ true → ((m : ℕ) → IsBeyond border m → mode_in m a ≡ mode_in m b) → SameRow border x y → wants here (mode_in x.seed.master a) wanted x ≡ wants here (mode_in y.seed.master b) wanted y
wants_alike border s a b wanted x y true is beyond known same =
    let there : x.seed.slave ≡ s = eqb-true x.seed.slave s is in
    let entry : x ≡ y = entry_alike border s x y beyond same there in
    let master : IsBeyond border x.seed.master = same.closed (ap border.slave there ∙ beyond) in
    ap (λ mode. wants true mode wanted x) (known x.seed.master master) ∙ ap (λ (z : Entry). wants true (mode_in z.seed.master b) wanted z) entry
wants_alike border s a b wanted x y false is beyond known same = refl

row_wants_alike : (border : Border) (s : ℕ) (a b : List Mode) → border.slave s ≡ true → ((m : ℕ) → IsBeyond border m → mode_in m a ≡ mode_in m b) → (wanted : Wanted) (x y : Entry) → SameRow border x y → with_row s a wanted x ≡ with_row s b wanted y
row_wants_alike border s a b beyond known wanted x y same =
    wants_alike border s a b wanted x y (x.seed.slave == s) refl beyond known same
    ∙ ap (λ (seed : Pair). wants (seed.slave == s) (mode_in y.seed.master b) wanted y) same.seed

pub wanted_alike : (border : Border) (s : ℕ) (a b : State) → border.some ≡ true → border.slave s ≡ true → Agree border a b → wanted_of s a.now.core.rows ≡ wanted_of s b.now.core.rows
wanted_alike border s a b some beyond agree =
    Both-fold (SameRow border) (with_row s a.now.core.rows.known) (with_row s b.now.core.rows.known)
    (row_wants_alike border s a.now.core.rows.known b.now.core.rows.known beyond (λ m is. known_alike a.fixed border m a.now b.now is agree.now))
    nothing_wanted a.now.core.rows.entries b.now.core.rows.entries
    (rows_both border a.now.core.rows.entries b.now.core.rows.entries some agree.now.rows)
