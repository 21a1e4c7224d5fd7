-- Rows that are made anew by an object of the run. In both books they are alike beyond the border; without a master
-- beyond none of them is on a slave beyond.
use Rattle.std.proofs.Common.{◌≡◌, ℕ, Bool, true, false, ◌&&◌, ◌||◌, ◌==◌, cond, if◌then◌else◌, is_some, List, [], ◌∷◌, map, Option, Some, None, refl, sym, ◌∙◌, ap, subst}
use Rattle.std.specs.Prelude.{find}
use Rattle.std.specs.Option.{option_map}
use Rattle.std.specs.List.{AllByRecursion as Each}
use Rattle.std.proofs.lemmas.Bool.{eqb-true}
use Rattle.pm_base.specs.declared.caps.Caps.{Caps}
use Rattle.pm_laws.proofs.Common.{Border, Both, Entry, Fixed, HasSome, IsBeyond, IsWithin, Mode, Object, Pair, SameRow, SameRows, is_awake, is_place}
use Rattle.pm_rows.specs.Modes.{mode_in}
use Rattle.pm_rows.specs.Rows.{loaded_entry}
use Rattle.pm_state.specs.State.{object_at, objects_of}
use Rattle.pm_state.specs.declared.pairs.Permitted.{Permitted}
use Rattle.pm_state.specs.Pairs.{claims, claims_on, pair_permitted, pairs_of, permitted_in, seed_anew, seed_at_load, seed_with, start_anew, taker}
use Rattle.pm_laws.specs.Agree.{ArePairsFit, IsPairFit}
use Rattle.pm_laws.proofs.AgreeLaw.{clash, each_at}
use Rattle.pm_laws.proofs.Places.{Each-of_map}

-- ---- the pairs of an object of the run fit the border

abbrev pub IsFitting : Border → Permitted → Type 0
IsFitting border p = IsPairFit border p.pair

pub object_fits : (fixed : Fixed) (border : Border) → ArePairsFit fixed border → (k : ℕ) (object : Object) → object_at fixed k ≡ Some object
    → Each (IsFitting border) (permitted_in object fixed.topology)
object_fits fixed border pairs k object there =
    Each-of_map (IsFitting border) (IsPairFit border) pair_permitted (λ p fit. fit) (permitted_in object fixed.topology)
    (each_at (λ (object : Object). Each (IsPairFit border) (pairs_of object fixed.topology)) (objects_of fixed) k object pairs there)

-- ---- where the modes of the masters beyond are the same, rows on slaves beyond begin the same

module _ (border : Border) (known other : List Mode) (alike : (m : ℕ) → IsBeyond border m → mode_in m known ≡ mode_in m other) where
  claims_alike : (p : Permitted) → IsBeyond border p.pair.master → claims known p ≡ claims other p
  claims_alike p beyond = ap (λ (mode : Mode). is_some p.current && is_awake mode) (alike p.pair.master beyond)

  claims_on_by : (s : ℕ) (p : Permitted) (here : Bool) → (p.pair.slave == s) ≡ here → border.slave s ≡ true → IsFitting border p
      → claims_on known s p ≡ claims_on other s p
  claims_on_by s p true is beyond fit =
      ap (λ (c : Bool). (p.pair.slave == s) && c) (claims_alike p (fit.0 (ap border.slave (eqb-true p.pair.slave s is) ∙ beyond)))
  claims_on_by s p false is beyond fit =
      ap (λ (b : Bool). b && claims known p) is ∙ sym (ap (λ (b : Bool). b && claims other p) is)

  -- the first that asks for a slave beyond is the same
  found_alike : (s : ℕ) → border.slave s ≡ true → (ps : List Permitted) → Each (IsFitting border) ps
      → find (claims_on known s) ps ≡ find (claims_on other s) ps
  found_alike s beyond [] each = refl
  found_alike s beyond (p ∷ ps) each =
      ap (λ (b : Bool). cond b (Some p) (find (claims_on known s) ps)) (claims_on_by s p (p.pair.slave == s) refl beyond each.0)
      ∙ ap (λ (o : Option Permitted). cond (claims_on other s p) (Some p) o) (found_alike s beyond ps each.1)

  start_alike : (all : List Permitted) → Each (IsFitting border) all → (p : Permitted) → IsFitting border p → border.slave p.pair.slave ≡ true
      → start_anew known all p ≡ start_anew other all p
  start_alike all each p fit beyond =
      ap (λ (c : Bool). if c && (p.pair.shareable || is_place p.pair.master (taker known p.pair.slave all)) then p.current else None) (claims_alike p (fit.0 beyond))
      ∙ ap (λ (o : Option Permitted). if claims other p && (p.pair.shareable || is_place p.pair.master (option_map (λ (q : Permitted). q.pair.master) o)) then p.current else None)
      (found_alike p.pair.slave beyond all each)

  row_anew : (all : List Permitted) → Each (IsFitting border) all → (p : Permitted) → IsFitting border p
      → SameRow border (loaded_entry (seed_anew known all p)) (loaded_entry (seed_anew other all p))
  row_anew all each p fit = record {
    seed = refl;
    closed = fit.0;
    users = fit.1;
    armed = λ is. refl;
    hold = λ is. refl;
    row = λ beyond. ap (λ (start : Option Caps). (loaded_entry (seed_with p.pair start false)).row) (start_alike all each p fit beyond);
  }

  rows_anew : (all ps : List Permitted) → Each (IsFitting border) all → Each (IsFitting border) ps
      → Both (SameRow border) (map loaded_entry (map (seed_anew known all) ps)) (map loaded_entry (map (seed_anew other all) ps))
  rows_anew all [] each fits = tt
  rows_anew all (p ∷ ps) each fits = (row_anew all each p fits.0, rows_anew all ps each fits.1)

-- the rows at load are alike in both books
rows_load : (border : Border) (boot : ℕ) (ps : List Permitted) → Each (IsFitting border) ps
    → Both (SameRow border) (map loaded_entry (map (seed_at_load boot) ps)) (map loaded_entry (map (seed_at_load boot) ps))
rows_load border boot [] fits = tt
rows_load border boot (p ∷ ps) fits = (
  record { seed = refl; closed = fits.0.0; users = fits.0.1; armed = λ is. refl; hold = λ is. refl; row = λ is. refl },
  rows_load border boot ps fits.1,
)

-- ---- where no master is beyond, no pair has a slave beyond

slave_within : (border : Border) → HasSome border → border.some ≡ false → (pair : Pair) (slave : Bool) → border.slave pair.slave ≡ slave → IsPairFit border pair → slave ≡ false
slave_within border some none pair false is fit = refl
slave_within border some none pair true is fit = clash border.some (some pair.master (fit.0 is)) none

pub anew_within : (border : Border) → HasSome border → border.some ≡ false → (known : List Mode) (all ps : List Permitted) → Each (IsFitting border) ps
    → Each (IsWithin border) (map loaded_entry (map (seed_anew known all) ps))
anew_within border some none known all [] fits = tt
anew_within border some none known all (p ∷ ps) fits =
    (slave_within border some none p.pair (border.slave p.pair.slave) refl fits.0, anew_within border some none known all ps fits.1)

pub load_within : (border : Border) → HasSome border → border.some ≡ false → (boot : ℕ) (ps : List Permitted) → Each (IsFitting border) ps
    → Each (IsWithin border) (map loaded_entry (map (seed_at_load boot) ps))
load_within border some none boot [] fits = tt
load_within border some none boot (p ∷ ps) fits =
    (slave_within border some none p.pair (border.slave p.pair.slave) refl fits.0, load_within border some none boot ps fits.1)

-- ---- all rows

-- in both books, if some master is beyond
pub rows_anew_alike : (border : Border) → border.some ≡ true → (known other : List Mode) → ((m : ℕ) → IsBeyond border m → mode_in m known ≡ mode_in m other)
    → (all : List Permitted) → Each (IsFitting border) all
    → SameRows border border.some (map loaded_entry (map (seed_anew known all) all)) (map loaded_entry (map (seed_anew other all) all))
rows_anew_alike border some known other alike all fits =
    let P : Bool → Type 0 = λ b. SameRows border b (map loaded_entry (map (seed_anew known all) all)) (map loaded_entry (map (seed_anew other all) all)) in
    subst P (sym some) (rows_anew border known other alike all all fits fits)

pub rows_load_alike : (border : Border) → border.some ≡ true → (boot : ℕ) (all : List Permitted) → Each (IsFitting border) all
    → SameRows border border.some (map loaded_entry (map (seed_at_load boot) all)) (map loaded_entry (map (seed_at_load boot) all))
rows_load_alike border some boot all fits =
    let P : Bool → Type 0 = λ b. SameRows border b (map loaded_entry (map (seed_at_load boot) all)) (map loaded_entry (map (seed_at_load boot) all)) in
    subst P (sym some) (rows_load border boot all fits)

-- in one book, if no master is beyond
pub rows_alone_new : (border : Border) → border.some ≡ false → (a b new : List Entry) → Each (IsWithin border) new → SameRows border border.some a b → SameRows border border.some new b
rows_alone_new border none a b new within same =
    let P : Bool → Type 0 = λ some. SameRows border some a b in
    let Q : Bool → Type 0 = λ some. SameRows border some new b in
    let both : Each (IsWithin border) a × Each (IsWithin border) b = subst P none same in
    let kept : Each (IsWithin border) new × Each (IsWithin border) b = (within, both.1) in
    subst Q (sym none) kept
