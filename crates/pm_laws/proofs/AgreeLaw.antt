-- Agreement beyond a border: of a sound book with itself, turned round, and through a third book.
use Rattle.std.proofs.Common.{◌≡◌, ℕ, zero, suc, ◌+◌, ◌<◌, Bool, true, false, true≢false, List, [], ◌∷◌, length, map, slice_get, unwrap_or, Option, Some, None, refl, sym, ◌∙◌, ap, subst, arith}
use Rattle.std.specs.List.{All, AllByRecursion as Each}
use Rattle.std.proofs.lemmas.List.Elements.{recursion_from_All}
use Rattle.std.proofs.lemmas.Option.{slice_get_within}
use Rattle.pm_laws.proofs.Common.{Agree, Border, Entry, Fixed, HasNotes, IsBeyond, IsClosed, IsPairClosed, IsSound, IsUserKnown, IsWithin, Now, Object, Off, Pair, Same, SameKnown, SameLine, SameMasterNotes, SamePending, SameProc, SameRow, SameRows, SameTalk, State, TalkHalf, Topology, in_force, mode_at, off, owner_at}
use Rattle.pm_procs.specs.declared.procs.Proc.{Proc}
use Rattle.pm_rows.specs.Sound.{pair_in}
use Rattle.pm_state.specs.State.{object_at, objects_of}
use Rattle.pm_state.specs.Load.{load_in}
use Rattle.pm_state.specs.Sound.{may_be_reset}
use Rattle.pm_laws.specs.Agree.{ArePairsFit, IsPairFit}
use Rattle.pm_state.specs.Pairs.{pairs_of}
use Rattle.pm_notify.specs.MasterNotes.{MasterNotes}
use Rattle.pm_notify.specs.Notify.{notes_for}
use Rattle.pm_topology.specs.UnitMap.{units_in}
use Rattle.pm_topology.specs.Units.{UnitLaws, rises}
use Rattle.pm_laws.proofs.MasterNotesFacts.{entries_self, entries_sym, entries_trans}
use Rattle.pm_laws.proofs.Places.{Both-sym, Both-trans, Both-self, BothFrom-sym, BothFrom-trans, BothFrom-self, Each-of_map}

-- what is so of a test can't be otherwise
pub clash : {X : Type 0} (b : Bool) → b ≡ true → b ≡ false → X
clash b is not = absurd (true≢false (sym is ∙ not))

-- ---- turned round

row_sym : (border : Border) (x y : Entry) → SameRow border x y → SameRow border y x
row_sym border x y same =
    let P : Pair → Type 0 = λ seed. border.slave seed.slave ≡ true → IsBeyond border seed.master in
    let U : Pair → Type 0 = λ seed. border.used seed.slave ≡ false → border.master seed.master ≡ false in
    let Q : Pair → Type 0 = λ seed. IsBeyond border seed.master in
    let S : Pair → Type 0 = λ seed. border.slave seed.slave ≡ true in
    record {
      seed = sym same.seed;
      closed = subst P same.seed same.closed;
      users = subst U same.seed same.users;
      armed = λ is. sym (same.armed (subst Q (sym same.seed) is));
      hold = λ is. sym (same.hold (subst Q (sym same.seed) is));
      row = λ is. sym (same.row (subst S (sym same.seed) is));
    }

rows_sym : (border : Border) (some : Bool) (a b : List Entry) → SameRows border some a b → SameRows border some b a
rows_sym border true a b same = Both-sym (SameRow border) (row_sym border) a b same
rows_sym border false a b same = (same.1, same.0)

proc_sym : (fixed : Fixed) (border : Border) (p : ℕ) (x y : Proc) → SameProc fixed border p x y → SameProc fixed border p y x
proc_sym fixed border p x y same = record {
  beyond = λ m owner is. sym (same.beyond m owner is);
  nobodys = λ none. ((same.nobodys none).1, (same.nobodys none).0);
}

line_sym : (border : Border) (l : ℕ) (x y : Bool) → SameLine border l x y → SameLine border l y x
line_sym border l x y same = record {
  beyond = λ is. sym (same.beyond is);
  released = λ none is. ((same.released none is).1, (same.released none is).0);
}

pub talk_sym : (border : Border) (a b : TalkHalf) → SameTalk border a b → SameTalk border b a
talk_sym border a b same = record {
  pending = BothFrom-sym (SamePending border) (λ k x y is beyond. sym (is beyond)) 0 a.pending b.pending same.pending;
  notes = BothFrom-sym (SameMasterNotes border) (λ k x y is beyond. entries_sym border x y (is beyond)) 0 a.notes b.notes same.notes;
}

pub same_sym : (fixed : Fixed) (border : Border) (a b : Now) → Same fixed border a b → Same fixed border b a
same_sym fixed border a b same = record {
  some = same.some;
  pairs = same.pairs;
  first = same.second;
  second = same.first;
  force = λ is. sym (same.force is);
  halted = λ is. sym (same.halted is);
  rows = rows_sym border border.some a.core.rows.entries b.core.rows.entries same.rows;
  known = BothFrom-sym (SameKnown border) (λ k x y is beyond. sym (is beyond)) 0 a.core.rows.known b.core.rows.known same.known;
  procs = BothFrom-sym (SameProc fixed border) (proc_sym fixed border) 0 a.core.procs b.core.procs same.procs;
  lines = BothFrom-sym (SameLine border) (line_sym border) 0 a.core.lines b.core.lines same.lines;
  talk = talk_sym border a.talk b.talk same.talk;
}

-- ---- through a third

row_trans : (border : Border) (x y z : Entry) → SameRow border x y → SameRow border y z → SameRow border x z
row_trans border x y z first second =
    let Q : Pair → Type 0 = λ seed. IsBeyond border seed.master in
    let S : Pair → Type 0 = λ seed. border.slave seed.slave ≡ true in
    record {
      seed = first.seed ∙ second.seed;
      closed = first.closed;
      users = first.users;
      armed = λ is. first.armed is ∙ second.armed (subst Q first.seed is);
      hold = λ is. first.hold is ∙ second.hold (subst Q first.seed is);
      row = λ is. first.row is ∙ second.row (subst S first.seed is);
    }

rows_trans : (border : Border) (some : Bool) (a b c : List Entry) → SameRows border some a b → SameRows border some b c → SameRows border some a c
rows_trans border true a b c first second = Both-trans (SameRow border) (row_trans border) a b c first second
rows_trans border false a b c first second = (first.0, second.1)

proc_trans : (fixed : Fixed) (border : Border) (p : ℕ) (x y z : Proc) → SameProc fixed border p x y → SameProc fixed border p y z → SameProc fixed border p x z
proc_trans fixed border p x y z first second = record {
  beyond = λ m owner is. first.beyond m owner is ∙ second.beyond m owner is;
  nobodys = λ none. ((first.nobodys none).0, (second.nobodys none).1);
}

line_trans : (border : Border) (l : ℕ) (x y z : Bool) → SameLine border l x y → SameLine border l y z → SameLine border l x z
line_trans border l x y z first second = record {
  beyond = λ is. first.beyond is ∙ second.beyond is;
  released = λ none is. ((first.released none is).0, (second.released none is).1);
}

pub talk_trans : (border : Border) (a b c : TalkHalf) → SameTalk border a b → SameTalk border b c → SameTalk border a c
talk_trans border a b c first second = record {
  pending = BothFrom-trans (SamePending border) (λ k x y z one two beyond. one beyond ∙ two beyond) 0 a.pending b.pending c.pending first.pending second.pending;
  notes = BothFrom-trans (SameMasterNotes border) (λ k x y z one two beyond. entries_trans border x y z (one beyond) (two beyond)) 0 a.notes b.notes c.notes first.notes second.notes;
}

pub same_trans : (fixed : Fixed) (border : Border) (a b c : Now) → Same fixed border a b → Same fixed border b c → Same fixed border a c
same_trans fixed border a b c first second = record {
  some = first.some;
  pairs = first.pairs;
  first = first.first;
  second = second.second;
  force = λ is. first.force is ∙ second.force is;
  halted = λ is. first.halted is ∙ second.halted is;
  rows = rows_trans border border.some a.core.rows.entries b.core.rows.entries c.core.rows.entries first.rows second.rows;
  known = BothFrom-trans (SameKnown border) (λ k x y z one two beyond. one beyond ∙ two beyond) 0 a.core.rows.known b.core.rows.known c.core.rows.known first.known second.known;
  procs = BothFrom-trans (SameProc fixed border) (proc_trans fixed border) 0 a.core.procs b.core.procs c.core.procs first.procs second.procs;
  lines = BothFrom-trans (SameLine border) (line_trans border) 0 a.core.lines b.core.lines c.core.lines first.lines second.lines;
  talk = talk_trans border a.talk b.talk c.talk first.talk second.talk;
}

-- ---- with itself

fit_pairs : (border : Border) (pairs : List Pair) → Each (IsPairClosed border) pairs → Each (IsUserKnown border) pairs → Each (IsPairFit border) pairs
fit_pairs border [] closed known = tt
fit_pairs border (pair ∷ pairs) closed known = ((closed.0, known.0), fit_pairs border pairs closed.1 known.1)

-- the pairs that objects permit fit the border
fit_each : (border : Border) (t : Topology) (objects : List Object) → Each (λ (object : Object). All (IsPairClosed border) (pairs_of object t)) objects → Each (λ (object : Object). All (IsUserKnown border) (pairs_of object t)) objects → Each (λ (object : Object). Each (IsPairFit border) (pairs_of object t)) objects
fit_each border t [] closed known = tt
fit_each border t (object ∷ objects) closed known =
    let pairs = pairs_of object t in (
      fit_pairs border pairs (recursion_from_All (IsPairClosed border) pairs closed.0) (recursion_from_All (IsUserKnown border) pairs known.0),
      fit_each border t objects closed.1 known.1,
    )

-- what is so of each of a list is so of the one at a place
pub each_at : {X : Type 0} (P : X → Type 0) (xs : List X) (k : ℕ) (x : X) → Each P xs → slice_get xs k ≡ Some x → P x
each_at P [] k x each is = cc
each_at P (y ∷ ys) zero x each is = let same : y ≡ x = cc in subst P same each.0
each_at P (y ∷ ys) (suc k) x each is = each_at P ys k x each.1 is

row_self : (border : Border) (x : Entry) → IsPairFit border (pair_in x) → SameRow border x x
row_self border x fit = record { seed = refl; closed = fit.0; users = fit.1; armed = λ is. refl; hold = λ is. refl; row = λ is. refl }

slave_within : (border : Border) (x : Entry) (slave : Bool) → ((m : ℕ) → IsBeyond border m → border.some ≡ true) → border.some ≡ false → border.slave x.seed.slave ≡ slave → IsPairClosed border (pair_in x) → slave ≡ false
slave_within border x false some none is closed = refl
slave_within border x true some none is closed = clash border.some (some x.seed.master (closed is)) none

rows_self : (border : Border) (some : Bool) → border.some ≡ some → ((m : ℕ) → IsBeyond border m → border.some ≡ true) → (xs : List Entry) → Each (IsPairFit border) (map pair_in xs) → SameRows border some xs xs
rows_self border true is some xs each = Both-self (SameRow border) (IsPairFit border) pair_in (row_self border) xs each
rows_self border false is some xs each =
    let within : Each (IsWithin border) xs =
    Each-of_map (IsWithin border) (IsPairFit border) pair_in (λ x fit. slave_within border x (border.slave x.seed.slave) some is refl fit.0) xs each
    in
    (within, within)

proc_self : (fixed : Fixed) (border : Border) (procs : List Proc) → ((p : ℕ) → owner_at fixed.object fixed.topology p ≡ None → mode_at p procs ≡ Off) → (p : ℕ) (x : Proc) → slice_get procs p ≡ Some x → SameProc fixed border (0 + p) x x
proc_self fixed border procs nobodys p x is =
    let same : p ≡ 0 + p = omega arith in
    let P : ℕ → Type 0 = λ k. SameProc fixed border k x x in
    let Q : Option Proc → Type 0 = λ o. (unwrap_or o off).mode ≡ Off in
    subst P same (record { beyond = λ m owner beyond. refl; nobodys = λ none. (subst Q is (nobodys p none), subst Q is (nobodys p none)) })

-- in the notes of each master the units rise
master_notes_order : UnitLaws → (book : State) → HasNotes book → (m : ℕ) (notes : MasterNotes) → slice_get book.now.talk.notes m ≡ Some notes → rises (units_in notes) ≡ true
master_notes_order units book sound m notes is =
    let there : m < length book.fixed.object.masters = subst (λ n. m < n) sound.each (slice_get_within book.now.talk.notes m notes is) in
    let own : notes_for m book.now.talk.notes ≡ notes = ap (λ o. unwrap_or o []) is in
    ap (λ x. rises (units_in x)) (sym own) ∙ (ap rises (sound.units m there) ∙ (units.are book.fixed.topology).rising)

module _ (border : Border) (book : State) (closed : IsClosed book.fixed border) (sound : IsSound book) where
  -- without a master beyond, no object of the run lets anybody reset a line beyond
  unreset : (m l : ℕ) (may : Bool) → may_be_reset book.fixed m l ≡ may → border.some ≡ false → border.line l ≡ true → may ≡ false
  unreset m l false is none beyond = refl
  unreset m l true is none beyond = clash border.some (closed.some m (closed.lines m l is beyond)) none

  line_released : (l : ℕ) (x : Bool) → slice_get book.now.core.lines l ≡ Some x → border.some ≡ false → border.line l ≡ true → x ≡ false
  line_released l x is none beyond =
      let Q : Option Bool → Type 0 = λ o. unwrap_or o false ≡ false in
      subst Q is (sound.lines.nobodys l (λ m. unreset m l (may_be_reset book.fixed m l) refl none beyond))

  line_self : (l : ℕ) (x : Bool) → slice_get book.now.core.lines l ≡ Some x → SameLine border (0 + l) x x
  line_self l x is =
      let same : l ≡ 0 + l = omega arith in
      let P : ℕ → Type 0 = λ k. SameLine border k x x in
      subst P same (record {
        beyond = λ beyond. refl;
        released = λ none beyond. (line_released l x is none beyond, line_released l x is none beyond);
      })

-- a sound book agrees with itself beyond a closed border
pub agree_self : UnitLaws → (border : Border) (book : State) → IsClosed book.fixed border → IsSound book → Agree border book book
agree_self units border book closed sound =
    let pairs : ArePairsFit book.fixed border = fit_each border book.fixed.topology (objects_of book.fixed) closed.users closed.known in
    let P : List Pair → Type 0 = λ seeds. Each (IsPairFit border) seeds in
    let each : Each (IsPairFit border) (map pair_in book.now.core.rows.entries) =
    subst P (sym sound.rows.pairs)
    (each_at (λ (object : Object). Each (IsPairFit border) (pairs_of object book.fixed.topology)) (objects_of book.fixed) sound.force.place (in_force book) pairs sound.force.there)
    in
    record {
      fixed = refl;
      now = record {
        some = closed.some;
        pairs = pairs;
        first = record { place = sound.force.place; there = sound.force.there };
        second = record { place = sound.force.place; there = sound.force.there };
        force = λ is. refl;
        halted = λ is. refl;
        rows = rows_self border border.some refl closed.some book.now.core.rows.entries each;
        known = BothFrom-self (SameKnown border) 0 book.now.core.rows.known (λ p x is beyond. refl);
        procs = BothFrom-self (SameProc book.fixed border) 0 book.now.core.procs (proc_self book.fixed border book.now.core.procs sound.procs.nobodys);
        lines = BothFrom-self (SameLine border) 0 book.now.core.lines (line_self border book closed sound);
        talk = record {
          pending = BothFrom-self (SamePending border) 0 book.now.talk.pending (λ p x is beyond. refl);
          notes = BothFrom-self (SameMasterNotes border) 0 book.now.talk.notes (λ m notes is beyond. entries_self border notes (master_notes_order units book sound.notes m notes is));
        };
      };
    }

-- and so does the book at load, whichever object of the run is in force
pub load_self : UnitLaws → ((fixed : Fixed) (object : Object) (k : ℕ) → object_at fixed k ≡ Some object → IsSound (load_in fixed object)) → (border : Border) (fixed : Fixed) (object : Object) (k : ℕ) → object_at fixed k ≡ Some object → IsClosed fixed border → Agree border (load_in fixed object) (load_in fixed object)
load_self units sound border fixed object k is closed = agree_self units border (load_in fixed object) closed (sound fixed object k is)

-- ---- books

pub agree_sym : (border : Border) (a b : State) → Agree border a b → Agree border b a
agree_sym border a b agree =
    let P : Fixed → Type 0 = λ fixed. Same fixed border b.now a.now in
    record { fixed = sym agree.fixed; now = subst P agree.fixed (same_sym a.fixed border a.now b.now agree.now) }

pub agree_trans : (border : Border) (a b c : State) → Agree border a b → Agree border b c → Agree border a c
agree_trans border a b c first second =
    let P : Fixed → Type 0 = λ fixed. Same fixed border b.now c.now in
    record {
      fixed = first.fixed ∙ second.fixed;
      now = same_trans a.fixed border a.now b.now c.now first.now (subst P (sym first.fixed) second.now);
    }
