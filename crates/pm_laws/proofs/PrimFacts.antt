-- The two facts of each change of a book: seen and made in both it keeps them alike beyond the border, and unseen and made in
-- one alone it does so too.
use Rattle.std.proofs.Common.{◌≡◌, ◌==◌, ℕ, ◌+◌, Bool, true, false, if◌then◌else◌, List, [], ◌∷◌, length, map, Option, Some, None, refl, sym, ◌∙◌, ap, subst, arith}
use Rattle.std.specs.Prelude.{replicate, unwrap_or}
use Rattle.std.proofs.lemmas.Bool.{eqb-true}
use Rattle.std.proofs.lemmas.List.{length-replicate, length-set}
use Rattle.pm_base.proofs.Booleans.{equal}
use Rattle.pm_base.proofs.Tests.{present_from}
use Rattle.pm_laws.proofs.Common.{Active, At_row, BelowLaws, Border, BothFrom, Clear, Enforce, Entry, Fixed, Halt, HasSome, IsBeyond, Mode, Now, Object, Off, Prim, Put_line, Put_proc, Reload, Same, SameKnown, SameLine, SameProc, SameRows, Settle, Shift, all_turned_off, apply, gone, is_place, members_at, members_of, owner_at, proc_put, procs_with, seen, turned_off}
use Rattle.pm_procs.specs.declared.procs.Proc.{Proc}
use Rattle.pm_resets.specs.Resets.{all_released, with_line}
use Rattle.pm_rows.specs.Modes.{loaded_modes}
use Rattle.pm_rows.specs.Rows.{change_at, cleared_entry, dropped_at, loaded_entry, mode_of, settled_at}
use Rattle.pm_rows.specs.Shift.{shift_at}
use Rattle.pm_state.specs.Boot.{boot_master, boot_proc}
use Rattle.pm_state.specs.declared.pairs.Permitted.{Permitted}
use Rattle.pm_state.specs.Pairs.{permitted_in, seed_anew, seed_at_load}
use Rattle.pm_state.specs.Prims.{enforced}
use Rattle.pm_state.specs.State.{object_at}
use Rattle.pm_state.specs.Members.{owns}
use Rattle.pm_laws.proofs.AgreeLaw.{clash}
use Rattle.pm_laws.proofs.AnewFacts.{anew_within, load_within, object_fits, rows_alone_new, rows_anew_alike, rows_load_alike}
use Rattle.pm_laws.proofs.Places.{BothFrom-any, BothFrom-equal, BothFrom-get, BothFrom-length, BothFrom-map, BothFrom-map_left, BothFrom-set, BothFrom-set_left}
use Rattle.pm_laws.proofs.RowFacts.{rows_alone, rows_changed_alike, rows_changed_unseen, rows_cleared_alike, rows_dropped_alike, rows_dropped_unseen, rows_settled_alike, rows_settled_unseen, rows_shifted_alike, rows_shifted_unseen}

-- ---- new rows, processors and reset lines

abbrev remade : List Entry → List Proc → List Bool → Now → Now
remade rows procs lines now = record now { core = record now.core { rows = record now.core.rows { entries = rows }; procs = procs; lines = lines } }

-- if these are alike, the two books stay so
made_alike : (fixed : Fixed) (border : Border) (a b : Now) → Same fixed border a b → (xs ys : List Entry) → SameRows border border.some xs ys
    → (ps qs : List Proc) → BothFrom (SameProc fixed border) 0 ps qs → (ls ms : List Bool) → BothFrom (SameLine border) 0 ls ms
    → Same fixed border (remade xs ps ls a) (remade ys qs ms b)
made_alike fixed border a b same xs ys rows ps qs procs ls ms lines = record {
  some = same.some;
  pairs = same.pairs;
  first = same.first;
  second = same.second;
  force = same.force;
  halted = same.halted;
  rows = rows;
  known = same.known;
  procs = procs;
  lines = lines;
  talk = same.talk;
}

module _ (fixed : Fixed) (border : Border) (a b : Now) (same : Same fixed border a b) where
  -- new rows alone, new processors alone and new reset lines alone
  rows_made : (xs ys : List Entry) → SameRows border border.some xs ys
      → Same fixed border (remade xs a.core.procs a.core.lines a) (remade ys b.core.procs b.core.lines b)
  rows_made xs ys rows = made_alike fixed border a b same xs ys rows a.core.procs b.core.procs same.procs a.core.lines b.core.lines same.lines

  procs_made : (ps qs : List Proc) → BothFrom (SameProc fixed border) 0 ps qs
      → Same fixed border (remade a.core.rows.entries ps a.core.lines a) (remade b.core.rows.entries qs b.core.lines b)
  procs_made ps qs procs = made_alike fixed border a b same a.core.rows.entries b.core.rows.entries same.rows ps qs procs a.core.lines b.core.lines same.lines

  lines_made : (ls ms : List Bool) → BothFrom (SameLine border) 0 ls ms
      → Same fixed border (remade a.core.rows.entries a.core.procs ls a) (remade b.core.rows.entries b.core.procs ms b)
  lines_made ls ms lines = made_alike fixed border a b same a.core.rows.entries b.core.rows.entries same.rows a.core.procs b.core.procs same.procs ls ms lines

-- ---- a processor is put

pub placed_by : (m k : ℕ) (owner : Option ℕ) → is_place m owner ≡ true → owner ≡ Some k → k ≡ m
placed_by m k None is found = cc
placed_by m k (Some j) is found = let same : j ≡ k = cc in sym same ∙ eqb-true j m is

placed_one : {X : Type 0} (m : ℕ) (owner : Option ℕ) → is_place m owner ≡ true → owner ≡ None → X
placed_one m None is none = clash false is refl
placed_one m (Some j) is none = absurd (grind arith)

put_alike : (fixed : Fixed) (border : Border) (m p : ℕ) (proc : Proc) → owns fixed.object fixed.topology m p ≡ true → SameProc fixed border p proc proc
put_alike fixed border m p proc is = record {
  beyond = λ k owner beyond. refl;
  nobodys = λ none. placed_one m (owner_at fixed.object fixed.topology p) is none;
}

put_unseen : (fixed : Fixed) (border : Border) (m p : ℕ) (proc y : Proc) → owns fixed.object fixed.topology m p ≡ true → border.master m ≡ false → SameProc fixed border p proc y
put_unseen fixed border m p proc y is within = record {
  beyond = λ k owner beyond. clash (border.master k) beyond (ap border.master (placed_by m k (owner_at fixed.object fixed.topology p) is owner) ∙ within);
  nobodys = λ none. placed_one m (owner_at fixed.object fixed.topology p) is none;
}

abbrev put_if : Bool → ℕ → Mode → ℕ → Now → Now
put_if own p mode address now =
    record now { core = if own then record now.core { procs = proc_put p mode address now.core.procs } else now.core }

puts_alike : (fixed : Fixed) (border : Border) (m p : ℕ) (mode : Mode) (address : ℕ) (a b : Now) (own : Bool) → owns fixed.object fixed.topology m p ≡ own → Same fixed border a b → Same fixed border (put_if own p mode address a) (put_if own p mode address b)
puts_alike fixed border m p mode address a b false is same = same
puts_alike fixed border m p mode address a b true is same =
    let proc : Proc = gone mode (record { mode = mode; address = address }) in
    procs_made fixed border a b same (proc_put p mode address a.core.procs) (proc_put p mode address b.core.procs)
    (BothFrom-set (SameProc fixed border) 0 p p proc proc (omega arith) (put_alike fixed border m p proc is) a.core.procs b.core.procs same.procs)

puts_unseen : (fixed : Fixed) (border : Border) (m p : ℕ) (mode : Mode) (address : ℕ) (a b : Now) (own : Bool) → owns fixed.object fixed.topology m p ≡ own → border.master m ≡ false → Same fixed border a b → Same fixed border (put_if own p mode address a) b
puts_unseen fixed border m p mode address a b false is within same = same
puts_unseen fixed border m p mode address a b true is within same =
    let proc : Proc = gone mode (record { mode = mode; address = address }) in
    procs_made fixed border a b same (proc_put p mode address a.core.procs) b.core.procs
    (BothFrom-set_left (SameProc fixed border) 0 p p proc (omega arith) (λ y. put_unseen fixed border m p proc y is within) a.core.procs b.core.procs same.procs)

-- ---- the processors are as at load

-- the first processor of the first master is its own
first_owned : BelowLaws → (fixed : Fixed) (p : ℕ) → boot_proc fixed.object fixed.topology ≡ Some p → owns fixed.object fixed.topology 0 p ≡ true
first_owned laws fixed p is =
    let members = members_of fixed.object fixed.topology in
    laws.owned fixed.object fixed.topology 0 p (present_from (λ q. q == p) (members_at 0 members) 0 p is (equal p p refl))

all_off_alike : (fixed : Fixed) (border : Border) (p : ℕ) (x y : Proc) → SameProc fixed border p x y → SameProc fixed border p (turned_off x) (turned_off y)
all_off_alike fixed border p x y same = record { beyond = λ m owner beyond. refl; nobodys = λ none. (refl, refl) }

started_alike : BelowLaws → (fixed : Fixed) (border : Border) (boot : Option ℕ) (a b : List Proc) → boot_proc fixed.object fixed.topology ≡ boot → BothFrom (SameProc fixed border) 0 a b → BothFrom (SameProc fixed border) 0 (procs_with boot a) (procs_with boot b)
started_alike laws fixed border None a b is same = same
started_alike laws fixed border (Some p) a b is same =
    let proc : Proc = record { mode = Active; address = 0 } in
    BothFrom-set (SameProc fixed border) 0 p p proc proc (omega arith) (put_alike fixed border 0 p proc (first_owned laws fixed p is)) a b same

reloads_alike : BelowLaws → (fixed : Fixed) (border : Border) (a b : List Proc) → BothFrom (SameProc fixed border) 0 a b → BothFrom (SameProc fixed border) 0 (procs_with (boot_proc fixed.object fixed.topology) (all_turned_off a)) (procs_with (boot_proc fixed.object fixed.topology) (all_turned_off b))
reloads_alike laws fixed border a b same =
    started_alike laws fixed border (boot_proc fixed.object fixed.topology) (all_turned_off a) (all_turned_off b) refl
    (BothFrom-map (SameProc fixed border) turned_off turned_off (all_off_alike fixed border) 0 a b same)

-- in one book, if no master is beyond
alone_off : (fixed : Fixed) (border : Border) → HasSome border → border.some ≡ false → (p : ℕ) (x y : Proc) → SameProc fixed border p x y → SameProc fixed border p (turned_off x) y
alone_off fixed border some none p x y same = record {
  beyond = λ m owner beyond. clash border.some (some m beyond) none;
  nobodys = λ nobody. (refl, (same.nobodys nobody).1);
}

alone_put : (fixed : Fixed) (border : Border) → HasSome border → border.some ≡ false → (m p : ℕ) (proc y : Proc) → owns fixed.object fixed.topology m p ≡ true → SameProc fixed border p proc y
alone_put fixed border some none m p proc y own = record {
  beyond = λ k owner beyond. clash border.some (some k beyond) none;
  nobodys = λ nobody. placed_one m (owner_at fixed.object fixed.topology p) own nobody;
}

started_unseen : BelowLaws → (fixed : Fixed) (border : Border) → HasSome border → border.some ≡ false → (boot : Option ℕ) (a b : List Proc) → boot_proc fixed.object fixed.topology ≡ boot → BothFrom (SameProc fixed border) 0 a b → BothFrom (SameProc fixed border) 0 (procs_with boot a) b
started_unseen laws fixed border some none None a b is same = same
started_unseen laws fixed border some none (Some p) a b is same =
    let proc : Proc = record { mode = Active; address = 0 } in
    BothFrom-set_left (SameProc fixed border) 0 p p proc (omega arith) (λ y. alone_put fixed border some none 0 p proc y (first_owned laws fixed p is)) a b same

reloads_unseen : BelowLaws → (fixed : Fixed) (border : Border) → HasSome border → border.some ≡ false → (a b : List Proc) → BothFrom (SameProc fixed border) 0 a b → BothFrom (SameProc fixed border) 0 (procs_with (boot_proc fixed.object fixed.topology) (all_turned_off a)) b
reloads_unseen laws fixed border some none a b same =
    started_unseen laws fixed border some none (boot_proc fixed.object fixed.topology) (all_turned_off a) b refl
    (BothFrom-map_left (SameProc fixed border) turned_off (alone_off fixed border some none) 0 a b same)

-- ---- the reset lines are as at load

-- in both books, if some master is beyond
lines_loaded_alike : (border : Border) → border.some ≡ true → (a b : List Bool) → BothFrom (SameLine border) 0 a b → BothFrom (SameLine border) 0 (all_released (length a)) (all_released (length b))
lines_loaded_alike border some a b same =
    BothFrom-equal (SameLine border) (λ k x. record { beyond = λ is. refl; released = λ none is. clash border.some some none }) 0
    (all_released (length a)) (all_released (length b)) (ap all_released (BothFrom-length (SameLine border) 0 a b same))

-- in one book, if no master is beyond: each line beyond is released in the other
lines_loaded_unseen : (border : Border) → border.some ≡ false → (k : ℕ) (a b : List Bool) → BothFrom (SameLine border) k a b → BothFrom (SameLine border) k (all_released (length a)) b
lines_loaded_unseen border none k [] [] same = tt
lines_loaded_unseen border none k [] (y ∷ ys) same = absurd same
lines_loaded_unseen border none k (x ∷ xs) [] same = absurd same
lines_loaded_unseen border none k (x ∷ xs) (y ∷ ys) same = (
  record {
    beyond = λ is. sym (same.0.released none is).1;
    released = λ left is. (refl, (same.0.released left is).1);
  },
  lines_loaded_unseen border none (k + 1) xs ys same.1,
)

-- ---- each change

-- the rows know the same mode of a master beyond
pub known_alike : (fixed : Fixed) (border : Border) (m : ℕ) (a b : Now) → IsBeyond border m → Same fixed border a b → mode_of m a.core.rows ≡ mode_of m b.core.rows
known_alike fixed border m a b beyond same =
    BothFrom-get (SameKnown border) (λ x y. x ≡ y) 0 m m Off (omega arith) refl (λ x y is. is beyond) a.core.rows.known b.core.rows.known same.known

-- ---- another object in force

-- what changes once this object was put in force, if there is one
abbrev enforced_by : Fixed → Option Object → Now → Now
enforced_by fixed o now = record now { force = unwrap_or o now.force; core = enforced fixed o now.core }

-- in both: each master beyond has the same mode, so the same rows are used anew on slaves beyond
enforced_alike : (fixed : Fixed) (border : Border) (k : ℕ) (a b : Now) (o : Option Object) → object_at fixed k ≡ o → border.some ≡ true → Same fixed border a b → Same fixed border (enforced_by fixed o a) (enforced_by fixed o b)
enforced_alike fixed border k a b None is some same = record {
  some = same.some;
  pairs = same.pairs;
  first = same.first;
  second = same.second;
  force = same.force;
  halted = same.halted;
  rows = same.rows;
  known = same.known;
  procs = same.procs;
  lines = same.lines;
  talk = same.talk;
}
enforced_alike fixed border k a b (Some object) is some same =
    let all : List Permitted = permitted_in object fixed.topology in
    let fits = object_fits fixed border same.pairs k object is in
    record {
      some = same.some;
      pairs = same.pairs;
      first = record { place = k; there = is };
      second = record { place = k; there = is };
      force = λ some. refl;
      halted = same.halted;
      rows = rows_anew_alike border some a.core.rows.known b.core.rows.known (λ m beyond. known_alike fixed border m a b beyond same) all fits;
      known = same.known;
      procs = same.procs;
      lines = same.lines;
      talk = same.talk;
    }

-- in one book, if no master is beyond
enforced_unseen : (fixed : Fixed) (border : Border) (k : ℕ) (a b : Now) (o : Option Object) → object_at fixed k ≡ o → border.some ≡ false → Same fixed border a b → Same fixed border (enforced_by fixed o a) b
enforced_unseen fixed border k a b None is none same = record {
  some = same.some;
  pairs = same.pairs;
  first = same.first;
  second = same.second;
  force = same.force;
  halted = same.halted;
  rows = same.rows;
  known = same.known;
  procs = same.procs;
  lines = same.lines;
  talk = same.talk;
}
enforced_unseen fixed border k a b (Some object) is none same =
    let all : List Permitted = permitted_in object fixed.topology in
    record {
      some = same.some;
      pairs = same.pairs;
      first = record { place = k; there = is };
      second = same.second;
      force = λ some. clash border.some some none;
      halted = same.halted;
      rows = rows_alone_new border none a.core.rows.entries b.core.rows.entries (map loaded_entry (map (seed_anew a.core.rows.known all) all))
          (anew_within border same.some none a.core.rows.known all all (object_fits fixed border same.pairs k object is)) same.rows;
      known = same.known;
      procs = same.procs;
      lines = same.lines;
      talk = same.talk;
    }

-- a visible change, made in both books, if some master is beyond
pub prim_alike : BelowLaws → (fixed : Fixed) (border : Border) (prim : Prim) (a b : Now) → border.some ≡ true → seen border prim ≡ true → Same fixed border a b → Same fixed border (apply fixed prim a) (apply fixed prim b)
prim_alike laws fixed border (At_row m s by) a b some is same =
    rows_made fixed border a b same (map (change_at m s by) a.core.rows.entries) (map (change_at m s by) b.core.rows.entries)
    (rows_changed_alike border m s by a.core.rows.entries b.core.rows.entries same.rows)
prim_alike laws fixed border (Settle m) a b some is same =
    rows_made fixed border a b same (map (settled_at m) a.core.rows.entries) (map (settled_at m) b.core.rows.entries)
    (rows_settled_alike border m a.core.rows.entries b.core.rows.entries same.rows)
prim_alike laws fixed border (Put_proc m p mode address) a b some is same =
    puts_alike fixed border m p mode address a b (owns fixed.object fixed.topology m p) refl same
prim_alike laws fixed border (Put_line l asserted) a b some is same =
    lines_made fixed border a b same (with_line l asserted a.core.lines) (with_line l asserted b.core.lines)
    (BothFrom-set (SameLine border) 0 l l asserted asserted (omega arith)
    (record { beyond = λ beyond. refl; released = λ none beyond. clash border.some some none }) a.core.lines b.core.lines same.lines)
prim_alike laws fixed border (Shift m to) a b some is same =
    let P : Mode → Type 0 = λ from. SameRows border border.some (map (shift_at a.core.rows.entries m (mode_of m a.core.rows) to) a.core.rows.entries) (map (shift_at b.core.rows.entries m from to) b.core.rows.entries) in
    record {
      some = same.some;
      pairs = same.pairs;
      first = same.first;
      second = same.second;
      force = same.force;
      halted = same.halted;
      rows = subst P (known_alike fixed border m a b is same) (rows_shifted_alike laws border m (mode_of m a.core.rows) to a.core.rows.entries b.core.rows.entries same.rows);
      known = BothFrom-set (SameKnown border) 0 m m to to (omega arith) (λ beyond. refl) a.core.rows.known b.core.rows.known same.known;
      procs = same.procs;
      lines = same.lines;
      talk = same.talk;
    }
prim_alike laws fixed border (Clear s) a b some is same =
    rows_made fixed border a b same (map (dropped_at s) a.core.rows.entries) (map (dropped_at s) b.core.rows.entries)
    (rows_dropped_alike border s a.core.rows.entries b.core.rows.entries same.rows)
prim_alike laws fixed border Halt a b some is same = record {
  some = same.some;
  pairs = same.pairs;
  first = same.first;
  second = same.second;
  force = same.force;
  halted = λ some. refl;
  rows = rows_cleared_alike border a.core.rows.entries b.core.rows.entries same.rows;
  known = same.known;
  procs = same.procs;
  lines = same.lines;
  talk = same.talk;
}
prim_alike laws fixed border Reload a b some is same =
    let boot : ℕ = boot_master fixed.object fixed.topology in
    let all : List Permitted = permitted_in a.force fixed.topology in
    let fits = object_fits fixed border same.pairs same.first.place a.force same.first.there in
    let P : Object → Type 0 = λ object. SameRows border border.some (map loaded_entry (map (seed_at_load boot) all)) (map loaded_entry (map (seed_at_load boot) (permitted_in object fixed.topology))) in
    record {
      some = same.some;
      pairs = same.pairs;
      first = same.first;
      second = same.second;
      force = same.force;
      halted = λ some. refl;
      rows = subst P (same.force some) (rows_load_alike border some boot all fits);
      known = BothFrom-equal (SameKnown border) (λ k x beyond. refl) 0
          (loaded_modes (length a.core.rows.known) boot) (loaded_modes (length b.core.rows.known) boot)
          (ap (λ n. loaded_modes n boot) (BothFrom-length (SameKnown border) 0 a.core.rows.known b.core.rows.known same.known));
      procs = reloads_alike laws fixed border a.core.procs b.core.procs same.procs;
      lines = lines_loaded_alike border some a.core.lines b.core.lines same.lines;
      talk = same.talk;
    }
prim_alike laws fixed border (Enforce k) a b some is same = enforced_alike fixed border k a b (object_at fixed k) refl some same

-- an invisible change, made in one book
pub prim_unseen : BelowLaws → (fixed : Fixed) (border : Border) (prim : Prim) (a b : Now) → seen border prim ≡ false → Same fixed border a b → Same fixed border (apply fixed prim a) b
prim_unseen laws fixed border (At_row m s by) a b is same =
    rows_made fixed border a b same (map (change_at m s by) a.core.rows.entries) b.core.rows.entries
    (rows_changed_unseen border m s by a.core.rows.entries b.core.rows.entries is same.rows)
prim_unseen laws fixed border (Settle m) a b is same =
    rows_made fixed border a b same (map (settled_at m) a.core.rows.entries) b.core.rows.entries
    (rows_settled_unseen border m a.core.rows.entries b.core.rows.entries is same.rows)
prim_unseen laws fixed border (Put_proc m p mode address) a b is same =
    puts_unseen fixed border m p mode address a b (owns fixed.object fixed.topology m p) refl is same
prim_unseen laws fixed border (Put_line l asserted) a b is same =
    lines_made fixed border a b same (with_line l asserted a.core.lines) b.core.lines
    (BothFrom-set_left (SameLine border) 0 l l asserted (omega arith)
    (λ y. record { beyond = λ beyond. clash (border.line l) beyond is; released = λ none beyond. clash (border.line l) beyond is }) a.core.lines b.core.lines same.lines)
prim_unseen laws fixed border (Shift m to) a b is same = record {
  some = same.some;
  pairs = same.pairs;
  first = same.first;
  second = same.second;
  force = same.force;
  halted = same.halted;
  rows = rows_shifted_unseen border m (mode_of m a.core.rows) to a.core.rows.entries b.core.rows.entries is same.rows;
  known = BothFrom-set_left (SameKnown border) 0 m m to (omega arith) (λ y beyond. clash (border.master m) beyond is) a.core.rows.known b.core.rows.known same.known;
  procs = same.procs;
  lines = same.lines;
  talk = same.talk;
}
prim_unseen laws fixed border (Clear s) a b is same =
    rows_made fixed border a b same (map (dropped_at s) a.core.rows.entries) b.core.rows.entries
    (rows_dropped_unseen border s a.core.rows.entries b.core.rows.entries is same.rows)
prim_unseen laws fixed border Halt a b is same = record {
  some = same.some;
  pairs = same.pairs;
  first = same.first;
  second = same.second;
  force = same.force;
  halted = λ some. clash border.some some is;
  rows = rows_alone border cleared_entry a.core.rows.entries b.core.rows.entries (λ x. refl) is same.rows;
  known = same.known;
  procs = same.procs;
  lines = same.lines;
  talk = same.talk;
}
prim_unseen laws fixed border Reload a b is same =
    let boot : ℕ = boot_master fixed.object fixed.topology in
    let all : List Permitted = permitted_in a.force fixed.topology in
    let fits = object_fits fixed border same.pairs same.first.place a.force same.first.there in
    record {
      some = same.some;
      pairs = same.pairs;
      first = same.first;
      second = same.second;
      force = same.force;
      halted = λ some. clash border.some some is;
      rows = rows_alone_new border is a.core.rows.entries b.core.rows.entries (map loaded_entry (map (seed_at_load boot) all))
          (load_within border same.some is boot all fits) same.rows;
      known = BothFrom-any (SameKnown border) (λ k x y beyond. clash border.some (same.some k beyond) is) 0
          (loaded_modes (length a.core.rows.known) boot) b.core.rows.known
          (length-set (replicate (length a.core.rows.known) Off) boot Active ∙ (length-replicate (length a.core.rows.known) Off
          ∙ BothFrom-length (SameKnown border) 0 a.core.rows.known b.core.rows.known same.known));
      procs = reloads_unseen laws fixed border same.some is a.core.procs b.core.procs same.procs;
      lines = lines_loaded_unseen border is 0 a.core.lines b.core.lines same.lines;
      talk = same.talk;
    }
prim_unseen laws fixed border (Enforce k) a b is same = enforced_unseen fixed border k a b (object_at fixed k) refl is same
