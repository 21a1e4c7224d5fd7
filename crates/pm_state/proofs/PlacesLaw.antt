-- There are as many places after a step as before it.
use Rattle.std.proofs.Common.{◌≡◌, ℕ, zero, suc, ◌+◌, Bool, true, false, if◌then◌else◌, List, [], ◌∷◌, ◌++◌, length, Option, Some, None, refl, ◌∙◌}
use Rattle.std.specs.Prelude.{slice_set}
use Rattle.std.proofs.lemmas.List.{length-set}
use Rattle.pm_base.specs.declared.names.Mode.{Mode}
use Rattle.pm_object.specs.declared.object.Object.{Object}
use Rattle.pm_rows.specs.declared.row.Entry.{Entry}
use Rattle.pm_rows.specs.Rows.{Rows, mode_of}
use Rattle.pm_rows.specs.Shift.{is_start}
use Rattle.pm_state.specs.Changes.{HasPlaces, Listed, Written, all_listed, is_listed, is_of, listed, listed_from, listed_if, listed_rows, unwritten, with_master, with_masters, with_proc, with_rows_of, writes, written, written_along, written_by, written_stage}
use Rattle.pm_state.specs.Members.{owns}
use Rattle.pm_state.specs.Prims.{Prim, At_row, Settle, Put_proc, Put_line, Shift, Clear, Halt, Reload, Enforce, apply, changed, enforced, reloaded}
use Rattle.pm_state.specs.Stages.{after_stage, follow}
use Rattle.pm_state.specs.State.{CoreHalf, Fixed, Now, State, object_at}

count_by_case : (k : ℕ) (places : Listed) (there : Bool) → (if there then places else record places { list = places.list ++ k ∷ [] }).count ≡ places.count
count_by_case k places true = refl
count_by_case k places false = refl

count_listed : (k : ℕ) (places : Listed) → (listed k places).count ≡ places.count
count_listed k places = count_by_case k places (is_listed k places)

count_if : (asked : Bool) (k : ℕ) (places : Listed) → (listed_if asked k places).count ≡ places.count
count_if true k places = count_listed k places
count_if false k places = refl

count_rows : (test : Entry → Bool) (entries : List Entry) (places : Listed) → (listed_rows test entries places).count ≡ places.count
count_rows test [] places = refl
count_rows test (e ∷ entries) places =
    count_rows test entries (listed_if (test e) e.seed.slave places) ∙ count_if (test e) e.seed.slave places

count_from : (count k : ℕ) (places : Listed) → (listed_from count k places).count ≡ places.count
count_from zero k places = refl
count_from (suc count) k places = count_from count (k + 1) (listed k places) ∙ count_listed k places

-- as many places of each kind
record AsMany (w after : Written) : Type 0 where
  slaves : after.slaves.count ≡ w.slaves.count
  procs : after.procs.count ≡ w.procs.count
  lines : after.lines.count ≡ w.lines.count
  masters : after.masters.count ≡ w.masters.count
  modes : length after.modes ≡ length w.modes

as_many : (w : Written) → AsMany w w
as_many w = record { slaves = refl; procs = refl; lines = refl; masters = refl; modes = refl }

many_on : (one two three : Written) → AsMany one two → AsMany two three → AsMany one three
many_on one two three first later = record {
  slaves = later.slaves ∙ first.slaves;
  procs = later.procs ∙ first.procs;
  lines = later.lines ∙ first.lines;
  masters = later.masters ∙ first.masters;
  modes = later.modes ∙ first.modes;
}

modes_by : (m : ℕ) (mode : Mode) (w : Written) (there : Bool) → length (if there then w.modes else slice_set w.modes m mode) ≡ length w.modes
modes_by m mode w true = refl
modes_by m mode w false = length-set w.modes m mode

master_many : (m : ℕ) (mode : Mode) (w : Written) → AsMany w (with_master m mode w)
master_many m mode w = record {
  slaves = refl;
  procs = refl;
  lines = refl;
  masters = count_listed m w.masters;
  modes = modes_by m mode w (is_listed m w.masters);
}

masters_many : (count m : ℕ) (rows : Rows) (w : Written) → AsMany w (with_masters count m rows w)
masters_many zero m rows w = as_many w
masters_many (suc count) m rows w =
    many_on w (with_master m (mode_of m rows) w) _ (master_many m (mode_of m rows) w) (masters_many count (m + 1) rows (with_master m (mode_of m rows) w))

proc_many : (p : ℕ) (w : Written) (own : Bool) → AsMany w (if own then with_proc p w else w)
proc_many p w true = record { slaves = refl; procs = count_listed p w.procs; lines = refl; masters = refl; modes = refl }
proc_many p w false = as_many w

rows_many : (test : Entry → Bool) (entries : List Entry) (w : Written) → AsMany w (record w { slaves = listed_rows test entries w.slaves })
rows_many test entries w = record { slaves = count_rows test entries w.slaves; procs = refl; lines = refl; masters = refl; modes = refl }

both_many : (before after : List Entry) (w : Written)
    → AsMany w (record w { slaves = listed_rows (is_of None false) after (listed_rows (is_of None false) before w.slaves) })
both_many before after w = record {
  slaves = count_rows (is_of None false) after (listed_rows (is_of None false) before w.slaves) ∙ count_rows (is_of None false) before w.slaves;
  procs = refl;
  lines = refl;
  masters = refl;
  modes = refl;
}

enforce_many : (fixed : Fixed) (object : Option Object) (core : CoreHalf) (w : Written) → AsMany w (with_rows_of fixed object core w)
enforce_many fixed None core w = as_many w
enforce_many fixed (Some object) core w = both_many core.rows.entries (enforced fixed (Some object) core).rows.entries w

prim_many : (fixed : Fixed) (force : Object) (prim : Prim) (core : CoreHalf) (w : Written) → AsMany w (written fixed force prim core w)
prim_many fixed force (At_row m s by) core w =
    record { slaves = count_listed s w.slaves; procs = refl; lines = refl; masters = refl; modes = refl }
prim_many fixed force (Settle m) core w = rows_many (is_of (Some m) false) core.rows.entries w
prim_many fixed force (Put_proc m p mode address) core w = proc_many p w (owns fixed.object fixed.topology m p)
prim_many fixed force (Put_line l asserted) core w =
    record { slaves = refl; procs = refl; lines = count_listed l w.lines; masters = refl; modes = refl }
prim_many fixed force (Shift m mode) core w =
    let test : Entry → Bool = is_of (Some m) (is_start (mode_of m core.rows) mode) in
    let rows : Written = record w { slaves = listed_rows test core.rows.entries w.slaves } in
    many_on w rows _ (rows_many test core.rows.entries w) (master_many m (mode_of m core.rows) rows)
prim_many fixed force (Clear s) core w =
    record { slaves = count_listed s w.slaves; procs = refl; lines = refl; masters = refl; modes = refl }
prim_many fixed force Halt core w = rows_many (is_of None false) core.rows.entries w
prim_many fixed force Reload core w =
    let units : Written = record w { procs = all_listed w.procs; lines = all_listed w.lines } in
    let more : AsMany w units =
    record { slaves = refl; procs = count_from w.procs.count 0 w.procs; lines = count_from w.lines.count 0 w.lines; masters = refl; modes = refl }
    in
    let all : Written = with_masters w.masters.count 0 core.rows units in
    many_on w all _ (many_on w units all more (masters_many w.masters.count 0 core.rows units))
    (both_many core.rows.entries (reloaded fixed force core).rows.entries all)
prim_many fixed force (Enforce k) core w = enforce_many fixed (object_at fixed k) core w

prims_many : (fixed : Fixed) (prims : List Prim) (now : Now) (w : Written) → AsMany w (writes fixed prims now w)
prims_many fixed [] now w = as_many w
prims_many fixed (prim ∷ prims) now w =
    let next : Written = written fixed now.force prim now.core w in
    many_on w next _ (prim_many fixed now.force prim now.core w) (prims_many fixed prims (apply fixed prim now) next)

steps_many : (stages : List (List Prim)) (book : State) (w : Written) → AsMany w (written_along stages book w)
steps_many [] book w = as_many w
steps_many (stage ∷ later) book w =
    let one : Written = written_by stage book w in
    let two : Written = written_stage stage book w in
    many_on w two _
    (many_on w one two (prims_many book.fixed stage book.now w) (prims_many book.fixed (follow (changed stage book)) (changed stage book).now one))
    (steps_many later (after_stage stage book) two)

-- a place for each is left
pub places_stay : (fixed : Fixed) (stages : List (List Prim)) (book : State) (w : Written) → HasPlaces fixed w → HasPlaces fixed (written_along stages book (unwritten w))
places_stay fixed stages book w places =
    let many = steps_many stages book (unwritten w) in
    record {
      slaves = many.slaves ∙ places.slaves;
      procs = many.procs ∙ places.procs;
      lines = many.lines ∙ places.lines;
      masters = many.masters ∙ places.masters;
      modes = many.modes ∙ places.modes;
    }
