-- Which processors a step writes down depends on no more than which were written down before it.
use Rattle.std.proofs.Common.{◌≡◌, ℕ, zero, suc, ◌+◌, Bool, true, false, if◌then◌else◌, List, [], ◌∷◌, Option, Some, None, refl, sym, ap, ◌∙◌}
use Rattle.pm_object.specs.declared.object.Object.{Object}
use Rattle.pm_rows.specs.Rows.{Rows, mode_of}
use Rattle.pm_state.specs.Changes.{Written, all_listed, listed, with_master, with_masters, with_proc, with_rows_of, writes, written, written_along, written_by, written_stage}
use Rattle.pm_state.specs.Members.{owns}
use Rattle.pm_state.specs.Prims.{Prim, At_row, Settle, Put_proc, Put_line, Shift, Clear, Halt, Reload, Enforce, apply, changed}
use Rattle.pm_state.specs.Stages.{after_stage, follow}
use Rattle.pm_state.specs.State.{CoreHalf, Fixed, Now, State, object_at}

masters_stay : (count m : ℕ) (rows : Rows) (w : Written) → (with_masters count m rows w).procs ≡ w.procs
masters_stay zero m rows w = refl
masters_stay (suc count) m rows w = masters_stay count (m + 1) rows (with_master m (mode_of m rows) w)

put_alike : (own : Bool) (p : ℕ) (w w' : Written) → w.procs ≡ w'.procs → (if own then with_proc p w else w).procs ≡ (if own then with_proc p w' else w').procs
put_alike true p w w' same = ap (listed p) same
put_alike false p w w' same = same

enforce_alike : (fixed : Fixed) (object : Option Object) (core : CoreHalf) (w w' : Written) → w.procs ≡ w'.procs → (with_rows_of fixed object core w).procs ≡ (with_rows_of fixed object core w').procs
enforce_alike fixed None core w w' same = same
enforce_alike fixed (Some object) core w w' same = same

prim_alike : (fixed : Fixed) (force : Object) (prim : Prim) (core : CoreHalf) (w w' : Written) → w.procs ≡ w'.procs → (written fixed force prim core w).procs ≡ (written fixed force prim core w').procs
prim_alike fixed force (Put_proc m p mode address) core w w' same = put_alike (owns fixed.object fixed.topology m p) p w w' same
prim_alike fixed force Reload core w w' same =
    masters_stay w.masters.count 0 core.rows (record w { procs = all_listed w.procs; lines = all_listed w.lines })
    ∙ (ap all_listed same
    ∙ sym (masters_stay w'.masters.count 0 core.rows (record w' { procs = all_listed w'.procs; lines = all_listed w'.lines })))
prim_alike fixed force (Enforce k) core w w' same = enforce_alike fixed (object_at fixed k) core w w' same
prim_alike fixed force (At_row m s by) core w w' same = same
prim_alike fixed force (Settle m) core w w' same = same
prim_alike fixed force (Put_line l asserted) core w w' same = same
prim_alike fixed force (Shift m mode) core w w' same = same
prim_alike fixed force (Clear s) core w w' same = same
prim_alike fixed force Halt core w w' same = same

prims_alike : (fixed : Fixed) (prims : List Prim) (now : Now) (w w' : Written) → w.procs ≡ w'.procs → (writes fixed prims now w).procs ≡ (writes fixed prims now w').procs
prims_alike fixed [] now w w' same = same
prims_alike fixed (prim ∷ prims) now w w' same =
    prims_alike fixed prims (apply fixed prim now) (written fixed now.force prim now.core w) (written fixed now.force prim now.core w')
    (prim_alike fixed now.force prim now.core w w' same)

pub steps_alike : (stages : List (List Prim)) (book : State) (w w' : Written) → w.procs ≡ w'.procs → (written_along stages book w).procs ≡ (written_along stages book w').procs
steps_alike [] book w w' same = same
steps_alike (stage ∷ later) book w w' same =
    let mid : State = changed stage book in
    steps_alike later (after_stage stage book) (written_stage stage book w) (written_stage stage book w')
    (prims_alike book.fixed (follow mid) mid.now (written_by stage book w) (written_by stage book w') (prims_alike book.fixed stage book.now w w' same))
