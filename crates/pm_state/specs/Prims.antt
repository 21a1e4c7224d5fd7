-- The changes of the book. Each names the places of what it changes, and that of a master's the master to which it
-- belongs.
use Rattle.std.specs.Prelude.{ℕ, Bool, true, false, List, [], ◌∷◌, length, slice_set, Option, Some, None, unwrap_or, if◌then◌else◌}
use Rattle.pm_base.specs.declared.names.Mode.{Mode}
use Rattle.pm_procs.specs.declared.procs.Proc.{Proc}
use Rattle.pm_base.specs.declared.names.Mode.TheVariants.{Active}
use Rattle.pm_procs.specs.Procs.{all_turned_off, gone}
use Rattle.pm_resets.specs.Resets.{all_released, with_line}
use Rattle.pm_rows.specs.declared.row.Change.{Change}
use Rattle.pm_rows.specs.Modes.{loaded_modes}
use Rattle.pm_rows.specs.Rows.{Rows, row_changed, settled, slave_dropped, all_cleared, remade}
use Rattle.pm_rows.specs.Shift.{shifted}
use Rattle.pm_object.specs.declared.object.Object.{Object}
use Rattle.pm_state.specs.Boot.{boot_master, boot_proc}
use Rattle.pm_state.specs.Members.{owns}
use Rattle.pm_state.specs.Pairs.{seeds_anew, seeds_at_load}
use Rattle.pm_state.specs.State.{Fixed, CoreHalf, Now, State, object_at}

pub data Prim : Type 0 where
  -- a change of the row of a master on a slave
  At_row : (m s : ℕ) (by : Change) → Prim
  -- a master drops its holds
  Settle : (m : ℕ) → Prim
  -- a processor of a master goes to a mode, with this resume address
  Put_proc : (m p : ℕ) (mode : Mode) (address : ℕ) → Prim
  -- a reset line is asserted or released
  Put_line : (l : ℕ) (asserted : Bool) → Prim
  -- the rows of a master follow it to a mode
  Shift : (m : ℕ) (mode : Mode) → Prim
  -- all rows on the slave at place s are cleared but for their presets
  Clear : (s : ℕ) → Prim
  -- the book is halted, and each of its rows is cleared but for its preset; reset lines stay
  Halt : Prim
  -- the rows, the processors and the reset lines are as at load with the object in force, and the book isn't halted
  Reload : Prim
  -- the object at place k among those of the run is in force, and all rows are made anew of it. Nothing changes where there
  -- is no such object
  Enforce : (k : ℕ) → Prim

-- the processors once the one at place p went to a mode, with this resume address, which one that goes off forgets
abbrev pub proc_put : ℕ → Mode → ℕ → List Proc → List Proc
proc_put p mode address procs = slice_set procs p (gone mode (record { mode = mode; address = address }))

-- these processors, where the one at this place, if there is one, is active with resume address 0
abbrev pub procs_with : Option ℕ → List Proc → List Proc
procs_with None procs = procs
procs_with (Some p) procs = proc_put p Active 0 procs

-- the rows as at load with this object: one for each of its pairs. They know then that the first master is active, if a
-- processor starts, and that all others are off
abbrev pub rows_at_load : Fixed → Object → Rows → Rows
rows_at_load fixed object rows =
    remade (seeds_at_load (boot_master fixed.object fixed.topology) object fixed.topology)
    (record rows { known = loaded_modes (length rows.known) (boot_master fixed.object fixed.topology) })

-- the core half as at load with this object in force: the rows; the first processor of the first master is active, and all
-- others are off; all reset lines are released
abbrev pub reloaded : Fixed → Object → CoreHalf → CoreHalf
reloaded fixed object core = record core {
  rows = rows_at_load fixed object core.rows;
  procs = procs_with (boot_proc fixed.object fixed.topology) (all_turned_off core.procs);
  lines = all_released (length core.lines);
  halted = false;
}

-- the core half once this object was put in force, if there is one: every row is made anew, in the modes that are known
abbrev pub enforced : Fixed → Option Object → CoreHalf → CoreHalf
enforced fixed None core = core
enforced fixed (Some object) core =
    record core { rows = remade (seeds_anew object fixed.topology core.rows.known) core.rows }

-- the object in force after a change
abbrev pub force_after : Fixed → Prim → Object → Object
force_after fixed (Enforce k) object = unwrap_or (object_at fixed k) object
force_after fixed _ object = object

-- what a change makes of the core half, with this object in force before it. A processor changes only where the master that is
-- named has it
abbrev pub apply_core : Fixed → Object → Prim → CoreHalf → CoreHalf
apply_core fixed force (At_row m s by) core = record core { rows = row_changed m s by core.rows }
apply_core fixed force (Settle m) core = record core { rows = settled m core.rows }
apply_core fixed force (Put_proc m p mode address) core =
    if owns fixed.object fixed.topology m p then record core { procs = proc_put p mode address core.procs } else core
apply_core fixed force (Put_line l asserted) core = record core { lines = with_line l asserted core.lines }
apply_core fixed force (Shift m mode) core = record core { rows = shifted m mode core.rows }
apply_core fixed force (Clear s) core = record core { rows = slave_dropped s core.rows }
apply_core fixed force Halt core = record core { rows = all_cleared core.rows; halted = true }
apply_core fixed force Reload core = reloaded fixed force core
apply_core fixed force (Enforce k) core = enforced fixed (object_at fixed k) core

-- what it makes of all that changes: the talk half stays
abbrev pub apply : Fixed → Prim → Now → Now
apply fixed prim now =
    record now { force = force_after fixed prim now.force; core = apply_core fixed now.force prim now.core }

-- one change after another
abbrev pub applies : Fixed → List Prim → Now → Now
applies fixed [] now = now
applies fixed (prim ∷ prims) now = applies fixed prims (apply fixed prim now)

-- the book once the processor at place p went to a mode, whichever master has it
abbrev pub with_proc : ℕ → Mode → ℕ → State → State
with_proc p mode address book =
    record book { now = record book.now { core = record book.now.core { procs = proc_put p mode address book.now.core.procs } } }

-- the book after these changes: what is fixed stays
abbrev pub changed : List Prim → State → State
changed prims book = record book { now = applies book.fixed prims book.now }
