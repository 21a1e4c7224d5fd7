-- The book at load: a row for each permitted pair, with what the object preallocates for it. The first processor of the
-- first master is active, and all others are off. All reset lines are released.
use Rattle.std.specs.Prelude.{◌≡◌, false, length, List}
use Rattle.pm_object.specs.declared.attached.Attached.{Attached}
use Rattle.pm_object.specs.declared.object.Object.{Object}
use Rattle.pm_topology.specs.declared.topology.Topology.{Topology}
use Rattle.pm_notify.specs.Notify.{loaded}
use Rattle.pm_procs.specs.Pending.{none_pending}
use Rattle.pm_procs.specs.Procs.{all_off}
use Rattle.pm_resets.specs.Resets.{all_released}
use Rattle.pm_rows.specs.Rows.{loaded_rows}
use Rattle.pm_state.specs.declared.load.Held.{Held}
use Rattle.pm_state.specs.declared.load.Ruled.{Ruled}
use Rattle.pm_state.specs.Boot.{boot_master, boot_proc}
use Rattle.pm_state.specs.Members.{members_of}
use Rattle.pm_state.specs.Pairs.{seeds_at_load}
use Rattle.pm_state.specs.Policies.{most_pairs, policies_of}
use Rattle.pm_state.specs.Prims.{procs_with}
use Rattle.pm_state.specs.State.{Fixed, State, objects_in, objects_of}

-- the book at load with an object in force, which is one of the run's. Who is active then is read of the loaded object
abbrev pub load_in : Fixed → Object → State
load_in fixed object = record {
  fixed = fixed;
  now = record {
    force = object;
    core = record {
      rows = loaded_rows (length fixed.object.masters) (length fixed.topology.slaves) (boot_master fixed.object fixed.topology)
          (most_pairs fixed.topology (objects_of fixed))
          (seeds_at_load (boot_master fixed.object fixed.topology) object fixed.topology);
      procs = procs_with (boot_proc fixed.object fixed.topology) (all_off (length fixed.topology.procs));
      lines = all_released (length fixed.topology.lines);
      halted = false;
    };
    talk = record {
      pending = none_pending (length fixed.object.masters);
      notes = loaded fixed.topology (length fixed.object.masters);
    };
  };
}

-- the book at load
abbrev pub load_of : Object → List Attached → Topology → State
load_of object attached topology = load_in (record { object = object; topology = topology; attached = attached }) object

-- what is kept at load of the processors, of the masters' notes and of the reset lines
pub record IsHeld (object : Object) (t : Topology) (held : Held) : Type 0 where
  pub members : held.procs.members ≡ members_of object t
  pub procs : held.procs.procs ≡ procs_with (boot_proc object t) (all_off (length t.procs))
  pub pending : held.procs.pending ≡ none_pending (length object.masters)
  pub notes : held.notify ≡ loaded t (length object.masters)
  pub lines : held.resets ≡ all_released (length t.lines)

-- and of the objects of the run, of which the first is in force
pub record IsRuled (object : Object) (attached : List Attached) (t : Topology) (ruled : Ruled) : Type 0 where
  pub objects : ruled.objects ≡ objects_in object attached
  pub policies : ruled.policies ≡ policies_of t (objects_in object attached)
  pub room : ruled.seeds.room ≡ most_pairs t (objects_in object attached)
  pub rows : ruled.rows ≡ (load_of object attached t).now.core.rows
