-- What is kept of the objects of a run beside the book.
use Rattle.std.specs.Prelude.{◌≡◌, ℕ, ◌<◌, List, length}
use Rattle.pm_object.specs.declared.attached.Attached.{Attached}
use Rattle.pm_object.specs.declared.object.Object.{Object}
use Rattle.pm_topology.specs.declared.topology.Topology.{Topology}
use Rattle.pm_state.specs.declared.policies.Policy.{Policy}
use Rattle.pm_state.specs.Policies.{most_of, policies_of}
use Rattle.pm_state.specs.State.{objects_in}

-- the objects of the run with what each permits, one of which is in force; and room for the seeds and the rows of each of them,
-- on each slave of the chip
pub record KeepsObjects (object : Object) (attached : List Attached) (t : Topology) (objects : List Object) (policies : List Policy)
    (force seeds slaves rows : ℕ) : Type 0 where
  pub all : objects ≡ objects_in object attached
  pub permits : policies ≡ policies_of t objects
  pub chosen : force < length objects
  pub for_seeds : seeds ≡ most_of policies
  pub each_slave : slaves ≡ length t.slaves
  pub for_rows : rows ≡ most_of policies
