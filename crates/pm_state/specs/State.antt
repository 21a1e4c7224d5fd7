-- The book: what is fixed from the load on, and what changes. It keeps no state of a slave and no state
-- of a power node. Who is who is read of the loaded object, and what one may of the object in force: the masters of the two
-- are the same.
use Rattle.std.specs.Prelude.{ℕ, Bool, List, [], ◌∷◌, ◌++◌, Option, slice_get, option_to_list}
use Rattle.pm_object.specs.Attached.{usable}
use Rattle.pm_object.specs.declared.attached.Attached.{Attached}
use Rattle.pm_object.specs.declared.object.Object.{Object}
use Rattle.pm_topology.specs.declared.topology.Topology.{Topology}
use Rattle.pm_grants.specs.declared.grants.Grants.{Grants}
use Rattle.pm_grants.specs.Grants.{grants_of}
use Rattle.pm_notify.specs.MasterNotes.{MasterNotes}
use Rattle.pm_procs.specs.declared.pending.Pending.{Pending}
use Rattle.pm_procs.specs.declared.procs.Proc.{Proc}
use Rattle.pm_rows.specs.Rows.{Rows}

-- the configuration object that was loaded, the parts of the chip, and what is attached
pub record Fixed : Type 0 where
  pub object : Object
  pub topology : Topology
  pub attached : List Attached

-- of what is attached, the objects that can be put in force in place of the loaded one
abbrev pub usable_among : Object → List Attached → List Object
usable_among object [] = []
usable_among object (attached ∷ later) = option_to_list (usable object attached) ++ usable_among object later

-- the objects of a run: the loaded one, and each attached one that can be put in force
abbrev pub objects_in : Object → List Attached → List Object
objects_in object attached = object ∷ usable_among object attached

abbrev pub objects_of : Fixed → List Object
objects_of fixed = objects_in fixed.object fixed.attached

-- the object at a place among them
abbrev pub object_at : Fixed → ℕ → Option Object
object_at fixed k = slice_get (objects_of fixed) k

-- what the values of the units follow from: the rows of the permitted pairs, each processor's mode and resume
-- address, and whether each reset line is asserted; and whether the book is halted, so that it takes no event
pub record CoreHalf : Type 0 where
  pub rows : Rows
  pub procs : List Proc
  pub lines : List Bool
  pub halted : Bool

-- what the masters are told, from which no value follows: for each master the request that it suspends, where one is
-- pending, and its notes: the events of which it asked to be told, and the notes that wait for it
pub record TalkHalf : Type 0 where
  pub pending : List (Option Pending)
  pub notes : List MasterNotes

-- the object in force, and the two halves
pub record Now : Type 0 where
  pub force : Object
  pub core : CoreHalf
  pub talk : TalkHalf

pub record State : Type 0 where
  pub fixed : Fixed
  pub now : Now

-- the configuration object in force
abbrev pub in_force : State → Object
in_force book = book.now.force

-- what it permits on the chip, by places
abbrev pub grants_in : State → Grants
grants_in book = grants_of (in_force book) book.fixed.topology
