-- What the calls of a controller do.
use Rattle.std.specs.Prelude.{◌≡◌, Bool, List, [], ◌∷◌, ◌++◌, Some}
use Rattle.pm_base.specs.declared.events.Event.{Event}
use Rattle.pm_base.specs.declared.names.Command.{Command}
use Rattle.pm_object.specs.declared.object.Object.{Object}
use Rattle.pm_topology.specs.declared.topology.Topology.{Topology}
use Rattle.pm_state.specs.Load.{load_of}
use Rattle.pm_core.specs.declared.outbox.Done.{Done}
use Rattle.pm_core.specs.Outbox.{Outputs}
use Rattle.pm_core.specs.Step.{effect, outputs, outputs_at_load}
use Rattle.pm_apply.specs.Part.{part_of}
use Rattle.pm_apply.specs.Plan.{done_as, next_answer}
use Rattle.pm_record.specs.Record.{Kept, at_zero}
use Rattle.pm_trace.specs.Step.{notices_in, notices_of}
use Rattle.pm_controller.specs.Controls.{Controls, coming}

-- a step begins that puts this out, from this record: no command of it was answered, and under whatever answers come it comes to its
-- part
pub record StepBegins (kept : Kept) (out : Outputs) (c : Controls) : Type 0 where
  pub fresh : c.outbox.done.items ≡ []
  pub notices : notices_in c.outbox ≡ notices_of out
  pub comes : (answers : List Bool) → coming c answers ≡ part_of kept answers c.book out

-- the book of an object at load, over a device of which each unit stands at 0: step 0 begins
pub record IsLoaded (object : Object) (topology : Topology) (c : Controls) : Type 0 where
  pub book : c.book ≡ load_of object [] topology
  pub step : StepBegins (at_zero topology) (outputs_at_load c.book) c

-- the step of an event begins
pub record TakesEvent (event : Event) (old new : Controls) : Type 0 where
  pub book : new.book ≡ effect event old.book
  pub step : StepBegins old.kept (outputs event old.book) new

-- the command that waited was answered so: it stands behind those before it with the value before it and its answer, and the step
-- comes to what it came to under this answer and those that follow
pub record TakesAnswer (ok : Bool) (old new : Controls) : Type 0 where
  pub command : Command
  pub waited : old.waits ≡ Some command
  pub book : new.book ≡ old.book
  pub done : new.outbox.done.items ≡ old.outbox.done.items ++ done_as command old.kept ok ∷ []
  pub notices : notices_in new.outbox ≡ notices_in old.outbox
  pub comes : (answers : List Bool) → coming new answers ≡ coming old (ok ∷ answers)

-- this command is the next one of the step, whatever its answer is, behind those that were answered
pub record IsNext (command : Command) (c : Controls) (answers : List Bool) : Type 0 where
  pub later : List Done
  pub commands : (coming c answers).commands ≡ c.outbox.done.items ++ done_as command c.kept (next_answer answers) ∷ later
