-- Runs of core events: the last of their core steps, and how it is the end of a run.
use Rattle.std.specs.Prelude.{◌≡◌, List, [], ◌∷◌, Option, Some}
use Rattle.pm_base.specs.declared.events.Event.{Event}
use Rattle.pm_core.specs.declared.outbox.Outbox.{Outbox}
use Rattle.pm_core.specs.Outbox.{Holds, Outputs}
use Rattle.pm_state.specs.State.{State}
use Rattle.pm_core.specs.Step.{effect, outputs}
use Rattle.pm_run.specs.Run.{Core, Setup, core_0, cores_of, loaded}

-- the outputs of the last of these events; without events, these outputs
abbrev pub last_outputs : Option Outputs → List Event → State → Option Outputs
last_outputs before [] book = before
last_outputs before (event ∷ events) book = last_outputs (Some (outputs event book)) events (effect event book)

-- the last of these core steps; without any, this one
abbrev pub last_core : Core → List Core → Core
last_core before [] = before
last_core before (core ∷ cores) = last_core core cores

-- the last core step of the load and then these core events; without events, the load
abbrev pub end_of_run : Setup → List Event → Core
end_of_run c events = last_core (core_0 c) (cores_of events (loaded c).book)

-- a book and an outbox as a core step leaves them
pub record IsLeftBy (core : Core) (now : State) (outbox : Outbox) : Type 0 where
  pub book : now ≡ core.after
  pub out : Holds core.outputs outbox
