-- The log of the program's device.
use Rattle.std.specs.Prelude.{◌≡◌, ◌⊎◌, ℕ, Bool, List, [], ◌∷◌, ◌++◌, Option, Some, None, IfNone, IsSome}
use Rattle.pm_base.specs.declared.events.Event.{Event}
use Rattle.pm_object.specs.declared.object.Object.{Object}
use Rattle.pm_chip.specs.Chip.{chip}
use Rattle.pm_topology.specs.declared.topology.Topology.{Topology}
use Rattle.pm_device.specs.Act.{Act, Fit}
use Rattle.pm_apply.specs.Order.{IsOrdered}
use Rattle.pm_drive.specs.Scripts.{script_driven}
use Rattle.pm_drive.specs.Drive.{acts}

-- the acts are in an order in which nothing is used without power and no domain goes down under its users, by the
-- chip; or, only if the word at this place names the topology, by one to which the device was fitted before them
abbrev pub IsSafeLog : Option ℕ → List Act → Type 0
IsSafeLog place log =
    IsOrdered chip (λ unit. 0) log
    ⊎ (IsSome place
    × ((topology : Topology) × (acts : List Act) × (log ≡ Fit topology ∷ acts) × IsOrdered topology (λ unit. 0) acts))

-- the fit of the device, if a word names the topology
abbrev pub fits : Option ℕ → Topology → List Act
fits None topology = []
fits (Some k) topology = Fit topology ∷ []

-- the acts are exactly those of the whole run of a script over an object, under some answers of the device, in order;
-- before them, if a word names the topology, is the fit to it, and else it is the chip's
pub record IsLogOfRun (named : Option ℕ) (log : List Act) : Type 0 where
  pub object : Object
  pub topology : Topology
  pub events : List Event
  pub answers : List (List Bool)
  pub built_in : IfNone named (topology ≡ chip)
  pub is : log ≡ fits named topology ++ acts (script_driven object topology answers events)
