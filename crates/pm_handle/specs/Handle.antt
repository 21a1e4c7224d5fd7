-- What is behind a handle.
use Rattle.std.specs.Prelude.{◌≡◌, ◌⊎◌, ℕ, List, [], ◌∷◌, Some, None, IsSome}
use Rattle.pm_base.specs.declared.names.Command.{Command}
use Rattle.pm_base.specs.declared.names.Unit.{Unit}
use Rattle.pm_base.specs.declared.names.Unit.TheVariants.{Node, Line}
use Rattle.pm_object.specs.declared.object.Object.{Object}
use Rattle.pm_object.specs.Grammar.{Reads}
use Rattle.pm_chip.specs.Chip.{chip}
use Rattle.pm_controller.specs.Controls.{Controls}
use Rattle.pm_controller.specs.Steps.{IsLoaded}
use Rattle.pm_handle.specs.declared.commands.UnitCommand.{UnitCommand}

-- these bytes are an object, and the controller is that of it at load, over the topology of the chip
abbrev pub IsOpened : List ℕ → Controls → Type 0
IsOpened bytes c = (object : Object) × Reads bytes object × IsLoaded object chip c

-- why no controller is opened: these bytes are no object, or memory is wanted
abbrev pub IsRefused : List ℕ → ℕ → Type 0
IsRefused bytes code = ((code ≡ 2) × ((o : Object) → Reads bytes o → ⊥)) ⊎ (code ≡ 6)

-- a command waits for its answer
abbrev pub IsWaiting : Controls → Type 0
IsWaiting c = IsSome c.waits

abbrev pub IsOver : Controls → Type 0
IsOver c = c.waits ≡ None

-- the unit of a command in two numbers, and its value
abbrev pub unit_command : Unit → ℕ → UnitCommand
unit_command (Node node) value = record { line = 0; number = node.0; value = value }
unit_command (Line line) value = record { line = 1; number = line.0; value = value }

-- this is the command that waits
abbrev pub IsTold : UnitCommand → Controls → Type 0
IsTold told c = (command : Command) × (c.waits ≡ Some command) × (told ≡ unit_command command.unit command.value)

-- a call answers one of these numbers
abbrev pub IsOneOf : List ℕ → ℕ → Type 0
IsOneOf [] answer = ⊥
IsOneOf (code ∷ codes) answer = (answer ≡ code) ⊎ IsOneOf codes answer
