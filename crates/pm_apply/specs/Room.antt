-- How many commands turns have at most.
use Rattle.std.specs.Prelude.{ℕ, ◌==◌, Bool, false, if◌then◌else◌, List, slice_get}
use Rattle.std.specs.List.{sum_by}
use Rattle.std.specs.Option.{option_map_or}
use Rattle.pm_base.specs.declared.names.Unit.{Unit}
use Rattle.pm_base.specs.declared.names.Unit.TheVariants.{Node}
use Rattle.pm_topology.specs.declared.topology.Topology.{Topology}
use Rattle.pm_topology.specs.declared.topology.PowerDef.{PowerDef}
use Rattle.pm_apply.specs.declared.turns.Turn.{Turn}
use Rattle.pm_apply.specs.declared.turns.Turn.TheVariants.{PowerOn, Pulse, Apply, PowerOff}

-- the power node at a place has this value
abbrev pub has_value : Topology → (Unit → ℕ) → ℕ → ℕ → Bool
has_value t values value w = option_map_or (λ (p : PowerDef). values (Node p.node) == value) (slice_get t.powers w) false

-- a turn has one command at most: a power node goes up only where it is up in the book, and down only where it is down
abbrev pub most : Topology → (Unit → ℕ) → Turn → ℕ
most t values (PowerOn w) = if has_value t values 1 w then 1 else 0
most t values (Pulse line) = 1
most t values (Apply unit) = 1
most t values (PowerOff w) = if has_value t values 0 w then 1 else 0

abbrev pub most_of : Topology → (Unit → ℕ) → List Turn → ℕ
most_of t values turns = sum_by (most t values) turns
