-- What a step visits: the turns of the units that moved, of those that lag and of the line that is pulsed. All of them are
-- marked first. Each other unit has the book's value in the record, and has no command.
use Rattle.std.specs.Prelude.{◌≡◌, ℕ, Bool, true, false, Option, Some, slice_get}
use Rattle.std.specs.Option.{option_map_or}
use Rattle.pm_base.specs.declared.names.LineId.{LineId}
use Rattle.pm_base.specs.declared.names.Unit.{Unit}
use Rattle.pm_base.specs.declared.names.Unit.TheVariants.{Node}
use Rattle.pm_topology.specs.declared.topology.PowerDef.{PowerDef}
use Rattle.pm_topology.specs.declared.topology.Topology.{Topology}
use Rattle.pm_topology.specs.UnitMap.{units_in}
use Rattle.pm_topology.specs.Units.{has_in}
use Rattle.pm_apply.specs.declared.turns.Turn.{Turn}
use Rattle.pm_apply.specs.declared.turns.Turn.TheVariants.{PowerOn, Pulse, Apply, PowerOff}
use Rattle.pm_apply.specs.Plan.{unit_turns}
use Rattle.pm_record.specs.Record.{Kept, lags_in}
use Rattle.pm_record.specs.Marks.{StandsElsewhere, pulsed}

-- whether the power node at a place lags, and not so if there is none
abbrev pub power_lags : Topology → Kept → ℕ → Bool
power_lags t kept w = option_map_or (λ (p : PowerDef). lags_in kept (Node p.node)) (slice_get t.powers w) false

-- a unit of the record that doesn't lag
pub record IsIdle (kept : Kept) (unit : Unit) : Type 0 where
  pub known : has_in (units_in kept) unit ≡ true
  pub idle : lags_in kept unit ≡ false

-- the turn of a unit that doesn't lag
abbrev pub IsIdleTurn : Topology → Kept → Turn → Type 0
IsIdleTurn t kept (PowerOn w) = (p : PowerDef) → slice_get t.powers w ≡ Some p → IsIdle kept (Node p.node)
IsIdleTurn t kept (Pulse line) = ⊥
IsIdleTurn t kept (Apply unit) = IsIdle kept unit
IsIdleTurn t kept (PowerOff w) = (p : PowerDef) → slice_get t.powers w ≡ Some p → IsIdle kept (Node p.node)

-- the turn at a place is that of a unit that doesn't lag
pub record IsIdleAt (t : Topology) (kept : Kept) (k : ℕ) : Type 0 where
  pub turn : Turn
  pub here : slice_get (unit_turns t) k ≡ Some turn
  pub idle : IsIdleTurn t kept turn

-- the record before the turns of a step: a unit that isn't marked has the book's value, and the line that is pulsed is marked
pub record IsReady (values : Unit → ℕ) (pulse : Option LineId) (kept : Kept) : Type 0 where
  pub stands : StandsElsewhere values kept
  pub line : (unit : Unit) → has_in (pulsed pulse) unit ≡ true → has_in (units_in kept) unit ≡ true → lags_in kept unit ≡ true
