-- The turns of a step that are left while its commands are given out one by one.
use Rattle.std.specs.Prelude.{◌≡◌, ℕ, Bool, if◌then◌else◌, Option, Some, None, List, [], ◌∷◌, ◌++◌, drop, flat_map, ⊤}
use Rattle.pm_base.specs.declared.names.Command.{Command}
use Rattle.pm_base.specs.declared.names.LineId.{LineId}
use Rattle.pm_base.specs.declared.names.Unit.{Unit}
use Rattle.pm_topology.specs.declared.topology.Topology.{Topology}
use Rattle.pm_topology.specs.UnitMap.{units_in}
use Rattle.pm_topology.specs.Units.{units_of}
use Rattle.pm_core.specs.declared.outbox.Done.{Done}
use Rattle.pm_apply.specs.declared.carrying.Carrying.{Carrying}
use Rattle.pm_apply.specs.declared.turns.Turn.{Turn}
use Rattle.pm_record.specs.Record.{after_answer, Kept}
use Rattle.pm_apply.specs.Plan.{done_as, due, unit_turns, with_pulse}
use Rattle.pm_apply.specs.Visits.{IsReady}

-- the turns that are left of those of these units, where the pulse before the first is behind, if it is
abbrev pub left_from : Option LineId → Bool → List Turn → List Turn
left_from pulse pulsed [] = []
left_from pulse pulsed (turn ∷ turns) = (if pulsed then turn ∷ [] else with_pulse pulse turn) ++ flat_map (with_pulse pulse) turns

abbrev pub turns_left : Topology → Option LineId → Carrying → List Turn
turns_left t pulse c = left_from pulse c.pulsed (drop c.place (unit_turns t))

-- none of these turns has a command
abbrev pub HaveNone : Topology → (Unit → ℕ) → Kept → List Turn → Type 0
HaveNone t values kept [] = ⊤
HaveNone t values kept (turn ∷ turns) = (due t values kept turn ≡ None) × HaveNone t values kept turns

-- a list begins with this turn
pub record Begins (turn : Turn) (turns : List Turn) : Type 0 where
  pub later : List Turn
  pub is : turns ≡ turn ∷ later

-- the first turn that is left has this command
pub record Waits (t : Topology) (values : Unit → ℕ) (pulse : Option LineId) (kept : Kept) (c : Carrying) (command : Command) : Type 0 where
  pub turn : Turn
  pub first : Begins turn (turns_left t pulse c)
  pub has : due t values kept turn ≡ Some command

-- turns were passed over that have no command
pub record Passes (t : Topology) (values : Unit → ℕ) (pulse : Option LineId) (kept : Kept) (before after : Carrying) : Type 0 where
  pub passed : List Turn
  pub left : turns_left t pulse before ≡ passed ++ turns_left t pulse after
  pub none : HaveNone t values kept passed

-- the command of the first turn that was left was answered: the record follows if the device took it, and it stands behind
-- the others with the value before it and its answer
pub record Answers (t : Topology) (pulse : Option LineId) (command : Command) (ok : Bool) (before after : Carrying) (kept_before kept_after : Kept)
    (done_before done_after : List Done) : Type 0 where
  pub left : (turn : Turn) (first : Begins turn (turns_left t pulse before)) → turns_left t pulse after ≡ first.later
  pub kept : kept_after ≡ after_answer command ok kept_before
  pub done : done_after ≡ done_before ++ done_as command kept_before ok ∷ []

-- a record of the units of the chip, in which each that isn't marked has the book's value
pub record IsFollowed (t : Topology) (values : Unit → ℕ) (pulse : Option LineId) (kept : Kept) : Type 0 where
  pub units : units_in kept ≡ units_of t
  pub ready : IsReady values pulse kept
