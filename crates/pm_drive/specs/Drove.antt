-- What a device was given and where it stands, once it was driven through some lines of a run.
use Rattle.std.specs.Prelude.{◌≡◌, ◌⊎◌, true, false, List, [], map}
use Rattle.std.specs.List.{AllByRecursion as Each}
use Rattle.pm_base.specs.Faults.{Rose}
use Rattle.pm_base.specs.declared.names.Unit.{Unit}
use Rattle.pm_topology.specs.declared.topology.Topology.{Topology}
use Rattle.pm_topology.specs.Units.{has_unit}
use Rattle.pm_device.specs.declared.device.Device as Device
use Rattle.pm_device.specs.Act.{AllMatch, Chain, refusals, shown_by}
use Rattle.pm_device.specs.Device.{DeviceMoment, RoseBy}
use Rattle.pm_device.specs.Fresh.{IsWhole}
use Rattle.pm_state.specs.Load.{load_of}
use Rattle.pm_state.specs.Sound.{MeetsRequirements}
use Rattle.pm_state.specs.State.{State}
use Rattle.pm_state.specs.Values.{value}
use Rattle.pm_run.specs.Run.{Setup}
use Rattle.pm_apply.specs.Failing.{falls_short, told_answer}
use Rattle.pm_apply.specs.Order.{IsOrdered, LagsAreExplained}
use Rattle.pm_apply.specs.Part.{AllSucceed}
use Rattle.pm_record.specs.Record.{at_zero}
use Rattle.pm_apply.specs.Carried.{StandsAs}
use Rattle.pm_drive.specs.Drive.{Driven, Given, acts, breaks, drive, last_book, last_kept}

-- after this core step, a unit whose kept value isn't the book's lags for a command of that step that failed on it, above it or
-- below it; and so after each core step
abbrev pub IsExplained : Topology → Given → Type 0
IsExplained t g = LagsAreExplained t (λ u. value u g.core.after) g.part.kept g.part.commands

abbrev pub AreExplained : Topology → List Driven → Type 0
AreExplained t xs = Each (λ (x : Driven). Each (IsExplained t) x.cores) xs

-- the answer of a core step is the book's, but that a success that is written is an internal error exactly if the device didn't
-- follow the step
abbrev pub IsTold : Given → Type 0
IsTold g =
    g.part.answer
    ≡ told_answer (falls_short (λ u. value u g.core.after) g.core.outputs.moved g.core.outputs.pulse g.part.commands g.part.kept) g.core.outputs.answer

-- where the answer isn't the book's, a command of that core step failed
abbrev pub IsFaulted : Given → Type 0
IsFaulted g = AllSucceed g.part.commands → g.part.answer ≡ g.core.outputs.answer

-- each core step is answered as the book has it
abbrev pub AnswersAsBook : List Driven → Type 0
AnswersAsBook xs = Each (λ (x : Driven). Each (λ (g : Given). g.part.answer ≡ g.core.outputs.answer) x.cores) xs

-- each core step of these lines is told so, and faulted so
pub record AreTold (xs : List Driven) : Type 0 where
  pub told : Each (λ (x : Driven). Each IsTold x.cores) xs
  pub faulted : Each (λ (x : Driven). Each IsFaulted x.cores) xs

-- no line breaks a node
abbrev pub BreaksNone : List Driven → Type 0
BreaksNone xs = Each (λ (x : Driven). breaks x.line.event ≡ false) xs

-- the values are the book's, and so what its requirements ask for: each slave stands in the first of its states that meets
-- all requirements in force, and each power domain is up exactly where it is held or something directly below needs it
pub record Follows (book : State) (device : DeviceMoment) : Type 0 where
  pub values : (unit : Unit) → has_unit book.fixed.topology unit ≡ true → device.value unit ≡ value unit book
  pub met : MeetsRequirements book device.value

module _ {D : Type 0} (d : Device.Ghosts D) where
  -- the device reported no failure in these lines: its count didn't rise, or it showed that nothing could fail, and none of the
  -- lines breaks a node
  abbrev pub NoFailure : Topology → List Driven → D → D → Type 0
  NoFailure t xs old new =
      (Rose (d.state old).faults (d.state new).faults → ⊥) ⊎ (d.nodes_observable × IsWhole t (d.state old) × BreaksNone xs)

  -- the device was driven through these lines of a run, from where it stood at 0
  pub record Drove (c : Setup) (xs : List Driven) (old new : D) : Type 0 where
    -- it was given these commands in this order, and nothing else was done to it
    pub given : Chain d.Does (acts xs) old new
    -- its count of faults rose with each that it refused
    pub counted : RoseBy (refusals (acts xs)) (d.state old).faults (d.state new).faults
    -- its values are those that were kept
    pub stands : d.values_observable → StandsAs (last_kept (at_zero c.topology) xs) (d.state new)
    -- it refused exactly those on broken nodes and on units that it lacks
    pub matched : d.nodes_observable → AllMatch (acts xs) (d.state old)
    pub broken : d.nodes_observable → (d.state new).broken ≡ (shown_by (acts xs) (d.state old)).broken
    -- no node was set to a value that needs power while its domain was down, and no domain went down under its users
    pub ordered : IsOrdered c.topology (λ unit. 0) (acts xs)
    -- a unit lags only for a command of that step that failed on it, above it or below it
    pub explained : AreExplained c.topology xs
    -- each core step is answered as the book has it, but that a success that is written is an internal error exactly if the
    -- device didn't follow the step; and then a command of that step failed
    pub told : AreTold xs
    -- without a failure each core step is answered as the book has it
    pub answered : NoFailure c.topology xs old new → AnswersAsBook xs
    -- without a failure the lines are those over a device that never fails, and the device follows the book
    pub unfailing : NoFailure c.topology xs old new → xs ≡ drive (at_zero c.topology) [] (map (λ (x : Driven). x.line) xs)
    pub follows : d.values_observable → NoFailure c.topology xs old new →
        Follows (last_book (load_of c.object c.attached c.topology) xs) (d.state new)
