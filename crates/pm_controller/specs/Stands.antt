-- What holds of each controller between two calls.
use Rattle.std.specs.Prelude.{◌≡◌, List, ◌++◌, Option, Some, None}
use Rattle.pm_base.specs.declared.names.Command.{Command}
use Rattle.pm_base.specs.declared.names.LineId.{LineId}
use Rattle.pm_state.specs.State.{State}
use Rattle.pm_state.specs.Values.{value}
use Rattle.pm_core.specs.declared.outbox.Done.{Done}
use Rattle.pm_core.specs.declared.outbox.Outbox.{Outbox}
use Rattle.pm_apply.specs.declared.carrying.Carrying.{Carrying}
use Rattle.pm_apply.specs.declared.turns.Turn.{Turn}
use Rattle.pm_apply.specs.Carried.{AreMarked}
use Rattle.pm_apply.specs.Left.{IsFollowed, Waits, turns_left}
use Rattle.pm_apply.specs.Plan.{answers_of, plan, turns_of}
use Rattle.pm_record.specs.Record.{IsRecordOf, Kept}

-- a step is under way: these of its turns were taken from the record at its beginning, and the others are left
pub record IsUnderWay (book : State) (kept : Kept) (pulse : Option LineId) (done : List Done) (left : Carrying) : Type 0 where
  pub begun : Kept
  pub known : IsRecordOf book.fixed.topology begun
  pub followed : IsFollowed book.fixed.topology (λ u. value u book) pulse begun
  pub turns : List Turn
  pub all : turns ++ turns_left book.fixed.topology pulse left ≡ turns_of book.fixed.topology pulse
  pub planned : plan book.fixed.topology (λ u. value u book) turns begun (answers_of done)
      ≡ record { done = done; kept = kept }

-- and this command waits for its answer
pub record IsAsking (book : State) (kept : Kept) (pulse : Option LineId) (done : List Done) (left : Carrying) (command : Command) : Type 0 where
  pub way : IsUnderWay book kept pulse done left
  pub waits : Waits book.fixed.topology (λ u. value u book) pulse kept left command

-- a step is over: the record is one of the chip, and marks exactly the units that aren't at the book's value
pub record IsAtRest (book : State) (kept : Kept) : Type 0 where
  pub known : IsRecordOf book.fixed.topology kept
  pub marks : AreMarked book.fixed.topology (λ u. value u book) kept

abbrev pub Stands : Option Command → State → Kept → Outbox → Carrying → Type 0
Stands None book kept out left = IsAtRest book kept
Stands (Some command) book kept out left = IsAsking book kept out.pulse out.done.items left command
