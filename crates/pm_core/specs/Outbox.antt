-- The outbox: the room that it has, and what a step puts into it.
use Rattle.std.specs.Prelude.{◌≡◌, ℕ, ◌+◌, ◌≤◌, false, List, [], length, Option, None}
use Rattle.pm_base.specs.declared.names.LineId.{LineId}
use Rattle.pm_base.specs.declared.names.Unit.{Unit}
use Rattle.pm_topology.specs.declared.topology.Topology.{Topology}
use Rattle.pm_core.specs.declared.replies.Answer.{Answer}
use Rattle.pm_core.specs.declared.replies.Answer.TheVariants.{Silent}
use Rattle.pm_tell.specs.declared.callbacks.Callback.{Callback}
use Rattle.pm_tell.specs.declared.late.Late.{Late}
use Rattle.pm_core.specs.declared.outbox.Outbox.{Outbox}
use Rattle.pm_values.specs.declared.starts.Start.{Start}
use Rattle.pm_state.specs.State.{State}
use Rattle.pm_state.specs.Units.{unit_count}
use Rattle.pm_tell.specs.Callbacks.{callback_count}

-- how many commands a step does at most: each unit has one turn, each power node one more, and so has one reset line
abbrev pub command_count : Topology → ℕ
command_count t = unit_count t + length t.powers + 1

-- an outbox of a chip and so many masters: there is room for each unit to move, for the commands of a step, for each
-- processor to start, for a late reply for each request that can be pending, and for the callbacks
pub record HasRoom (t : Topology) (masters : ℕ) (out : Outbox) : Type 0 where
  pub moved : unit_count t ≤ out.moved.room
  pub done : command_count t ≤ out.done.room
  pub starts : length t.procs ≤ out.starts.room
  pub late : masters ≤ out.late.room
  pub callbacks : callback_count (unit_count t) masters ≤ out.callbacks.room

-- it has room for the chip and the masters of a book
abbrev pub HasRoomFor : State → Outbox → Type 0
HasRoomFor book out = HasRoom book.fixed.topology (length book.fixed.object.masters) out

-- an outbox has the room that it had before
pub record KeepsRoom (before after : Outbox) : Type 0 where
  pub moved : after.moved.room ≡ before.moved.room
  pub done : after.done.room ≡ before.done.room
  pub starts : after.starts.room ≡ before.starts.room
  pub late : after.late.room ≡ before.late.room
  pub callbacks : after.callbacks.room ≡ before.callbacks.room

pub record IsEmpty (out : Outbox) : Type 0 where
  pub moved : out.moved.items ≡ []
  pub turned : out.turned ≡ false
  pub pulse : out.pulse ≡ None
  pub done : out.done.items ≡ []
  pub starts : out.starts.items ≡ []
  pub late : out.late.items ≡ []
  pub callbacks : out.callbacks.items ≡ []
  pub answer : out.answer ≡ Silent

-- what a step puts out: the units that move, the reset line that is pulsed, the processors that start, the late
-- replies and the callbacks to masters that wait for them, and the answer
pub record Outputs : Type 0 where
  pub moved : List Unit
  pub pulse : Option LineId
  pub starts : List Start
  pub late : List Late
  pub callbacks : List Callback
  pub answer : Answer

-- what an outbox holds of it
abbrev pub outputs_in : Outbox → Outputs
outputs_in out = record {
  moved = out.moved.items;
  pulse = out.pulse;
  starts = out.starts.items;
  late = out.late.items;
  callbacks = out.callbacks.items;
  answer = out.answer;
}

-- an outbox holds these outputs, and no command is done yet
pub record Holds (outputs : Outputs) (out : Outbox) : Type 0 where
  pub moved : out.moved.items ≡ outputs.moved
  pub pulse : out.pulse ≡ outputs.pulse
  pub starts : out.starts.items ≡ outputs.starts
  pub late : out.late.items ≡ outputs.late
  pub callbacks : out.callbacks.items ≡ outputs.callbacks
  pub answer : out.answer ≡ outputs.answer
  pub done : out.done.items ≡ []
