-- The answer of a step that a device didn't follow: an internal error in place of success (UG1200, error codes of the power
-- management API).
use Rattle.std.specs.Prelude.{ℕ, ◌==◌, Bool, not, ◌&&◌, ◌||◌, if◌then◌else◌, List, Option, Some, None, false}
use Rattle.std.specs.List.{list_any}
use Rattle.pm_base.specs.declared.names.LineId.{LineId}
use Rattle.pm_base.specs.declared.names.Unit.{Unit}
use Rattle.pm_base.specs.declared.names.Unit.TheVariants.{Line}
use Rattle.pm_ipi.specs.declared.responses.Response.{Response}
use Rattle.pm_ipi.specs.Responses.{refusal}
use Rattle.pm_ipi.specs.Status.{internal, success}
use Rattle.pm_topology.specs.Units.{same_unit}
use Rattle.pm_core.specs.declared.outbox.Done.{Done}
use Rattle.pm_core.specs.declared.replies.Answer.{Answer}
use Rattle.pm_core.specs.declared.replies.Answer.TheVariants.{Silent, Drop, Reply, Ack}
use Rattle.pm_record.specs.Record.{Kept, kept_value}

-- one of these units has another value in the record
abbrev pub some_differ : (Unit → ℕ) → List Unit → Kept → Bool
some_differ values units kept = list_any (λ u. not (kept_value kept u == values u)) units

-- the command that sets a reset line to 1, which failed. In a step that pulses a line the book has it at 0, so that a command
-- which sets it to 1 is the pulse's
abbrev pub is_failed_pulse : LineId → Done → Bool
is_failed_pulse line d = same_unit (Line line) d.command.unit && ((d.command.value == 1) && not d.ok)

-- the line that is pulsed, if one is, couldn't be set to 1
abbrev pub pulse_failed : Option LineId → List Done → Bool
pulse_failed None done = false
pulse_failed (Some line) done = list_any (is_failed_pulse line) done

-- the device didn't follow a step: after its commands a unit that moved in it has another value in the record, or the
-- line that it pulses couldn't be set to 1. What lags since an earlier step doesn't count
abbrev pub falls_short : (Unit → ℕ) → List Unit → Option LineId → List Done → Kept → Bool
falls_short values moved pulse done kept = some_differ values moved kept || pulse_failed pulse done

-- success becomes an internal error, which tells nothing else; a refusal stays
abbrev pub failed_response : Response → Response
failed_response response = if response.status == success then refusal internal else response

abbrev pub failed_status : ℕ → ℕ
failed_status status = if status == success then internal else status

-- the answer in place of one that is written: an acknowledgement keeps its operating point. One that isn't written stays
abbrev pub failed_answer : Answer → Answer
failed_answer Silent = Silent
failed_answer (Drop master) = Drop master
failed_answer (Reply master response) = Reply master (failed_response response)
failed_answer (Ack master node status point shown) = Ack master node (if shown then failed_status status else status) point shown

-- the answer of a step, by whether the device didn't follow it
abbrev pub told_answer : Bool → Answer → Answer
told_answer short answer = if short then failed_answer answer else answer
