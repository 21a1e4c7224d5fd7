-- The step: what an event does to the book.
use Rattle.std.specs.Prelude.{ℕ, ◌==◌, Bool, true, false, not, ◌&&◌, List, [], Option, Some, None, option_and_then, if◌then◌else◌}
use Rattle.pm_base.specs.declared.names.LineId.{LineId}
use Rattle.pm_base.specs.declared.names.NodeId.{NodeId}
use Rattle.pm_base.specs.declared.names.Mode.{Mode}
use Rattle.pm_base.specs.declared.events.Event.{Event}
use Rattle.pm_base.specs.declared.events.Event.TheVariants.{Ipi, Boot, Wfi, Irq, Gic, Tick}
use Rattle.pm_ipi.specs.declared.calls.Call.{Call}
use Rattle.pm_ipi.specs.Calls.{call_of}
use Rattle.pm_notify.specs.declared.notes.Waiting.{Waiting}
use Rattle.pm_procs.specs.Modes.{is_awake}
use Rattle.pm_tell.specs.declared.served.Served.{Served}
use Rattle.pm_tell.specs.declared.ended.Ended.{Ended}
use Rattle.pm_calls.specs.declared.verdict.Asked.{Asked}
use Rattle.pm_calls.specs.declared.verdict.Say.{Say}
use Rattle.pm_calls.specs.declared.verdict.Verdict.{Verdict}
use Rattle.pm_calls.specs.declared.verdict.Verdict.TheVariants.{Dropped}
use Rattle.pm_tell.specs.Callbacks.{News}
use Rattle.pm_tell.specs.Ended.{ended_from}
use Rattle.pm_values.specs.Turns.{turns_along}
use Rattle.pm_calls.specs.Events.{boot, wait, interrupt, raised}
use Rattle.pm_calls.specs.calls.{called}
use Rattle.pm_state.specs.Members.{mode_of_master}
use Rattle.pm_values.specs.Notifications.{notifications}
use Rattle.pm_state.specs.Prims.{Prim}
use Rattle.pm_tell.specs.Served.{pulse_in, says_in}
use Rattle.pm_state.specs.Stages.{after_stages, path_from}
use Rattle.pm_state.specs.State.{State}
use Rattle.pm_state.specs.Talk.{Talk, talked}
use Rattle.pm_tell.specs.Opening.{forgets_from, talk_of}
use Rattle.pm_state.specs.Values.{master_place}
use Rattle.pm_calls.specs.Verdict.{Called, asked_by, aborted_by, is_refusal, renews_all, stages_of, verdict_of}
use Rattle.pm_tell.specs.Telling.{tellings}

-- only a master that is active or suspending may call, and only while the book isn't halted
abbrev pub may_call : ℕ → State → Bool
may_call m book = not book.now.core.halted && is_awake (mode_of_master book.fixed book.now.core m)

abbrev pub call_at : Call → State → ℕ → Option Called
call_at call book m = if may_call m book then Some (called m call book) else None

-- the call of a message: none if its sender is no configured master, or is asleep or off, or if the book is halted
abbrev pub call_in : NodeId → Call → State → Option Called
call_in master call book = option_and_then (call_at call book) (master_place master book)

-- the verdict on a message, by its call
abbrev pub verdict : Option Called → Verdict
verdict None = Dropped
verdict (Some call) = verdict_of call

-- and the stages of the step
abbrev pub message_stages : Option Called → List (List Prim)
message_stages None = []
message_stages (Some call) = stages_of call

-- the event is a message
abbrev pub is_ipi : Event → Bool
is_ipi (Ipi master message) = true
is_ipi _ = false

-- the event is the message of the call that puts an object in force
abbrev pub configures : Event → Bool
configures (Ipi master message) = message.api == 2
configures _ = false

-- these stages, and none while the book is halted
abbrev pub unless_halted : State → List (List Prim) → List (List Prim)
unless_halted book stages = if book.now.core.halted then [] else stages

-- the stages of a step: none for a message that is dropped or refused, or that only tells words, and for any other
-- event
abbrev pub stages : Event → State → List (List Prim)
stages (Ipi master message) book = message_stages (call_in master (call_of message) book)
stages (Boot proc address) book = unless_halted book (boot proc address book)
stages (Wfi proc) book = unless_halted book (wait proc book)
stages (Irq slave) book = unless_halted book (raised slave book)
stages (Gic proc) book = unless_halted book (interrupt proc book)
stages _ book = []

-- the books along a step
abbrev pub path : Event → State → List State
path event book = path_from (stages event book) book

-- a message with the verdict on it; any other event is none
abbrev pub served : Event → State → Option Served
served (Ipi master message) book =
    Some (record { master = master; call = call_of message; verdict = verdict (call_in master (call_of message) book) })
served _ book = None

-- what the masters are told by a message
abbrev pub says : Event → State → Option Say
says event book = says_in (served event book)

-- the master that is asked to suspend by it
abbrev pub asks : Event → State → Option Asked
asks event book = asked_by (says event book)

-- whether all is restarted by it
abbrev pub renews : Event → State → Bool
renews event book = renews_all (says event book)

-- the reset line that it pulses
abbrev pub pulse : Event → State → Option LineId
pulse event book = pulse_in (served event book)

-- the time that passes with an event: none while the book is halted
abbrev pub time_of : Event → State → Option ℕ
time_of (Tick count) book = if book.now.core.halted then None else Some count
time_of _ book = None

-- the requests that were pending before a step and end in it, in object order of the masters that were asked
abbrev pub ended : Event → State → List Ended
ended event book =
    ended_from (turns_along book (path event book)) (aborted_by (says event book)) (time_of event book) 0
    book.now.talk.pending

-- the notifiers of masters that became off along a step are gone, and so is what waits for them
abbrev pub forgets : Event → State → List Talk
forgets event book = forgets_from (turns_along book (path event book)) 0 book.fixed.object.masters

-- what a step does before any master is told of it
abbrev pub opening : Event → State → List Talk
opening event book =
    talk_of (says event book) (forgets event book) (time_of event book) (ended event book)

-- what happened to nodes in a step
abbrev pub notices : Event → State → List Waiting
notices event book = notifications book (after_stages (stages event book) book)

-- what a step has to tell
abbrev pub news : Event → State → News
news event book = record { asked = asks event book; ended = ended event book; notices = notices event book }

-- the modes of the masters in a book
abbrev pub modes_in : State → ℕ → Mode
modes_in book m = mode_of_master book.fixed book.now.core m

-- all that is told in a step
abbrev pub talk : Event → State → List Talk
talk event book =
    tellings (news event book) (modes_in book) (opening event book) (served event book)
    (after_stages (stages event book) book)

-- the book after an event: after its stages, and then what is told
abbrev pub effect : Event → State → State
effect event book = talked (talk event book) (after_stages (stages event book) book)

-- a message that is dropped, or whose status isn't 0
abbrev pub is_refused : Event → State → Bool
is_refused (Ipi master message) book = is_refusal (verdict (call_in master (call_of message) book))
is_refused _ book = false
