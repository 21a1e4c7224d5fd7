-- Only a message is dropped, and the answer names its sender.
use Rattle.std.proofs.Common.{◌≡◌, List, [], ◌∷◌, Option, Some, None, ap}
use Rattle.std.specs.List.{AllByRecursion as Each}
use Rattle.pm_base.specs.declared.events.Event.{Event}
use Rattle.pm_base.specs.declared.events.Event.TheVariants.{Ipi}
use Rattle.pm_base.specs.declared.events.Message.{Message}
use Rattle.pm_base.specs.declared.names.NodeId.{NodeId}
use Rattle.pm_ipi.specs.declared.calls.Call.{Call}
use Rattle.pm_ipi.specs.declared.calls.AckKind.{AckKind}
use Rattle.pm_ipi.specs.declared.calls.AckKind.TheVariants.{No}
use Rattle.pm_ipi.specs.declared.responses.Response.{Response}
use Rattle.pm_ipi.specs.Calls.{ack_of, call_of, node_of}
use Rattle.pm_core.specs.declared.replies.Answer.{Answer}
use Rattle.pm_core.specs.declared.replies.Answer.TheVariants.{Silent, Drop}
use Rattle.pm_calls.specs.declared.verdict.Verdict.{Verdict}
use Rattle.pm_calls.specs.declared.verdict.Verdict.TheVariants.{Dropped, Refused, Accepted}
use Rattle.pm_state.specs.State.{State}
use Rattle.pm_core.specs.Step.{acknowledged, answer_by, answer_of, answered, call_in, effect, served, verdict}
use Rattle.pm_calls.specs.Verdict.{response_of}
use Rattle.pm_run.specs.Run.{Core, Line, Setup, Stand, cores_of, line_of, lines_of, loaded, run, split}

-- a core step in which a message is dropped has a message of the master that the answer names
abbrev pub Drops : Core → Type 0
Drops core = (d : NodeId) → core.outputs.answer ≡ Drop d → (sent : Message) × (core.event ≡ Ipi d sent)

never_dropped : (kind : AckKind) (master node : NodeId) (response : Response) (after : State) (d : NodeId) → acknowledged kind master node response after ≡ Drop d → ⊥
never_dropped No master node response after d is = cc
never_dropped _ master node response after d is = cc

never_told : (response : Option Response) (master : NodeId) (call : Call) (after : State) (d : NodeId) → answered response master call after ≡ Drop d → ⊥
never_told None master call after d is = cc
never_told (Some response) master call after d is = never_dropped (ack_of call) master (node_of call) response after d is

abbrev dropped_of : NodeId → Answer → NodeId
dropped_of other (Drop master) = master
dropped_of other answer = other

by_verdict : (master : NodeId) (message : Message) (verdict : Verdict) (after : State) (d : NodeId) → answer_of verdict master (call_of message) after ≡ Drop d
    → (sent : Message) × (Ipi master message ≡ Ipi d sent)
by_verdict master message Dropped after d is = (message, ap (λ n. Ipi n message) (ap (dropped_of master) is))
by_verdict master message (Refused response) after d is = absurd (never_told (Some response) master (call_of message) after d is)
by_verdict master message (Accepted effects) after d is =
    absurd (never_told (response_of (Accepted effects)) master (call_of message) after d is)

event_drops : (event : Event) (book after : State) (d : NodeId) → answer_by (served event book) after ≡ Drop d → (sent : Message) × (event ≡ Ipi d sent)
event_drops (Ipi master message) book after d is = by_verdict master message (verdict (call_in master (call_of message) book)) after d is
event_drops event book after d is = cc

cores_drop : (events : List Event) (book : State) → Each Drops (cores_of events book)
cores_drop [] book = tt
cores_drop (event ∷ events) book = (event_drops event book (effect event book), cores_drop events (effect event book))

-- each core step of a line is so
abbrev pub LineDrops : Line → Type 0
LineDrops line = Each Drops line.cores

lines_drop : (c : Setup) (events : List Event) (stand : Stand) → Each LineDrops (lines_of c events stand)
lines_drop c [] stand = tt
lines_drop c (event ∷ events) stand = (cores_drop (split c event stand).events stand.book, lines_drop c events (line_of c event stand).after)

nothing_dropped : (d : NodeId) → Silent ≡ Drop d → ⊥
nothing_dropped d is = cc

pub run_drops : (c : Setup) (events : List Event) → Each LineDrops (run c events)
run_drops c events = ((λ d is. absurd (nothing_dropped d is), tt), lines_drop c events (loaded c))
