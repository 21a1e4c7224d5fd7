-- The visible part of a core step, and two core steps that tell the same beyond a border.
use Rattle.std.specs.Prelude.{◌≡◌, Bool, true, false, not, ◌&&◌, ◌==◌, List, [], ◌∷◌, Option, None, if◌then◌else◌}
use Rattle.pm_base.specs.declared.events.Event.{Event}
use Rattle.pm_base.specs.declared.events.Event.TheVariants.{Ipi}
use Rattle.pm_base.specs.declared.names.LineId.{LineId}
use Rattle.pm_base.specs.declared.names.NodeId.{NodeId}
use Rattle.pm_base.specs.declared.names.Unit.{Unit}
use Rattle.pm_ipi.specs.Calls.{call_of}
use Rattle.pm_object.specs.declared.object.Object.{Object}
use Rattle.pm_topology.specs.declared.topology.Topology.{Topology}
use Rattle.pm_tell.specs.declared.ended.Ended.{Ended}
use Rattle.pm_calls.specs.declared.verdict.Asked.{Asked}
use Rattle.pm_tell.specs.declared.callbacks.Callback.{Callback}
use Rattle.pm_tell.specs.declared.late.Late.{Late}
use Rattle.pm_values.specs.declared.starts.Start.{Start}
use Rattle.pm_core.specs.declared.replies.Answer.{Answer}
use Rattle.pm_tell.specs.Callbacks.{late_replies}
use Rattle.pm_core.specs.Step.{asks, ended}
use Rattle.pm_run.specs.Run.{Core}
use Rattle.pm_laws.specs.Answers.{is_dropped, message_beyond, names_beyond, sender_beyond}
use Rattle.pm_laws.specs.Border.{Border, none_within}
use Rattle.pm_laws.specs.Callbacks.{callbacks_beyond}
use Rattle.pm_laws.specs.Pulse.{pulse_beyond}
use Rattle.pm_laws.specs.ReachBorder.{configured_place}
use Rattle.pm_laws.specs.SeenTalk.{asks_beyond, ends_beyond}
use Rattle.pm_laws.specs.Values.{moves_beyond, starts_beyond}

-- ---- the part of one core step that is beyond

-- the units that move, the processors that start, and the reset line that is pulsed
abbrev pub moves_in : Object → Topology → Border → Core → List Unit
moves_in object t border core = moves_beyond object t border core.outputs.moved

abbrev pub starts_in : Object → Topology → Border → Core → List Start
starts_in object t border core = starts_beyond object t border core.outputs.starts

abbrev pub pulse_in : Topology → Border → Core → Option LineId
pulse_in t border core = pulse_beyond t border core.outputs.pulse

-- the request to suspend that is made, and the requests that end, if the asked master is beyond
abbrev pub asked_in : Border → Core → Option Asked
asked_in border core = asks_beyond border (asks core.event core.before)

abbrev pub ends_in : Border → Core → List Ended
ends_in border core = ends_beyond border (ended core.event core.before)

-- the late replies for those requests that end
abbrev pub late_in : Border → Core → List Late
late_in border core = late_replies (ends_in border core) core.after

-- the callbacks to masters beyond, without those about nodes within
abbrev pub callbacks_in : Object → Border → Core → List Callback
callbacks_in object border core = callbacks_beyond object border core.outputs.callbacks

-- ---- of two core steps

-- two core steps tell the same beyond. If the sender of the first one's message is beyond or isn't configured, both
-- or neither drop it; and if that message names nothing within, both answer alike
pub record SameTold (object : Object) (t : Topology) (border : Border) (x y : Core) : Type 0 where
  pub moves : moves_in object t border x ≡ moves_in object t border y
  pub starts : starts_in object t border x ≡ starts_in object t border y
  pub pulse : pulse_in t border x ≡ pulse_in t border y
  pub asked : asked_in border x ≡ asked_in border y
  pub ends : ends_in border x ≡ ends_in border y
  pub late : late_in border x ≡ late_in border y
  pub callbacks : callbacks_in object border x ≡ callbacks_in object border y
  pub drop : sender_beyond object border x.event ≡ true → is_dropped x.outputs.answer ≡ is_dropped y.outputs.answer
  pub answer : message_beyond object t border x.event ≡ true → x.outputs.answer ≡ y.outputs.answer

-- a core step tells nothing beyond; its answer is left open
pub record TellsNothing (object : Object) (t : Topology) (border : Border) (x : Core) : Type 0 where
  pub moves : moves_in object t border x ≡ []
  pub starts : starts_in object t border x ≡ []
  pub pulse : pulse_in t border x ≡ None
  pub asked : asked_in border x ≡ None
  pub ends : ends_in border x ≡ []
  pub late : late_in border x ≡ []
  pub callbacks : callbacks_in object border x ≡ []

-- ---- the messages of other masters

-- the event is a message of another master than this one, and that master is beyond or isn't configured
abbrev pub is_others : Object → Border → NodeId → Event → Bool
is_others object border m (Ipi master message) = not (master.0 == m.0) && none_within border (configured_place object master)
is_others object border m _ = false

-- such a message whose call names nothing within
abbrev pub is_beyond_all : Object → Topology → Border → NodeId → Event → Bool
is_beyond_all object t border m (Ipi master message) =
    is_others object border m (Ipi master message) && names_beyond t border (call_of message)
is_beyond_all object t border m _ = false

-- such a message with whether it is dropped; and one that names nothing within, with its answer
abbrev pub drops_in : Object → Border → NodeId → Core → List (Event × Bool)
drops_in object border m core =
    if is_others object border m core.event then (core.event, is_dropped core.outputs.answer) ∷ [] else []

abbrev pub answers_in : Object → Topology → Border → NodeId → Core → List (Event × Answer)
answers_in object t border m core =
    if is_beyond_all object t border m core.event then (core.event, core.outputs.answer) ∷ [] else []
