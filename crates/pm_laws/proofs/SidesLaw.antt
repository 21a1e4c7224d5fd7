-- Two core steps tell the same if their outboxes hold the outputs of two that do.
use Rattle.std.proofs.Common.{◌≡◌, ◌∙◌, ap, sym}
use Rattle.pm_laws.proofs.Common.{Border, Event, NodeId, Object, State, Topology, effect, ended, ends_beyond, outputs}
use Rattle.pm_core.specs.declared.outbox.Outbox.{Outbox}
use Rattle.pm_tell.specs.Callbacks.{late_replies}
use Rattle.pm_core.specs.Outbox.{Holds}
use Rattle.pm_run.specs.Run.{core_of}
use Rattle.pm_laws.specs.Answers.{is_dropped}
use Rattle.pm_laws.specs.Callbacks.{callbacks_beyond}
use Rattle.pm_laws.specs.Left.{border_in, stepped}
use Rattle.pm_laws.specs.Pulse.{pulse_beyond}
use Rattle.pm_laws.specs.Told.{SameTold, TellsNothing}
use Rattle.pm_laws.specs.Values.{moves_beyond, starts_beyond}

pub both_stepped : (a b : State) (event other : Event) (m : NodeId) (x y : State) (oa ob : Outbox)
    → x ≡ effect event a → y ≡ effect other b → Holds (outputs event a) oa → Holds (outputs other b) ob
    → SameTold a.fixed.object a.fixed.topology (border_in a m) (core_of event a) (core_of other b)
    → SameTold a.fixed.object a.fixed.topology (border_in a m) (stepped event a x oa) (stepped other b y ob)
both_stepped a b event other m x y oa ob first second held_a held_b same =
    let border : Border = border_in a m in
    let moves = moves_beyond a.fixed.object a.fixed.topology border in
    let starts = starts_beyond a.fixed.object a.fixed.topology border in
    let pulse = pulse_beyond a.fixed.topology border in
    let calls = callbacks_beyond a.fixed.object border in
    record {
      moves = ap moves held_a.moved ∙ same.moves ∙ sym (ap moves held_b.moved);
      starts = ap starts held_a.starts ∙ same.starts ∙ sym (ap starts held_b.starts);
      pulse = ap pulse held_a.pulse ∙ same.pulse ∙ sym (ap pulse held_b.pulse);
      asked = same.asked;
      ends = same.ends;
      late = ap (λ (s : State). late_replies (ends_beyond border (ended event a)) s) first ∙ same.late
          ∙ sym (ap (λ (s : State). late_replies (ends_beyond border (ended other b)) s) second);
      callbacks = ap calls held_a.callbacks ∙ same.callbacks ∙ sym (ap calls held_b.callbacks);
      drop = λ beyond. ap is_dropped held_a.answer ∙ same.drop beyond ∙ sym (ap is_dropped held_b.answer);
      answer = λ beyond. held_a.answer ∙ same.answer beyond ∙ sym held_b.answer;
    }

pub nothing_stepped : (object : Object) (t : Topology) (border : Border) (a : State) (event : Event) (x : State) (out : Outbox)
    → x ≡ effect event a → Holds (outputs event a) out → TellsNothing object t border (core_of event a) → TellsNothing object t border (stepped event a x out)
nothing_stepped object t border a event x out is held none = record {
  moves = ap (moves_beyond object t border) held.moved ∙ none.moves;
  starts = ap (starts_beyond object t border) held.starts ∙ none.starts;
  pulse = ap (pulse_beyond t border) held.pulse ∙ none.pulse;
  asked = none.asked;
  ends = none.ends;
  late = ap (λ (s : State). late_replies (ends_beyond border (ended event a)) s) is ∙ none.late;
  callbacks = ap (callbacks_beyond object border) held.callbacks ∙ none.callbacks;
}
