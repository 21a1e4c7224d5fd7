-- What masters beyond are answered in two books that agree: a message is dropped in both or in neither, and one that names
-- nothing within is answered the same.
use Rattle.std.proofs.Common.{◌≡◌, ℕ, Bool, true, false, not, if◌then◌else◌, List, [], ◌∷◌, Option, Some, None, refl, sym, ◌∙◌, ap, subst}
use Rattle.std.specs.Prelude.{is_some, option_and_then}
use Rattle.pm_laws.proofs.Common.{Agree, BelowLaws, Border, Called, Event, Fixed, Ipi, IsClosed, IsSound, IsWellFormed, KindLaws, Node, NodeId, Now, Same, State, Topology, Unit, acknowledged, answer_of, answered, call_in, called, effect, call_at, is_awake, may_call, kind_of, master_mode_at, none_within, outputs, configured_place, point_at, response_of, verdict, verdict_by}
use Rattle.pm_base.specs.declared.events.Message.{Message}
use Rattle.pm_base.specs.declared.names.Unit.TheVariants.{Line}
use Rattle.pm_base.proofs.Booleans.{both}
use Rattle.pm_ipi.specs.declared.calls.AckKind.{AckKind}
use Rattle.pm_ipi.specs.declared.calls.AckKind.TheVariants.{No, Blocking, NonBlocking}
use Rattle.pm_ipi.specs.declared.calls.Call.{Call}
use Rattle.pm_ipi.specs.declared.calls.Call.TheVariants.{GetApiVersion}
use Rattle.pm_ipi.specs.declared.responses.Response.{Response}
use Rattle.pm_ipi.specs.Calls.{ack_of, acknowledge_of, call_of, kind_by, node_by, node_of, row_of}
use Rattle.pm_calls.specs.declared.verdict.Effects.{Effects}
use Rattle.pm_calls.specs.declared.verdict.Verdict.{Verdict}
use Rattle.pm_calls.specs.declared.verdict.Verdict.TheVariants.{Dropped, Refused, Accepted}
use Rattle.pm_calls.specs.Checks.{Cause, Fits, Stands, first_failing}
use Rattle.pm_core.specs.declared.replies.Answer.TheVariants.{Ack}
use Rattle.pm_laws.specs.Answers.{all_beyond, is_dropped, message_beyond, names_beyond, sender_beyond}
use Rattle.pm_laws.proofs.CallsAlike.{book_of}
use Rattle.pm_laws.proofs.FollowLaw.{mode_alike}
use Rattle.pm_laws.proofs.MayCallLaw.{heard_same as heard_both}
use Rattle.pm_laws.proofs.CalledAlike.{call_same, point_alike}
use Rattle.pm_laws.proofs.StepLaw as steps

-- ---- drops

acknowledged_is : (kind : AckKind) (master node : NodeId) (response : Response) (after : State) → is_dropped (acknowledged kind master node response after) ≡ false
acknowledged_is No master node response after = refl
acknowledged_is _ master node response after = refl

answered_is : (response : Option Response) (master : NodeId) (call : Call) (after : State) → is_dropped (answered response master call after) ≡ false
answered_is None master call after = refl
answered_is (Some response) master call after = acknowledged_is (ack_of call) master (node_of call) response after

verdict_is : (cause : Cause) (effects : Effects) (master : NodeId) (call : Call) (after : State) → is_dropped (answer_of (verdict_by cause effects) master call after) ≡ false
verdict_is (Stands Fits) effects master call after = answered_is (response_of (Accepted effects)) master call after
verdict_is _ effects master call after = acknowledged_is (ack_of call) master (node_of call) _ after

-- what is dropped is what isn't heard
dropped_is : (master : NodeId) (call : Call) (heard : Option Called) (after : State) → is_dropped (answer_of (verdict heard) master call after) ≡ not (is_some heard)
dropped_is master call None after = refl
dropped_is master call (Some x) after = verdict_is (first_failing x.checks) x.effects master call after

heard_if : (x y : Bool) (o p : Called) → x ≡ y → is_some (if x then Some o else None) ≡ is_some (if y then Some p else None)
heard_if true true o p is = refl
heard_if true false o p is = cc
heard_if false true o p is = cc
heard_if false false o p is = refl

-- ---- the node of an acknowledgement

-- a call with an acknowledge kind names a node first
abbrev is_node_first : Option ℕ → List Unit → Bool
is_node_first None names = true
is_node_first (Some word) (Node node ∷ names) = true
is_node_first (Some word) _ = false

names_node : (call : Call) → is_node_first (acknowledge_of call) (row_of call).names ≡ true
names_node GetApiVersion = refl
names_node _ = refl

first_beyond : (t : Topology) (border : Border) (acknowledge : Option ℕ) (names : List Unit) → is_node_first acknowledge names ≡ true
    → kind_by acknowledge ≡ NonBlocking → all_beyond t border names ≡ true → border.node (node_by acknowledge names).0 ≡ true
first_beyond t border None names named wants is = cc
first_beyond t border (Some word) [] named wants is = cc
first_beyond t border (Some word) (Line line ∷ names) named wants is = cc
first_beyond t border (Some word) (Node node ∷ []) named wants is = is
first_beyond t border (Some word) (Node node ∷ next ∷ names) named wants is = (both (border.node node.0) (all_beyond t border (next ∷ names)) is).0

module _ (laws : BelowLaws) (fixed : Fixed) (border : Border) (a b : Now) (same : Same fixed border a b) where
  abbrev first : State
  first = book_of fixed a

  abbrev second : State
  second = book_of fixed b

  heard_alike : (message : Message) (place : Option ℕ) → none_within border place ≡ true
      → is_some (option_and_then (call_at (call_of message) first) place) ≡ is_some (option_and_then (call_at (call_of message) second) place)
  heard_alike message None beyond = refl
  heard_alike message (Some m) beyond =
      heard_if (may_call m first) (may_call m second) (called m (call_of message) first) (called m (call_of message) second)
      (heard_both laws fixed border m a b beyond same)

  drops_by : (event : Event) → sender_beyond fixed.object border event ≡ true → is_dropped (outputs event first).answer ≡ is_dropped (outputs event second).answer
  drops_by (Ipi master message) beyond =
      dropped_is master (call_of message) (call_in master (call_of message) first) (effect (Ipi master message) first)
      ∙ (ap not (heard_alike message (configured_place fixed.object master) beyond)
      ∙ sym (dropped_is master (call_of message) (call_in master (call_of message) second) (effect (Ipi master message) second)))
  drops_by _ beyond = refl

  -- ---- answers

  module _ (kinds : KindLaws) (closed : IsClosed fixed border) (chip : IsWellFormed fixed.topology) where
    -- the same is heard of a message
    heard_same : (message : Message) (place : Option ℕ) → none_within border place ≡ true → names_beyond fixed.topology border (call_of message) ≡ true
        → option_and_then (call_at (call_of message) first) place ≡ option_and_then (call_at (call_of message) second) place
    heard_same message None beyond is = refl
    heard_same message (Some m) beyond is =
        ap (λ heard. if heard then Some (called m (call_of message) first) else None) (heard_both laws fixed border m a b beyond same)
        ∙ ap (λ call. if may_call m second then Some call else None)
        (call_same laws kinds fixed border closed chip a b same m (call_of message) beyond is)

    -- the same is answered in two books after it that agree
    shown_same : (place : Option ℕ) → none_within border place ≡ true → master_mode_at place first ≡ master_mode_at place second
    shown_same None beyond = refl
    shown_same (Some m) beyond = mode_alike laws fixed border m a b beyond same

    -- a call that wants an acknowledgement names its node
    node_beyond : (call : Call) → ack_of call ≡ NonBlocking → names_beyond fixed.topology border call ≡ true → border.node (node_of call).0 ≡ true
    node_beyond call wants is =
        first_beyond fixed.topology border (acknowledge_of call) (row_of call).names (names_node call) wants is

    acknowledged_same : (kind : AckKind) (master node : NodeId) (response : Response) → none_within border (configured_place fixed.object master) ≡ true
        → (kind ≡ NonBlocking → border.node node.0 ≡ true)
        → acknowledged kind master node response first ≡ acknowledged kind master node response second
    acknowledged_same No master node response beyond is = refl
    acknowledged_same Blocking master node response beyond is = refl
    acknowledged_same NonBlocking master node response beyond is =
        ap (λ point. Ack master node response.status point (is_awake (master_mode_at (configured_place fixed.object master) first)))
        (point_alike fixed border closed a b same node (is refl))
        ∙ ap (λ mode. Ack master node response.status (point_at (kind_of fixed.topology node) fixed b.core) (is_awake mode)) (shown_same (configured_place fixed.object master) beyond)

    answered_same : (response : Option Response) (master : NodeId) (call : Call) → none_within border (configured_place fixed.object master) ≡ true
        → names_beyond fixed.topology border call ≡ true
        → answered response master call first ≡ answered response master call second
    answered_same None master call beyond is = refl
    answered_same (Some response) master call beyond is =
        acknowledged_same (ack_of call) master (node_of call) response beyond (λ wants. node_beyond call wants is)

    after_same : (v : Verdict) (master : NodeId) (call : Call) → none_within border (configured_place fixed.object master) ≡ true
        → names_beyond fixed.topology border call ≡ true
        → answer_of v master call first ≡ answer_of v master call second
    after_same Dropped master call beyond is = refl
    after_same (Refused response) master call beyond is = answered_same (Some response) master call beyond is
    after_same (Accepted effects) master call beyond is = answered_same (response_of (Accepted effects)) master call beyond is

module _ (laws : BelowLaws) (kinds : KindLaws) (fixed : Fixed) (border : Border) (closed : IsClosed fixed border)
    (chip : IsWellFormed fixed.topology) (a b : Now) (same : Same fixed border a b) where
  answers_by : (event : Event) → IsSound (book_of fixed a) → IsSound (book_of fixed b) → message_beyond fixed.object fixed.topology border event ≡ true
      → (outputs event (book_of fixed a)).answer ≡ (outputs event (book_of fixed b)).answer
  answers_by (Ipi master message) sound_a sound_b is =
      let event : Event = Ipi master message in
      let parts = both (none_within border (configured_place fixed.object master)) (names_beyond fixed.topology border (call_of message)) is in
      let after : Agree border (effect event (book_of fixed a)) (effect event (book_of fixed b)) =
      steps.steps_agree laws border event (book_of fixed a) (book_of fixed b) closed sound_a sound_b (record { fixed = refl; now = same })
      in
      ap (λ heard. answer_of (verdict heard) master (call_of message) (effect event (book_of fixed a)))
      (heard_same laws fixed border a b same kinds closed chip message (configured_place fixed.object master) parts.0 parts.1)
      ∙ after_same laws fixed border (effect event (book_of fixed a)).now (effect event (book_of fixed b)).now after.now kinds closed chip
      (verdict (call_in master (call_of message) (book_of fixed b))) master (call_of message) parts.0 parts.1
  answers_by _ sound_a sound_b is = refl

-- ---- books

pub drops_agree : BelowLaws → (border : Border) (event : Event) (a b : State) → Agree border a b → sender_beyond a.fixed.object border event ≡ true
    → is_dropped (outputs event a).answer ≡ is_dropped (outputs event b).answer
drops_agree laws border event a b agree beyond =
    let P : Fixed → Type 0 = λ fixed. is_dropped (outputs event a).answer ≡ is_dropped (outputs event (book_of fixed b.now)).answer in
    subst P agree.fixed (drops_by laws a.fixed border a.now b.now agree.now event beyond)

pub answers_agree : BelowLaws → KindLaws → (border : Border) (event : Event) (a b : State) → IsWellFormed a.fixed.topology
    → IsClosed a.fixed border → IsSound a → IsSound b → Agree border a b
    → message_beyond a.fixed.object a.fixed.topology border event ≡ true
    → (outputs event a).answer ≡ (outputs event b).answer
answers_agree laws kinds border event a b chip closed sound_a sound_b agree is =
    let P : Fixed → Type 0 = λ fixed. IsSound (book_of fixed b.now)
    → (outputs event a).answer ≡ (outputs event (book_of fixed b.now)).answer
    in
    subst P agree.fixed (λ sound. answers_by laws kinds a.fixed border closed chip a.now b.now agree.now event sound_a sound is) sound_b
