-- The messages that are dropped, those without an answer, and the answers of the others.
use Rattle.std.proofs.Common.{◌≡◌, ◌↔◌, ◌⊎◌, inl, inr, ℕ, Bool, true, false, not, ◌&&◌, ◌==◌, if◌then◌else◌, List, Option, Some, None, refl, sym, ◌∙◌, ap}
use Rattle.std.specs.Prelude.{is_some, option_and_then, option_map}
use Rattle.std.proofs.lemmas.Bool.{eqb-true}
use Rattle.pm_base.specs.declared.events.Event.{Event}
use Rattle.pm_base.specs.declared.events.Event.TheVariants.{Ipi}
use Rattle.pm_base.specs.declared.events.Message.{Message}
use Rattle.pm_base.specs.declared.names.Mode.{Mode}
use Rattle.pm_base.specs.declared.names.Mode.TheVariants.{Off, Active, Asleep, Suspending}
use Rattle.pm_base.specs.declared.names.NodeId.{NodeId}
use Rattle.pm_procs.specs.Modes.{is_awake}
use Rattle.pm_ipi.specs.declared.calls.AckKind.{AckKind}
use Rattle.pm_ipi.specs.declared.calls.AckKind.TheVariants.{No, Blocking, NonBlocking}
use Rattle.pm_ipi.specs.declared.calls.Call.{Call}
use Rattle.pm_ipi.specs.declared.calls.Call.TheVariants.{RegisterNotifier, RequestSuspend, SystemShutdown}
use Rattle.pm_ipi.specs.declared.responses.Response.{Response}
use Rattle.pm_ipi.specs.Calls.{ack_kind, ack_of, acknowledge_of, call_of, kind_by, kind_or_reply, node_of}
use Rattle.pm_calls.specs.declared.verdict.Asked.{Asked}
use Rattle.pm_calls.specs.declared.verdict.Effects.{Effects}
use Rattle.pm_calls.specs.declared.verdict.Say.{Say}
use Rattle.pm_calls.specs.declared.verdict.Say.TheVariants.{Ask}
use Rattle.pm_calls.specs.Checks.{AllHold, Cause, Fits, Stands}
use Rattle.pm_calls.specs.Verdict.{Called, asked_by, response_of, response_to, verdict_by, verdict_of}
use Rattle.pm_calls.specs.calls.RegisterNotifier.{notifier_put}
use Rattle.pm_calls.specs.calls.RequestSuspend.{asked_of}
use Rattle.pm_calls.specs.calls.SystemShutdown.{renewal, restarts_all}
use Rattle.pm_calls.proofs.Verdicts.{all_hold, mapped, none_fails}
use Rattle.pm_notify.specs.Notes.{event_of}
use Rattle.pm_ipi.specs.Responses.{success}
use Rattle.pm_core.specs.declared.replies.Answer.{Answer}
use Rattle.pm_core.specs.declared.replies.Answer.TheVariants.{Silent, Drop}
use Rattle.pm_state.specs.Members.{mode_of_master}
use Rattle.pm_state.specs.State.{State}
use Rattle.pm_calls.specs.calls.{called}
use Rattle.pm_core.specs.Step.{acknowledged, answer_of, answer_to, answered, call_in, effect, call_at, verdict}
use Rattle.pm_state.specs.Values.{master_place}
use Rattle.pm_state.specs.Nodes.{master_mode, master_mode_at}
use Rattle.pm_calls.specs.Views.{suspend_view}
use Rattle.pm_causes.specs.Answers.{IsDropped, IsHeard, IsSilent, IsUnanswered, IsUnheard, is_request_to_suspend, told}
use Rattle.pm_causes.specs.Causes.{cause, checks_of, response as told_response, status, status_in, words_in}

-- ---- acknowledge kind 1

wants_nothing : (ack : ℕ) → kind_or_reply (ack_kind ack) ≡ No → Some ack ≡ Some 1
wants_nothing ack is = ap Some (eqb-true ack 1 (by (ack == 1) (ack == 2) (ack == 3) is)) where
  by : (a b c : Bool) → kind_or_reply (if a then Some No else if b then Some Blocking else if c then Some NonBlocking else None) ≡ No → a ≡ true
  by true b c is = refl
  by false true c is = cc
  by false false true is = cc
  by false false false is = cc

word_wants : (word : Option ℕ) → kind_by word ≡ No → word ≡ Some 1
word_wants None is = cc
word_wants (Some ack) is = wants_nothing ack is

acknowledges_one : (call : Call) → ack_of call ≡ No → acknowledge_of call ≡ Some 1
acknowledges_one call is = word_wants (acknowledge_of call) is

one_acknowledges : (call : Call) → acknowledge_of call ≡ Some 1 → ack_of call ≡ No
one_acknowledges call is = ap kind_by is

-- ---- the answer to a heard call

module _ (master : NodeId) (call : Call) (after : State) where
  silent_kind : (response : Response) (kind : AckKind) (node : NodeId) → acknowledged kind master node response after ≡ Silent → kind ≡ No
  silent_kind response No node is = refl
  silent_kind response _ node is = cc

  silent_by : (response : Option Response) → answered response master call after ≡ Silent → (response ≡ None) ⊎ (ack_of call ≡ No)
  silent_by None is = inl refl
  silent_by (Some response) is = inr (silent_kind response (ack_of call) (node_of call) is)

  kind_silent : (response : Option Response) → ack_of call ≡ No → answered response master call after ≡ Silent
  kind_silent None is = refl
  kind_silent (Some response) is = ap (λ kind. acknowledged kind master (node_of call) response after) is

  kind_stays : (response : Response) (kind : AckKind) (node to : NodeId) → acknowledged kind master node response after ≡ Drop to → ⊥
  kind_stays response No node to is = cc
  kind_stays response _ node to is = cc

  -- it isn't dropped
  stays : (response : Option Response) (to : NodeId) → answered response master call after ≡ Drop to → ⊥
  stays None to is = cc
  stays (Some response) to is = kind_stays response (ack_of call) (node_of call) to is

  -- it is told a status, or nothing
  abbrev Tells : Answer → ℕ → Type 0
  Tells answer status = (answer ≡ Silent) ⊎ (told answer ≡ Some (master, status))

  kind_told : (response : Response) (kind : AckKind) (node : NodeId) → Tells (acknowledged kind master node response after) response.status
  kind_told response No node = inl refl
  kind_told response _ node = inr refl

  accepted_told : (says : Option Say) (words : List ℕ) → Tells (answered (response_to says words) master call after) 0
  accepted_told (Some (Ask asked)) words = inl refl
  accepted_told _ words = kind_told (success words) (ack_of call) (node_of call)

  tells : (cause : Cause) (effects : Effects) → Tells (answered (response_of (verdict_by cause effects)) master call after) (status_in (verdict_by cause effects))
  tells (Stands Fits) effects = accepted_told effects.says effects.words
  tells _ effects = kind_told _ (ack_of call) (node_of call)

  -- it is given in the form of the acknowledge kind, or there is none
  abbrev Forms : Answer → Response → Type 0
  Forms answer response = (answer ≡ Silent) ⊎ (answer ≡ acknowledged (ack_of call) master (node_of call) response after)

  accepted_forms : (says : Option Say) (words : List ℕ) → Forms (answered (response_to says words) master call after) (success words)
  accepted_forms (Some (Ask asked)) words = inl refl
  accepted_forms _ words = inr refl

  forms : (cause : Cause) (effects : Effects)
      → Forms (answered (response_of (verdict_by cause effects)) master call after)
      (record { status = status_in (verdict_by cause effects); words = words_in (verdict_by cause effects) })
  forms (Stands Fits) effects = accepted_forms effects.says effects.words
  forms _ effects = inr refl

  not_dropped : (cause : Cause) (effects : Effects) → answer_of (verdict_by cause effects) master call after ≡ answered (response_of (verdict_by cause effects)) master call after
  not_dropped (Stands Fits) effects = refl
  not_dropped _ effects = refl

-- ---- which call asks a master to suspend

asks_none : (says : Option Say) (words : List ℕ) → response_to says words ≡ None → is_some (asked_by says) ≡ true
asks_none (Some (Ask asked)) words is = refl
asks_none _ words is = cc

none_by : (cause : Cause) (effects : Effects) → response_of (verdict_by cause effects) ≡ None → (cause ≡ Stands Fits) × (is_some (asked_by effects.says) ≡ true)
none_by (Stands Fits) effects is = (refl, asks_none effects.says effects.words is)
none_by _ effects is = cc

renewal_asks : (all : Bool) → is_some (asked_by (renewal all)) ≡ true → ⊥
renewal_asks true is = cc
renewal_asks false is = cc

-- it is a request to suspend
request_of : (m : ℕ) (call : Call) (book : State) → is_some (asked_by (called m call book).effects.says) ≡ true → is_request_to_suspend call ≡ true
request_of m (RequestSuspend node ack latency state) book is = refl
request_of m (RegisterNotifier node event wake enable) book is =
    absurd (mapped (λ says. is_some (asked_by says) ≡ true → ⊥) (notifier_put m node enable) (event_of event) (λ none. cc) (λ put some. cc) is)
request_of m (SystemShutdown shutdown_type subtype) book is = absurd (renewal_asks (restarts_all shutdown_type subtype) is)
request_of m _ book is = cc

asked_none : {X : Type 0} (f : X → Asked) (o : Option X) (words : List ℕ) → is_some o ≡ true → response_to (option_map (λ x. Ask (f x)) o) words ≡ None
asked_none f None words is = cc
asked_none f (Some x) words is = refl

request_waits : (m : ℕ) (call : Call) (book : State) → is_request_to_suspend call ≡ true → AllHold (checks_of m call book) → response_to (called m call book).effects.says (called m call book).effects.words ≡ None
request_waits m (RequestSuspend node ack latency state) book is all =
    asked_none (asked_of m node ack latency state) (suspend_view m node book).target _ all.permitted
request_waits m _ book is all = cc

module _ (m : ℕ) (call : Call) (book : State) where
  -- the response that it is given now
  abbrev response : Option Response
  response = response_of (verdict_of (called m call book))

  unanswered : (master : NodeId) (after : State) → answered response master call after ≡ Silent → IsUnanswered m call book
  unanswered master after silent = by (silent_by master call after response silent) where
    by : (response ≡ None) ⊎ (ack_of call ≡ No) → IsUnanswered m call book
    by (inl none) =
        let parts = none_by (cause m call book) (called m call book).effects none in
        inl (request_of m call book parts.1, all_hold (checks_of m call book) parts.0)
    by (inr nothing) = inr (acknowledges_one call nothing)

  silent : (master : NodeId) (after : State) → IsUnanswered m call book → answered response master call after ≡ Silent
  silent master after (inl accepted) =
      ap (λ r. answered r master call after)
      (ap (λ c. response_of (verdict_by c (called m call book).effects)) (none_fails (checks_of m call book) accepted.1)
      ∙ request_waits m call book accepted.0 accepted.1)
  silent master after (inr one) = kind_silent master call after response (one_acknowledges call one)

-- ---- who is heard

heard_if : (halted awake : Bool) (call : Called) → halted ≡ false → awake ≡ true → (if not halted && awake then Some call else None) ≡ Some call
heard_if false true call running woken = refl
heard_if true awake call running woken = cc
heard_if false false call running woken = cc

unheard_if : (halted awake : Bool) (call : Called) → (halted ≡ true) ⊎ (awake ≡ false) → (if not halted && awake then Some call else None) ≡ None
unheard_if true awake call is = refl
unheard_if false false call is = refl
unheard_if false true call (inl is) = cc
unheard_if false true call (inr is) = cc

module _ (sender : NodeId) (message : Message) (book : State) where
  abbrev call : Call
  call = call_of message

  abbrev event : Event
  event = Ipi sender message

  heard_call : (m : ℕ) → IsHeard sender m book → call_in sender call book ≡ Some (called m call book)
  heard_call m heard =
      ap (option_and_then (call_at call book)) heard.place
      ∙ heard_if book.now.core.halted (is_awake (mode_of_master book.fixed book.now.core m)) (called m call book) heard.running (by heard.mode)
    where
      by : (master_mode sender book ≡ Active) ⊎ (master_mode sender book ≡ Suspending) → is_awake (mode_of_master book.fixed book.now.core m) ≡ true
      by (inl is) = ap is_awake (sym (ap (λ place. master_mode_at place book) heard.place) ∙ is)
      by (inr is) = ap is_awake (sym (ap (λ place. master_mode_at place book) heard.place) ∙ is)

  pub heard_answer : (m : ℕ) → IsHeard sender m book → answer_to event book ≡ answered (response m call book) sender call (effect event book)
  heard_answer m heard =
      ap (λ x. answer_of (verdict x) sender call (effect event book)) (heard_call m heard)
      ∙ not_dropped sender call (effect event book) (cause m call book) (called m call book).effects

  unheard_at : (place : Option ℕ)
      → (place ≡ None) ⊎ (master_mode_at place book ≡ Asleep) ⊎ (master_mode_at place book ≡ Off) ⊎ (book.now.core.halted ≡ true)
      → option_and_then (call_at call book) place ≡ None
  unheard_at None is = refl
  unheard_at (Some m) (inl is) = cc
  unheard_at (Some m) (inr (inl is)) = unheard_if book.now.core.halted _ (called m call book) (inr (ap is_awake is))
  unheard_at (Some m) (inr (inr (inl is))) = unheard_if book.now.core.halted _ (called m call book) (inr (ap is_awake is))
  unheard_at (Some m) (inr (inr (inr is))) = unheard_if book.now.core.halted (is_awake (mode_of_master book.fixed book.now.core m)) (called m call book) (inl is)

  unheard_answer : IsUnheard sender book → answer_to event book ≡ Drop sender
  unheard_answer is = ap (λ x. answer_of (verdict x) sender call (effect event book)) (unheard_at (master_place sender book) is)

  -- a sender is heard or not
  heard_or_not : IsUnheard sender book ⊎ ((m : ℕ) × IsHeard sender m book)
  heard_or_not = by (master_place sender book) refl (master_mode sender book) refl book.now.core.halted refl where
    by : (place : Option ℕ) → master_place sender book ≡ place → (mode : Mode) → master_mode sender book ≡ mode → (halted : Bool) → book.now.core.halted ≡ halted
        → IsUnheard sender book ⊎ ((m : ℕ) × IsHeard sender m book)
    by None place mode mode_is halted halted_is = inl (inl place)
    by (Some m) place Asleep mode_is halted halted_is = inl (inr (inl mode_is))
    by (Some m) place Off mode_is halted halted_is = inl (inr (inr (inl mode_is)))
    by (Some m) place Active mode_is true halted_is = inl (inr (inr (inr halted_is)))
    by (Some m) place Suspending mode_is true halted_is = inl (inr (inr (inr halted_is)))
    by (Some m) place Active mode_is false halted_is = inr (m, record { place = place; mode = inl mode_is; running = halted_is })
    by (Some m) place Suspending mode_is false halted_is = inr (m, record { place = place; mode = inr mode_is; running = halted_is })

-- ---- the answers

dropped_same : (sender master : NodeId) → Drop sender ≡ Drop master → sender ≡ master
dropped_same sender master is = cc

drop_speaks : (sender : NodeId) → Drop sender ≡ Silent → ⊥
drop_speaks sender is = cc

drops : (event : Event) (book : State) (master : NodeId) → answer_to event book ≡ Drop master → IsDropped master event book
drops (Ipi sender message) book master is = by (heard_or_not sender message book) where
  by : IsUnheard sender book ⊎ ((m : ℕ) × IsHeard sender m book) → (sender ≡ master) × IsUnheard sender book
  by (inl unheard) = (dropped_same sender master (sym (unheard_answer sender message book unheard) ∙ is), unheard)
  by (inr heard) =
      absurd (stays sender (call_of message) (effect (Ipi sender message) book) (response heard.0 (call_of message) book) master (sym (heard_answer sender message book heard.0 heard.1) ∙ is))
drops _ book master is = cc

dropped_by : (event : Event) (book : State) (master : NodeId) → IsDropped master event book → answer_to event book ≡ Drop master
dropped_by (Ipi sender message) book master is = unheard_answer sender message book is.1 ∙ ap Drop is.0
dropped_by _ book master is = absurd is

pub dropped : (event : Event) (book : State) (master : NodeId) → (answer_to event book ≡ Drop master) ↔ IsDropped master event book
dropped event book master = (drops event book master, dropped_by event book master)

silences : (event : Event) (book : State) → answer_to event book ≡ Silent → IsSilent event book
silences (Ipi sender message) book is = by (heard_or_not sender message book) where
  by : IsUnheard sender book ⊎ ((m : ℕ) × IsHeard sender m book) → IsSilent (Ipi sender message) book
  by (inl unheard) = absurd (drop_speaks sender (sym (unheard_answer sender message book unheard) ∙ is))
  by (inr heard) =
      (heard.0, heard.1, unanswered heard.0 (call_of message) book sender (effect (Ipi sender message) book) (sym (heard_answer sender message book heard.0 heard.1) ∙ is))
silences _ book is = tt

silent_of : (event : Event) (book : State) → IsSilent event book → answer_to event book ≡ Silent
silent_of (Ipi sender message) book is =
    heard_answer sender message book is.0 is.1 ∙ silent is.0 (call_of message) book sender (effect (Ipi sender message) book) is.2
silent_of _ book is = refl

pub silenced : (event : Event) (book : State) → (answer_to event book ≡ Silent) ↔ IsSilent event book
silenced event book = (silences event book, silent_of event book)

told_by : (shown now : Answer) (tells : Option (NodeId × ℕ)) → shown ≡ now → (now ≡ Silent) ⊎ (told now ≡ tells) → (shown ≡ Silent) ⊎ (told shown ≡ tells)
told_by shown now tells same (inl is) = inl (same ∙ is)
told_by shown now tells same (inr is) = inr (ap told same ∙ is)

pub told_status : (sender : NodeId) (message : Message) (m : ℕ) (book : State) → IsHeard sender m book
    → (answer_to (Ipi sender message) book ≡ Silent) ⊎ (told (answer_to (Ipi sender message) book) ≡ Some (sender, status m (call_of message) book))
told_status sender message m book heard =
    told_by (answer_to (Ipi sender message) book) _ (Some (sender, status m (call_of message) book)) (heard_answer sender message book m heard)
    (tells sender (call_of message) (effect (Ipi sender message) book) (cause m (call_of message) book) (called m (call_of message) book).effects)

formed_by : (shown now form : Answer) → shown ≡ now → (now ≡ Silent) ⊎ (now ≡ form) → (shown ≡ Silent) ⊎ (shown ≡ form)
formed_by shown now form same (inl is) = inl (same ∙ is)
formed_by shown now form same (inr is) = inr (same ∙ is)

pub formed : (sender : NodeId) (message : Message) (m : ℕ) (book : State) → IsHeard sender m book
    → (answer_to (Ipi sender message) book ≡ Silent)
    ⊎ (answer_to (Ipi sender message) book
    ≡ acknowledged (ack_of (call_of message)) sender (node_of (call_of message)) (told_response m (call_of message) book) (effect (Ipi sender message) book))
formed sender message m book heard =
    formed_by (answer_to (Ipi sender message) book) _ _ (heard_answer sender message book m heard)
    (forms sender (call_of message) (effect (Ipi sender message) book) (cause m (call_of message) book) (called m (call_of message) book).effects)
