-- What a message has the masters told, and which reset line it pulses: of a hidden one nothing is seen, and any other does the same
-- in two books that agree.
use Rattle.std.proofs.Common.{◌≡◌, ℕ, ◌==◌, ◌||◌, Bool, true, false, not, if◌then◌else◌, [], ◌∷◌, is_some, Option, Some, None, refl, sym, ◌∙◌, ap, subst, inl, inr}
use Rattle.std.specs.Prelude.{⊤, option_and_then, option_map}
use Rattle.std.proofs.lemmas.Bool.{eqb-true}
use Rattle.pm_laws.proofs.Common.{BelowLaws, Border, Called, Event, Fixed, Ipi, IsBeyond, IsTalkUnseen, NodeId, Now, Same, State, Topology, aborted_by, asked_by, asks_beyond, called, can_suspend, changes_within, call_at, may_call, is_hidden, is_place, is_within, line_beyond, master_place, named_master, pulse, pulse_of, says, says_of, shape_within, suspendable, suspendable_at, verdict, verdict_by, verdict_of}
use Rattle.pm_base.specs.declared.names.LineId.{LineId}
use Rattle.pm_base.proofs.Booleans.{both, either, neither}
use Rattle.pm_grants.specs.Grants.{permits_configure, permits_suspend}
use Rattle.pm_ipi.specs.declared.calls.Call.{Call}
use Rattle.pm_ipi.specs.Calls.{call_of}
use Rattle.pm_notify.specs.Notes.{event_of}
use Rattle.pm_calls.specs.declared.verdict.Effects.{Effects}
use Rattle.pm_calls.specs.declared.verdict.Say.{Say}
use Rattle.pm_calls.specs.declared.verdict.Say.TheVariants.{Ask as SaysAsk, Abort as SaysAbort, Register as SaysRegister, Renew as SaysRenew, Unwatch as SaysUnwatch}
use Rattle.pm_calls.specs.declared.verdict.Verdict.{Verdict}
use Rattle.pm_calls.specs.Checks.{AllHold, Cause, Fits, Stands, first_failing}
use Rattle.pm_calls.specs.ResetLines.{can_reset}
use Rattle.pm_state.specs.State.{grants_in}
use Rattle.pm_state.specs.Talk.{Ask, Notify, Renew, Talk, Unwatch}
use Rattle.pm_tell.specs.Opening.{sweep_by, say_by}
use Rattle.pm_state.specs.Values.{line_place}
use Rattle.pm_calls.specs.calls.RegisterNotifier.{notifier_put}
use Rattle.pm_calls.specs.calls.RequestSuspend.{target_asked}
use Rattle.pm_calls.specs.calls.ResetAssert.{pulsed}
use Rattle.pm_calls.specs.calls.SystemShutdown.{renewal, restarts_all}
use Rattle.pm_calls.proofs.Verdicts.{all_hold, mapped}
use Rattle.pm_laws.specs.Pulse.{pulse_beyond}
use Rattle.pm_calls.specs.calls.{shape_of}
use Rattle.pm_calls.specs.Shapes.{Shape, Node_status, Node_figures, Line_value, Own_row, Own_arming, Own_abort, Own_notifier, Other_wakeup, Other_suspend, All_shut, All_reset, All_configured, shaped}
use Rattle.pm_calls.proofs.ShapeLaw.{called_shaped}
use Rattle.pm_laws.proofs.ShapesLaw.{reads_within}
use Rattle.pm_laws.proofs.CallsAlike.{book_of, called_same, kept}
use Rattle.pm_laws.proofs.CallsHidden.{turned}
use Rattle.pm_laws.proofs.DownHidden.{may_shut_down, none_beyond}
use Rattle.pm_laws.proofs.MayCallLaw.{heard_same}
use Rattle.pm_laws.proofs.HiddenLemmas.{HasClosed, by_one, within_by}
use Rattle.pm_laws.proofs.ResetLaw.{line_within}

-- ---- what is told within

-- no master beyond is told of it
abbrev pub SaysWithin : Border → Option Say → Type 0
SaysWithin border None = ⊤
SaysWithin border (Some (SaysAsk asked)) = border.master asked.target ≡ false
SaysWithin border (Some (SaysAbort m)) = border.master m ≡ false
SaysWithin border (Some (SaysRegister put)) = border.master put.master ≡ false
SaysWithin border (Some SaysRenew) = border.some ≡ false
SaysWithin border (Some SaysUnwatch) = border.some ≡ false

one_unseen : (change : Talk) (seen : Bool) → seen ≡ false → (if seen then change ∷ [] else []) ≡ []
one_unseen change true within = cc
one_unseen change false within = refl

pub renewal_unseen : (border : Border) (says : Option Say) → SaysWithin border says → IsTalkUnseen border (sweep_by says)
renewal_unseen border None within = refl
renewal_unseen border (Some (SaysAsk asked)) within = refl
renewal_unseen border (Some (SaysAbort m)) within = refl
renewal_unseen border (Some (SaysRegister put)) within = refl
renewal_unseen border (Some SaysRenew) within = one_unseen Renew border.some within
renewal_unseen border (Some SaysUnwatch) within = one_unseen Unwatch border.some within

pub say_unseen : (border : Border) (says : Option Say) → SaysWithin border says → IsTalkUnseen border (say_by says)
say_unseen border None within = refl
say_unseen border (Some (SaysAsk asked)) within = one_unseen (Ask asked.target asked.request) (border.master asked.target) within
say_unseen border (Some (SaysAbort m)) within = refl
say_unseen border (Some (SaysRegister put)) within = one_unseen (Notify put.master put.node put.event put.on) (border.master put.master) within
say_unseen border (Some SaysRenew) within = refl
say_unseen border (Some SaysUnwatch) within = refl

pub none_asked : (border : Border) (says : Option Say) → SaysWithin border says → asks_beyond border (asked_by says) ≡ None
none_asked border None within = refl
none_asked border (Some (SaysAsk asked)) within = ap (λ b. if b then Some asked else None) within
none_asked border _ within = refl

pub none_aborts : (border : Border) (says : Option Say) → SaysWithin border says → (k : ℕ) → IsBeyond border k → is_place k (aborted_by says) ≡ false
none_aborts border None within k beyond = refl
none_aborts border (Some (SaysAsk asked)) within k beyond = refl
none_aborts border (Some (SaysAbort m)) within k beyond = within_by (m == k) (border.master m) (λ same. ap border.master (eqb-true m k same) ∙ beyond) within
none_aborts border _ within k beyond = refl

-- ---- one call

-- a verdict of which nothing is seen besides the stages
pub record IsWithin (t : Topology) (border : Border) (v : Verdict) : Type 0 where
  pub says : SaysWithin border (says_of v)
  pub pulse : pulse_beyond t border (pulse_of v) ≡ None

-- what a call does is within
abbrev DoesWithin : Topology → Border → Effects → Type 0
DoesWithin t border effects = SaysWithin border effects.says × (pulse_beyond t border effects.pulse ≡ None)

within_for : (t : Topology) (border : Border) (cause : Cause) (effects : Effects) → (cause ≡ Stands Fits → DoesWithin t border effects) → IsWithin t border (verdict_by cause effects)
within_for t border (Stands Fits) effects does = let all = does refl in record { says = all.0; pulse = all.1 }
within_for t border _ effects does = record { says = tt; pulse = refl }

call_within : (t : Topology) (border : Border) (call : Called) → (AllHold call.checks → DoesWithin t border call.effects) → IsWithin t border (verdict_of call)
call_within t border call does =
    within_for t border (first_failing call.checks) call.effects (λ fits. does (all_hold call.checks fits))

module _ (border : Border) (book : State) where
  may_ask : (m ack latency state k : ℕ) (node : NodeId) (can : Bool) → (can ≡ true → border.master k ≡ false) → SaysWithin border (option_map (target_asked m node ack latency state) (if can then Some (suspendable_at k book) else None))
  may_ask m ack latency state k node false within = tt
  may_ask m ack latency state k node true within = within refl

  -- a master within is asked, or none is
  asks_within : (m ack latency state : ℕ) (node : NodeId) (named : Option ℕ) → ((k : ℕ) → named ≡ Some k → can_suspend m k book ≡ true → border.master k ≡ false) → SaysWithin border (option_map (target_asked m node ack latency state) (suspendable m named book))
  asks_within m ack latency state node None within = tt
  asks_within m ack latency state node (Some k) within = may_ask m ack latency state k node (can_suspend m k book) (within k refl)

  renewal_within : (all : Bool) → (all ≡ true → border.some ≡ false) → SaysWithin border (renewal all)
  renewal_within true none = none refl
  renewal_within false none = tt

  -- a restart is no scope
  no_scope : (shutdown_type : ℕ) → (shutdown_type == 1) ≡ true → (shutdown_type == 2) ≡ false
  no_scope shutdown_type is = ap (λ n. n == 2) (eqb-true shutdown_type 1 is)

  -- the pulse of a line within isn't seen
  pulse_within : (line : LineId) (l : ℕ) (pulses : Bool) → line_place line book.fixed ≡ Some l → border.line l ≡ false → pulse_beyond book.fixed.topology border (if pulses then Some line else None) ≡ None
  pulse_within line l true at within = ap (λ b. if b then Some line else None) (ap (line_beyond border) at ∙ within)
  pulse_within line l false at within = refl

  placed_pulse : (m : ℕ) (line : LineId) (action : ℕ) (place : Option ℕ) → HasClosed border book → border.master m ≡ false → line_place line book.fixed ≡ place → is_some place ≡ true → can_reset m place book ≡ true → pulse_beyond book.fixed.topology border (pulsed action line) ≡ None
  placed_pulse m line action None closed within at some may = cc
  placed_pulse m line action (Some l) closed within at some may =
      pulse_within line l (action == 2) at (line_within border book closed m l may within)

  -- a call of a master within
  caller_within : (m : ℕ) (shape : Shape) → HasClosed border book → border.master m ≡ false → IsWithin book.fixed.topology border (verdict_of (shaped m shape book))
  caller_within m (Other_suspend node ack latency state) closed within =
      call_within book.fixed.topology border (shaped m (Other_suspend node ack latency state) book)
      (λ all. (asks_within m ack latency state node (named_master book.fixed node) (λ k named may. within_by (border.master k) (border.master m) (closed.closed.suspends m k (by_one book (λ g. permits_suspend g m k) closed.force may)) within), refl))
  caller_within m (Own_abort node reason) closed within =
      call_within book.fixed.topology border (shaped m (Own_abort node reason) book) (λ all. (within, refl))
  caller_within m (Own_notifier node event enable) closed within =
      call_within book.fixed.topology border (shaped m (Own_notifier node event enable) book)
      (λ all. (mapped (SaysWithin border) (notifier_put m node enable) (event_of event) tt (λ put. within), refl))
  caller_within m (All_shut shutdown_type subtype) closed within =
      call_within book.fixed.topology border (shaped m (All_shut shutdown_type subtype) book)
      (λ all. (
        renewal_within (restarts_all shutdown_type subtype)
            (λ restart. let parts = both (shutdown_type == 1) (not (subtype == 0)) restart in
            none_beyond border book m subtype closed within (turned (subtype == 0) parts.1)
            (may_shut_down (grants_in book) m shutdown_type subtype (no_scope shutdown_type parts.0) all)),
        refl,
      ))
  caller_within m (All_reset line action) closed within =
      call_within book.fixed.topology border (shaped m (All_reset line action) book)
      (λ all. (tt, placed_pulse m line action (line_place line book.fixed) closed within refl all.node all.permitted))
  caller_within m (All_configured address) closed within =
      call_within book.fixed.topology border (shaped m (All_configured address) book)
      (λ all. (within_by border.some (border.master m) (closed.closed.configures m (by_one book (λ g. permits_configure g m) closed.force all.permitted)) within, refl))
  caller_within m shape closed within = call_within book.fixed.topology border (shaped m shape book) (λ all. (tt, refl))

  -- a call that changes a row on a slave within, or wakes or asks a master within
  target_within : (m : ℕ) (shape : Shape) → shape_within border shape book ≡ true → IsWithin book.fixed.topology border (verdict_of (shaped m shape book))
  target_within m (Own_row node by call) is = call_within book.fixed.topology border (shaped m (Own_row node by call) book) (λ all. (tt, refl))
  target_within m (Other_wakeup node address ack) is =
      call_within book.fixed.topology border (shaped m (Other_wakeup node address ack) book) (λ all. (tt, refl))
  target_within m (Other_suspend node ack latency state) is =
      call_within book.fixed.topology border (shaped m (Other_suspend node ack latency state) book)
      (λ all. (asks_within m ack latency state node (named_master book.fixed node) (λ k named may. turned (border.master k) (ap (is_within border) (sym named) ∙ is)), refl))
  target_within m _ is = cc

  by_shape : (m : ℕ) (call : Call) → IsWithin book.fixed.topology border (verdict_of (shaped m (shape_of call) book)) → IsWithin book.fixed.topology border (verdict_of (called m call book))
  by_shape m call within =
      subst (λ x. IsWithin book.fixed.topology border (verdict_of x)) (sym (called_shaped m call book)) within

  heard_within : (call : Called) (heard : Bool) → IsWithin book.fixed.topology border (verdict_of call) → IsWithin book.fixed.topology border (verdict (if heard then Some call else None))
  heard_within call true within = within
  heard_within call false within = record { says = tt; pulse = refl }

  message_within : (call : Call) (place : Option ℕ) → HasClosed border book → (is_within border place || changes_within border call book) ≡ true → IsWithin book.fixed.topology border (verdict (option_and_then (call_at call book) place))
  message_within call None closed is = record { says = tt; pulse = refl }
  message_within call (Some m) closed is =
      heard_within (called m call book) (may_call m book)
      (elim (either (not (border.master m)) (changes_within border call book) is) [
        | inl within ↦ by_shape m call (caller_within m (shape_of call) closed (turned (border.master m) within))
        | inr target ↦ by_shape m call (target_within m (shape_of call) target)
      ])

  -- a hidden event
  pub event_within : (event : Event) → HasClosed border book → is_hidden border event book ≡ true → SaysWithin border (says event book)
  event_within (Ipi master message) closed is = (message_within (call_of message) (master_place master book) closed is).says
  event_within _ closed is = tt

  pub pulse_hidden : (event : Event) → HasClosed border book → is_hidden border event book ≡ true → pulse_beyond book.fixed.topology border (pulse event book) ≡ None
  pulse_hidden (Ipi master message) closed is = (message_within (call_of message) (master_place master book) closed is).pulse
  pulse_hidden _ closed is = refl

-- ---- alike

-- two verdicts by which the same is told and the same line is pulsed
record AreSame (v w : Verdict) : Type 0 where
  pub says : says_of v ≡ says_of w
  pub pulse : pulse_of v ≡ pulse_of w

equal_calls : (x y : Called) → x ≡ y → AreSame (verdict_of x) (verdict_of y)
equal_calls x y is =
    record { says = ap (λ call. says_of (verdict_of call)) is; pulse = ap (λ call. pulse_of (verdict_of call)) is }

-- a call that has nothing told and pulses nothing, whether it is refused or not
record IsQuiet (v : Verdict) : Type 0 where
  pub says : says_of v ≡ None
  pub pulse : pulse_of v ≡ None

quiet_by : (cause : Cause) (effects : Effects) → effects.says ≡ None → effects.pulse ≡ None → IsQuiet (verdict_by cause effects)
quiet_by (Stands Fits) effects says pulse = record { says = says; pulse = pulse }
quiet_by _ effects says pulse = record { says = refl; pulse = refl }

both_quiet : (x y : Called) → x.effects.says ≡ None → x.effects.pulse ≡ None → y.effects.says ≡ None → y.effects.pulse ≡ None → AreSame (verdict_of x) (verdict_of y)
both_quiet x y says pulse tells line =
    let one = quiet_by (first_failing x.checks) x.effects says pulse in
    let two = quiet_by (first_failing y.checks) y.effects tells line in
    record { says = one.says ∙ sym two.says; pulse = one.pulse ∙ sym two.pulse }

heard_alike : (x y : Called) (one two : Bool) → one ≡ two → AreSame (verdict_of x) (verdict_of y) → AreSame (verdict (if one then Some x else None)) (verdict (if two then Some y else None))
heard_alike x y true true is same = same
heard_alike x y true false is same = cc
heard_alike x y false true is same = cc
heard_alike x y false false is same = record { says = refl; pulse = refl }

-- a call that can read what is within has nothing told, and pulses nothing
quiet_shape : (m : ℕ) (shape : Shape) (a b : State) → reads_within shape ≡ true → AreSame (verdict_of (shaped m shape a)) (verdict_of (shaped m shape b))
quiet_shape m (Node_status node call) a b reads = both_quiet (shaped m (Node_status node call) a) (shaped m (Node_status node call) b) refl refl refl refl
quiet_shape m (Node_figures node call) a b reads = both_quiet (shaped m (Node_figures node call) a) (shaped m (Node_figures node call) b) refl refl refl refl
quiet_shape m (Line_value line call) a b reads = both_quiet (shaped m (Line_value line call) a) (shaped m (Line_value line call) b) refl refl refl refl
quiet_shape m (Own_arming target source enable) a b reads =
    both_quiet (shaped m (Own_arming target source enable) a) (shaped m (Own_arming target source enable) b) refl refl refl refl
quiet_shape m _ a b reads = cc

module _ (laws : BelowLaws) (fixed : Fixed) (border : Border) (a b : Now) (same : Same fixed border a b) where
  calls_alike : (m : ℕ) (call : Call) → IsBeyond border m → changes_within border call (book_of fixed a) ≡ false → AreSame (verdict_of (called m call (book_of fixed a))) (verdict_of (called m call (book_of fixed b)))
  calls_alike m call beyond plain = by (reads_within (shape_of call)) refl
    where
      by : (reads : Bool) → reads_within (shape_of call) ≡ reads → AreSame (verdict_of (called m call (book_of fixed a))) (verdict_of (called m call (book_of fixed b)))
      by false blind = equal_calls (called m call (book_of fixed a)) (called m call (book_of fixed b)) (called_same laws fixed border m a b beyond same call blind plain)
      by true reads =
          subst (λ y. AreSame (verdict_of (called m call (book_of fixed a))) (verdict_of y)) (sym (called_shaped m call (book_of fixed b)))
          (subst (λ x. AreSame (verdict_of x) (verdict_of (shaped m (shape_of call) (book_of fixed b)))) (sym (called_shaped m call (book_of fixed a)))
          (quiet_shape m (shape_of call) (book_of fixed a) (book_of fixed b) reads))

  message_alike : (call : Call) (place : Option ℕ) → (is_within border place || changes_within border call (book_of fixed a)) ≡ false → AreSame (verdict (option_and_then (call_at call (book_of fixed a)) place)) (verdict (option_and_then (call_at call (book_of fixed b)) place))
  message_alike call None is = cc
  message_alike call (Some m) is =
      let parts = neither (not (border.master m)) (changes_within border call (book_of fixed a)) is in
      let beyond : IsBeyond border m = kept (border.master m) parts.0 in
      heard_alike (called m call (book_of fixed a)) (called m call (book_of fixed b)) (may_call m (book_of fixed a)) (may_call m (book_of fixed b))
      (heard_same laws fixed border m a b beyond same) (calls_alike m call beyond parts.1)

  -- any other event
  pub says_alike : (event : Event) → is_hidden border event (book_of fixed a) ≡ false → says event (book_of fixed a) ≡ says event (book_of fixed b)
  says_alike (Ipi master message) is = (message_alike (call_of message) (master_place master (book_of fixed a)) is).says
  says_alike _ is = refl

  pub pulse_alike : (event : Event) → is_hidden border event (book_of fixed a) ≡ false → pulse event (book_of fixed a) ≡ pulse event (book_of fixed b)
  pulse_alike (Ipi master message) is = (message_alike (call_of message) (master_place master (book_of fixed a)) is).pulse
  pulse_alike _ is = refl
