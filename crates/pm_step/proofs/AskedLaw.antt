-- The master that is asked to suspend in a step is the one that the node of the request names.
use Rattle.std.proofs.Common.{◌≡◌, ℕ, ◌+◌, Bool, true, false, if◌then◌else◌, List, [], ◌∷◌, ◌++◌, map, Option, Some, None, refl, subst}
use Rattle.std.specs.Prelude.{option_map, option_and_then}
use Rattle.std.specs.List.{AllByRecursion as Each}
use Rattle.pm_base.specs.declared.names.NodeId.{NodeId}
use Rattle.pm_base.specs.declared.events.Event.{Event}
use Rattle.pm_base.specs.declared.events.Event.TheVariants.{Ipi}
use Rattle.pm_base.specs.declared.names.Mode.{Mode}
use Rattle.pm_base.specs.declared.names.Mode.TheVariants.{Off, Active, Asleep, Suspending}
use Rattle.pm_ipi.specs.Calls.{ack_of, call_of, node_of}
use Rattle.pm_notify.specs.declared.notes.Waiting.{Waiting}
use Rattle.pm_notify.specs.MasterNotes.{MasterNotes}
use Rattle.pm_notify.specs.Notify.{notes_for}
use Rattle.pm_object.specs.declared.object.MasterRec.{MasterRec}
use Rattle.pm_ipi.specs.declared.calls.Call.{Call}
use Rattle.pm_ipi.specs.declared.calls.Call.TheVariants.{RegisterNotifier, RequestSuspend, SystemShutdown}
use Rattle.pm_procs.specs.Modes.{same_mode}
use Rattle.pm_procs.specs.Pending.{asked, ended}
use Rattle.pm_tell.specs.declared.ended.Ended.{Ended}
use Rattle.pm_values.specs.declared.turns.Turns.{Turns}
use Rattle.pm_calls.specs.declared.verdict.Asked.{Asked}
use Rattle.pm_tell.specs.declared.served.Served.{Served}
use Rattle.pm_calls.specs.declared.verdict.Say.{Say}
use Rattle.pm_calls.specs.declared.verdict.Say.TheVariants.{Ask as SaysAsk, Abort as SaysAbort, Register as SaysRegister, Renew as SaysRenew, Unwatch as SaysUnwatch}
use Rattle.pm_calls.specs.calls.RegisterNotifier.{notifier_put}
use Rattle.pm_calls.specs.calls.RequestSuspend.{asked_of, target_asked}
use Rattle.pm_calls.specs.calls.SystemShutdown.{renewal, restarts_all}
use Rattle.pm_notify.specs.Notes.{event_of}
use Rattle.pm_tell.specs.Callbacks.{News, note_changes_at, note_changes, note_changes_from, notes_to, told_at_wake}
use Rattle.pm_values.specs.Turns.{turns_along}
use Rattle.pm_tell.specs.Served.{kept_at, kept_of, own_note}
use Rattle.pm_state.specs.Members.{mode_of_master}
use Rattle.pm_state.specs.State.{Fixed, State}
use Rattle.pm_state.specs.Stages.{after_stages}
use Rattle.pm_calls.specs.calls.{called}
use Rattle.pm_step.specs.Step.{call_at, may_call, modes_in, news, opening, path, says, served, stages, talk, time_of, verdict}
use Rattle.pm_tell.specs.Telling.{notes_after}
use Rattle.pm_step.specs.Step as step
use Rattle.pm_state.specs.Talk.{Talk, Forget, take_of, wait_of}
use Rattle.pm_tell.specs.Opening.{ends, forget_at, forgets_from, lower_by, sweep_by, say_by}
use Rattle.pm_state.specs.Values.{master_place}
use Rattle.pm_calls.specs.Verdict.{asked_by, response_of, says_of}
use Rattle.pm_calls.specs.Views.{can_suspend, suspendable, suspendable_at}
use Rattle.pm_state.specs.Nodes.{named_master}
use Rattle.pm_state.proofs.Each.{Each-append}
use Rattle.pm_calls.proofs.Verdicts.{mapped, says_either}
use Rattle.pm_state.proofs.PendingLaw.{NamesTarget, one_request}

-- the master that is asked is the one that the node of the request names
abbrev AsksNamed : Fixed → Option Say → Type 0
AsksNamed fixed says = (asked : Asked) → asked_by says ≡ Some asked → named_master fixed asked.request.node ≡ Some asked.target

none_asked : (fixed : Fixed) → AsksNamed fixed None
none_asked fixed asked is = cc

means : (book : State) (m ack latency state : ℕ) (node : NodeId) (may : Bool) (k : ℕ) → named_master book.fixed node ≡ Some k → AsksNamed book.fixed (option_map (target_asked m node ack latency state) (if may then Some (suspendable_at k book) else None))
means book m ack latency state node false k names asked is = cc
means book m ack latency state node true k names asked is =
    let same : asked_of m node ack latency state (suspendable_at k book) ≡ asked = one_request (asked_of m node ack latency state (suspendable_at k book)) asked is in
    subst (λ (a : Asked). named_master book.fixed a.request.node ≡ Some a.target) same names

target_means : (book : State) (m ack latency state : ℕ) (node : NodeId) (named : Option ℕ) → named_master book.fixed node ≡ named → AsksNamed book.fixed (option_map (target_asked m node ack latency state) (suspendable m named book))
target_means book m ack latency state node None names = none_asked book.fixed
target_means book m ack latency state node (Some k) names = means book m ack latency state node (can_suspend m k book) k names

renewal_asks : (fixed : Fixed) (all : Bool) → AsksNamed fixed (renewal all)
renewal_asks fixed true asked is = cc
renewal_asks fixed false asked is = cc

call_means : (m : ℕ) (call : Call) (book : State) → AsksNamed book.fixed (called m call book).effects.says
call_means m (RequestSuspend node ack latency state) book = target_means book m ack latency state node (named_master book.fixed node) refl
call_means m (RegisterNotifier node event wake enable) book =
    mapped (AsksNamed book.fixed) (notifier_put m node enable) (event_of event) (none_asked book.fixed) (λ put asked is. cc)
call_means m (SystemShutdown shutdown_type subtype) book = renewal_asks book.fixed (restarts_all shutdown_type subtype)
call_means m call book = λ asked is. cc

call_means_if : (call : Call) (book : State) (m : ℕ) (heard : Bool) → AsksNamed book.fixed (says_of (verdict (if heard then Some (called m call book) else None)))
call_means_if call book m true = says_either (AsksNamed book.fixed) (called m call book) (none_asked book.fixed) (call_means m call book)
call_means_if call book m false = none_asked book.fixed

message_means : (call : Call) (book : State) (place : Option ℕ) → AsksNamed book.fixed (says_of (verdict (option_and_then (call_at call book) place)))
message_means call book None = none_asked book.fixed
message_means call book (Some m) = call_means_if call book m (may_call m book)

-- the master that is asked is the one that the node of the request names
pub asks_named : (event : Event) (book : State) → AsksNamed book.fixed (says event book)
asks_named (Ipi master message) book = message_means (call_of message) book (master_place master book)
asks_named _ book = none_asked book.fixed

say_names : (fixed : Fixed) (says : Option Say) → AsksNamed fixed says → (later : List Talk) → Each (NamesTarget fixed) later → Each (NamesTarget fixed) (say_by says ++ later)
say_names fixed None names later each = each
say_names fixed (Some (SaysAsk asked)) names later each = (names asked refl, each)
say_names fixed (Some (SaysAbort m)) names later each = each
say_names fixed (Some (SaysRegister put)) names later each = (tt, each)
say_names fixed (Some SaysRenew) names later each = each
say_names fixed (Some SaysUnwatch) names later each = each

lower_names : (fixed : Fixed) (count : Option ℕ) (later : List Talk) → Each (NamesTarget fixed) later → Each (NamesTarget fixed) (lower_by count ++ later)
lower_names fixed None later each = each
lower_names fixed (Some count) later each = (tt, each)

ends_name : (fixed : Fixed) (ended : List Ended) → Each (NamesTarget fixed) (ends ended)
ends_name fixed [] = tt
ends_name fixed (e ∷ ended) = (tt, ends_name fixed ended)

forget_names : (fixed : Fixed) (m : ℕ) (off : Bool) → Each (NamesTarget fixed) (if off then Forget m ∷ [] else [])
forget_names fixed m true = (tt, tt)
forget_names fixed m false = tt

forgets_name : (fixed : Fixed) (turns : ℕ → Turns) (m : ℕ) (masters : List MasterRec) → Each (NamesTarget fixed) (forgets_from turns m masters)
forgets_name fixed turns m [] = tt
forgets_name fixed turns m (master ∷ masters) =
    Each-append (NamesTarget fixed) (forget_at (turns m) m) (forgets_from turns (m + 1) masters)
    (forget_names fixed m (turns m).off) (forgets_name fixed turns (m + 1) masters)

waits_name : (fixed : Fixed) (k : ℕ) (due : List Waiting) → Each (NamesTarget fixed) (map (wait_of k) due)
waits_name fixed k [] = tt
waits_name fixed k (w ∷ due) = (tt, waits_name fixed k due)

takes_name : (fixed : Fixed) (k : ℕ) (due : List Waiting) → Each (NamesTarget fixed) (map (take_of k) due)
takes_name fixed k [] = tt
takes_name fixed k (w ∷ due) = (tt, takes_name fixed k due)

changes_name : (fixed : Fixed) (news : News) (k : ℕ) (was is : Mode) (notes : MasterNotes) → Each (NamesTarget fixed) (note_changes_at news k was is notes)
changes_name fixed news k was Off notes = tt
changes_name fixed news k was Active notes = takes_name fixed k (told_at_wake was Active notes)
changes_name fixed news k was Asleep notes = waits_name fixed k (notes_to news k notes)
changes_name fixed news k was Suspending notes = takes_name fixed k (told_at_wake was Suspending notes)

note_changes_name : (fixed : Fixed) (news : News) (was : ℕ → Mode) (notes : List MasterNotes) (after : State) (k : ℕ) (masters : List MasterRec) → Each (NamesTarget fixed) (note_changes_from news was notes after k masters)
note_changes_name fixed news was notes after k [] = tt
note_changes_name fixed news was notes after k (master ∷ masters) =
    Each-append (NamesTarget fixed) (note_changes_at news k (was k) (mode_of_master after.fixed after.now.core k) (notes_for k notes)) (note_changes_from news was notes after (k + 1) masters)
    (changes_name fixed news k (was k) (mode_of_master after.fixed after.now.core k) (notes_for k notes))
    (note_changes_name fixed news was notes after (k + 1) masters)

kept_if : (fixed : Fixed) (m : ℕ) (asleep : Bool) (due : List Waiting) → Each (NamesTarget fixed) (if asleep then map (wait_of m) due else [])
kept_if fixed m true due = waits_name fixed m due
kept_if fixed m false due = tt

kept_at_names : (fixed : Fixed) (place : Option ℕ) (due : List Waiting) (after : State) → Each (NamesTarget fixed) (kept_at place due after)
kept_at_names fixed None due after = tt
kept_at_names fixed (Some m) due after = kept_if fixed m (same_mode (mode_of_master after.fixed after.now.core m) Asleep) due

kept_names : (fixed : Fixed) (served : Option Served) (after : State) → Each (NamesTarget fixed) (kept_of served after)
kept_names fixed None after = tt
kept_names fixed (Some served) after =
    kept_at_names fixed (master_place served.master after) (own_note (response_of served.verdict) (ack_of served.call) (node_of served.call)) after

sweep_names : (fixed : Fixed) (says : Option Say) (later : List Talk) → Each (NamesTarget fixed) later → Each (NamesTarget fixed) (sweep_by says ++ later)
sweep_names fixed None later each = each
sweep_names fixed (Some (SaysAsk asked)) later each = each
sweep_names fixed (Some (SaysAbort m)) later each = each
sweep_names fixed (Some (SaysRegister put)) later each = each
sweep_names fixed (Some SaysRenew) later each = (tt, each)
sweep_names fixed (Some SaysUnwatch) later each = (tt, each)

opening_named : (event : Event) (book : State) → Each (NamesTarget book.fixed) (opening event book)
opening_named event book =
    let fixed : Fixed = book.fixed in
    let rest : List Talk = lower_by (time_of event book) ++ ends (step.ended event book) in
    sweep_names fixed (says event book) (step.forgets event book ++ (say_by (says event book) ++ rest))
    (Each-append (NamesTarget fixed) (step.forgets event book) (say_by (says event book) ++ rest)
    (forgets_name fixed (turns_along book (path event book)) 0 book.fixed.object.masters)
    (say_names fixed (says event book) (asks_named event book) rest
    (lower_names fixed (time_of event book) (ends (step.ended event book)) (ends_name fixed (step.ended event book)))))

-- what is told in a step asks only a master that is named
pub talk_named : (event : Event) (book : State) → Each (NamesTarget book.fixed) (talk event book)
talk_named event book =
    let fixed : Fixed = book.fixed in
    let after : State = after_stages (stages event book) book in
    let notes : List MasterNotes = notes_after (opening event book) after in
    let told : List Talk = note_changes (news event book) (modes_in book) notes after in
    Each-append (NamesTarget fixed) (opening event book) (told ++ kept_of (served event book) after)
    (opening_named event book)
    (Each-append (NamesTarget fixed) told (kept_of (served event book) after)
    (note_changes_name fixed (news event book) (modes_in book) notes after 0 after.fixed.object.masters)
    (kept_names fixed (served event book) after))
