-- After a restart of all a sound book is the book at load.
use Rattle.std.proofs.Common.{◌≡◌, ℕ, ◌+◌, ◌<◌, ◌==◌, Bool, true, false, if◌then◌else◌, List, [], ◌∷◌, ◌++◌, length, Option, Some, None, zero, suc, refl, sym, ◌∙◌, ap, arith}
use Rattle.std.specs.Prelude.{option_and_then, slice_set}
use Rattle.pm_base.specs.declared.events.Event.{Event}
use Rattle.pm_base.specs.declared.events.Event.TheVariants.{Ipi}
use Rattle.pm_base.specs.declared.names.Mode.{Mode}
use Rattle.pm_base.specs.declared.names.Mode.TheVariants.{Off, Active, Asleep, Suspending}
use Rattle.pm_ipi.specs.Calls.{call_of}
use Rattle.pm_ipi.specs.declared.calls.Call.{Call}
use Rattle.pm_ipi.specs.declared.calls.Call.TheVariants.{RegisterNotifier, RequestSuspend, SystemShutdown}
use Rattle.pm_object.specs.declared.object.MasterRec.{MasterRec}
use Rattle.pm_procs.specs.declared.pending.Pending.{Pending}
use Rattle.pm_procs.specs.Modes.{same_mode}
use Rattle.pm_procs.specs.Pending.{all_ended, ended, none_pending, pending_at}
use Rattle.pm_rows.specs.Rows.{mode_of}
use Rattle.pm_tell.specs.declared.ended.Ended.{Ended}
use Rattle.pm_state.specs.declared.scope.Scope.TheVariants.{All}
use Rattle.pm_object.specs.declared.object.Object.{Object}
use Rattle.pm_state.specs.Load.{load_in}
use Rattle.pm_state.specs.Members.{mode_of_master}
use Rattle.pm_calls.specs.Checks.{Cause, Fits, Stands, first_failing}
use Rattle.pm_state.specs.Prims.{Prim, Shift, changed}
use Rattle.pm_state.specs.Scope.{offs}
use Rattle.pm_state.specs.Sound.{AreNotes, IsSound}
use Rattle.pm_state.specs.Stages.{after_stage, after_stages, follow, follow_at, follow_from, follow_to}
use Rattle.pm_state.specs.State.{Fixed, CoreHalf, TalkHalf, State, in_force}
use Rattle.pm_calls.specs.calls.{called}
use Rattle.pm_step.specs.Step.{call_in, effect, call_at, may_call, message_stages, modes_in, news, path, renews, served, verdict}
use Rattle.pm_tell.specs.Telling.{tellings}
use Rattle.pm_step.specs.Step as step
use Rattle.pm_state.specs.Talk.{Talk, talked, talks}
use Rattle.pm_tell.specs.Opening.{ends, forgets_from, talk_of}
use Rattle.pm_state.specs.Values.{master_place}
use Rattle.pm_calls.specs.calls.RegisterNotifier.{notifier_put}
use Rattle.pm_calls.specs.calls.RequestSuspend.{target_asked}
use Rattle.pm_calls.specs.calls.SystemShutdown.{renewal, restart_all, restarts_all}
use Rattle.pm_notify.specs.Notes.{event_of}
use Rattle.std.proofs.lemmas.List.Quantifiers.{position-Some}
use Rattle.pm_notify.specs.MasterNotes.{MasterNotes}
use Rattle.pm_notify.specs.Notify.{all_forgotten, loaded}
use Rattle.pm_topology.specs.declared.topology.Topology.{Topology}
use Rattle.pm_values.specs.declared.turns.Turns.{Turns}
use Rattle.pm_tell.specs.declared.served.Served.{Served}
use Rattle.pm_calls.specs.declared.verdict.Effects.{Effects}
use Rattle.pm_calls.specs.declared.verdict.Say.{Say}
use Rattle.pm_calls.specs.declared.verdict.Say.TheVariants.{Renew as SaysRenew}
use Rattle.pm_state.specs.Boot.{boot_master}
use Rattle.pm_tell.specs.Callbacks.{News, note_changes_from}
use Rattle.pm_values.specs.Turns.{turns_along}
use Rattle.pm_tell.specs.Served.{kept_of}
use Rattle.pm_calls.specs.Verdict.{Called, renews_all, says_of, stages_by, verdict_by}
use Rattle.pm_calls.specs.Views.{suspend_view}
use Rattle.pm_state.proofs.LoadLaw.{load_sound}
use Rattle.pm_tell.proofs.RenewLaw.{all_told, forgets_none, kept_none, none_asleep}
use Rattle.pm_tell.proofs.TalkLemmas.{talks_append}
use Rattle.pm_state.proofs.PendingLaw.{RequestLaws}
use Rattle.pm_state.proofs.ScopeSound.{KeepLaws, offs_free, offs_stay, reload_is, stage_force, stage_kept}
use Rattle.pm_calls.proofs.ShutdownCases.{all_restart}
use Rattle.pm_state.proofs.StageLaw.{within}
use Rattle.pm_calls.proofs.Verdicts.{mapped}

-- ---- which messages restart all

record Restarts (fixed : Fixed) (call : Option Called) : Type 0 where
  pub stages : message_stages call ≡ restart_all fixed
  pub says : says_of (verdict call) ≡ Some SaysRenew

-- a call that has all restarted does so
abbrev CallRestarts : Fixed → List (List Prim) → Option Say → Type 0
CallRestarts fixed stages says = renews_all says ≡ true → (stages ≡ restart_all fixed) × (says ≡ Some SaysRenew)

none_restarts : (fixed : Fixed) (stages : List (List Prim)) → CallRestarts fixed stages None
none_restarts fixed stages is = cc

renewal_is : (all : Bool) → renews_all (renewal all) ≡ true → (all ≡ true) × (renewal all ≡ Some SaysRenew)
renewal_is true is = (refl, refl)
renewal_is false is = cc

call_restarts : (m : ℕ) (call : Call) (book : State) → CallRestarts book.fixed (called m call book).stages (called m call book).effects.says
call_restarts m (SystemShutdown shutdown_type subtype) book = λ is.
    let all = renewal_is (restarts_all shutdown_type subtype) is in
    (all_restart book.fixed m shutdown_type subtype all.0, all.1)
call_restarts m (RequestSuspend node ack latency state) book =
    mapped (CallRestarts book.fixed []) (target_asked m node ack latency state) (suspend_view m node book).target (none_restarts book.fixed []) (λ target is. cc)
call_restarts m (RegisterNotifier node event wake enable) book =
    mapped (CallRestarts book.fixed []) (notifier_put m node enable) (event_of event) (none_restarts book.fixed []) (λ put is. cc)
call_restarts m call book = λ is. cc

restarts_by : (fixed : Fixed) (cause : Cause) (stages : List (List Prim)) (effects : Effects) → CallRestarts fixed stages effects.says → CallRestarts fixed (stages_by cause stages) (says_of (verdict_by cause effects))
restarts_by fixed (Stands Fits) stages effects restarts = restarts
restarts_by fixed _ stages effects restarts = λ is. cc

call_restarts_if : (call : Call) (book : State) (m : ℕ) (heard : Bool) → renews_all (says_of (verdict (if heard then Some (called m call book) else None))) ≡ true → Restarts book.fixed (if heard then Some (called m call book) else None)
call_restarts_if call book m true is =
    let x : Called = called m call book in
    let all = restarts_by book.fixed (first_failing x.checks) x.stages x.effects (call_restarts m call book) is in
    record { stages = all.0; says = all.1 }
call_restarts_if call book m false is = cc

message_restarts : (call : Call) (book : State) (place : Option ℕ) → renews_all (says_of (verdict (option_and_then (call_at call book) place))) ≡ true → Restarts book.fixed (option_and_then (call_at call book) place)
message_restarts call book None is = cc
message_restarts call book (Some m) is = call_restarts_if call book m (may_call m book) is

-- ---- nothing follows the load

same_self : (mode : Mode) → same_mode mode mode ≡ true
same_self Off = refl
same_self Active = refl
same_self Asleep = refl
same_self Suspending = refl

stays_there : (fixed : Fixed) (core : CoreHalf) (m : ℕ) → mode_of m core.rows ≡ mode_of_master fixed core m → follow_at fixed core m ≡ []
stays_there fixed core m knows =
    let mode : Mode = mode_of_master fixed core m in
    let none : List Prim = [] in
    ap (λ known. follow_to m known mode) knows ∙ ap (λ same. if same then none else Shift m mode ∷ []) (same_self mode)

follow_none : (fixed : Fixed) (core : CoreHalf) (m : ℕ) (masters : List MasterRec) → ((k : ℕ) → k < m + length masters → mode_of k core.rows ≡ mode_of_master fixed core k) → follow_from fixed core m masters ≡ []
follow_none fixed core m [] knows = refl
follow_none fixed core m (x ∷ xs) knows =
    ap (λ first. first ++ follow_from fixed core (m + 1) xs) (stays_there fixed core m (knows m (omega arith)))
    ∙ follow_none fixed core (m + 1) xs (λ k below. knows k (omega (arith, below)))

-- ---- what the masters are told

set_none : (pending : List (Option Pending)) (m : ℕ) → pending_at m pending ≡ None → slice_set pending m None ≡ pending
set_none [] m is = refl
set_none (x ∷ xs) zero is = ap (λ y. y ∷ xs) (sym is)
set_none (x ∷ xs) (suc m) is = ap (λ ys. x ∷ ys) (set_none xs m is)

ends_none : RequestLaws → (masters : ℕ) (es : List Ended) (half : TalkHalf) → half.pending ≡ none_pending masters → talks (ends es) half ≡ half
ends_none laws masters [] half none = refl
ends_none laws masters (e ∷ es) half none =
    let nothing : pending_at e.target half.pending ≡ None = ap (pending_at e.target) none ∙ laws.load e.target masters in
    let same : ended e.target half.pending ≡ half.pending = set_none half.pending e.target nothing in
    ap (λ p. talks (ends es) (record half { pending = p })) same ∙ ends_none laws masters es half none

-- ---- the book

-- the book after the stages of a restart of all: the object in force stays
after_restart : KeepLaws → (book : State) → IsSound book → after_stages (restart_all book.fixed) book ≡ record { fixed = book.fixed; now = record { force = in_force book; core = (load_in book.fixed (in_force book)).now.core; talk = (after_stage (offs book.fixed All) book).now.talk } }
after_restart laws book sound =
    let fixed : Fixed = book.fixed in
    let mid : State = after_stage (offs fixed All) book in
    let load : State = load_in fixed mid.now.force in
    let with : CoreHalf → State = λ core. record { fixed = fixed; now = record { force = mid.now.force; core = core; talk = mid.now.talk } } in
    let still : IsSound mid = stage_kept laws (offs fixed All) book (offs_free fixed All) sound in
    let loaded : IsSound load = load_sound laws.rows laws.modes laws.requests laws.orders fixed mid.now.force still.force.place still.force.there in
    let none : follow (with load.now.core) ≡ [] = follow_none fixed load.now.core 0 fixed.object.masters (λ k below. loaded.knows.right k (omega (arith, below))) in
    let stays : mid.now.force ≡ in_force book = stage_force (offs fixed All) book (offs_stay fixed All) in
    ap (λ core. changed (follow (with core)) (with core)) (reload_is laws.modes fixed mid.now (within mid still))
    ∙ (ap (λ prims. changed prims (with load.now.core)) none
    ∙ ap (λ (force : Object). record { fixed = fixed; now = record { force = force; core = (load_in fixed force).now.core; talk = mid.now.talk } }) stays)

-- what is done first: all is as at load, whoever forgets and whatever ends
told_anew : KeepLaws → (book : State) (turns : ℕ → Turns) (es : List Ended) (half : TalkHalf) → length half.pending ≡ length book.fixed.object.masters → AreNotes book.fixed.topology (length book.fixed.object.masters) half.notes
    → talks (talk_of (Some SaysRenew) (forgets_from turns 0 book.fixed.object.masters) None es) half ≡ (load_in book.fixed (in_force book)).now.talk
told_anew laws book turns es half each note_changes =
    let t : Topology = book.fixed.topology in
    let masters : ℕ = length book.fixed.object.masters in
    let fresh : TalkHalf = (load_in book.fixed (in_force book)).now.talk in
    let forgets : List Talk = forgets_from turns 0 book.fixed.object.masters in
    let none : all_ended half.pending ≡ none_pending masters = laws.requests.renew half.pending ∙ ap none_pending each in
    let empty : all_forgotten half.notes ≡ loaded t masters =
    laws.orders.as_loaded t half.notes (λ m within. note_changes.units m (omega (arith, within, note_changes.each))) ∙ ap (loaded t) note_changes.each
    in
    let both : List (Option Pending) → List MasterNotes → TalkHalf = λ ps ms. record { pending = ps; notes = ms } in
    ap (λ p. talks (forgets ++ ends es) (both p (all_forgotten half.notes))) none
    ∙ (ap (λ ms. talks (forgets ++ ends es) (both (none_pending masters) ms)) empty
    ∙ (talks_append forgets (ends es) fresh
    ∙ (ap (talks (ends es)) (forgets_none t masters turns 0 book.fixed.object.masters fresh refl)
    ∙ ends_none laws.requests masters es fresh refl)))

-- no master is asleep at load
load_awake : KeepLaws → (book : State) → IsSound book → (m : ℕ) → m < length book.fixed.object.masters → same_mode (mode_of_master book.fixed (load_in book.fixed (in_force book)).now.core m) Asleep ≡ false
load_awake laws book sound m within =
    let fixed : Fixed = book.fixed in
    let loaded : IsSound (load_in fixed (in_force book)) = load_sound laws.rows laws.modes laws.requests laws.orders fixed (in_force book) sound.force.place sound.force.there in
    ap (λ mode. same_mode mode Asleep) (sym (loaded.knows.right m within))
    ∙ none_asleep (length fixed.object.masters) (boot_master fixed.object fixed.topology) m

nobody : MasterRec
nobody = record { node = 0; mask = 0; timeout = 0; suspend = 0; wake = 0 }

-- all that is told where the core half is as at load: what is done first alone
told_all : KeepLaws → (book : State) → IsSound book → (news : News) (was : ℕ → Mode) (turns : ℕ → Turns) (es : List Ended) (of : Option Served) (half : TalkHalf) → length half.pending ≡ length book.fixed.object.masters → AreNotes book.fixed.topology (length book.fixed.object.masters) half.notes
    → let at : State = record { fixed = book.fixed; now = record { force = in_force book; core = (load_in book.fixed (in_force book)).now.core; talk = half } } in
    talked (tellings news was (talk_of (Some SaysRenew) (forgets_from turns 0 book.fixed.object.masters) None es) of at) at ≡ load_in book.fixed (in_force book)
told_all laws book sound news was turns es of half each note_changes =
    let fixed : Fixed = book.fixed in
    let t : Topology = fixed.topology in
    let masters : List MasterRec = book.fixed.object.masters in
    let load : State = load_in book.fixed (in_force book) in
    let with : TalkHalf → State = λ h. record { fixed = fixed; now = record { force = in_force book; core = load.now.core; talk = h } } in
    let first : List Talk = talk_of (Some SaysRenew) (forgets_from turns 0 masters) None es in
    let anew : talks first half ≡ load.now.talk = told_anew laws book turns es half each note_changes in
    let rest : TalkHalf → List Talk = λ h. note_changes_from news was h.notes (with half) 0 masters ++ kept_of of (with half) in
    let none : rest (talks first half) ≡ [] =
    ap rest anew
    ∙ (ap (λ ms. ms ++ kept_of of (with half)) (all_told news was t (with half) (length masters) 0 masters (omega arith) (load_awake laws book sound))
    ∙ kept_none of (with half)
    (λ master m is. load_awake laws book sound m (position-Some (λ (x : MasterRec). x.node == master.0) masters m nobody is).0))
    in
    ap (λ later. talked (first ++ later) (with half)) none
    ∙ (ap with (talks_append first [] half) ∙ ap with anew)

restarted_message : KeepLaws → (book : State) (call : Option Called) (news : News) (was : ℕ → Mode) (turns : ℕ → Turns) (es : List Ended) (of : Option Served) → IsSound book → Restarts book.fixed call
    → talked (tellings news was (talk_of (says_of (verdict call)) (forgets_from turns 0 book.fixed.object.masters) None es) of (after_stages (message_stages call) book)) (after_stages (message_stages call) book)
    ≡ load_in book.fixed (in_force book)
restarted_message laws book call news was turns es of sound restarts =
    let fixed : Fixed = book.fixed in
    let mid : State = after_stage (offs fixed All) book in
    let still : IsSound mid = stage_kept laws (offs fixed All) book (offs_free fixed All) sound in
    let fs : List Talk = forgets_from turns 0 book.fixed.object.masters in
    let tell : List Talk → State → State = λ first b. talked (tellings news was first of b) b in
    ap (λ says. tell (talk_of says fs None es) (after_stages (message_stages call) book)) restarts.says
    ∙ (ap (λ s. tell (talk_of (Some SaysRenew) fs None es) (after_stages s book)) restarts.stages
    ∙ (ap (tell (talk_of (Some SaysRenew) fs None es)) (after_restart laws book sound)
    ∙ told_all laws book sound news was turns es of mid.now.talk still.pending.each still.notes))

pub restart_loads : KeepLaws → (event : Event) (book : State) → IsSound book → renews event book ≡ true → effect event book ≡ load_in book.fixed (in_force book)
restart_loads laws (Ipi master message) book sound is =
    let event : Event = Ipi master message in
    restarted_message laws book (call_in master (call_of message) book) (news event book) (modes_in book) (turns_along book (path event book)) (step.ended event book) (served event book) sound
    (message_restarts (call_of message) book (master_place master book) is)
restart_loads laws _ book sound is = cc
