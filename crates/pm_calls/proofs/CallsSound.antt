-- Each call keeps the book sound.
use Rattle.std.proofs.Common.{◌≡◌, ◌≢◌, ℕ, ◌<◌, Bool, true, false, ◌==◌, if◌then◌else◌, IsTrue, List, [], ◌∷◌, length, is_some, Option, Some, None, refl, sym, subst, inl, inr}
use Rattle.std.specs.Prelude.{option_map}
use Rattle.std.specs.List.{AllByRecursion as Each}
use Rattle.pm_base.specs.declared.caps.Caps.{Caps}
use Rattle.pm_base.specs.declared.names.Mode.{Mode}
use Rattle.pm_base.specs.declared.names.Mode.TheVariants.{Off, Active, Asleep, Suspending}
use Rattle.pm_ipi.specs.declared.calls.Call.{Call}
use Rattle.pm_ipi.specs.declared.calls.Call.TheVariants.{SelfSuspend, ForcePowerdown, AbortSuspend, RequestWakeup, SetWakeupSource, SystemShutdown, RequestNode, ReleaseNode, SetRequirement, SetMaxLatency, ResetAssert, InitFinalize, SetConfiguration, Unknown as Other}
use Rattle.pm_grants.specs.Grants.{permits_configure}
use Rattle.pm_procs.specs.Modes.{is_awake}
use Rattle.pm_rows.specs.declared.row.Change.{Change}
use Rattle.pm_rows.specs.declared.row.Change.TheVariants.{Request, Release, Set, Limit}
use Rattle.pm_rows.specs.declared.row.Entry.{Entry}
use Rattle.pm_rows.specs.Rows.{has_all, mode_of, rival_of, entry_at, is_at}
use Rattle.pm_rows.specs.Sound.{IsFit}
use Rattle.pm_calls.specs.declared.views.ProcView.{ProcView}
use Rattle.pm_calls.specs.declared.views.RowView.{RowView}
use Rattle.pm_calls.specs.declared.views.WakeView.{WakeView}
use Rattle.pm_calls.specs.ResetLines.{line_view}
use Rattle.pm_state.specs.declared.objects.Found.{Found}
use Rattle.pm_state.specs.declared.objects.Found.TheVariants.{Nothing, Unreadable, Unusable, Usable}
use Rattle.pm_state.specs.Members.{mode_of_master}
use Rattle.pm_state.specs.Objects.{found_at}
use Rattle.pm_calls.specs.Checks.{AllHold, Fits, InUse}
use Rattle.pm_state.specs.Prims.{Prim, At_row, Settle, Put_proc}
use Rattle.pm_calls.specs.ProcCalls.{address_in, is_in, proc_changes, put_at}
use Rattle.pm_calls.specs.RowCalls.{changes_of, row_changes, can_have, is_in_use}
use Rattle.pm_state.specs.Sound.{IsSound}
use Rattle.pm_state.specs.Stages.{after_stage, after_stages}
use Rattle.pm_state.specs.State.{State, grants_in}
use Rattle.pm_calls.specs.calls.{called}
use Rattle.pm_state.specs.Values.{slave_place}
use Rattle.pm_calls.specs.Verdict.{Called, stages_of}
use Rattle.pm_calls.specs.Views.{is_asked, row_view_at, proc_view, wake_view, rival_node}
use Rattle.pm_state.specs.Nodes.{master_node}
use Rattle.pm_calls.specs.calls.AbortSuspend.{abort_suspend}
use Rattle.pm_state.specs.declared.scope.Scope.TheVariants.{Under}
use Rattle.pm_calls.specs.calls.ForcePowerdown.{force_powerdown, force_stages}
use Rattle.pm_calls.specs.calls.InitFinalize.{init_finalize}
use Rattle.pm_calls.specs.calls.ReleaseNode.{release_node}
use Rattle.pm_calls.specs.calls.RequestNode.{request_checks, request_node, rivalled}
use Rattle.pm_calls.specs.calls.RequestWakeup.{request_wakeup}
use Rattle.pm_calls.specs.calls.ResetAssert.{reset_assert}
use Rattle.pm_calls.specs.calls.SelfSuspend.{self_suspend}
use Rattle.pm_calls.specs.calls.SetConfiguration.{enforced_by, set_configuration}
use Rattle.pm_calls.specs.calls.SetMaxLatency.{set_max_latency}
use Rattle.pm_calls.specs.calls.SetRequirement.{set_requirement, set_requirement_checks}
use Rattle.pm_calls.specs.calls.SetWakeupSource.{arming, set_wakeup_source, set_wakeup_source_checks}
use Rattle.pm_calls.specs.calls.SystemShutdown.{all_stages, own_stages, system_shutdown}
use Rattle.std.proofs.lemmas.Bool.{eqb-true}
use Rattle.pm_base.proofs.Booleans.{both}
use Rattle.pm_base.proofs.Counts.{split}
use Rattle.pm_base.specs.declared.names.NodeId.{NodeId}
use Rattle.pm_state.proofs.ArmedLaw.{MayArm}
use Rattle.pm_calls.proofs.ArmingLaw.{arming_may}
use Rattle.pm_calls.proofs.Verdicts.{stages_either}
use Rattle.pm_state.proofs.RowLaws.{RowLaws}
use Rattle.pm_state.proofs.ScopeSound.{IsFree, KeepLaws, clears_free, offs_free, stage_kept, stages_kept}
use Rattle.pm_calls.proofs.ShutdownSound.{all_free, own_free}
use Rattle.pm_calls.proofs.ShutdownCases.{each_shutdown}
use Rattle.pm_state.proofs.StageLaw.{row, settle, put, stage_keeps, empty_keeps}
use Rattle.pm_calls.proofs.ResetSound.{reset_keeps}
use Rattle.pm_calls.proofs.WakeSound.{request_keeps}

-- a call keeps the book sound if its stages do, once its checks hold
call_keeps : (call : Called) (book : State) → IsSound book → (AllHold call.checks → IsSound (after_stages call.stages book)) → IsSound (after_stages (stages_of call) book)
call_keeps call book sound keeps =
    let P : List (List Prim) → Type 0 = λ stages. IsSound (after_stages stages book) in
    elim (stages_either call) [
      | inl both ↦ subst P (sym both.1) (keeps both.0)
      | inr none ↦ subst P (sym none) sound
    ]

-- the caller may call: it is a configured master, and it is awake
pub record IsHeard (book : State) (m : ℕ) : Type 0 where
  pub there : m < length book.fixed.object.masters
  pub awake : IsTrue (is_awake (mode_of_master book.fixed book.now.core m))

-- a change fits a row of the master at place m, and so does the processor that it arms the row with
abbrev FitsRow : ℕ → ℕ → Change → Entry → State → Type 0
FitsRow m s by e book = IsFit m s by e book.now.core.rows × MayArm book.fixed e.seed.master by

-- a change of the caller's row keeps the book sound if it fits the row that is there
row_keeps : RowLaws → (m s : ℕ) (by : Change) (book : State) (entry : Option Entry) → IsSound book → entry_at m s book.now.core.rows ≡ entry → ((e : Entry) → entry ≡ Some e → FitsRow m s by e book) → IsSound (after_stage (changes_of by entry) book)
row_keeps laws m s by book None sound found fits = empty_keeps laws book sound
row_keeps laws m s by book (Some entry) sound found fits =
    stage_keeps laws book (At_row entry.seed.master entry.seed.slave by) sound (row m s by entry found (fits entry refl).0 (fits entry refl).1)

abbrev view_of : ℕ → ℕ → State → RowView
view_of m s book = record { slave = Some s; entry = entry_at m s book.now.core.rows; rival = rival_node m s book }

abbrev no_view : RowView
no_view = record { slave = None; entry = None; rival = None }

-- a call on a row keeps the book sound if its change fits the row of each slave, given that its checks hold
row_call_keeps : RowLaws → (m : ℕ) (by : Change) (call : RowView → Called) (book : State) (slave : Option ℕ) → IsSound book → ((view : RowView) → (call view).stages ≡ row_changes by view ∷ []) → ((s : ℕ) → AllHold (call (view_of m s book)).checks → (e : Entry) → entry_at m s book.now.core.rows ≡ Some e → FitsRow m s by e book) → IsSound (after_stages (stages_of (call (row_view_at m slave book))) book)
row_call_keeps laws m by call book None sound does fits =
    call_keeps (call no_view) book sound (λ all.
    let P : List (List Prim) → Type 0 = λ stages. IsSound (after_stages stages book) in
    subst P (sym (does no_view)) (empty_keeps laws book sound))
row_call_keeps laws m by call book (Some s) sound does fits =
    call_keeps (call (view_of m s book)) book sound (λ all.
    let P : List (List Prim) → Type 0 = λ stages. IsSound (after_stages stages book) in
    subst P (sym (does (view_of m s book))) (row_keeps laws m s by book (entry_at m s book.now.core.rows) sound refl (fits s all)))

rival_known : (book : State) (rival : Option ℕ) → option_map (master_node book.fixed.object.masters) rival ≡ None → rival ≡ None
rival_known book None is = refl
rival_known book (Some rival) is = cc

-- a slave that fits a request has no rival
unrivalled : (used : Bool) (rival : Option NodeId) → (if used then InUse else rivalled rival) ≡ Fits → rival ≡ None
unrivalled true rival is = cc
unrivalled false None is = refl
unrivalled false (Some other) is = cc

able : (caps : Caps) (view : RowView) (e : Entry) → view.entry ≡ Some e → IsTrue (can_have caps view) → IsTrue (has_all e.seed.all caps)
able caps view e is can =
    let P : Option Entry → Type 0 = λ o. IsTrue (can_have caps (record view { entry = o })) in
    subst P is can

awake_is_not_off : (mode known : Mode) → known ≡ mode → IsTrue (is_awake mode) → known ≢ Off
awake_is_not_off Off known is awake = cc
awake_is_not_off Active known is awake = λ off. cc
awake_is_not_off Asleep known is awake = cc
awake_is_not_off Suspending known is awake = λ off. cc

request_fits : (m : ℕ) (caps : Caps) (ack : ℕ) (book : State) → IsSound book → IsHeard book m → (s : ℕ) → AllHold (request_checks caps ack (view_of m s book)) → (e : Entry) → entry_at m s book.now.core.rows ≡ Some e → IsFit m s (Request caps) e book.now.core.rows
request_fits m caps ack book sound heard s all e is =
    let view : RowView = view_of m s book in (
      able caps view e is all.capable,
      rival_known book (rival_of m s book.now.core.rows) (unrivalled (is_in_use view) view.rival all.finding),
      awake_is_not_off (mode_of_master book.fixed book.now.core m) (mode_of m book.now.core.rows) (sound.knows.right m heard.there) heard.awake,
    )

set_fits : (m : ℕ) (caps : Caps) (ack : ℕ) (book : State) → IsSound book → IsHeard book m → (s : ℕ) → AllHold (set_requirement_checks caps ack (view_of m s book)) → (e : Entry) → entry_at m s book.now.core.rows ≡ Some e → IsFit m s (Set (mode_of_master book.fixed book.now.core m) caps) e book.now.core.rows
set_fits m caps ack book sound heard s all e is =
    (able caps (view_of m s book) e is all.capable, sound.knows.right m heard.there)

arming_fits : (m : ℕ) (node : NodeId) (enable : ℕ) (book : State) → (s : ℕ) → AllHold (set_wakeup_source_checks enable (proc_view m node book) (view_of m s book)) → (e : Entry) → entry_at m s book.now.core.rows ≡ Some e → FitsRow m s (arming node enable) e book
arming_fits m node enable book s all e is =
    let target : ProcView = proc_view m node book in
    let part = (both (is_some target.own) (is_some (view_of m s book).entry) all.permitted).0 in
    let at : is_at m s e ≡ true = (split (is_at m s) book.now.core.rows.entries e is).passes in
    let own : e.seed.master ≡ m = eqb-true e.seed.master m (both (e.seed.master == m) (e.seed.slave == s) at).0 in
    let P : ℕ → Type 0 = λ k. MayArm book.fixed k (arming node enable) in
    (tt, subst P (sym own) (arming_may m node enable book part))

-- a call on a processor keeps the book sound
put_keeps : RowLaws → (m : ℕ) (place : Option ℕ) (mode : Mode) (address : ℕ) (book : State) → IsSound book → IsSound (after_stage (put_at m place mode address) book)
put_keeps laws m None mode address book sound = empty_keeps laws book sound
put_keeps laws m (Some p) mode address book sound = stage_keeps laws book (Put_proc m p mode address) sound (put m p mode address)

-- a processor that is suspending goes on, and any other stays
on_keeps : RowLaws → (m : ℕ) (view : ProcView) (suspending : Bool) (book : State) → IsSound book → IsSound (after_stage (if suspending then proc_changes m Active (address_in view) view else []) book)
on_keeps laws m view true book sound = put_keeps laws m view.place Active (address_in view) book sound
on_keeps laws m view false book sound = empty_keeps laws book sound

enforced_free : (found : Found) → Each IsFree (enforced_by found)
enforced_free Nothing = tt
enforced_free (Unreadable fault) = tt
enforced_free Unusable = tt
enforced_free (Usable k) = (tt, tt)

-- each call keeps the book sound; the last line is for the calls that change nothing
pub called_keeps : KeepLaws → (m : ℕ) (call : Call) (book : State) → IsSound book → IsHeard book m → IsSound (after_stages (stages_of (called m call book)) book)
called_keeps laws m (SelfSuspend node address) book sound heard =
    let view : ProcView = proc_view m node book in
    call_keeps (self_suspend m address view) book sound (λ all. put_keeps laws.rows m view.place Suspending address book sound)
called_keeps laws m (ForcePowerdown node ack) book sound heard =
    call_keeps (force_powerdown (grants_in book) book.fixed m node ack) book sound
    (λ all. stages_kept laws (force_stages book.fixed node) book (offs_free book.fixed (Under node), (clears_free book.fixed node, tt)) sound)
called_keeps laws m (AbortSuspend node reason) book sound heard =
    let view : ProcView = proc_view m node book in
    call_keeps (abort_suspend m reason (is_asked m book) view) book sound (λ all. on_keeps laws.rows m view (is_in Suspending view) book sound)
called_keeps laws m (RequestWakeup node address ack) book sound heard =
    let view : WakeView = wake_view m node book in
    call_keeps (request_wakeup address ack view) book sound (λ all. request_keeps laws.rows address view.place view.target book sound)
called_keeps laws m (SetWakeupSource target source enable) book sound heard =
    row_call_keeps laws.rows m (arming target enable) (set_wakeup_source target enable (proc_view m target book)) book (slave_place source book) sound (λ view. refl) (arming_fits m target enable book)
called_keeps laws m (SystemShutdown shutdown_type subtype) book sound heard =
    call_keeps (system_shutdown (grants_in book) book.fixed m shutdown_type subtype) book sound
    (λ all. each_shutdown (λ stages. IsSound (after_stages stages book)) book.fixed m sound
    (λ restarts. stages_kept laws (own_stages book.fixed m restarts) book (own_free book.fixed m restarts) sound)
    (λ restarts. stages_kept laws (all_stages book.fixed restarts) book (all_free book.fixed restarts) sound) shutdown_type subtype)
called_keeps laws m (RequestNode node caps ack) book sound heard =
    row_call_keeps laws.rows m (Request caps) (request_node caps ack) book (slave_place node book) sound (λ view. refl) (λ s all e is. (request_fits m caps ack book sound heard s all e is, tt))
called_keeps laws m (ReleaseNode node) book sound heard =
    row_call_keeps laws.rows m Release release_node book (slave_place node book) sound (λ view. refl) (λ s all e is. (tt, tt))
called_keeps laws m (SetRequirement node caps ack) book sound heard =
    let mode : Mode = mode_of_master book.fixed book.now.core m in
    row_call_keeps laws.rows m (Set mode caps) (set_requirement mode caps ack) book (slave_place node book) sound (λ view. refl) (λ s all e is. (set_fits m caps ack book sound heard s all e is, tt))
called_keeps laws m (SetMaxLatency node latency) book sound heard =
    row_call_keeps laws.rows m (Limit latency) (set_max_latency latency) book (slave_place node book) sound (λ view. refl) (λ s all e is. (tt, tt))
called_keeps laws m (ResetAssert line action) book sound heard =
    call_keeps (reset_assert line action (line_view m line book)) book sound (λ all. reset_keeps laws.rows m line action book sound all)
called_keeps laws m InitFinalize book sound heard =
    call_keeps (init_finalize m) book sound (λ all. stage_keeps laws.rows book (Settle m) sound (settle m))
called_keeps laws m (SetConfiguration address) book sound heard =
    let found : Found = found_at address book.fixed in
    call_keeps (set_configuration found (permits_configure (grants_in book) m)) book sound
    (λ all. stage_kept laws (enforced_by found) book (enforced_free found) sound)
called_keeps laws m Other book sound heard = sound
called_keeps laws m call book sound heard = call_keeps (called m call book) book sound (λ all. sound)
