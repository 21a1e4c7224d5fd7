-- Which calls are hidden: those of a master within reach, and those that change a row on a slave within reach, or wake or ask a
-- master within reach.
use Rattle.std.proofs.Common.{◌≡◌, ℕ, Bool, true, false, not, ◌&&◌, ◌||◌, ◌==◌, if◌then◌else◌, List, [], ◌∷◌, Option, Some, None, refl, sym, ◌∙◌, ap, subst, inl, inr}
use Rattle.std.specs.Prelude.{unwrap_or}
use Rattle.std.proofs.lemmas.Bool.{eqb-true}
use Rattle.pm_laws.proofs.Common.{Active, AreHidden, At_row, Border, Called, Enforce, Entry, IsUnseen, Kind, KindLaws, Mode, Prim, Put_proc, Settle, State, Suspending, called, can_wake, changes_within, changing, is_arming, is_asked, is_slave_within, is_within, kind_of, mode_of_master, owner_at, owner_by, proc_at, proc_view, row_view_at, shape_within, stages_by, stages_of, suspend_view, wake_view, wake_view_at, wakeable}
use Rattle.pm_base.proofs.Booleans.{both, either}
use Rattle.pm_topology.specs.declared.places.Kind.TheVariants.{Proc}
use Rattle.pm_procs.specs.declared.procs.Proc.{Proc as Processor}
use Rattle.pm_grants.specs.Grants.{permits_configure, permits_wake}
use Rattle.pm_state.specs.State.{grants_in}
use Rattle.pm_base.proofs.Counts.{split}
use Rattle.pm_ipi.specs.declared.calls.Call.{Call}
use Rattle.pm_ipi.specs.declared.calls.Call.TheVariants.{SetConfiguration}
use Rattle.pm_state.specs.declared.objects.Found.{Found}
use Rattle.pm_state.specs.declared.objects.Found.TheVariants.{Nothing, Unreadable, Unusable, Usable}
use Rattle.pm_state.specs.Objects.{found_at}
use Rattle.pm_calls.specs.calls.SetConfiguration.{enforced_by}
use Rattle.pm_rows.specs.declared.row.Change.{Change}
use Rattle.pm_rows.specs.Rows.{entry_at, is_at}
use Rattle.pm_calls.specs.declared.views.ProcView.{ProcView}
use Rattle.pm_calls.specs.declared.views.RowView.{RowView}
use Rattle.pm_calls.specs.Checks.{Cause, Fits, Stands, first_failing}
use Rattle.pm_calls.specs.ProcCalls.{address_in, is_in, proc_changes, put_at}
use Rattle.pm_calls.specs.RowCalls.{changes_of, row_changes}
use Rattle.pm_state.specs.Values.{slave_place}
use Rattle.pm_calls.specs.calls.AbortSuspend.{abort_suspend}
use Rattle.pm_calls.specs.calls.InitFinalize.{init_finalize}
use Rattle.pm_calls.specs.calls.RequestSuspend.{request_suspend}
use Rattle.pm_calls.specs.calls.RequestWakeup.{request_wakeup, woken_to}
use Rattle.pm_calls.specs.calls.SelfSuspend.{self_suspend}
use Rattle.pm_calls.specs.calls.SetWakeupSource.{arming, set_wakeup_source}
use Rattle.pm_laws.proofs.ResetLaw.{reset_hidden}
use Rattle.pm_laws.proofs.DownHidden.{call_hides, force_hidden, shutdown_hidden}
use Rattle.pm_laws.proofs.HiddenLemmas.{HasClosed, by_one, one_hidden, within_by}
use Rattle.pm_calls.specs.calls.{shape_of}
use Rattle.pm_calls.specs.Shapes.{Shape, Own_row, Own_arming, Own_holds, Own_suspend, Own_abort, Other_wakeup, Other_suspend, All_forced, All_shut, All_reset, All_configured, shaped}
use Rattle.pm_calls.proofs.ShapeLaw.{called_shaped}
use Rattle.pm_laws.proofs.ShapesLaw.{IsUnarmed, shape_unarmed}

-- a call hides if its changes do
hidden_by : (border : Border) (cause : Cause) (stages : List (List Prim)) → AreHidden border stages → AreHidden border (stages_by cause stages)
hidden_by border (Stands Fits) stages hidden = hidden
hidden_by border _ stages hidden = tt

call_hidden : (border : Border) (call : Called) → AreHidden border call.stages → AreHidden border (stages_of call)
call_hidden border call hidden = hidden_by border (first_failing call.checks) call.stages hidden

-- nothing is seen of the stages of a call
abbrev AreStagesHidden : Border → Called → Type 0
AreStagesHidden border call = AreHidden border (stages_of call)

-- ---- rows

-- a change of the row of this master on this slave isn't seen
abbrev Hides : Border → ℕ → ℕ → Change → Type 0
Hides border m s by = (border.master m && (border.slave s || is_arming by)) ≡ false

row_hidden : (border : Border) (m s : ℕ) (by : Change) (book : State) (entry : Option Entry) → entry_at m s book.now.core.rows ≡ entry → Hides border m s by → IsUnseen border (changes_of by entry)
row_hidden border m s by book None found hides = refl
row_hidden border m s by book (Some entry) found hides =
    let is : is_at m s entry ≡ true = (split (is_at m s) book.now.core.rows.entries entry found).passes in
    let parts = both (entry.seed.master == m) (entry.seed.slave == s) is in
    let P : ℕ → Type 0 = λ k. (border.master k && (border.slave s || is_arming by)) ≡ false in
    let Q : ℕ → Type 0 = λ k. (border.master entry.seed.master && (border.slave k || is_arming by)) ≡ false in
    one_hidden border (At_row entry.seed.master entry.seed.slave by)
    (subst Q (sym (eqb-true entry.seed.slave s parts.1)) (subst P (sym (eqb-true entry.seed.master m parts.0)) hides))

row_call_hidden : (border : Border) (m : ℕ) (by : Change) (call : RowView → Called) (book : State) (slave : Option ℕ) → ((view : RowView) → (call view).stages ≡ row_changes by view ∷ []) → ((s : ℕ) → slave ≡ Some s → Hides border m s by) → AreHidden border (stages_of (call (row_view_at m slave book)))
row_call_hidden border m by call book None does hides =
    let view : RowView = row_view_at m None book in
    call_hidden border (call view) (subst (AreHidden border) (sym (does view)) (refl, tt))
row_call_hidden border m by call book (Some s) does hides =
    let view : RowView = row_view_at m (Some s) book in
    call_hidden border (call view) (subst (AreHidden border) (sym (does view)) (row_hidden border m s by book (entry_at m s book.now.core.rows) refl (hides s refl), tt))

-- ---- processors

put_hidden : (border : Border) (m : ℕ) (place : Option ℕ) (mode : Mode) (address : ℕ) → border.master m ≡ false → IsUnseen border (put_at m place mode address)
put_hidden border m None mode address within = refl
put_hidden border m (Some p) mode address within = one_hidden border (Put_proc m p mode address) within

-- nor is the change seen by which a master within goes on in place of suspending
going_hidden : (border : Border) (m : ℕ) (view : ProcView) (suspending : Bool) → border.master m ≡ false → IsUnseen border (if suspending then proc_changes m Active (address_in view) view else [])
going_hidden border m view true within = put_hidden border m view.place Active (address_in view) within
going_hidden border m view false within = refl

-- the wake-up of a processor of a master within isn't seen
wake_hidden : (border : Border) (k p : ℕ) (address : Option ℕ) (proc : Processor) (can : Bool) → border.master k ≡ false → IsUnseen border (woken_to address (Some p) (if can then Some (record { owner = k; proc = proc }) else None))
wake_hidden border k p address proc true within = one_hidden border (Put_proc k p Active (unwrap_or address proc.address)) within
wake_hidden border k p address proc false within = refl

-- whom a master within may wake is within
woken_within : (border : Border) (m k : ℕ) (book : State) → HasClosed border book → border.master m ≡ false → can_wake m k book ≡ true → border.master k ≡ false
woken_within border m k book closed within can =
    elim (either (k == m) (permits_wake (grants_in book) m k) can) [
      | inl same ↦ ap border.master (eqb-true k m same) ∙ within
      | inr may ↦ within_by (border.master k) (border.master m) (closed.closed.wakes m k (by_one book (λ g. permits_wake g m k) closed.force may)) within
    ]

caller_wakes : (border : Border) (m k p : ℕ) (address : Option ℕ) (book : State) (can : Bool) → can_wake m k book ≡ can → HasClosed border book → border.master m ≡ false → IsUnseen border (woken_to address (Some p) (if can then Some (record { owner = k; proc = proc_at p book.now.core.procs }) else None))
caller_wakes border m k p address book true is closed within =
    wake_hidden border k p address (proc_at p book.now.core.procs) true (woken_within border m k book closed within is)
caller_wakes border m k p address book false is closed within = refl

caller_owner : (border : Border) (m p : ℕ) (owner : Option ℕ) (address : Option ℕ) (book : State) → HasClosed border book → border.master m ≡ false → IsUnseen border (woken_to address (Some p) (wakeable m p owner book))
caller_owner border m p None address book closed within = refl
caller_owner border m p (Some k) address book closed within = caller_wakes border m k p address book (can_wake m k book) refl closed within

caller_kind : (border : Border) (m : ℕ) (kind : Kind) (address : Option ℕ) (book : State) → HasClosed border book → border.master m ≡ false → IsUnseen border (woken_to address (wake_view_at m kind book).place (wake_view_at m kind book).target)
caller_kind border m (Proc p) address book closed within =
    caller_owner border m p (owner_at book.fixed.object book.fixed.topology p) address book closed within
caller_kind border m _ address book closed within = refl

-- ---- the two reasons

master_hides : (border : Border) (m s : ℕ) (by : Change) → border.master m ≡ false → Hides border m s by
master_hides border m s by within = ap (λ b. b && (border.slave s || is_arming by)) within

none_seen : (a : Bool) → (a && (false || false)) ≡ false
none_seen true = refl
none_seen false = refl

slave_hides : (border : Border) (m s : ℕ) (by : Change) → is_arming by ≡ false → border.slave s ≡ false → Hides border m s by
slave_hides border m s by plain within =
    ap (λ b. border.master m && (b || is_arming by)) within
    ∙ (ap (λ b. border.master m && (false || b)) plain ∙ none_seen (border.master m))

-- another object in force is seen if some master is beyond; then nobody within may put it in force
found_hidden : (border : Border) (m : ℕ) (found : Found) (book : State) → HasClosed border book → border.master m ≡ false → permits_configure (grants_in book) m ≡ true → IsUnseen border (enforced_by found)
found_hidden border m Nothing book closed within may = refl
found_hidden border m (Unreadable fault) book closed within may = refl
found_hidden border m Unusable book closed within may = refl
found_hidden border m (Usable k) book closed within may =
    one_hidden border (Enforce k) (within_by border.some (border.master m) (closed.closed.configures m (by_one book (λ g. permits_configure g m) closed.force may)) within)

configuration_hidden : (border : Border) (m address : ℕ) (book : State) → HasClosed border book → border.master m ≡ false → AreHidden border (stages_of (called m (SetConfiguration address) book))
configuration_hidden border m address book closed within =
    call_hides border (called m (SetConfiguration address) book)
    (λ all. (found_hidden border m (found_at address book.fixed) book closed within all.permitted, tt))

caller_shape : KindLaws → (border : Border) (m : ℕ) (shape : Shape) (book : State) → HasClosed border book → border.master m ≡ false → AreHidden border (stages_of (shaped m shape book))
caller_shape laws border m (Own_row node by call) book closed within =
    let mode : Mode = mode_of_master book.fixed book.now.core m in
    row_call_hidden border m (by mode) (λ view. changing (call mode view).checks (row_changes (by mode) view)) book (slave_place node book) (λ view. refl)
    (λ s is. master_hides border m s (by mode) within)
caller_shape laws border m (Own_arming target source enable) book closed within =
    row_call_hidden border m (arming target enable) (set_wakeup_source target enable (proc_view m target book)) book (slave_place source book) (λ view. refl)
    (λ s is. master_hides border m s (arming target enable) within)
caller_shape laws border m Own_holds book closed within = call_hidden border (init_finalize m) (one_hidden border (Settle m) within, tt)
caller_shape laws border m (Own_suspend node address) book closed within =
    let view = proc_view m node book in
    call_hidden border (self_suspend m address view) (put_hidden border m view.place Suspending address within, tt)
caller_shape laws border m (Own_abort node reason) book closed within =
    let view = proc_view m node book in
    call_hidden border (abort_suspend m reason (is_asked m book) view) (going_hidden border m view (is_in Suspending view) within, tt)
caller_shape laws border m (Other_wakeup node address ack) book closed within =
    call_hidden border (request_wakeup address ack (wake_view m node book)) (caller_kind border m (kind_of book.fixed.topology node) address book closed within, tt)
caller_shape laws border m (All_forced node ack) book closed within = force_hidden border m ack node book closed within
caller_shape laws border m (All_shut shutdown_type subtype) book closed within = shutdown_hidden border m shutdown_type subtype book closed within
caller_shape laws border m (All_reset line action) book closed within = reset_hidden border m line action book closed within
caller_shape laws border m (All_configured address) book closed within = configuration_hidden border m address book closed within
caller_shape laws border m shape book closed within = call_hidden border (shaped m shape book) tt

-- a call of a master within
pub caller_hidden : KindLaws → (border : Border) (m : ℕ) (call : Call) (book : State) → HasClosed border book → border.master m ≡ false → AreHidden border (stages_of (called m call book))
caller_hidden laws border m call book closed within =
    subst (AreStagesHidden border) (sym (called_shaped m call book)) (caller_shape laws border m (shape_of call) book closed within)

pub turned : (b : Bool) → not b ≡ true → b ≡ false
turned true is = cc
turned false is = refl

within_is : (border : Border) (slave : Option ℕ) → is_slave_within border slave ≡ true → (s : ℕ) → slave ≡ Some s → border.slave s ≡ false
within_is border None is s at = cc
within_is border (Some k) is s at =
    let same : k ≡ s = cc in ap border.slave (sym same) ∙ turned (border.slave k) is

target_owner : (border : Border) (m p : ℕ) (owner : Option ℕ) (address : Option ℕ) (book : State) → is_within border owner ≡ true → IsUnseen border (woken_to address (Some p) (wakeable m p owner book))
target_owner border m p None address book is = refl
target_owner border m p (Some k) address book is =
    wake_hidden border k p address (proc_at p book.now.core.procs) (can_wake m k book) (turned (border.master k) is)

target_kind : (border : Border) (m : ℕ) (kind : Kind) (address : Option ℕ) (book : State) → is_within border (owner_by kind book) ≡ true → IsUnseen border (woken_to address (wake_view_at m kind book).place (wake_view_at m kind book).target)
target_kind border m (Proc p) address book is = target_owner border m p (owner_at book.fixed.object book.fixed.topology p) address book is
target_kind border m _ address book is = refl

target_shape : (border : Border) (m : ℕ) (shape : Shape) (book : State) → IsUnarmed shape → shape_within border shape book ≡ true → AreHidden border (stages_of (shaped m shape book))
target_shape border m (Own_row node by call) book unarmed is =
    let mode : Mode = mode_of_master book.fixed book.now.core m in
    row_call_hidden border m (by mode) (λ view. changing (call mode view).checks (row_changes (by mode) view)) book (slave_place node book) (λ view. refl)
    (λ s at. slave_hides border m s (by mode) (unarmed mode) (within_is border (slave_place node book) is s at))
target_shape border m (Other_wakeup node address ack) book unarmed is =
    call_hidden border (request_wakeup address ack (wake_view m node book)) (target_kind border m (kind_of book.fixed.topology node) address book is, tt)
target_shape border m (Other_suspend node ack latency state) book unarmed is =
    call_hidden border (request_suspend m node ack latency state (suspend_view m node book)) tt
target_shape border m _ book unarmed is = cc

-- a call that changes a row on a slave within, or wakes a processor of a master within or asks such a master to suspend
pub slave_hidden : (border : Border) (m : ℕ) (call : Call) (book : State) → changes_within border call book ≡ true → AreHidden border (stages_of (called m call book))
slave_hidden border m call book is =
    subst (AreStagesHidden border) (sym (called_shaped m call book)) (target_shape border m (shape_of call) book (shape_unarmed call) is)
