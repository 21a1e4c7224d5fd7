-- The object in force stays, but for the call that configures.
use Rattle.std.proofs.Common.{◌≡◌, ℕ, ◌==◌, Bool, true, false, cond, if◌then◌else◌, List, [], ◌∷◌, ◌+◌, Option, Some, None, refl, ap, sym, ◌∙◌, subst}
use Rattle.std.specs.Prelude.{find, flat_map, option_and_then, unwrap_or}
use Rattle.std.specs.List.{AllByRecursion as Each}
use Rattle.std.proofs.lemmas.Bool.{eqb-true}
use Rattle.pm_base.specs.declared.events.Event.{Event}
use Rattle.pm_base.specs.declared.events.Event.TheVariants.{Ipi, Boot, Wfi, Irq, Gic}
use Rattle.pm_base.specs.declared.names.Mode.{Mode}
use Rattle.pm_base.specs.declared.names.Mode.TheVariants.{Off, Active, Asleep, Suspending}
use Rattle.pm_base.specs.declared.names.NodeId.{NodeId}
use Rattle.pm_ipi.specs.declared.calls.Call.{Call}
use Rattle.pm_ipi.specs.declared.calls.Call.TheVariants as calls
use Rattle.pm_ipi.specs.Calls.{call_of, calls_by, row_of}
use Rattle.pm_procs.specs.declared.procs.Proc.{Proc as Processor}
use Rattle.pm_procs.specs.Procs.{proc_at}
use Rattle.pm_rows.specs.declared.row.Change.{Change}
use Rattle.pm_rows.specs.declared.row.Entry.{Entry}
use Rattle.pm_topology.specs.declared.places.Kind.{Kind}
use Rattle.pm_topology.specs.declared.places.Kind.TheVariants.{Proc, Slave}
use Rattle.pm_topology.specs.declared.topology.SlaveDef.{SlaveDef}
use Rattle.pm_topology.specs.Places.{kind_of}
use Rattle.pm_state.specs.declared.scope.Scope.TheVariants.{All, Own, Under}
use Rattle.pm_state.specs.Members.{first_own, mode_of_master, owner_at}
use Rattle.pm_state.specs.Prims.{Prim, Clear}
use Rattle.pm_state.specs.Scope.{clear_at, clears_from, is_slave_under}
use Rattle.pm_state.specs.Stages.{after_stage, last_of, path_from}
use Rattle.pm_state.specs.State.{Fixed, State, in_force}
use Rattle.pm_state.specs.Values.{master_place}
use Rattle.pm_state.proofs.Each.{Each-append}
use Rattle.pm_state.proofs.ScopeSound.{Stays, offs_stay, stage_force}
use Rattle.pm_calls.specs.declared.reset_lines.LineView.{LineView}
use Rattle.pm_calls.specs.declared.reset_lines.OwnedProc.{OwnedProc}
use Rattle.pm_calls.specs.declared.views.ProcView.{ProcView}
use Rattle.pm_calls.specs.declared.views.WakeView.{WakeView}
use Rattle.pm_calls.specs.declared.views.Wakeable.{Wakeable}
use Rattle.pm_calls.specs.Events.{boot_at, boot_by, booted, interrupt_at, interrupt_by, raised_at, wait_at, wait_by, waits, woken_at, woken_by, woken_from, woken_in}
use Rattle.pm_calls.specs.ProcCalls.{address_in, is_in, proc_changes, put_at}
use Rattle.pm_calls.specs.ResetLines.{line_view}
use Rattle.pm_calls.specs.RowCalls.{changes_of}
use Rattle.pm_calls.specs.Shapes.{Shape, All_configured, All_forced, All_reset, All_shut, Other_wakeup, Own_abort, Own_arming, Own_holds, Own_row, Own_suspend, shaped}
use Rattle.pm_calls.specs.Verdict.{Called}
use Rattle.pm_calls.specs.Views.{proc_view, row_view, wake_view}
use Rattle.pm_calls.specs.calls.{shape_of}
use Rattle.pm_calls.specs.calls.RequestWakeup.{woken_to}
use Rattle.pm_calls.specs.calls.ResetAssert.{line_put, reset_changes, stopped, stopped_by}
use Rattle.pm_calls.specs.calls.SetWakeupSource.{arming}
use Rattle.pm_calls.specs.calls.SystemShutdown.{all_stages, own_stages, starting}
use Rattle.pm_calls.proofs.ShapeLaw.{called_shaped}
use Rattle.pm_calls.proofs.ShutdownCases.{each_shutdown}
use Rattle.pm_step.specs.Step.{call_at, configures, effect, message_stages, stages}
use Rattle.pm_step.proofs.MessageLaw.{of_message}

-- stages that put no other object in force
abbrev AllStay : List (List Prim) → Type 0
AllStay stages = Each (Each Stays) stages

path_force : (stages : List (List Prim)) (book : State) → AllStay stages → (last_of book (path_from stages book)).now.force ≡ book.now.force
path_force [] book stay = refl
path_force (stage ∷ later) book stay = path_force later (after_stage stage book) stay.1 ∙ stage_force stage book stay.0

-- ---- what calls change

row_stays : (by : Change) (entry : Option Entry) → Each Stays (changes_of by entry)
row_stays by None = tt
row_stays by (Some entry) = (tt, tt)

put_stays : (m : ℕ) (place : Option ℕ) (mode : Mode) (address : ℕ) → Each Stays (put_at m place mode address)
put_stays m None mode address = tt
put_stays m (Some p) mode address = (tt, tt)

-- changes that are made or not
made_stay : (made : Bool) (prims : List Prim) → Each Stays prims → Each Stays (if made then prims else [])
made_stay true prims stay = stay
made_stay false prims stay = tt

left_stay : (left : Bool) (prims : List Prim) → Each Stays prims → Each Stays (if left then [] else prims)
left_stay true prims stay = tt
left_stay false prims stay = stay

wakeup_stays : (address place : Option ℕ) (target : Option Wakeable) → Each Stays (woken_to address place target)
wakeup_stays address (Some p) (Some target) = (tt, tt)
wakeup_stays address (Some p) None = tt
wakeup_stays address None target = tt

clears_stay : (fixed : Fixed) (forced : NodeId) (s : ℕ) (slaves : List SlaveDef) → Each Stays (clears_from fixed forced s slaves)
clears_stay fixed forced s [] = tt
clears_stay fixed forced s (slave ∷ slaves) =
    Each-append Stays (clear_at fixed forced s slave.node) (clears_from fixed forced (s + 1) slaves)
    (made_stay (is_slave_under fixed.topology (kind_of fixed.topology forced) slave.node) (Clear s ∷ []) (tt, tt))
    (clears_stay fixed forced (s + 1) slaves)

line_stays : (place : Option ℕ) (asserted : Bool) → Each Stays (line_put place asserted)
line_stays None asserted = tt
line_stays (Some l) asserted = (tt, tt)

stop_stays : (target : Option OwnedProc) → Each Stays (stopped target)
stop_stays None = tt
stop_stays (Some target) = (tt, tt)

reset_stays : (action : ℕ) (view : LineView) → Each Stays (reset_changes action view)
reset_stays action view =
    Each-append Stays (line_put view.place (action == 1)) (stopped_by action view.target) (line_stays view.place (action == 1))
    (left_stay (action == 0) (stopped view.target) (stop_stays view.target))

starting_stays : (m : ℕ) (first : Option ℕ) → Each Stays (starting m first)
starting_stays m None = tt
starting_stays m (Some p) = (tt, tt)

own_stay : (fixed : Fixed) (m : ℕ) (restarts : Bool) → AllStay (own_stages fixed m restarts)
own_stay fixed m false = (offs_stay fixed (Own m), tt)
own_stay fixed m true = (offs_stay fixed (Own m), (starting_stays m (first_own fixed m), tt))

all_stay : (fixed : Fixed) (restarts : Bool) → AllStay (all_stages fixed restarts)
all_stay fixed false = (offs_stay fixed All, ((tt, tt), tt))
all_stay fixed true = (offs_stay fixed All, ((tt, tt), tt))

-- ---- calls

-- the call that configures
abbrev is_configuration : Call → Bool
is_configuration (calls.SetConfiguration address) = true
is_configuration _ = false

-- and its shape
abbrev configures_as : Shape → Bool
configures_as (All_configured address) = true
configures_as _ = false

shaped_isnt : (call : Call) → is_configuration call ≡ false → configures_as (shape_of call) ≡ false
shaped_isnt (calls.SetConfiguration address) isnt = cc
shaped_isnt _ isnt = refl

shape_stays : (m : ℕ) (shape : Shape) (book : State) → configures_as shape ≡ false → AllStay (shaped m shape book).stages
shape_stays m (All_configured address) book isnt = cc
shape_stays m (Own_row node by call) book isnt =
    (row_stays (by (mode_of_master book.fixed book.now.core m)) (row_view m node book).entry, tt)
shape_stays m (Own_arming target source enable) book isnt = (row_stays (arming target enable) (row_view m source book).entry, tt)
shape_stays m Own_holds book isnt = ((tt, tt), tt)
shape_stays m (Own_suspend node address) book isnt = (put_stays m (proc_view m node book).place Suspending address, tt)
shape_stays m (Own_abort node reason) book isnt =
    let view : ProcView = proc_view m node book in
    (made_stay (is_in Suspending view) (proc_changes m Active (address_in view) view) (put_stays m view.place Active (address_in view)), tt)
shape_stays m (Other_wakeup node address ack) book isnt =
    let view : WakeView = wake_view m node book in
    (wakeup_stays address view.place view.target, tt)
shape_stays m (All_forced node ack) book isnt =
    (offs_stay book.fixed (Under node), (clears_stay book.fixed node 0 book.fixed.topology.slaves, tt))
shape_stays m (All_shut shutdown_type subtype) book isnt =
    each_shutdown AllStay book.fixed m tt (own_stay book.fixed m) (all_stay book.fixed) shutdown_type subtype
shape_stays m (All_reset line action) book isnt = (reset_stays action (line_view m line book), tt)
shape_stays m _ book isnt = tt

message_stays : (call : Call) (book : State) (place : Option ℕ) → is_configuration call ≡ false → AllStay (message_stages (option_and_then (call_at call book) place))
message_stays call book place isnt =
    of_message AllStay tt call book place (λ m.
    let Q : Called → Type 0 = λ c. AllStay c.stages in
    subst Q (sym (called_shaped m call book)) (shape_stays m (shape_of call) book (shaped_isnt call isnt)))

-- a call of another number doesn't configure
number_isnt : (api : ℕ) (call : Call) → (api == 2) ≡ false → ((row_of call).number == api) ≡ true → is_configuration call ≡ false
number_isnt api (calls.SetConfiguration address) isnt is = absurd (clash (sym (eqb-true 2 api is)))
  where
    clash : api ≡ 2 → ⊥
    clash same = let no : (2 == 2) ≡ false = ap (λ n. n == 2) (sym same) ∙ isnt in cc
number_isnt api _ isnt is = refl

found_if : (api : ℕ) (x : Call) (here : Bool) (later : Option Call) → (api == 2) ≡ false → ((row_of x).number == api) ≡ here
    → is_configuration (unwrap_or later calls.Unknown) ≡ false → is_configuration (unwrap_or (cond here (Some x) later) calls.Unknown) ≡ false
found_if api x true later isnt is rest = number_isnt api x isnt is
found_if api x false later isnt is rest = rest

found_isnt : (api : ℕ) (all : List Call) → (api == 2) ≡ false → is_configuration (unwrap_or (find (λ call. (row_of call).number == api) all) calls.Unknown) ≡ false
found_isnt api [] isnt = refl
found_isnt api (x ∷ all) isnt =
    found_if api x ((row_of x).number == api) (find (λ call. (row_of call).number == api) all) isnt refl (found_isnt api all isnt)

-- ---- other events

unless_stay : (halted : Bool) (stages : List (List Prim)) → AllStay stages → AllStay (if halted then [] else stages)
unless_stay true stages stay = tt
unless_stay false stages stay = stay

booted_stays : (m p address : ℕ) (mode : Mode) → AllStay (booted m p address mode)
booted_stays m p address Off = ((tt, tt), tt)
booted_stays m p address Active = tt
booted_stays m p address Asleep = tt
booted_stays m p address Suspending = tt

boot_stays : (owner : Option ℕ) (p address : ℕ) (proc : Processor) → AllStay (boot_by owner p address proc)
boot_stays None p address proc = tt
boot_stays (Some m) p address proc = booted_stays m p address proc.mode

boots_stay : (kind : Kind) (address : ℕ) (book : State) → AllStay (boot_at kind address book)
boots_stay (Proc p) address book =
    boot_stays (owner_at book.fixed.object book.fixed.topology p) p address (proc_at p book.now.core.procs)
boots_stay _ address book = tt

waited_stays : (m p address : ℕ) (mode : Mode) → AllStay (waits m p address mode)
waited_stays m p address Suspending = ((tt, tt), tt)
waited_stays m p address Off = tt
waited_stays m p address Active = tt
waited_stays m p address Asleep = tt

wait_stays : (owner : Option ℕ) (p : ℕ) (proc : Processor) → AllStay (wait_by owner p proc)
wait_stays None p proc = tt
wait_stays (Some m) p proc = waited_stays m p proc.address proc.mode

waits_stay : (kind : Kind) (book : State) → AllStay (wait_at kind book)
waits_stay (Proc p) book = wait_stays (owner_at book.fixed.object book.fixed.topology p) p (proc_at p book.now.core.procs)
waits_stay _ book = tt

woken_stays : (m p address : ℕ) (mode : Mode) → Each Stays (woken_in m p address mode)
woken_stays m p address Asleep = (tt, tt)
woken_stays m p address Suspending = (tt, tt)
woken_stays m p address Off = tt
woken_stays m p address Active = tt

interrupt_stays : (owner : Option ℕ) (p : ℕ) (proc : Processor) → AllStay (interrupt_by owner p proc)
interrupt_stays None p proc = tt
interrupt_stays (Some m) p proc = (woken_stays m p proc.address proc.mode, tt)

interrupts_stay : (kind : Kind) (book : State) → AllStay (interrupt_at kind book)
interrupts_stay (Proc p) book =
    interrupt_stays (owner_at book.fixed.object book.fixed.topology p) p (proc_at p book.now.core.procs)
interrupts_stay _ book = tt

at_stays : (m : ℕ) (kind : Kind) (book : State) → Each Stays (woken_at m kind book)
at_stays m (Proc p) book = woken_stays m p (proc_at p book.now.core.procs).address (proc_at p book.now.core.procs).mode
at_stays m _ book = tt

armed_stays : (m : ℕ) (armed : Option NodeId) (book : State) → Each Stays (woken_by m armed book)
armed_stays m None book = tt
armed_stays m (Some node) book = at_stays m (kind_of book.fixed.topology node) book

rows_stay : (s : ℕ) (book : State) (entries : List Entry) → Each Stays (flat_map (woken_from s book) entries)
rows_stay s book [] = tt
rows_stay s book (e ∷ es) =
    Each-append Stays (woken_from s book e) (flat_map (woken_from s book) es)
    (made_stay (e.seed.slave == s) (woken_by e.seed.master e.row.armed book) (armed_stays e.seed.master e.row.armed book))
    (rows_stay s book es)

raises_stay : (kind : Kind) (book : State) → AllStay (raised_at kind book)
raises_stay (Slave s) book = (rows_stay s book book.now.core.rows.entries, tt)
raises_stay _ book = tt

-- ---- a step

event_stays : (event : Event) (book : State) → configures event ≡ false → AllStay (stages event book)
event_stays (Ipi master message) book isnt =
    message_stays (call_of message) book (master_place master book) (found_isnt message.api (calls_by message) isnt)
event_stays (Boot proc address) book isnt =
    unless_stay book.now.core.halted (boot_at (kind_of book.fixed.topology proc) address book) (boots_stay (kind_of book.fixed.topology proc) address book)
event_stays (Wfi proc) book isnt =
    unless_stay book.now.core.halted (wait_at (kind_of book.fixed.topology proc) book) (waits_stay (kind_of book.fixed.topology proc) book)
event_stays (Irq slave) book isnt =
    unless_stay book.now.core.halted (raised_at (kind_of book.fixed.topology slave) book) (raises_stay (kind_of book.fixed.topology slave) book)
event_stays (Gic proc) book isnt =
    unless_stay book.now.core.halted (interrupt_at (kind_of book.fixed.topology proc) book) (interrupts_stay (kind_of book.fixed.topology proc) book)
event_stays _ book isnt = tt

-- what is told after the stages leaves it too
pub object_stays : (event : Event) (book : State) → configures event ≡ false → in_force (effect event book) ≡ in_force book
object_stays event book isnt = path_force (stages event book) book (event_stays event book isnt)
