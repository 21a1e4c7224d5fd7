-- The shape of a call: what it reads of the book and what it changes. Calls of one shape differ in what they check and tell.
use Rattle.std.specs.Prelude.{ℕ, Bool, true, false, Option}
use Rattle.pm_base.specs.declared.names.LineId.{LineId}
use Rattle.pm_base.specs.declared.names.Mode.{Mode}
use Rattle.pm_base.specs.declared.names.NodeId.{NodeId}
use Rattle.pm_rows.specs.declared.row.Change.{Change}
use Rattle.pm_calls.specs.declared.characteristics.Characteristics.{Characteristics}
use Rattle.pm_calls.specs.declared.views.RowView.{RowView}
use Rattle.pm_calls.specs.declared.views.StatusView.{StatusView}
use Rattle.pm_calls.specs.Characteristics.{characteristics}
use Rattle.pm_grants.specs.Grants.{permits_configure}
use Rattle.pm_state.specs.Members.{mode_of_master}
use Rattle.pm_state.specs.Objects.{found_at}
use Rattle.pm_calls.specs.ResetLines.{line_status, line_view}
use Rattle.pm_calls.specs.RowCalls.{row_changes}
use Rattle.pm_state.specs.State.{State, grants_in}
use Rattle.pm_calls.specs.Verdict.{Called, changing, effecting, told}
use Rattle.pm_calls.specs.Views.{is_asked, proc_view, row_view, status_view, suspend_view, wake_view, watched}
use Rattle.pm_calls.specs.calls.AbortSuspend.{abort_suspend}
use Rattle.pm_calls.specs.calls.ForcePowerdown.{force_powerdown}
use Rattle.pm_calls.specs.calls.InitFinalize.{init_finalize}
use Rattle.pm_calls.specs.calls.RegisterNotifier.{register_notifier}
use Rattle.pm_calls.specs.calls.RequestSuspend.{request_suspend}
use Rattle.pm_calls.specs.calls.RequestWakeup.{request_wakeup}
use Rattle.pm_calls.specs.calls.ResetAssert.{reset_assert}
use Rattle.pm_calls.specs.calls.SelfSuspend.{self_suspend}
use Rattle.pm_calls.specs.calls.SetConfiguration.{set_configuration}
use Rattle.pm_calls.specs.calls.SetWakeupSource.{set_wakeup_source}
use Rattle.pm_calls.specs.calls.SystemShutdown.{system_shutdown}

pub data Shape : Type 0 where
  -- it reads nothing of the book, and changes nothing
  Constant : (call : Called) → Shape
  -- it tells of the status of a node, of its characteristics, or of the value of a reset line, and changes nothing
  Node_status : (node : NodeId) (call : StatusView → Called) → Shape
  Node_figures : (node : NodeId) (call : Option Characteristics → Called) → Shape
  Line_value : (line : LineId) (call : Option ℕ → Called) → Shape
  -- it changes the caller's row on a slave, by the caller's mode
  Own_row : (node : NodeId) (by : Mode → Change) (call : Mode → RowView → Called) → Shape
  -- it arms the caller's row on a slave with a processor of the caller, or disarms it
  Own_arming : (target source : NodeId) (enable : ℕ) → Shape
  -- the caller drops its holds
  Own_holds : Shape
  -- a processor of the caller starts to suspend, or its suspend is aborted
  Own_suspend : (node : NodeId) (address : ℕ) → Shape
  Own_abort : (node : NodeId) (reason : ℕ) → Shape
  -- a notifier of the caller is set or removed
  Own_notifier : (node : NodeId) (event enable : ℕ) → Shape
  -- another master is woken, or asked to suspend
  Other_wakeup : (node : NodeId) (address : Option ℕ) (ack : ℕ) → Shape
  Other_suspend : (node : NodeId) (ack latency state : ℕ) → Shape
  -- processors go off, with all that follows: by force, by a shutdown, by a reset line
  All_forced : (node : NodeId) (ack : ℕ) → Shape
  All_shut : (shutdown_type subtype : ℕ) → Shape
  All_reset : (line : LineId) (action : ℕ) → Shape
  -- another object is put in force
  All_configured : (address : ℕ) → Shape

-- the call with its checks and words, without changes and other effects
abbrev pub telling : Called → Called
telling call = effecting call.checks (told call.effects.words)

-- a call of a shape by the configured master at place m
abbrev pub shaped : ℕ → Shape → State → Called
shaped m (Constant call) book = telling call
shaped m (Node_status node call) book = telling (call (status_view m node book))
shaped m (Node_figures node call) book = telling (call (characteristics node book))
shaped m (Line_value line call) book = telling (call (line_status line book))
shaped m (Own_row node by call) book =
    let mode : Mode = mode_of_master book.fixed book.now.core m in
    changing (call mode (row_view m node book)).checks (row_changes (by mode) (row_view m node book))
shaped m (Own_arming target source enable) book =
    set_wakeup_source target enable (proc_view m target book) (row_view m source book)
shaped m Own_holds book = init_finalize m
shaped m (Own_suspend node address) book = self_suspend m address (proc_view m node book)
shaped m (Own_abort node reason) book = abort_suspend m reason (is_asked m book) (proc_view m node book)
shaped m (Own_notifier node event enable) book = register_notifier m node event enable (watched m node book)
shaped m (Other_wakeup node address ack) book = request_wakeup address ack (wake_view m node book)
shaped m (Other_suspend node ack latency state) book = request_suspend m node ack latency state (suspend_view m node book)
shaped m (All_forced node ack) book = force_powerdown (grants_in book) book.fixed m node ack
shaped m (All_shut shutdown_type subtype) book = system_shutdown (grants_in book) book.fixed m shutdown_type subtype
shaped m (All_reset line action) book = reset_assert line action (line_view m line book)
shaped m (All_configured address) book = set_configuration (found_at address book.fixed) (permits_configure (grants_in book) m)

-- ---- which calls a function of the program serves

-- a call of this shape tells what it reads of the book, and does nothing else
abbrev pub only_reads : Shape → Bool
only_reads (Node_status node call) = true
only_reads (Node_figures node call) = true
only_reads (Line_value line call) = true
only_reads _ = false

-- by a call of this shape a master or a processor suspends, goes on or wakes
abbrev pub is_suspending : Shape → Bool
is_suspending (Own_suspend node address) = true
is_suspending (Own_abort node reason) = true
is_suspending (Other_wakeup node address ack) = true
is_suspending (Other_suspend node ack latency state) = true
is_suspending _ = false

-- a call of this shape has one stage at most: it is neither a force nor a shutdown
abbrev pub is_once : Shape → Bool
is_once (All_forced node ack) = false
is_once (All_shut shutdown_type subtype) = false
is_once _ = true
