-- The calls, one file each; what each does over a book, and its shape.
pub mod AbortSuspend
pub mod ForcePowerdown
pub mod GetApiVersion
pub mod GetNodeStatus
pub mod GetOpCharacteristic
pub mod InitFinalize
pub mod RegisterNotifier
pub mod ReleaseNode
pub mod RequestNode
pub mod RequestSuspend
pub mod RequestWakeup
pub mod ResetAssert
pub mod ResetGetStatus
pub mod SelfSuspend
pub mod SetConfiguration
pub mod SetMaxLatency
pub mod SetRequirement
pub mod SetWakeupSource
pub mod SystemShutdown
use Rattle.std.specs.Prelude.{ℕ, false, None}
use Rattle.pm_ipi.specs.declared.calls.Call.{Call}
use Rattle.pm_ipi.specs.declared.calls.Call.TheVariants as call
use Rattle.pm_rows.specs.declared.row.Change.TheVariants.{Request, Release, Set, Limit}
use Rattle.pm_grants.specs.Grants.{permits_configure}
use Rattle.pm_state.specs.Members.{mode_of_master}
use Rattle.pm_state.specs.Objects.{found_at}
use Rattle.pm_state.specs.State.{State, grants_in}
use Rattle.pm_calls.specs.Characteristics.{characteristics}
use Rattle.pm_calls.specs.Checks.{unchecked}
use Rattle.pm_calls.specs.ResetLines.{line_view, line_status}
use Rattle.pm_calls.specs.Shapes.{Shape, Constant, Node_status, Node_figures, Line_value, Own_row, Own_arming, Own_holds, Own_suspend, Own_abort, Own_notifier, Other_wakeup, Other_suspend, All_forced, All_shut, All_reset, All_configured}
use Rattle.pm_calls.specs.Verdict.{Called, effecting, saying}
use Rattle.pm_calls.specs.Views.{is_asked, row_view, status_view, suspend_view, proc_view, wake_view, watched}
use Rattle.pm_calls.specs.calls.AbortSuspend.{abort_suspend}
use Rattle.pm_calls.specs.calls.ForcePowerdown.{force_powerdown}
use Rattle.pm_calls.specs.calls.GetApiVersion.{get_api_version}
use Rattle.pm_calls.specs.calls.GetNodeStatus.{get_node_status}
use Rattle.pm_calls.specs.calls.GetOpCharacteristic.{get_op_characteristic}
use Rattle.pm_calls.specs.calls.InitFinalize.{init_finalize}
use Rattle.pm_calls.specs.calls.RegisterNotifier.{register_notifier}
use Rattle.pm_calls.specs.calls.ReleaseNode.{release_node}
use Rattle.pm_calls.specs.calls.RequestNode.{request_node}
use Rattle.pm_calls.specs.calls.RequestSuspend.{request_suspend}
use Rattle.pm_calls.specs.calls.RequestWakeup.{request_wakeup}
use Rattle.pm_calls.specs.calls.ResetAssert.{reset_assert}
use Rattle.pm_calls.specs.calls.ResetGetStatus.{reset_get_status}
use Rattle.pm_calls.specs.calls.SelfSuspend.{self_suspend}
use Rattle.pm_calls.specs.calls.SetConfiguration.{set_configuration}
use Rattle.pm_calls.specs.calls.SetMaxLatency.{set_max_latency}
use Rattle.pm_calls.specs.calls.SetRequirement.{set_requirement}
use Rattle.pm_calls.specs.calls.SetWakeupSource.{set_wakeup_source}
use Rattle.pm_calls.specs.calls.SystemShutdown.{system_shutdown}

-- a call of the configured master at place m, over its views of the book: its seven checks, and what it does if they
-- hold
abbrev pub called : ℕ → Call → State → Called
called m call.GetApiVersion book = get_api_version
called m (call.SetConfiguration address) book = set_configuration (found_at address book.fixed) (permits_configure (grants_in book) m)
called m (call.GetNodeStatus node) book = get_node_status (status_view m node book)
called m (call.GetOpCharacteristic node characteristic) book =
    get_op_characteristic characteristic (characteristics node book)
called m (call.RegisterNotifier node event wake enable) book =
    register_notifier m node event enable (watched m node book)
called m (call.RequestSuspend node ack latency state) book =
    request_suspend m node ack latency state (suspend_view m node book)
called m (call.SelfSuspend node address) book = self_suspend m address (proc_view m node book)
called m (call.ForcePowerdown node ack) book = force_powerdown (grants_in book) book.fixed m node ack
called m (call.AbortSuspend node reason) book = abort_suspend m reason (is_asked m book) (proc_view m node book)
called m (call.RequestWakeup node address ack) book = request_wakeup address ack (wake_view m node book)
called m (call.SetWakeupSource target source enable) book =
    set_wakeup_source target enable (proc_view m target book) (row_view m source book)
called m (call.SystemShutdown shutdown_type subtype) book = system_shutdown (grants_in book) book.fixed m shutdown_type subtype
called m (call.RequestNode node caps ack) book = request_node caps ack (row_view m node book)
called m (call.ReleaseNode node) book = release_node (row_view m node book)
called m (call.SetRequirement node caps ack) book =
    set_requirement (mode_of_master book.fixed book.now.core m) caps ack (row_view m node book)
called m (call.SetMaxLatency node latency) book = set_max_latency latency (row_view m node book)
called m (call.ResetAssert line action) book = reset_assert line action (line_view m line book)
called m (call.ResetGetStatus line) book = reset_get_status (line_status line book)
called m call.InitFinalize book = init_finalize m
called m call.Unknown book = effecting (record unchecked { known = false }) (saying None)

-- each call has a shape
abbrev pub shape_of : Call → Shape
shape_of call.GetApiVersion = Constant get_api_version
shape_of (call.SetConfiguration address) = All_configured address
shape_of (call.GetNodeStatus node) = Node_status node get_node_status
shape_of (call.GetOpCharacteristic node characteristic) = Node_figures node (get_op_characteristic characteristic)
shape_of (call.RegisterNotifier node event wake enable) = Own_notifier node event enable
shape_of (call.RequestSuspend node ack latency state) = Other_suspend node ack latency state
shape_of (call.SelfSuspend node address) = Own_suspend node address
shape_of (call.ForcePowerdown node ack) = All_forced node ack
shape_of (call.AbortSuspend node reason) = Own_abort node reason
shape_of (call.RequestWakeup node address ack) = Other_wakeup node address ack
shape_of (call.SetWakeupSource target source enable) = Own_arming target source enable
shape_of (call.SystemShutdown shutdown_type subtype) = All_shut shutdown_type subtype
shape_of (call.RequestNode node caps ack) = Own_row node (λ mode. Request caps) (λ mode. request_node caps ack)
shape_of (call.ReleaseNode node) = Own_row node (λ mode. Release) (λ mode. release_node)
shape_of (call.SetRequirement node caps ack) =
    Own_row node (λ mode. Set mode caps) (λ mode. set_requirement mode caps ack)
shape_of (call.SetMaxLatency node latency) = Own_row node (λ mode. Limit latency) (λ mode. set_max_latency latency)
shape_of (call.ResetAssert line action) = All_reset line action
shape_of (call.ResetGetStatus line) = Line_value line reset_get_status
shape_of call.InitFinalize = Own_holds
shape_of call.Unknown = Constant (effecting (record unchecked { known = false }) (saying None))
