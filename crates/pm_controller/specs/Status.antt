-- What a configured master is told of a node.
use Rattle.std.specs.Prelude.{◌≡◌, ℕ, if◌then◌else◌, [], ◌∷◌, Option, Some, None, option_map}
use Rattle.pm_base.specs.declared.caps.Caps.{Caps}
use Rattle.pm_base.specs.declared.names.NodeId.{NodeId}
use Rattle.pm_ipi.specs.declared.calls.Call.TheVariants.{GetNodeStatus}
use Rattle.pm_rows.specs.declared.row.Row.{Row}
use Rattle.pm_rows.specs.Rows.{no_caps}
use Rattle.pm_state.specs.State.{State}
use Rattle.pm_state.specs.Values.{master_place}
use Rattle.pm_calls.specs.declared.verdict.Verdict.TheVariants.{Accepted}
use Rattle.pm_calls.specs.declared.views.StatusView.{StatusView}
use Rattle.pm_calls.specs.Verdict.{told, verdict_of}
use Rattle.pm_calls.specs.Views.{status_view}
use Rattle.pm_calls.specs.calls.{called}
use Rattle.pm_controller.specs.declared.status.NodeStatus.{NodeStatus}

-- the words of what a master sees of a node, where the chip has the node
abbrev pub words_of : StatusView → Option NodeStatus
words_of view =
    option_map (λ state. record { state = state; requirement = view.requested; usage = view.usage }) view.state

-- what the master at a place is told of a node (UG1200, GET_NODE_STATUS), where there is one
abbrev pub status_at : Option ℕ → NodeId → State → Option NodeStatus
status_at None node book = None
status_at (Some m) node book = words_of (status_view m node book)

abbrev pub status_of : NodeId → NodeId → State → Option NodeStatus
status_of master node book = status_at (master_place master book) node book

-- GET_NODE_STATUS of the node is accepted from the master at a place, and tells these words
abbrev pub Tells : Option ℕ → NodeId → State → NodeStatus → Type 0
Tells None node book status = ⊥
Tells (Some m) node book status =
    verdict_of (called m (GetNodeStatus node) book)
    ≡ Accepted (told (status.state ∷ status.requirement.0 ∷ status.usage ∷ []))

-- the capabilities that a row requires now: none where it isn't there or isn't used
abbrev pub required_in : Option Row → Caps
required_in None = no_caps
required_in (Some row) = if row.used then row.now else no_caps
