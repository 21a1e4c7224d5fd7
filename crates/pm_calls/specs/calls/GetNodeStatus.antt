-- PM_GET_NODE_STATUS (UG1200).
use Rattle.std.specs.Prelude.{is_some, unwrap_or, [], ◌∷◌}
use Rattle.pm_calls.specs.declared.views.StatusView.{StatusView}
use Rattle.pm_calls.specs.Checks.{Checks, unchecked}
use Rattle.pm_calls.specs.Verdict.{Called, effecting, told}

-- any node has a status; no permission is needed
abbrev pub status_checks : StatusView → Checks
status_checks view = record unchecked { node = is_some view.state }

-- the call that tells the node's operating point, and for a slave the capabilities that the caller requires now and
-- who uses it
abbrev pub get_node_status : StatusView → Called
get_node_status view = effecting (status_checks view) (told (unwrap_or view.state 0 ∷ view.requested.0 ∷ view.usage ∷ []))
