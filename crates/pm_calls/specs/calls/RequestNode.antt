-- PM_REQUEST_NODE (UG1200).
use Rattle.std.specs.Prelude.{ℕ, is_some, if◌then◌else◌, Option, Some, None}
use Rattle.pm_base.specs.declared.caps.Caps.{Caps}
use Rattle.pm_base.specs.declared.names.NodeId.{NodeId}
use Rattle.pm_calls.specs.declared.views.RowView.{RowView}
use Rattle.pm_rows.specs.declared.row.Change.TheVariants.{Request}
use Rattle.pm_ipi.specs.Calls.{ack_kind}
use Rattle.pm_calls.specs.Checks.{Checks, Finding, Fits, InUse, UsedBy, unchecked}
use Rattle.pm_calls.specs.RowCalls.{is_in_use, can_have, row_changes}
use Rattle.pm_calls.specs.Verdict.{Called, changing}

-- another master that uses the slave is in the way if the slave can't be shared
abbrev pub rivalled : Option NodeId → Finding
rivalled None = Fits
rivalled (Some other) = UsedBy other

-- the last check: the caller doesn't use the slave yet, and has no rival
abbrev pub to_request : RowView → Finding
to_request view = if is_in_use view then InUse else rivalled view.rival

-- the acknowledge kind is known, the node is a slave, the caller may use it, the slave has the capabilities, the
-- caller doesn't use it yet, and, if the slave can't be shared, no other master does
abbrev pub request_checks : Caps → ℕ → RowView → Checks
request_checks caps ack view = record unchecked {
  acknowledge = is_some (ack_kind ack);
  node = is_some view.slave;
  permitted = is_some view.entry;
  capable = can_have caps view;
  finding = to_request view;
}

-- the call that puts the slave into use, with these capabilities
abbrev pub request_node : Caps → ℕ → RowView → Called
request_node caps ack view = changing (request_checks caps ack view) (row_changes (Request caps) view)
