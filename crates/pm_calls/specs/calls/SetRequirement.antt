-- PM_SET_REQUIREMENT (UG1200).
use Rattle.std.specs.Prelude.{ℕ, is_some}
use Rattle.pm_base.specs.declared.caps.Caps.{Caps}
use Rattle.pm_base.specs.declared.names.Mode.{Mode}
use Rattle.pm_calls.specs.declared.views.RowView.{RowView}
use Rattle.pm_rows.specs.declared.row.Change.TheVariants.{Set}
use Rattle.pm_ipi.specs.Calls.{ack_kind}
use Rattle.pm_calls.specs.Checks.{Checks}
use Rattle.pm_calls.specs.RowCalls.{can_have, on_used, row_changes}
use Rattle.pm_calls.specs.Verdict.{Called, changing}

-- the acknowledge kind is known, the node is a slave, the caller may use it, the slave has the capabilities, and the caller
-- uses it
abbrev pub set_requirement_checks : Caps → ℕ → RowView → Checks
set_requirement_checks caps ack view =
    record (on_used view) { acknowledge = is_some (ack_kind ack); capable = can_have caps view }

-- the call that requires these capabilities, by the caller's mode: at once if it is active, and from its sleep on if
-- it is suspending
abbrev pub set_requirement : Mode → Caps → ℕ → RowView → Called
set_requirement mode caps ack view = changing (set_requirement_checks caps ack view) (row_changes (Set mode caps) view)
