-- PM_SET_WAKEUP_SOURCE (UG1200).
use Rattle.std.specs.Prelude.{ℕ, Bool, ◌==◌, ◌||◌, ◌&&◌, if◌then◌else◌, is_some, Some, None}
use Rattle.pm_base.specs.declared.names.NodeId.{NodeId}
use Rattle.pm_calls.specs.declared.views.ProcView.{ProcView}
use Rattle.pm_calls.specs.declared.views.RowView.{RowView}
use Rattle.pm_rows.specs.declared.row.Change.{Change}
use Rattle.pm_rows.specs.declared.row.Change.TheVariants.{Arm}
use Rattle.pm_rows.specs.Wanted.{wakeup}
use Rattle.pm_calls.specs.Checks.{Checks, in_range, unchecked}
use Rattle.pm_calls.specs.RowCalls.{can_have, row_changes}
use Rattle.pm_calls.specs.Verdict.{Called, changing}

-- 1 arms and 0 disarms
abbrev pub is_switch : ℕ → Bool
is_switch enable = (enable == 0) || (enable == 1)

-- the target is a processor and the source a slave, the switch is known, the processor is the caller's, the caller may use the
-- slave, and the slave can wake
abbrev pub set_wakeup_source_checks : ℕ → ProcView → RowView → Checks
set_wakeup_source_checks enable target source = record unchecked {
  node = is_some target.place && is_some source.slave;
  arguments = in_range (is_switch enable);
  permitted = is_some target.own && is_some source.entry;
  capable = can_have wakeup source;
}

-- the change that arms the row with the processor, or disarms it
abbrev pub arming : NodeId → ℕ → Change
arming node enable = Arm (if enable == 1 then Some node else None)

-- the call that lets the slave's interrupt wake this processor, or none
abbrev pub set_wakeup_source : NodeId → ℕ → ProcView → RowView → Called
set_wakeup_source node enable target source =
    changing (set_wakeup_source_checks enable target source) (row_changes (arming node enable) source)
