-- PM_SET_MAX_LATENCY (UG1200).
use Rattle.std.specs.Prelude.{ℕ}
use Rattle.pm_calls.specs.declared.views.RowView.{RowView}
use Rattle.pm_rows.specs.declared.row.Change.TheVariants.{Limit}
use Rattle.pm_calls.specs.RowCalls.{on_used, row_changes}
use Rattle.pm_calls.specs.Verdict.{Called, changing}

-- the call that limits the latency of the slave
abbrev pub set_max_latency : ℕ → RowView → Called
set_max_latency latency view = changing (on_used view) (row_changes (Limit latency) view)
