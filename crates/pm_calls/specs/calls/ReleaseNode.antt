-- PM_RELEASE_NODE (UG1200).
use Rattle.pm_calls.specs.declared.views.RowView.{RowView}
use Rattle.pm_rows.specs.declared.row.Change.TheVariants.{Release}
use Rattle.pm_calls.specs.RowCalls.{on_used, row_changes}
use Rattle.pm_calls.specs.Verdict.{Called, changing}

-- the call that ends the caller's use of the slave, so that its row requires nothing
abbrev pub release_node : RowView → Called
release_node view = changing (on_used view) (row_changes Release view)
