-- The checks of calls on a row, and their changes of it.
use Rattle.std.specs.Prelude.{Bool, false, if◌then◌else◌, is_some, List, [], ◌∷◌, Option, Some, None}
use Rattle.std.specs.Option.{option_map_or}
use Rattle.pm_base.specs.declared.caps.Caps.{Caps}
use Rattle.pm_rows.specs.declared.row.Entry.{Entry}
use Rattle.pm_rows.specs.declared.row.Change.{Change}
use Rattle.pm_calls.specs.declared.views.RowView.{RowView}
use Rattle.pm_rows.specs.Rows.{has_all}
use Rattle.pm_calls.specs.Checks.{Checks, Finding, Fits, NotUsed, unchecked}
use Rattle.pm_state.specs.Prims.{Prim, At_row}

-- the caller uses the slave
abbrev pub is_in_use : RowView → Bool
is_in_use view = option_map_or (λ (entry : Entry). entry.row.used) view.entry false

-- the slave has all these capabilities
abbrev pub can_have : Caps → RowView → Bool
can_have caps view = option_map_or (λ (entry : Entry). has_all entry.seed.all caps) view.entry false

abbrev pub used_by_caller : RowView → Finding
used_by_caller view = if is_in_use view then Fits else NotUsed

-- the node is a slave, the caller may use it, and the caller uses it
abbrev pub on_used : RowView → Checks
on_used view = record unchecked { node = is_some view.slave; permitted = is_some view.entry; finding = used_by_caller view }

-- this change of the row, if there is a row
abbrev pub changes_of : Change → Option Entry → List Prim
changes_of by None = []
changes_of by (Some entry) = At_row entry.seed.master entry.seed.slave by ∷ []

abbrev pub row_changes : Change → RowView → List Prim
row_changes by view = changes_of by view.entry
