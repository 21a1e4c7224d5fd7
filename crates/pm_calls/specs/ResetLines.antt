-- The part of a reset line that the calls read.
use Rattle.std.specs.Prelude.{ℕ, Bool, false, slice_get, Option, Some, None, option_map}
use Rattle.pm_base.specs.declared.names.LineId.{LineId}
use Rattle.pm_base.specs.declared.names.NodeId.{NodeId}
use Rattle.pm_topology.specs.declared.places.Kind.{Kind}
use Rattle.pm_topology.specs.declared.places.Kind.TheVariants.{Proc}
use Rattle.pm_topology.specs.declared.topology.LineDef.{LineDef}
use Rattle.pm_topology.specs.Places.{kind_of}
use Rattle.pm_grants.specs.Grants.{permits_reset}
use Rattle.pm_resets.specs.Resets.{value_of}
use Rattle.pm_calls.specs.declared.reset_lines.LineView.{LineView}
use Rattle.pm_calls.specs.declared.reset_lines.OwnedProc.{OwnedProc}
use Rattle.pm_state.specs.Members.{owner_at}
use Rattle.pm_state.specs.State.{Fixed, State, grants_in}
use Rattle.pm_state.specs.Values.{line_place}

-- the processor at place p with its owner, if it has one
abbrev pub owned_by : Option ℕ → ℕ → Option OwnedProc
owned_by None p = None
owned_by (Some m) p = Some (record { owner = m; proc = p })

-- the processor of a node of this kind with its owner; none for a slave or power node
abbrev pub owned_of : Kind → Fixed → Option OwnedProc
owned_of (Proc p) fixed = owned_by (owner_at fixed.object fixed.topology p) p
owned_of _ fixed = None

abbrev pub owned_node : Option NodeId → Fixed → Option OwnedProc
owned_node None fixed = None
owned_node (Some node) fixed = owned_of (kind_of fixed.topology node) fixed

-- the processor that this line resets, if it resets one that a configured master has
abbrev pub reset_by : Option LineDef → Fixed → Option OwnedProc
reset_by None fixed = None
reset_by (Some line) fixed = owned_node line.target fixed

abbrev pub reset_at : Option ℕ → Fixed → Option OwnedProc
reset_at None fixed = None
reset_at (Some l) fixed = reset_by (slice_get fixed.topology.lines l) fixed

-- the master at place m may reset the line at this place; false without a place
abbrev pub can_reset : ℕ → Option ℕ → State → Bool
can_reset m None book = false
can_reset m (Some l) book = permits_reset (grants_in book) m l

-- what the master at place m sees of a reset line: its place, whether it may reset it, and the processor that the line resets
abbrev pub line_view : ℕ → LineId → State → LineView
line_view m line book = record {
  place = line_place line book.fixed;
  permitted = can_reset m (line_place line book.fixed) book;
  target = reset_at (line_place line book.fixed) book.fixed;
}

-- the value of a reset line; none if the chip doesn't have it
abbrev pub line_status : LineId → State → Option ℕ
line_status line book = option_map (λ l. value_of l book.now.core.lines) (line_place line book.fixed)
