-- The promises of the crates below on which the laws of two books rest.
use Rattle.std.specs.Prelude.{◌≡◌, ℕ, Bool, true}
use Rattle.pm_base.specs.declared.names.Mode.{Mode}
use Rattle.pm_object.specs.declared.object.Object.{Object}
use Rattle.pm_procs.specs.Procs.{has_member}
use Rattle.pm_rows.specs.declared.row.Row.{Row}
use Rattle.pm_rows.specs.Shift.{shifted_row}
use Rattle.pm_topology.specs.declared.topology.Topology.{Topology}
use Rattle.pm_topology.specs.Places.{KindLaws}
use Rattle.pm_topology.specs.Units.{UnitLaws}
use Rattle.pm_state.specs.Members.{members_of, owns}

-- the kind of a node is that of its entry; a shift arms and holds by the two modes alone; a master's processors are
-- its own; the units of a chip rise
pub record BelowLaws : Type 0 where
  pub kinds : KindLaws
  pub armed : (from to : Mode) (taken other : Bool) (a b : Row)
      → a.armed ≡ b.armed → (shifted_row from to taken a).armed ≡ (shifted_row from to other b).armed
  pub owned : (object : Object) (t : Topology) (m p : ℕ) → has_member m p (members_of object t) ≡ true → owns object t m p ≡ true
  pub hold : (from to : Mode) (taken other : Bool) (a b : Row)
      → a.hold ≡ b.hold → (shifted_row from to taken a).hold ≡ (shifted_row from to other b).hold
  pub units : UnitLaws
