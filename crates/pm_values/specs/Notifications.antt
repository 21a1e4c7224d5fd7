-- What happens to nodes in a step: which change, and which have no users any more.
use Rattle.std.specs.Prelude.{ℕ, ◌==◌, ◌&&◌, Bool, false, not, List, [], ◌∷◌, ◌++◌, flat_map, if◌then◌else◌, ◌*◌}
use Rattle.pm_base.specs.declared.names.NodeId.{NodeId}
use Rattle.pm_base.specs.declared.names.Unit.{Unit}
use Rattle.pm_base.specs.declared.names.Unit.TheVariants.{Node, Line}
use Rattle.pm_notify.specs.declared.notes.Note.{Note}
use Rattle.pm_notify.specs.declared.notes.Note.TheVariants.{Change, ZeroUsers}
use Rattle.pm_notify.specs.declared.notes.Waiting.{Waiting}
use Rattle.pm_rows.specs.Rows.{Rows, users_of}
use Rattle.pm_topology.specs.declared.places.Kind.{Kind}
use Rattle.pm_topology.specs.declared.places.Kind.TheVariants.{Slave}
use Rattle.pm_topology.specs.Places.{kind_of}
use Rattle.pm_state.specs.State.{State}
use Rattle.pm_state.specs.Units.{units}
use Rattle.pm_state.specs.Values.{value}

-- some master uses the slave at place s
abbrev pub is_used : ℕ → Rows → Bool
is_used s rows = not (users_of s rows == 0)

-- a node of this kind is a slave that is used
abbrev pub used_at : Kind → Rows → Bool
used_at (Slave s) rows = is_used s rows
used_at _ rows = false

-- the unit is a slave that is used
abbrev pub used : Unit → State → Bool
used (Node node) book = used_at (kind_of book.fixed.topology node) book.now.core.rows
used (Line line) book = false

-- a note about a node, if that happened to it
abbrev pub log_if : Bool → NodeId → Note → List Waiting
log_if happened node note = if happened then record { node = node; note = note } ∷ [] else []

-- what happened to a unit: it changed, and after that, its last user doesn't use it any more; nothing is told of a
-- reset line
abbrev pub notes_about : (changed freed : Bool) → Unit → List Waiting
notes_about changed freed (Node node) = log_if changed node Change ++ log_if freed node ZeroUsers
notes_about changed freed (Line line) = []

-- what happened to a unit between two books: its value changed, and some master used it and none does any more
abbrev pub happened : State → State → Unit → List Waiting
happened before after unit =
    notes_about (not (value unit before == value unit after)) (used unit before && not (used unit after)) unit

-- what happened to all units, in their order
abbrev pub notifications : State → State → List Waiting
notifications before after = flat_map (happened before after) (units after)

-- how many notifications a step makes at most: each node changes, and has no users any more
abbrev pub notice_count : ℕ → ℕ
notice_count units = 2 * units
