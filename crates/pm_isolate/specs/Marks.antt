-- The marks of the units: for each unit whether it was found to differ. Some of them are found anew, place by place.
use Rattle.std.specs.Prelude.{ℕ, ◌+◌, Bool, false, if◌then◌else◌, List, [], ◌∷◌, fold, slice_get, Option, None, Some, is_some}
use Rattle.pm_base.specs.declared.names.Unit.{Unit}
use Rattle.pm_base.specs.declared.names.Unit.TheVariants.{Node, Line}
use Rattle.pm_topology.specs.declared.topology.Topology.{Topology}
use Rattle.pm_topology.specs.Places.{kind_of, proc_of}
use Rattle.pm_topology.specs.UnitMap.{with_value_at}

-- each unit, with whether it was found to differ
abbrev pub Marks : Type 0
Marks = List (Unit × Bool)

-- the mark at a place is found anew, if there is one
abbrev pub renewed : (Unit → Bool → Bool) → ℕ → Option (Unit × Bool) → Marks → Marks
renewed f place None marks = marks
renewed f place (Some mark) marks = with_value_at place (f mark.0 mark.1) marks

abbrev pub renewed_at : (Unit → Bool → Bool) → Marks → ℕ → Marks
renewed_at f marks place = renewed f place (slice_get marks place) marks

-- the marks at these places are found anew, one after another
abbrev pub renewed_along : (Unit → Bool → Bool) → List ℕ → Marks → Marks
renewed_along f places marks = fold (renewed_at f) marks places

-- a unit is a processor
abbrev pub is_proc : Topology → Unit → Bool
is_proc t (Node node) = is_some (proc_of (kind_of t node))
is_proc t (Line line) = false

-- the places of the processors among these units, the first of which is at place k
abbrev pub proc_places : Topology → ℕ → List Unit → List ℕ
proc_places t k [] = []
proc_places t k (unit ∷ units) = if is_proc t unit then k ∷ proc_places t (k + 1) units else proc_places t (k + 1) units
