-- The closing table, which follows the last step: for each unit its value in the book, or the mode of a processor,
-- and its kept value.
use Rattle.std.specs.Prelude.{ℕ, ◌==◌, ◌&&◌, if◌then◌else◌, List, [], ◌∷◌, ◌++◌, map, codes}
use Rattle.std.specs.List.{concat}
use Rattle.pm_base.specs.declared.names.Unit.{Unit}
use Rattle.pm_base.specs.declared.names.Unit.TheVariants.{Node, Line}
use Rattle.pm_topology.specs.declared.topology.Topology.{Topology}
use Rattle.pm_topology.specs.declared.places.Kind.{Kind}
use Rattle.pm_topology.specs.declared.places.Kind.TheVariants as kind
use Rattle.pm_topology.specs.Places.{kind_of}
use Rattle.pm_state.specs.State.{State}
use Rattle.pm_state.specs.Units.{units}
use Rattle.pm_state.specs.Values.{shown}
use Rattle.pm_apply.specs.Part.{Kept}
use Rattle.pm_record.specs.Record.{kept_value}
use Rattle.pm_trace.specs.declared.line.Word.{Word}
use Rattle.pm_trace.specs.declared.line.Word.TheVariants as word
use Rattle.pm_trace.specs.Line.{numbers, line_text}

-- the name of a node's kind in the closing table
abbrev pub kind_name : Kind → Word
kind_name (kind.Proc p) = word.Name (codes "proc")
kind_name (kind.Power w) = word.Name (codes "power")
kind_name _ = word.Name (codes "slave")

-- the name of a unit's sort in the closing table, and its number
abbrev pub unit_name : Topology → Unit → List Word
unit_name t (Node node) = kind_name (kind_of t node) ∷ word.Number node.0 ∷ []
unit_name t (Line reset) = word.Name (codes "line") ∷ word.Number reset.0 ∷ []

-- the closing line of a unit with these two numbers, by the book and kept; nothing if both are 0
abbrev pub unit_line : Topology → Unit → ℕ → ℕ → List ℕ
unit_line t unit book kept =
    if (book == 0) && (kept == 0) then []
    else line_text (word.Name (codes "end") ∷ (unit_name t unit ++ numbers (book ∷ kept ∷ [])))

-- the closing line of a unit, by the book and the kept values
abbrev pub unit_text : State → Kept → Unit → List ℕ
unit_text book kept unit = unit_line book.fixed.topology unit (shown unit book) (kept_value kept unit)

-- the closing lines of all units in order; that of a unit which isn't shown is empty
abbrev pub closing_lines : State → Kept → List (List ℕ)
closing_lines book kept = map (unit_text book kept) (units book)

-- the closing table
abbrev pub closing_text : State → Kept → List ℕ
closing_text book kept = concat (closing_lines book kept)

-- the closing line of a clock that runs: its number, its divider and the index of its parent
abbrev pub clock_end_line : ℕ → ℕ → ℕ → List ℕ
clock_end_line number divider index =
    line_text (word.Name (codes "end") ∷ word.Name (codes "clock") ∷ numbers (number ∷ divider ∷ index ∷ []))
