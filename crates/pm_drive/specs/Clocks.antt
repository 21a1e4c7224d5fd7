-- What is told of driven lines with the clocks of the book: the clocks' reply stands in place of the book's reply to a call on
-- a clock, and a line tells which clocks began or ceased to run in it.
use Rattle.std.specs.Prelude.{ℕ, List, [], ◌∷◌, ◌++◌, flat_map, map}
use Rattle.pm_base.specs.declared.events.Event.{Event}
use Rattle.pm_state.specs.Load.{load_of}
use Rattle.pm_state.specs.State.{State}
use Rattle.pm_clock_tree.specs.declared.clock_tree.ClockChange.{ClockChange}
use Rattle.pm_clock_tree.specs.declared.clock_tree.ClockEnd.{ClockEnd}
use Rattle.pm_clock_tree.specs.Told.{changes, ends}
use Rattle.pm_clock_tree.specs.Tree.{Tree, running}
use Rattle.pm_clocks.specs.Clocked.{clock_answer, tree_after_core, tree_of}
use Rattle.pm_split.specs.Split.{Note}
use Rattle.pm_split.specs.Split.Note.{Clock}
use Rattle.pm_run.specs.Run.{Setup}
use Rattle.pm_apply.specs.Part.{Kept, Part}
use Rattle.pm_trace.specs.Closing.{clock_end_line, closing_text}
use Rattle.pm_drive.specs.Drive.{Driven, Given}

-- ---- of core steps

-- the device's part of a core step, after which the book is this, with its answer as it is told: where the book replies to a call
-- on a clock, the reply of the clocks, whose tree is so before the step
abbrev pub clocked_part : Event → State → Tree → Part → Part
clocked_part event book tree part = record part { answer = clock_answer event part.answer book tree }

abbrev pub clocked_core : Tree → Given → Given
clocked_core tree g = record g { part = clocked_part g.core.event g.core.after tree g.part }

-- core steps one after another, each of which finds the tree that the one before leaves
abbrev pub clocked_cores : Tree → List Given → List Given
clocked_cores tree [] = []
clocked_cores tree (g ∷ given) = clocked_core tree g ∷ clocked_cores (tree_after_core g.core tree) given

-- the tree after them
abbrev pub tree_along : List Given → Tree → Tree
tree_along [] tree = tree
tree_along (g ∷ given) tree = tree_along given (tree_after_core g.core tree)

-- ---- of lines

-- which clocks run after these core steps and didn't before them, or the other way round, by number. A root is never told of
abbrev pub turned : Tree → Tree → List ClockChange
turned before after = changes (record { tree = after; told = running before })

abbrev pub clock_note : ClockChange → Note
clock_note change = Clock change.clock change.from change.to

abbrev pub clock_notes : Tree → List Given → List Note
clock_notes tree given = map clock_note (turned tree (tree_along given tree))

-- a driven line that finds the tree so: its answers as they are told, and its own notes, and then those of clocks, once for all its
-- core steps
abbrev pub clocked_line : Tree → Driven → Driven
clocked_line tree x =
    record x {
      line = record x.line { notes = x.line.notes ++ clock_notes tree x.cores };
      cores = clocked_cores tree x.cores;
    }

-- driven lines, the first of which finds the tree so, and each later one as the line before it leaves it
abbrev pub clocked_by : Tree → List Driven → List Driven
clocked_by tree [] = []
clocked_by tree (x ∷ xs) = clocked_line tree x ∷ clocked_by (tree_along x.cores tree) xs

-- the tree after these driven lines
abbrev pub last_tree : Tree → List Driven → Tree
last_tree tree [] = tree
last_tree tree (x ∷ xs) = last_tree (tree_along x.cores tree) xs

-- ---- of a run

-- the tree at load: nobody enables a clock
abbrev pub first_tree : Setup → Tree
first_tree c = tree_of (load_of c.object c.attached c.topology)

-- the driven lines of a run, from its load on
abbrev pub clocked : Setup → List Driven → List Driven
clocked c xs = clocked_by (first_tree c) xs

-- ---- the closing table

-- the closing line of a clock that runs, and those of all of them, by number
abbrev pub end_line : ClockEnd → List ℕ
end_line end = clock_end_line end.clock end.divider end.index

abbrev pub ends_text : Tree → List ℕ
ends_text tree = flat_map end_line (ends tree)

-- the closing table: the units, and then the clocks that run
abbrev pub table_text : State → Kept → Tree → List ℕ
table_text book kept tree = closing_text book kept ++ ends_text tree
