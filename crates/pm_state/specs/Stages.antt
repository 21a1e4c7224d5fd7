-- The stages of a step: each is a list of changes, after which the rows follow the masters whose mode has changed.
use Rattle.std.specs.Prelude.{ℕ, ◌+◌, List, [], ◌∷◌, ◌++◌, if◌then◌else◌}
use Rattle.pm_base.specs.declared.names.Mode.{Mode}
use Rattle.pm_object.specs.declared.object.MasterRec.{MasterRec}
use Rattle.pm_procs.specs.Modes.{same_mode}
use Rattle.pm_rows.specs.Rows.{mode_of}
use Rattle.pm_state.specs.Members.{mode_of_master}
use Rattle.pm_state.specs.Prims.{Prim, Shift, changed}
use Rattle.pm_state.specs.State.{Fixed, CoreHalf, State}

-- the rows of a master shift where the mode that they know isn't the one that its processors give
abbrev pub follow_to : ℕ → Mode → Mode → List Prim
follow_to m known mode = if same_mode known mode then [] else Shift m mode ∷ []

-- the shift of the master at a place, if its mode changed
abbrev pub follow_at : Fixed → CoreHalf → ℕ → List Prim
follow_at fixed core m = follow_to m (mode_of m core.rows) (mode_of_master fixed core m)

-- the shifts of these masters in object order; the first of them has place m
abbrev pub follow_from : Fixed → CoreHalf → ℕ → List MasterRec → List Prim
follow_from fixed core m [] = []
follow_from fixed core m (master ∷ masters) = follow_at fixed core m ++ follow_from fixed core (m + 1) masters

-- the shifts of a book
abbrev pub follow : State → List Prim
follow book = follow_from book.fixed book.now.core 0 book.fixed.object.masters

-- the book after its rows followed
abbrev pub followed : State → State
followed book = changed (follow book) book

-- the book after a stage
abbrev pub after_stage : List Prim → State → State
after_stage stage book = followed (changed stage book)

-- the books after each of these stages
abbrev pub path_from : List (List Prim) → State → List State
path_from [] book = []
path_from (stage ∷ later) book = after_stage stage book ∷ path_from later (after_stage stage book)

-- the last of these books, and the first one where there is none
abbrev pub last_of : State → List State → State
last_of book [] = book
last_of book (next ∷ books) = last_of next books

-- the book after these stages: what is fixed stays
abbrev pub after_stages : List (List Prim) → State → State
after_stages stages book = record book { now = (last_of book (path_from stages book)).now }
