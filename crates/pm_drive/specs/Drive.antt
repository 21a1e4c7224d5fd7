-- The device's part of a run: its lines, in which no device occurs, each with the commands that make the device follow it, under
-- the device's answers.
use Rattle.std.specs.Prelude.{ℕ, ◌+◌, Bool, true, false, List, [], ◌∷◌, ◌++◌, flat_map, take, Option, Some, None}
use Rattle.pm_base.specs.declared.events.Event.{Event}
use Rattle.pm_base.specs.declared.events.Event.TheVariants.{Break, Mend}
use Rattle.pm_device.specs.Act.{Act, Rig}
use Rattle.pm_state.specs.State.{State}
use Rattle.pm_run.specs.Run.{Core, Line, Setup, run, said}
use Rattle.pm_apply.specs.Part.{Kept, Part, orders_of, part_of}
use Rattle.pm_record.specs.Record.{at_zero}

-- a core step with what the device was given in it
pub record Given : Type 0 where
  pub core : Core
  pub part : Part

-- a line of a run, its core steps with what the device was given in each, and the values that are kept after it
pub record Driven : Type 0 where
  pub line : Line
  pub cores : List Given
  pub kept : Kept

-- the answers of a core step, and those of the core steps after it
abbrev pub first_answers : List (List Bool) → List Bool
first_answers [] = []
first_answers (answers ∷ later) = answers

abbrev pub later_answers : List (List Bool) → List (List Bool)
later_answers [] = []
later_answers (answers ∷ later) = later

-- the answers after those of these core steps
abbrev pub answers_after : List Core → List (List Bool) → List (List Bool)
answers_after [] answers = answers
answers_after (core ∷ cores) answers = answers_after cores (later_answers answers)

-- core steps with the device's parts, from the values that are kept before them, and the values that are kept after them
abbrev pub give : Kept → List (List Bool) → List Core → List Given
give kept answers [] = []
give kept answers (core ∷ cores) =
    record { core = core; part = part_of kept (first_answers answers) core.after core.outputs }
    ∷ give (part_of kept (first_answers answers) core.after core.outputs).kept (later_answers answers) cores

abbrev pub kept_after : Kept → List Given → Kept
kept_after kept [] = kept
kept_after kept (g ∷ given) = kept_after g.part.kept given

-- a line that is driven, and lines, from the values that are kept before them
abbrev pub drive_line : Kept → List (List Bool) → Line → Driven
drive_line kept answers line =
    record { line = line; cores = give kept answers line.cores; kept = kept_after kept (give kept answers line.cores) }

abbrev pub drive : Kept → List (List Bool) → List Line → List Driven
drive kept answers [] = []
drive kept answers (line ∷ lines) =
    drive_line kept answers line ∷ drive (drive_line kept answers line).kept (answers_after line.cores answers) lines

-- the run of some events, driven from a device that stands at 0, under its answers. An answer that isn't given is a yes
abbrev pub driven : Setup → List (List Bool) → List Event → List Driven
driven c answers events = drive (at_zero c.topology) answers (said (run c events))

-- what a line of a script does to a device before the commands that it causes: a node is broken, or works again
abbrev pub rigs : Event → List Act
rigs (Break node) = Rig node true ∷ []
rigs (Mend node) = Rig node false ∷ []
rigs _ = []

-- a line that breaks a node
abbrev pub breaks : Event → Bool
breaks (Break node) = true
breaks _ = false

-- all that is done to the device, in order: in a line, and in all of them
abbrev pub orders_in_cores : List Given → List Act
orders_in_cores given = flat_map (λ (g : Given). orders_of g.part.commands) given

abbrev pub acts_of : Driven → List Act
acts_of x = rigs x.line.event ++ orders_in_cores x.cores

abbrev pub acts : List Driven → List Act
acts xs = flat_map acts_of xs

-- the book and the kept values after the last of these driven lines, or these where there is none
abbrev pub last_book : State → List Driven → State
last_book book [] = book
last_book book (x ∷ xs) = last_book x.line.after.book xs

abbrev pub last_kept : Kept → List Driven → Kept
last_kept kept [] = kept
last_kept kept (x ∷ xs) = last_kept x.kept xs

-- the lines that are carried out where the text breaks off within this piece: that of the piece, and those before it
abbrev pub until : {X : Type 0} → Option ℕ → List X → List X
until None xs = xs
until (Some k) xs = take (k + 1) xs
