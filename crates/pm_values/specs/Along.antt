-- What is logged along a step: what becomes of the mode of each master, and which processors were down.
use Rattle.std.specs.Prelude.{ℕ, ◌<◌, ◌≡◌, Bool, true, not, ◌||◌, List, [], ◌∷◌, length, replicate, slice_get, unwrap_or}
use Rattle.pm_base.specs.declared.names.Mode.{Mode}
use Rattle.pm_base.specs.declared.names.Mode.TheVariants.{Off}
use Rattle.pm_object.specs.declared.object.MasterRec.{MasterRec}
use Rattle.pm_topology.specs.declared.topology.ProcDef.{ProcDef}
use Rattle.pm_procs.specs.Modes.{is_awake}
use Rattle.pm_procs.specs.Procs.{mode_at}
use Rattle.pm_values.specs.declared.turns.Turns.{Turns}
use Rattle.pm_values.specs.Turns.{turns_along, turns_of}
use Rattle.pm_state.specs.Members.{mode_of_master}
use Rattle.pm_values.specs.Starts.{was_down}
use Rattle.pm_state.specs.State.{State}
use Rattle.pm_state.specs.Values.{placed}

-- for each master the mode that was logged last, and what became of its mode so far; for each processor whether it was
-- off or asleep at some logged moment
pub record Trail : Type 0 where
  pub modes : List Mode
  pub turns : List Turns
  pub downs : List Bool

-- nothing became of a mode
abbrev pub no_turns : Turns
no_turns = turns_of Off []

-- whatever became of a mode is forgotten
abbrev pub forgotten : Turns → Turns
forgotten turns = no_turns

-- what became of a mode by one and by the other
abbrev pub both_turns : Turns → Turns → Turns
both_turns first later =
    record { down = first.down || later.down; on = first.on || later.on; off = first.off || later.off }

-- what was logged of the master at a place, and of the processor at a place: one that isn't there is down
abbrev pub mode_logged : List Mode → ℕ → Mode
mode_logged modes m = unwrap_or (slice_get modes m) Off

abbrev pub turns_logged : ℕ → List Turns → Turns
turns_logged m turns = unwrap_or (slice_get turns m) no_turns

abbrev pub down_logged : ℕ → List Bool → Bool
down_logged p downs = unwrap_or (slice_get downs p) true

-- the mode of the master at place m, beside its entry in the object
abbrev pub mode_beside : State → ℕ → MasterRec → Mode
mode_beside book m master = mode_of_master book.fixed book.now.core m

-- the modes of the masters of a book, in object order
abbrev pub modes_of : State → List Mode
modes_of book = placed (mode_beside book) 0 book.fixed.object.masters

-- what became of the mode of the master at place m, by what was logged and its mode in this book
abbrev pub turns_after : List Mode → List Turns → State → ℕ → MasterRec → Turns
turns_after modes turns book m master =
    both_turns (turns_logged m turns) (turns_of (mode_logged modes m) (mode_of_master book.fixed book.now.core m ∷ []))

-- whether the processor at place p is down in this book
abbrev pub is_down : State → ℕ → Bool
is_down book p = not (is_awake (mode_at p book.now.core.procs))

abbrev pub down_in : State → ℕ → ProcDef → Bool
down_in book p proc = is_down book p

-- whether it was down at some logged moment, or is so in this book
abbrev pub down_after : List Bool → State → ℕ → ProcDef → Bool
down_after downs book p proc = down_logged p downs || is_down book p

-- the first moment that is logged
abbrev pub trail_from : State → Trail
trail_from book = record {
  modes = modes_of book;
  turns = replicate (length book.fixed.object.masters) no_turns;
  downs = placed (down_in book) 0 book.fixed.topology.procs;
}

-- one moment more is logged
abbrev pub trailed : State → Trail → Trail
trailed book before = record {
  modes = modes_of book;
  turns = placed (turns_after before.modes before.turns book) 0 book.fixed.object.masters;
  downs = placed (down_after before.downs book) 0 book.fixed.topology.procs;
}

-- what is logged at load: all processors were down before it
abbrev pub trail_at_load : (masters procs : ℕ) → Trail
trail_at_load masters procs =
    record { modes = replicate masters Off; turns = replicate masters no_turns; downs = replicate procs true }

-- a place for each master and for each processor
pub record HasPlaces (masters procs : ℕ) (trailed : Trail) : Type 0 where
  pub modes : length trailed.modes ≡ masters
  pub turns : length trailed.turns ≡ masters
  pub downs : length trailed.downs ≡ procs

-- what is logged is what became of the modes along these books, which follow on this one, and which processors were
-- down in them
pub record IsTrail (before : State) (books : List State) (trailed : Trail) : Type 0 where
  pub turns : (m : ℕ) → m < length before.fixed.object.masters → turns_logged m trailed.turns ≡ turns_along before books m
  pub downs : (p : ℕ) → p < length before.fixed.topology.procs
      → down_logged p trailed.downs ≡ was_down (before ∷ books) p

-- logging this book completes what is logged along these books, which follow on the first one
pub record Completes (before : State) (books : List State) (last : State) (along : Trail) : Type 0 where
  pub places : HasPlaces (length before.fixed.object.masters) (length before.fixed.topology.procs) along
  pub trailed : IsTrail before books (trailed last along)
