-- Two runs side by side, line by line, of which the quiet one lacks the messages of a master. Beyond the reach of the
-- master they can't be told apart.
use Rattle.std.specs.Prelude.{◌≡◌, ◌==◌, ℕ, ⊤, if◌then◌else◌, List, [], ◌∷◌, flat_map, Option, Some, None, option_to_list}
use Rattle.pm_base.specs.declared.events.Event.{Event}
use Rattle.pm_base.specs.declared.names.NodeId.{NodeId}
use Rattle.pm_ipi.specs.Mail.{emptied}
use Rattle.pm_state.specs.State.{State}
use Rattle.pm_split.specs.Boxes.{Boxes, box_of}
use Rattle.pm_split.specs.Split.{Note}
use Rattle.pm_split.specs.Split.Note.{Busy, Called, Clock, NoTask, Fired, Late}
use Rattle.pm_run.specs.Run.{Core, Line, Setup, fixed_of, loaded, lines_of, run}
use Rattle.pm_laws.specs.Agree.{Agree}
use Rattle.pm_laws.specs.Beside.{AreBeside}
use Rattle.pm_laws.specs.Border.{Border}
use Rattle.pm_laws.specs.Both.{Both}
use Rattle.pm_laws.specs.Quiet.{quiet}
use Rattle.pm_laws.specs.ReachBorder.{border_of}
use Rattle.pm_laws.specs.Told.{answers_in, asked_in, callbacks_in, drops_in, ends_in, late_in, moves_in, pulse_in, starts_in}
use Rattle.pm_laws.specs.Values.{IsModeAlike, IsValueAlike}

-- ---- the law: the core steps are beside one another

-- the boxes, with the one at this place emptied
abbrev pub without_box : Option ℕ → Boxes → Boxes
without_box None boxes = boxes
without_box (Some k) boxes = emptied k boxes

-- the boxes of the quiet run are those of the loud one, with the box of the master emptied
abbrev pub AreQuietBoxes : Setup → NodeId → Boxes → Boxes → Type 0
AreQuietBoxes c m loud quiet = quiet ≡ without_box (box_of c.object m) loud

-- the masters other than this one that are told that their boxes are full
abbrev pub busy_of : NodeId → Note → List NodeId
busy_of m (Busy master) = if master.0 == m.0 then [] else master ∷ []
busy_of m (Called proc code) = []
busy_of m (NoTask key) = []
busy_of m (Clock number from to) = []
busy_of m (Fired key at told) = []
busy_of m (Late address) = []

abbrev pub busy_others : NodeId → List Note → List NodeId
busy_others m notes = flat_map (busy_of m) notes

-- the core steps of two lines are beside one another, from these two books on. The books after the lines agree
-- beyond, the boxes fit, and the same other masters are told that theirs are full
pub record IsLineBeside (c : Setup) (m : NodeId) (a b : State) (x y : Line) : Type 0 where
  pub cores : AreBeside c m a b x.cores y.cores
  pub agree : Agree (border_of (fixed_of c) m) x.after.book y.after.book
  pub boxes : AreQuietBoxes c m x.after.boxes y.after.boxes
  pub busy : busy_others m x.notes ≡ busy_others m y.notes

-- two lists of lines are equally long, and beside one another line by line, from these two books on
abbrev pub AreLinesBeside : Setup → NodeId → State → State → List Line → List Line → Type 0
AreLinesBeside c m a b [] [] = ⊤
AreLinesBeside c m a b [] (y ∷ ys) = ⊥
AreLinesBeside c m a b (x ∷ xs) [] = ⊥
AreLinesBeside c m a b (x ∷ xs) (y ∷ ys) =
    IsLineBeside c m a b x y × AreLinesBeside c m x.after.book y.after.book xs ys

-- the run of these events beside the run without the messages of the master. Both have the same load, whose book
-- agrees with itself beyond, and whose boxes are empty. The lines after it are beside one another
pub record AreWorldsBeside (c : Setup) (m : NodeId) (events : List Event) : Type 0 where
  pub load : Agree (border_of (fixed_of c) m) (loaded c).book (loaded c).book
  pub boxes : AreQuietBoxes c m (loaded c).boxes (loaded c).boxes
  pub lines : AreLinesBeside c m (loaded c).book (loaded c).book (lines_of c events (loaded c)) (lines_of c (quiet m events) (loaded c))

-- ---- its consequences: what is the same in two lines

-- the lists that are made of the core steps of a line, one after another
abbrev pub of_line : {X : Type 0} → (Core → List X) → Line → List X
of_line f line = flat_map f line.cores

-- two lines are alike beyond this border; only the first has the messages of the master
pub record IsAlikeBeyond (c : Setup) (m : NodeId) (border : Border) (x y : Line) : Type 0 where
  -- after both lines the books agree beyond, each unit there has the same value, and each processor the same mode
  pub books : Agree border x.after.book y.after.book
  pub values : IsValueAlike c.object c.topology border x.after.book y.after.book
  pub modes : IsModeAlike c.object c.topology border x.after.book y.after.book
  -- in both the same units move, the same processors start at the same addresses, and the same reset lines are pulsed
  pub moves : of_line (moves_in c.object c.topology border) x ≡ of_line (moves_in c.object c.topology border) y
  pub starts : of_line (starts_in c.object c.topology border) x ≡ of_line (starts_in c.object c.topology border) y
  pub pulses : of_line (λ core. option_to_list (pulse_in c.topology border core)) x ≡ of_line (λ core. option_to_list (pulse_in c.topology border core)) y
  -- the same requests to masters beyond are made and end, with the same late replies, and the same callbacks are made
  -- to them, except those about nodes within
  pub asked : of_line (λ core. option_to_list (asked_in border core)) x ≡ of_line (λ core. option_to_list (asked_in border core)) y
  pub ends : of_line (ends_in border) x ≡ of_line (ends_in border) y
  pub late : of_line (late_in border) x ≡ of_line (late_in border) y
  pub callbacks : of_line (callbacks_in c.object border) x ≡ of_line (callbacks_in c.object border) y
  -- the same messages of other masters that are beyond or aren't configured are dropped; those that name nothing
  -- within are answered alike
  pub drops : of_line (drops_in c.object border m) x ≡ of_line (drops_in c.object border m) y
  pub answers : of_line (answers_in c.object c.topology border m) x ≡ of_line (answers_in c.object c.topology border m) y
  -- each box but the master's own holds the same, and the same other masters are told that their boxes are full
  pub boxes : AreQuietBoxes c m x.after.boxes y.after.boxes
  pub busy : busy_others m x.notes ≡ busy_others m y.notes

-- two lines are alike beyond the reach of the master
abbrev pub IsLineAlike : Setup → NodeId → Line → Line → Type 0
IsLineAlike c m x y = IsAlikeBeyond c m (border_of (fixed_of c) m) x y

-- the two runs are equally long, and alike line by line
abbrev pub AreWorldsAlike : Setup → NodeId → List Event → Type 0
AreWorldsAlike c m events = Both (IsLineAlike c m) (run c events) (run c (quiet m events))
