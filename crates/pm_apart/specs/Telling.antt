-- The other lines about what is beyond the reach of a master: starts of processors, dropped messages of other
-- masters, requests to masters to suspend, notes about nodes, and starts and stops of clocks. Besides, the lines of
-- full boxes of other masters, and of timed tasks. A reply or an acknowledgement doesn't show in its words whether it
-- is an answer or comes late; for these the relation of core steps speaks.
use Rattle.std.specs.Prelude.{◌≡◌, ℕ, ◌==◌, Bool, false, not, ◌&&◌, ◌||◌, codes, List, [], ◌∷◌, filter, Option}
use Rattle.pm_base.specs.Names.{numbered_node}
use Rattle.pm_base.specs.declared.events.Event.{Event}
use Rattle.pm_base.specs.declared.names.NodeId.{NodeId}
use Rattle.pm_base.specs.declared.names.Unit.TheVariants.{Node}
use Rattle.pm_ipi.specs.Callbacks.{init_suspend, notify}
use Rattle.pm_board.specs.Board.{Standing}
use Rattle.pm_run.specs.Run.{Setup, fixed_of}
use Rattle.pm_laws.specs.Border.{Border, none_within}
use Rattle.pm_laws.specs.Hidden.{is_within}
use Rattle.pm_laws.specs.Quiet.{quiet}
use Rattle.pm_laws.specs.ReachBorder.{border_of, configured_place}
use Rattle.pm_laws.specs.Values.{is_beyond}
use Rattle.pm_clock_laws.specs.Reach.{IsClockBeyond}
use Rattle.pm_trace.specs.declared.line.Word.{Word}
use Rattle.pm_trace.specs.declared.line.Word.TheVariants as word
use Rattle.pm_drive.specs.Drive.{driven, until}
use Rattle.pm_drive.specs.Completed.{completed_in}
use Rattle.pm_apart.specs.Lines.{is_name, step_lines}

-- the word is a number that passes this test together with the words after it
abbrev pub passes : (ℕ → List Word → Bool) → Word → List Word → Bool
passes test (word.Number n) others = test n others
passes test _ others = false

-- the line has this name behind its number, and then a number that passes this test together with the words after it
abbrev pub is_told : List ℕ → (ℕ → List Word → Bool) → List Word → Bool
is_told text test [] = false
is_told text test (first ∷ []) = false
is_told text test (first ∷ name ∷ []) = false
is_told text test (first ∷ name ∷ number ∷ others) = is_name text name && passes test number others

-- the callback asks a master to suspend, or tells it a note about a node beyond, which is its first argument
abbrev pub is_call : Border → ℕ → ℕ → Bool
is_call border id first = (id == init_suspend) || ((id == notify) && border.node first)

abbrev pub calls_back : Border → List Word → Bool
calls_back border [] = false
calls_back border (id ∷ []) = false
calls_back border (id ∷ first ∷ others) = passes (λ i words. passes (λ n more. is_call border i n) first others) id others

-- the line is the start of a processor beyond
abbrev pub tells_start : Setup → Border → List Word → Bool
tells_start c border line = is_told (codes "run") (λ proc others. is_beyond c.object c.topology border (Node (numbered_node proc))) line

-- the line is the drop of a message of another master, which is beyond or isn't configured
abbrev pub tells_drop : Setup → Border → NodeId → List Word → Bool
tells_drop c border m line =
    is_told (codes "drop") (λ master others. not (master == m.0) && none_within border (configured_place c.object (numbered_node master))) line

-- the line asks a master beyond to suspend, or tells it a note about a node beyond
abbrev pub tells_call : Setup → Border → List Word → Bool
tells_call c border line =
    is_told (codes "call") (λ master others. not (is_within border (configured_place c.object (numbered_node master))) && calls_back border others) line

-- the line has this name behind its number
abbrev pub is_of : List ℕ → List Word → Bool
is_of text [] = false
is_of text (first ∷ []) = false
is_of text (first ∷ name ∷ others) = is_name text name

-- the line is of a timed task: it is called, or there is none to start or to take out
abbrev pub tells_task : List Word → Bool
tells_task line = is_of (codes "task") line || is_of (codes "notask") line

-- the line tells a master other than this one that its box is full
abbrev pub tells_busy : NodeId → List Word → Bool
tells_busy m line = is_told (codes "busy") (λ master others. not (master == m.0)) line

-- the line is the start or stop of the clock with this number
abbrev pub tells_clock : ℕ → List Word → Bool
tells_clock number line = is_told (codes "clock") (λ clock others. clock == number) line

-- whatever a device answers in the two runs, the lines that tell of what is beyond the reach of a master are those of
-- the run without its messages, up to the line within whose text the run breaks off, if it does. So are the lines of
-- full boxes of other masters, and those of each clock beyond, whatever the boards of the two runs. The lines of
-- timed tasks are equal if the tasks of the two boards are
pub record TellsApart (c : Setup) (events : List Event) (m : NodeId) : Type 0 where
  pub starts : (board other : Standing) (answers others : List (List Bool)) (cut : Option ℕ)
      → filter (tells_start c (border_of (fixed_of c) m)) (step_lines 0 (completed_in c board (until cut (driven c answers events))))
      ≡ filter (tells_start c (border_of (fixed_of c) m)) (step_lines 0 (completed_in c other (until cut (driven c others (quiet m events)))))
  pub drops : (board other : Standing) (answers others : List (List Bool)) (cut : Option ℕ)
      → filter (tells_drop c (border_of (fixed_of c) m) m) (step_lines 0 (completed_in c board (until cut (driven c answers events))))
      ≡ filter (tells_drop c (border_of (fixed_of c) m) m) (step_lines 0 (completed_in c other (until cut (driven c others (quiet m events)))))
  pub callbacks : (board other : Standing) (answers others : List (List Bool)) (cut : Option ℕ)
      → filter (tells_call c (border_of (fixed_of c) m)) (step_lines 0 (completed_in c board (until cut (driven c answers events))))
      ≡ filter (tells_call c (border_of (fixed_of c) m)) (step_lines 0 (completed_in c other (until cut (driven c others (quiet m events)))))
  pub busy : (board other : Standing) (answers others : List (List Bool)) (cut : Option ℕ)
      → filter (tells_busy m) (step_lines 0 (completed_in c board (until cut (driven c answers events))))
      ≡ filter (tells_busy m) (step_lines 0 (completed_in c other (until cut (driven c others (quiet m events)))))
  pub tasks : (board other : Standing) → board.tasks ≡ other.tasks → (answers others : List (List Bool)) (cut : Option ℕ)
      → filter tells_task (step_lines 0 (completed_in c board (until cut (driven c answers events))))
      ≡ filter tells_task (step_lines 0 (completed_in c other (until cut (driven c others (quiet m events)))))
  pub clocks : (number : ℕ) → IsClockBeyond (fixed_of c) (border_of (fixed_of c) m) number
      → (board other : Standing) (answers others : List (List Bool)) (cut : Option ℕ)
      → filter (tells_clock number) (step_lines 0 (completed_in c board (until cut (driven c answers events))))
      ≡ filter (tells_clock number) (step_lines 0 (completed_in c other (until cut (driven c others (quiet m events)))))
