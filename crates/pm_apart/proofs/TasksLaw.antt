-- The lines of tasks are those of the run without the messages of a master, if the tasks of the two boards are equal.
use Rattle.std.proofs.Common.{◌≡◌, ℕ, ℤ, ◌+◌, ◌==◌, Bool, true, false, if◌then◌else◌, List, [], ◌∷◌, ◌++◌, Option, Some, None, refl, ap, sym, ◌∙◌}
use Rattle.std.specs.Prelude.{⊤, filter, flat_map, map}
use Rattle.std.specs.List.{AllByRecursion as Each}
use Rattle.std.proofs.lemmas.List.{map-append}
use Rattle.std.proofs.lemmas.List.Elements.{filter-append}
use Rattle.pm_base.specs.declared.events.Event.{Event}
use Rattle.pm_base.specs.declared.events.Event.TheVariants.{Ipi, Pass, Post, Smc, Task, Cancel}
use Rattle.pm_base.specs.declared.events.Message.{Message}
use Rattle.pm_base.specs.declared.names.NodeId.{NodeId}
use Rattle.pm_base.specs.declared.names.Unit.{Unit}
use Rattle.pm_base.specs.declared.names.Unit.TheVariants.{Node, Line}
use Rattle.pm_ipi.specs.declared.responses.Response.{Response}
use Rattle.pm_topology.specs.declared.topology.Topology.{Topology}
use Rattle.pm_psci.specs.Answers.{answered}
use Rattle.pm_tasks.specs.declared.tasks.Fired.{Fired as FiredTask}
use Rattle.pm_tasks.specs.Timetable.{Timetable}
use Rattle.pm_board.specs.Board.{Standing, begun, board_after, is_done, settled}
use Rattle.pm_clock_tree.specs.declared.clock_tree.ClockChange.{ClockChange}
use Rattle.pm_clock_tree.specs.Tree.{Tree}
use Rattle.pm_split.specs.Split.{Note, call, called_note, noted_answer}
use Rattle.pm_split.specs.Split.Note.{Busy, Called, Clock, NoTask, Fired, Late}
use Rattle.pm_run.specs.Run.{Line as ScriptLine, Setup, Stand, line_of, lines_of, loaded, run}
use Rattle.pm_laws.specs.Both.{Both}
use Rattle.pm_laws.specs.Quiet.{quiet, quiet_event}
use Rattle.pm_apply.specs.Part.{Kept}
use Rattle.pm_record.specs.Record.{at_zero}
use Rattle.pm_trace.specs.declared.line.Word.{Word}
use Rattle.pm_trace.specs.declared.step.StepLine.{StepLine}
use Rattle.pm_trace.specs.declared.step.StepLine.TheVariants as told
use Rattle.pm_trace.specs.Line.{numbers}
use Rattle.pm_trace.specs.Step.{command_name, step_words}
use Rattle.pm_drive.specs.Drive.{Driven, Given, answers_after, drive, drive_line, driven, until}
use Rattle.pm_drive.specs.Clocks.{clock_note, clock_notes, clocked_by, clocked_line, first_tree, tree_along, turned}
use Rattle.pm_drive.specs.Completed.{completed_by, completed_cores, completed_in, completed_line}
use Rattle.pm_drive.specs.Tasks.{fired_note, key_notes, refusal_notes, task_notes}
use Rattle.pm_drive.specs.Text.{notes_of, reply_after}
use Rattle.pm_drive.proofs.DroveLaw.{until-drive}
use Rattle.pm_apart.specs.Lines.{driven_lines, given_lines, note_lines, numbered, step_lines}
use Rattle.pm_apart.specs.Telling.{tells_task}
use Rattle.pm_apart.proofs.Cuts.{until_both, until_each}
use Rattle.pm_apart.proofs.FilterLemmas.{none_after}
use Rattle.pm_apart.proofs.CompletedLaw.{noted_line}
use Rattle.pm_apart.proofs.OwnNotesLemmas.{OwnNotes, runs_are as own_notes_are}
use Rattle.pm_apart.proofs.TextsLaw.{none_given}

-- ---- which notes tell of tasks

-- a note that isn't of a task, and one that is
abbrev IsOther : Note → Type 0
IsOther (Busy master) = ⊤
IsOther (Clock number from to) = ⊤
IsOther (Late address) = ⊤
IsOther _ = ⊥

abbrev pub IsOfTask : Note → Type 0
IsOfTask (NoTask key) = ⊤
IsOfTask (Fired key at word) = ⊤
IsOfTask _ = ⊥

each_joined : {X : Type 0} (P : X → Type 0) (xs ys : List X) → Each P xs → Each P ys → Each P (xs ++ ys)
each_joined P [] ys first second = second
each_joined P (x ∷ xs) ys first second = (first.0, each_joined P xs ys first.1 second)

fired_are : (fired : List FiredTask) → Each IsOfTask (map fired_note fired)
fired_are [] = tt
fired_are (f ∷ fired) = (tt, fired_are fired)

keyed_are : (event : Event) → Each IsOfTask (key_notes event)
keyed_are (Task key interval) = (tt, tt)
keyed_are (Cancel key) = (tt, tt)
keyed_are event = tt

refused_are : (event : Event) (is : Bool) → Each IsOfTask (if is then [] else key_notes event)
refused_are event true = tt
refused_are event false = keyed_are event

-- what is told of tasks are such notes
pub tasks_are : (event : Event) (t : Timetable) → Each IsOfTask (task_notes event t)
tasks_are event t =
    let fired : List FiredTask = (begun event (settled t)).left in
    each_joined IsOfTask (refusal_notes event t) (map fired_note fired) (refused_are event (is_done event t)) (fired_are fired)

-- what is told of clocks are notes of clocks
turned_are : (changes : List ClockChange) → Each IsOther (map clock_note changes)
turned_are [] = tt
turned_are (change ∷ changes) = (tt, turned_are changes)

clocks_are : (tree : Tree) (given : List Given) → Each IsOther (clock_notes tree given)
clocks_are tree given = turned_are (turned tree (tree_along given tree))

-- no note of a line's own is of a task
abbrev HasOthers : ScriptLine → Type 0
HasOthers line = OwnNotes IsOther line

runs_are : (c : Setup) (events : List Event) → Each HasOthers (run c events)
runs_are c events = own_notes_are IsOther (λ master. tt) (λ address. tt) c events

-- ---- the lines that tell of tasks

-- no line of a core step does
no_command : (n : ℕ) (x : Unit) (ok : Bool) (others : List Word) → tells_task (numbered n (command_name x ok ++ others)) ≡ false
no_command n (Node a) true others = refl
no_command n (Node a) false others = refl
no_command n (Line a) true others = refl
no_command n (Line a) false others = refl

no_line : (n : ℕ) (line : StepLine) → tells_task (numbered n (step_words line)) ≡ false
no_line n (told.Command d) = no_command n d.command.unit d.ok (numbers (d.from ∷ d.command.value ∷ []))
no_line n (told.Start start) = refl
no_line n (told.Reply master response) = refl
no_line n (told.Drop master) = refl
no_line n (told.Call callback) = refl

module _ (n : ℕ) where
  -- of notes those of tasks do
  none_other : (notes : List Note) → Each IsOther notes → filter tells_task (note_lines n notes) ≡ []
  none_other [] are = refl
  none_other (Busy master ∷ notes) are = none_other notes are.1
  none_other (Called proc code ∷ notes) are = absurd are.0
  none_other (NoTask key ∷ notes) are = absurd are.0
  none_other (Clock number from to ∷ notes) are = none_other notes are.1
  none_other (Late address ∷ notes) are = none_other notes are.1
  none_other (Fired key at word ∷ notes) are = absurd are.0

  all_found : (notes : List Note) → Each IsOfTask notes → filter tells_task (note_lines n notes) ≡ note_lines n notes
  all_found [] are = refl
  all_found (NoTask key ∷ notes) are = ap (λ lines. noted_line n (NoTask key) ∷ lines) (all_found notes are.1)
  all_found (Fired key at word ∷ notes) are = ap (λ lines. noted_line n (Fired key at word) ∷ lines) (all_found notes are.1)
  all_found (Busy master ∷ notes) are = absurd are.0
  all_found (Called proc code ∷ notes) are = absurd are.0
  all_found (Clock number from to ∷ notes) are = absurd are.0
  all_found (Late address ∷ notes) are = absurd are.0

  none_answered : (proc : NodeId) (code : Option ℤ) → filter tells_task (note_lines n (noted_answer proc code)) ≡ []
  none_answered proc None = refl
  none_answered proc (Some code) = refl

  none_called : (t : Topology) (event : Event) (reply : Option Response) → filter tells_task (note_lines n (called_note t event reply)) ≡ []
  none_called t (Smc proc function args) reply = none_answered proc (answered t (call proc function args) reply)
  none_called t event reply = refl

  -- so those of a line tell what happens to tasks in it
  line_found : (board : Standing) (x : Driven) → HasOthers x.line
      → filter tells_task (driven_lines n (completed_line board x)) ≡ note_lines n (task_notes x.line.event board.tasks)
  line_found board x own =
      let t : Topology = x.line.after.book.fixed.topology in
      let event : Event = x.line.event in
      let given : List Given = completed_cores board.modules x.cores in
      let tasks : List Note = task_notes event board.tasks in
      let reply : Option Response = reply_after None given in
      let notes : List Note = notes_of (completed_line board x) in
      filter-append tells_task (flat_map (given_lines n) given) (note_lines n notes)
      ∙ (ap (λ lines. lines ++ filter tells_task (note_lines n notes)) (none_given tells_task no_line n given)
      ∙ (none_after tells_task (noted_line n) (x.line.notes ++ tasks) (called_note t event reply) (none_called t event reply)
      ∙ (ap (filter tells_task) (map-append (noted_line n) x.line.notes tasks)
      ∙ (filter-append tells_task (note_lines n x.line.notes) (note_lines n tasks)
      ∙ (ap (λ lines. lines ++ filter tells_task (note_lines n tasks)) (none_other x.line.notes own)
      ∙ all_found tasks (tasks_are event board.tasks))))))

-- the lines of script lines, the first of which has this number, about these tasks
abbrev told_of_tasks : ℕ → Timetable → List ScriptLine → List (List Word)
told_of_tasks n t [] = []
told_of_tasks n t (line ∷ lines) = note_lines n (task_notes line.event t) ++ told_of_tasks (n + 1) (settled (begun line.event (settled t))) lines

lines_found : (n : ℕ) (board : Standing) (tree : Tree) (lines : List ScriptLine) (kept : Kept) (answers : List (List Bool)) → Each HasOthers lines
    → filter tells_task (step_lines n (completed_by board (clocked_by tree (drive kept answers lines)))) ≡ told_of_tasks n board.tasks lines
lines_found n board tree [] kept answers own = refl
lines_found n board tree (line ∷ lines) kept answers own =
    let x : Driven = drive_line kept answers line in
    let after : Standing = board_after line.event board in
    let next : Tree = tree_along x.cores tree in
    let later : List Driven = clocked_by next (drive x.kept (answers_after line.cores answers) lines) in
    let here : List (List Word) = note_lines n (task_notes line.event board.tasks) in
    let others : HasOthers (clocked_line tree x).line =
    each_joined IsOther line.notes (clock_notes tree x.cores) own.0 (clocks_are tree x.cores)
    in
    filter-append tells_task (driven_lines n (completed_line board (clocked_line tree x))) (step_lines (n + 1) (completed_by after later))
    ∙ (ap (λ found. found ++ filter tells_task (step_lines (n + 1) (completed_by after later))) (line_found n board (clocked_line tree x) others)
    ∙ ap (λ found. here ++ found) (lines_found (n + 1) after next lines x.kept (answers_after line.cores answers) own.1))

run_found : (c : Setup) (board : Standing) (answers : List (List Bool)) (events : List Event) (cut : Option ℕ)
    → filter tells_task (step_lines 0 (completed_in c board (until cut (driven c answers events)))) ≡ told_of_tasks 0 board.tasks (until cut (run c events))
run_found c board answers events cut =
    ap (λ xs. filter tells_task (step_lines 0 (completed_in c board xs))) (until-drive cut (run c events) (at_zero c.topology) answers)
    ∙ lines_found 0 board (first_tree c) (until cut (run c events)) (at_zero c.topology) answers (until_each HasOthers cut (run c events) (runs_are c events))

-- ---- in two runs

-- the events of two lines do the same to tasks
record HappensAlike (x y : Event) : Type 0 where
  pub notes : (t : Timetable) → task_notes x t ≡ task_notes y t
  pub tasks : (t : Timetable) → begun x t ≡ begun y t

abbrev AreAlike : ScriptLine → ScriptLine → Type 0
AreAlike x y = HappensAlike x.event y.event

itself : (event : Event) → HappensAlike event event
itself event = record { notes = λ t. refl; tasks = λ t. refl }

sent : (master : NodeId) (message : Message) (own : Bool) → HappensAlike (Ipi master message) (if own then Pass else Ipi master message)
sent master message true = record { notes = λ t. refl; tasks = λ t. refl }
sent master message false = itself (Ipi master message)

posted : (master : NodeId) (message : Message) (own : Bool) → HappensAlike (Post master message) (if own then Pass else Post master message)
posted master message true = record { notes = λ t. refl; tasks = λ t. refl }
posted master message false = itself (Post master message)

called : (proc : NodeId) (function : ℕ) (args : List ℕ) (own : Bool) → HappensAlike (Smc proc function args) (if own then Pass else Smc proc function args)
called proc function args true = record { notes = λ t. refl; tasks = λ t. refl }
called proc function args false = itself (Smc proc function args)

quiet_alike : (m : NodeId) (event : Event) → HappensAlike event (quiet_event m event)
quiet_alike m (Ipi master message) = sent master message (master.0 == m.0)
quiet_alike m (Post master message) = posted master message (master.0 == m.0)
quiet_alike m (Smc proc function args) = called proc function args (m.0 == 1)
quiet_alike m event = itself event

lines_alike : (c : Setup) (m : NodeId) (events : List Event) (stand other : Stand) → Both AreAlike (lines_of c events stand) (lines_of c (quiet m events) other)
lines_alike c m [] stand other = tt
lines_alike c m (event ∷ events) stand other =
    (quiet_alike m event, lines_alike c m events (line_of c event stand).after (line_of c (quiet_event m event) other).after)

runs_alike : (c : Setup) (m : NodeId) (events : List Event) → Both AreAlike (run c events) (run c (quiet m events))
runs_alike c m events = (itself Pass, lines_alike c m events (loaded c) (loaded c))

told_alike : (n : ℕ) (t : Timetable) (xs ys : List ScriptLine) → Both AreAlike xs ys → told_of_tasks n t xs ≡ told_of_tasks n t ys
told_alike n t [] [] both = refl
told_alike n t [] (y ∷ ys) both = absurd both
told_alike n t (x ∷ xs) [] both = absurd both
told_alike n t (x ∷ xs) (y ∷ ys) both =
    ap (λ notes. note_lines n notes ++ told_of_tasks (n + 1) (settled (begun x.event (settled t))) xs) (both.0.notes t)
    ∙ (ap (λ after. note_lines n (task_notes y.event t) ++ told_of_tasks (n + 1) (settled after) xs) (both.0.tasks (settled t))
    ∙ ap (λ lines. note_lines n (task_notes y.event t) ++ lines) (told_alike (n + 1) (settled (begun y.event (settled t))) xs ys both.1))

pub tasks_apart : (c : Setup) (m : NodeId) (events : List Event) (board other : Standing) → board.tasks ≡ other.tasks
    → (answers others : List (List Bool)) (cut : Option ℕ)
    → filter tells_task (step_lines 0 (completed_in c board (until cut (driven c answers events))))
    ≡ filter tells_task (step_lines 0 (completed_in c other (until cut (driven c others (quiet m events)))))
tasks_apart c m events board other same answers others cut =
    run_found c board answers events cut
    ∙ (ap (λ t. told_of_tasks 0 t (until cut (run c events))) same
    ∙ (told_alike 0 other.tasks (until cut (run c events)) (until cut (run c (quiet m events)))
    (until_both AreAlike cut (run c events) (run c (quiet m events)) (runs_alike c m events))
    ∙ sym (run_found c other others (quiet m events) cut)))
