-- The lines of clocks beyond the reach of a master are those of the run without its messages.
use Rattle.std.proofs.Common.{◌≡◌, ℕ, ℤ, zero, suc, ◌+◌, ◌==◌, ◌&&◌, Bool, true, false, List, [], ◌∷◌, ◌++◌, take, Option, Some, None, refl, ap, sym, ◌∙◌}
use Rattle.std.specs.Prelude.{⊤, filter, flat_map, if◌then◌else◌, is_some, map, not, option_to_list}
use Rattle.std.specs.List.{AllByRecursion as Each}
use Rattle.std.proofs.lemmas.Bool.{eqb-true}
use Rattle.std.proofs.lemmas.List.{map-append}
use Rattle.std.proofs.lemmas.List.Elements.{filter-append}
use Rattle.pm_base.specs.declared.events.Event.{Event}
use Rattle.pm_base.specs.declared.events.Event.TheVariants.{Smc}
use Rattle.pm_base.specs.declared.names.NodeId.{NodeId}
use Rattle.pm_base.specs.declared.names.Unit.{Unit}
use Rattle.pm_base.specs.declared.names.Unit.TheVariants.{Node, Line}
use Rattle.pm_ipi.specs.declared.responses.Response.{Response}
use Rattle.pm_topology.specs.declared.topology.Topology.{Topology}
use Rattle.pm_psci.specs.Answers.{answered}
use Rattle.pm_board.specs.Board.{Standing, board_after}
use Rattle.pm_clock_tree.specs.declared.clock_tree.ClockChange.{ClockChange}
use Rattle.pm_clock_tree.specs.declared.table.ClockDef.{ClockDef}
use Rattle.pm_clock_tree.specs.Table.{clock_place, clocks}
use Rattle.pm_clock_tree.specs.Told.{Clocked, change, change_at, same as is_same, was_running}
use Rattle.pm_clock_tree.specs.Tree.{Tree, running, runs}
use Rattle.pm_split.specs.Split.{Note, call, called_note, noted_answer}
use Rattle.pm_split.specs.Split.Note.{Busy, Called, Clock, NoTask, Fired, Late}
use Rattle.pm_run.specs.Run.{Core, Line as ScriptLine, Setup, fixed_of, run}
use Rattle.pm_laws.specs.Both.{Both}
use Rattle.pm_laws.specs.Quiet.{quiet}
use Rattle.pm_laws.specs.ReachBorder.{border_of}
use Rattle.pm_clock_laws.specs.Reach.{IsClockBeyond}
use Rattle.pm_clock_laws.specs.Same.{tree_along as along}
use Rattle.pm_clock_laws.specs.Worlds.{AreClocksAlike, IsClockAlike, Turn, turn_of, turns}
use Rattle.pm_apply.specs.Part.{Kept, part_of}
use Rattle.pm_record.specs.Record.{at_zero}
use Rattle.pm_trace.specs.declared.line.Word.{Word}
use Rattle.pm_trace.specs.declared.step.StepLine.{StepLine}
use Rattle.pm_trace.specs.declared.step.StepLine.TheVariants as told
use Rattle.pm_trace.specs.Line.{numbers}
use Rattle.pm_trace.specs.Step.{command_name, step_words}
use Rattle.pm_clocks.specs.Clocked.{tree_after_core}
use Rattle.pm_drive.specs.Clocks.{clock_note, clock_notes, clocked_by, clocked_cores, clocked_line, first_tree, tree_along}
use Rattle.pm_drive.specs.Drive.{Driven, Given, answers_after, drive, drive_line, driven, first_answers, give, later_answers, until}
use Rattle.pm_drive.specs.Completed.{completed_by, completed_cores, completed_in, completed_line}
use Rattle.pm_drive.specs.Tasks.{task_notes}
use Rattle.pm_drive.specs.Text.{notes_of, reply_after}
use Rattle.pm_drive.proofs.DroveLaw.{until-drive}
use Rattle.pm_apart.specs.Lines.{driven_lines, given_lines, note_lines, numbered, step_lines}
use Rattle.pm_apart.specs.Telling.{tells_clock}
use Rattle.pm_apart.proofs.Cuts.{both_map, until_each}
use Rattle.pm_apart.proofs.FilterLemmas.{left_out, none_after, parts_alike}
use Rattle.pm_apart.proofs.CompletedLaw.{noted_line}
use Rattle.pm_apart.proofs.OwnNotesLemmas.{OwnNotes, runs_are as own_notes_are}
use Rattle.pm_apart.proofs.TasksLaw.{IsOfTask, tasks_are}
use Rattle.pm_apart.proofs.TextsLaw.{none_given}

-- ---- trees

-- the tree after core steps, whatever a device was given in them
same_along : (kept : Kept) (answers : List (List Bool)) (cores : List Core) (tree : Tree) → tree_along (give kept answers cores) tree ≡ along cores tree
same_along kept answers [] tree = refl
same_along kept answers (core ∷ cores) tree =
    same_along (part_of kept (first_answers answers) core.after core.outputs).kept (later_answers answers) cores (tree_after_core core tree)

-- the first of two runs' lines turn alike if all do
taken : (R : Turn → Turn → Type 0) (n : ℕ) (s t : Tree) (xs ys : List ScriptLine) → Both R (turns s xs) (turns t ys)
    → Both R (turns s (take n xs)) (turns t (take n ys))
taken R zero s t xs ys both = tt
taken R (suc n) s t [] [] both = tt
taken R (suc n) s t [] (y ∷ ys) both = absurd both
taken R (suc n) s t (x ∷ xs) [] both = absurd both
taken R (suc n) s t (x ∷ xs) (y ∷ ys) both = (both.0, taken R n (along x.cores s) (along y.cores t) xs ys both.1)

until_taken : (R : Turn → Turn → Type 0) (cut : Option ℕ) (s t : Tree) (xs ys : List ScriptLine) → Both R (turns s xs) (turns t ys)
    → Both R (turns s (until cut xs)) (turns t (until cut ys))
until_taken R None s t xs ys both = both
until_taken R (Some k) s t xs ys both = taken R (k + 1) s t xs ys both

-- ---- the notes of a line's own

-- a note of a full box, or of words that come too late
abbrev IsOwn : Note → Type 0
IsOwn (Busy master) = ⊤
IsOwn (Late address) = ⊤
IsOwn _ = ⊥

abbrev HasOwn : ScriptLine → Type 0
HasOwn line = OwnNotes IsOwn line

runs_are : (c : Setup) (events : List Event) → Each HasOwn (run c events)
runs_are c events = own_notes_are IsOwn (λ master. tt) (λ address. tt) c events

module _ (number : ℕ) where
  -- ---- which lines tell of the clock

  no_command : (n : ℕ) (x : Unit) (ok : Bool) (others : List Word) → tells_clock number (numbered n (command_name x ok ++ others)) ≡ false
  no_command n (Node a) true others = refl
  no_command n (Node a) false others = refl
  no_command n (Line a) true others = refl
  no_command n (Line a) false others = refl

  no_line : (n : ℕ) (line : StepLine) → tells_clock number (numbered n (step_words line)) ≡ false
  no_line n (told.Command d) = no_command n d.command.unit d.ok (numbers (d.from ∷ d.command.value ∷ []))
  no_line n (told.Start start) = refl
  no_line n (told.Reply master response) = refl
  no_line n (told.Drop master) = refl
  no_line n (told.Call callback) = refl

  module _ (n : ℕ) where
    none_own : (notes : List Note) → Each IsOwn notes → filter (tells_clock number) (note_lines n notes) ≡ []
    none_own [] are = refl
    none_own (Busy master ∷ notes) are = none_own notes are.1
    none_own (Called proc code ∷ notes) are = absurd are.0
    none_own (NoTask key ∷ notes) are = absurd are.0
    none_own (Clock clock from to ∷ notes) are = absurd are.0
    none_own (Fired key at word ∷ notes) are = absurd are.0
    none_own (Late address ∷ notes) are = none_own notes are.1

    none_of_tasks : (notes : List Note) → Each IsOfTask notes → filter (tells_clock number) (note_lines n notes) ≡ []
    none_of_tasks [] are = refl
    none_of_tasks (NoTask key ∷ notes) are = none_of_tasks notes are.1
    none_of_tasks (Fired key at word ∷ notes) are = none_of_tasks notes are.1
    none_of_tasks (Busy master ∷ notes) are = absurd are.0
    none_of_tasks (Called proc code ∷ notes) are = absurd are.0
    none_of_tasks (Clock clock from to ∷ notes) are = absurd are.0
    none_of_tasks (Late address ∷ notes) are = absurd are.0

    none_answered : (proc : NodeId) (code : Option ℤ) → filter (tells_clock number) (note_lines n (noted_answer proc code)) ≡ []
    none_answered proc None = refl
    none_answered proc (Some code) = refl

    none_called : (t : Topology) (event : Event) (reply : Option Response) → filter (tells_clock number) (note_lines n (called_note t event reply)) ≡ []
    none_called t (Smc proc function args) reply = none_answered proc (answered t (call proc function args) reply)
    none_called t event reply = refl

    -- of the lines of a script line those of the clock are among those of its clocks
    line_found : (board : Standing) (tree : Tree) (x : Driven) → HasOwn x.line
        → filter (tells_clock number) (driven_lines n (completed_line board (clocked_line tree x))) ≡ filter (tells_clock number) (note_lines n (clock_notes tree x.cores))
    line_found board tree x own =
        let event : Event = x.line.event in
        let given : List Given = completed_cores board.modules (clocked_cores tree x.cores) in
        let turned : List Note = clock_notes tree x.cores in
        let tasks : List Note = task_notes event board.tasks in
        let reply : Option Response = reply_after None given in
        let notes : List Note = notes_of (completed_line board (clocked_line tree x)) in
        filter-append (tells_clock number) (flat_map (given_lines n) given) (note_lines n notes)
        ∙ (ap (λ lines. lines ++ filter (tells_clock number) (note_lines n notes)) (none_given (tells_clock number) no_line n given)
        ∙ (none_after (tells_clock number) (noted_line n) ((x.line.notes ++ turned) ++ tasks) (called_note x.line.after.book.fixed.topology event reply)
        (none_called x.line.after.book.fixed.topology event reply)
        ∙ (none_after (tells_clock number) (noted_line n) (x.line.notes ++ turned) tasks (none_of_tasks tasks (tasks_are event board.tasks))
        ∙ (ap (filter (tells_clock number)) (map-append (noted_line n) x.line.notes turned)
        ∙ (filter-append (tells_clock number) (note_lines n x.line.notes) (note_lines n turned)
        ∙ ap (λ lines. lines ++ filter (tells_clock number) (note_lines n turned)) (none_own x.line.notes own))))))

    -- ---- the lines of changes

    abbrev change_lines : Option ClockChange → List (List Word)
    change_lines found = note_lines n (map clock_note (option_to_list found))

    -- none of another clock's
    other_clock : (clock : ℕ) (clocked : Clocked) → (clock == number) ≡ false → filter (tells_clock number) (change_lines (change_at clock clocked)) ≡ []
    other_clock clock clocked other =
        by (is_some (clock_place clock) && not (is_same (was_running clock clocked) (runs clock clocked.tree)))
      where
        from : Bool
        from = was_running clock clocked

        to : Bool
        to = runs clock clocked.tree

        by : (changed : Bool)
            → filter (tells_clock number) (change_lines (if changed then Some (change clock (was_running clock clocked) (runs clock clocked.tree)) else None)) ≡ []
        by true = left_out (tells_clock number) (noted_line n (Clock clock (was_running clock clocked) (runs clock clocked.tree))) [] other
        by false = refl

    one_alike : (a b : Clocked) → change_at number a ≡ change_at number b → (clock : ℕ)
        → filter (tells_clock number) (change_lines (change_at clock a)) ≡ filter (tells_clock number) (change_lines (change_at clock b))
    one_alike a b same clock = by (clock == number) refl
      where
        by : (is : Bool) → (clock == number) ≡ is
            → filter (tells_clock number) (change_lines (change_at clock a)) ≡ filter (tells_clock number) (change_lines (change_at clock b))
        by true is =
            let here : clock ≡ number = eqb-true clock number is in
            ap (λ k. filter (tells_clock number) (change_lines (change_at k a))) here
            ∙ (ap (λ found. filter (tells_clock number) (change_lines found)) same
            ∙ sym (ap (λ k. filter (tells_clock number) (change_lines (change_at k b))) here))
        by false is = other_clock clock a is ∙ sym (other_clock clock b is)

    joined : (first later : List ClockChange)
        → note_lines n (map clock_note (first ++ later)) ≡ note_lines n (map clock_note first) ++ note_lines n (map clock_note later)
    joined first later =
        ap (map (noted_line n)) (map-append clock_note first later) ∙ map-append (noted_line n) (map clock_note first) (map clock_note later)

    all_alike : (a b : Clocked) → change_at number a ≡ change_at number b → (defs : List ClockDef)
        → filter (tells_clock number) (note_lines n (map clock_note (flat_map (λ (def : ClockDef). option_to_list (change_at def.number a)) defs)))
        ≡ filter (tells_clock number) (note_lines n (map clock_note (flat_map (λ (def : ClockDef). option_to_list (change_at def.number b)) defs)))
    all_alike a b same [] = refl
    all_alike a b same (def ∷ defs) =
        let later_a : List ClockChange = flat_map (λ (d : ClockDef). option_to_list (change_at d.number a)) defs in
        let later_b : List ClockChange = flat_map (λ (d : ClockDef). option_to_list (change_at d.number b)) defs in
        ap (filter (tells_clock number)) (joined (option_to_list (change_at def.number a)) later_a)
        ∙ (parts_alike (tells_clock number) (change_lines (change_at def.number a)) (note_lines n (map clock_note later_a))
        (change_lines (change_at def.number b)) (note_lines n (map clock_note later_b))
        (one_alike a b same def.number) (all_alike a b same defs)
        ∙ sym (ap (filter (tells_clock number)) (joined (option_to_list (change_at def.number b)) later_b)))

  -- ---- in two runs

  abbrev TurnAlike : Turn → Turn → Type 0
  TurnAlike x y = turn_of number x ≡ turn_of number y

  lines_alike : (n : ℕ) (board other : Standing) (s t : Tree) (xs ys : List ScriptLine) (kept rest : Kept) (answers others : List (List Bool))
      → Each HasOwn xs → Each HasOwn ys → Both TurnAlike (turns s xs) (turns t ys)
      → filter (tells_clock number) (step_lines n (completed_by board (clocked_by s (drive kept answers xs))))
      ≡ filter (tells_clock number) (step_lines n (completed_by other (clocked_by t (drive rest others ys))))
  lines_alike n board other s t [] [] kept rest answers others own its both = refl
  lines_alike n board other s t [] (y ∷ ys) kept rest answers others own its both = absurd both
  lines_alike n board other s t (x ∷ xs) [] kept rest answers others own its both = absurd both
  lines_alike n board other s t (x ∷ xs) (y ∷ ys) kept rest answers others own its both =
      let dx : Driven = drive_line kept answers x in
      let dy : Driven = drive_line rest others y in
      let later_x : List Driven = drive dx.kept (answers_after x.cores answers) xs in
      let later_y : List Driven = drive dy.kept (answers_after y.cores others) ys in
      let board_x : Standing = board_after x.event board in
      let board_y : Standing = board_after y.event other in
      let told_x : Tree → List (List Word) = λ tree. filter (tells_clock number) (step_lines (n + 1) (completed_by board_x (clocked_by tree later_x))) in
      let told_y : Tree → List (List Word) = λ tree. filter (tells_clock number) (step_lines (n + 1) (completed_by board_y (clocked_by tree later_y))) in
      let turn_x : Tree → Option ClockChange = λ tree. change_at number (record { tree = tree; told = running s }) in
      let turn_y : Tree → Option ClockChange = λ tree. change_at number (record { tree = tree; told = running t }) in
      parts_alike (tells_clock number) (driven_lines n (completed_line board (clocked_line s dx))) (step_lines (n + 1) (completed_by board_x (clocked_by (tree_along dx.cores s) later_x)))
      (driven_lines n (completed_line other (clocked_line t dy))) (step_lines (n + 1) (completed_by board_y (clocked_by (tree_along dy.cores t) later_y)))
      (line_found n board s dx own.0
      ∙ (all_alike n (record { tree = tree_along dx.cores s; told = running s }) (record { tree = tree_along dy.cores t; told = running t })
      (ap turn_x (same_along kept answers x.cores s) ∙ (both.0 ∙ sym (ap turn_y (same_along rest others y.cores t)))) clocks
      ∙ sym (line_found n other t dy its.0)))
      (ap told_x (same_along kept answers x.cores s)
      ∙ (lines_alike (n + 1) board_x board_y (along x.cores s) (along y.cores t) xs ys dx.kept dy.kept (answers_after x.cores answers) (answers_after y.cores others)
      own.1 its.1 both.1
      ∙ sym (ap told_y (same_along rest others y.cores t))))

  pub turns_apart : (c : Setup) (m : NodeId) (events : List Event) → AreClocksAlike c m events
      → IsClockBeyond (fixed_of c) (border_of (fixed_of c) m) number
      → (board other : Standing) (answers others : List (List Bool)) (cut : Option ℕ)
      → filter (tells_clock number) (step_lines 0 (completed_in c board (until cut (driven c answers events))))
      ≡ filter (tells_clock number) (step_lines 0 (completed_in c other (until cut (driven c others (quiet m events)))))
  turns_apart c m events alike beyond board other answers others cut =
      let lines : List ScriptLine = run c events in
      let silent : List ScriptLine = run c (quiet m events) in
      ap (λ xs. filter (tells_clock number) (step_lines 0 (completed_in c board xs))) (until-drive cut lines (at_zero c.topology) answers)
      ∙ (lines_alike 0 board other (first_tree c) (first_tree c) (until cut lines) (until cut silent) (at_zero c.topology) (at_zero c.topology) answers others
      (until_each HasOwn cut lines (runs_are c events)) (until_each HasOwn cut silent (runs_are c (quiet m events)))
      (until_taken TurnAlike cut (first_tree c) (first_tree c) lines silent
      (both_map (IsClockAlike (fixed_of c) (border_of (fixed_of c) m)) TurnAlike (λ x y same. same.turns number beyond)
      (turns (first_tree c) lines) (turns (first_tree c) silent) alike))
      ∙ sym (ap (λ xs. filter (tells_clock number) (step_lines 0 (completed_in c other xs))) (until-drive cut silent (at_zero c.topology) others)))
