-- The run of a script is that of the script in which its power calls are lowered.
use Rattle.std.proofs.Common.{◌≡◌, Bool, true, false, List, [], ◌∷◌, ◌++◌, refl, sym, ap, subst, ◌∙◌}
use Rattle.std.specs.Prelude.{if◌then◌else◌, is_some, flat_map, map}
use Rattle.std.specs.List.{AllByRecursion as Each}
use Rattle.std.proofs.lemmas.List.{append-nil, append_assoc}
use Rattle.pm_base.specs.declared.events.Event.{Event}
use Rattle.pm_base.specs.declared.events.Event.TheVariants.{Ipi, Pass, Smc, Wfi}
use Rattle.pm_base.specs.declared.events.Message.{Message}
use Rattle.pm_base.specs.declared.names.NodeId.{NodeId}
use Rattle.pm_psci.specs.declared.calls.Function.{Function}
use Rattle.pm_psci.specs.declared.calls.Function.TheVariants.{AffinityInfo, CpuOff, CpuOn, SystemOff, SystemReset, Unknown}
use Rattle.pm_psci.specs.declared.calls.Smc as psci
use Rattle.pm_psci.specs.Calls.{function_of}
use Rattle.pm_psci.specs.Lowering.{lowered, or_pass, sent}
use Rattle.pm_psci.specs.Refusal.{refusal}
use Rattle.pm_device.specs.Act.{Act}
use Rattle.pm_state.specs.Load.{load_of}
use Rattle.pm_state.specs.State.{State}
use Rattle.pm_core.specs.Step.{effect, outputs}
use Rattle.pm_clock_tree.specs.declared.clock_tree.ClockChange.{ClockChange}
use Rattle.pm_clock_tree.specs.Tree.{Tree}
use Rattle.pm_split.specs.Split.{Note, Split, call}
use Rattle.pm_tasks.specs.Timetable.{Timetable}
use Rattle.pm_board.specs.Board.{Standing, board_after, settled}
use Rattle.pm_run.specs.Run.{Core, Line, Setup, Stand, book_after, core_of, cores_of, line_0, line_of, lines_of, loaded, split}
use Rattle.pm_apply.specs.Part.{Kept, orders_of, part_of}
use Rattle.pm_record.specs.Record.{at_zero}
use Rattle.pm_trace.specs.declared.line.Word.{Word}
use Rattle.pm_trace.specs.Notes.{note_words}
use Rattle.pm_drive.specs.Drive.{Driven, Given, acts, acts_of, answers_after, drive, drive_line, driven, first_answers, give, kept_after, last_book, last_kept, later_answers, orders_in_cores, rigs}
use Rattle.pm_clocks.specs.Clocked.{tree_after_core}
use Rattle.pm_drive.specs.Clocks.{clock_note, clock_notes, clocked_by, clocked_core, clocked_cores, first_tree, last_tree, table_text, tree_along, turned}
use Rattle.pm_drive.specs.Completed.{completed_by, completed_core, completed_cores, last_board}
use Rattle.pm_drive.specs.Tasks.{task_notes}
use Rattle.pm_drive.specs.Lowered.{HaveSameSteps, but_clocks, given_in, lowered_script, told_but_clocks, told_by, told_in}

-- where a run stands after these core events, which leave the boxes
abbrev stand_after : List Event → Stand → Stand
stand_after events stand = record { book = book_after events stand.book; boxes = stand.boxes }

-- a line with these core events
abbrev line_by : Event → Stand → Split → Line
line_by event stand s = record {
  event = event;
  cores = cores_of s.events stand.book;
  notes = s.notes;
  after = record { book = book_after s.events stand.book; boxes = s.boxes };
}

-- what the device is given in a core step
abbrev orders : Given → List Act
orders g = orders_of g.part.commands

-- notes of clocks are left out
none_of_clocks : (turns : List ClockChange) (notes : List Note) → but_clocks (map clock_note turns ++ notes) ≡ but_clocks notes
none_of_clocks [] notes = refl
none_of_clocks (turn ∷ turns) notes = none_of_clocks turns notes

-- a board of which no call of a task is left
abbrev calm : Standing → Standing
calm board = record board { tasks = settled board.tasks }

-- the board after lines of these events, where none of them is about tasks
abbrev calm_after : List Event → Standing → Standing
calm_after [] board = board
calm_after (event ∷ events) board = calm_after events (calm board)

stays_calm : (events : List Event) (board : Standing) → calm_after events (calm board) ≡ calm board
stays_calm [] board = refl
stays_calm (event ∷ events) board = stays_calm events board

is_calm : (events : List Event) (board : Standing) → calm_after (or_pass events) board ≡ calm board
is_calm [] board = refl
is_calm (event ∷ events) board = stays_calm events board

-- from this book and these kept values driven lines have these core steps, and then go on as others from others. So they do
-- where they find a board, which is left so after these core steps, and so they do with the clocks, but for what is told of clocks
record GoOn (book : State) (kept : Kept) (xs : List Driven) (given : List Given) (next : State) (more : Kept) (ys : List Driven) (left : Standing → Standing) : Type 0 where
  steps : given_in xs ≡ given ++ given_in ys
  told : told_in xs ≡ flat_map told_by given ++ told_in ys
  completed : (board : Standing) → told_in (completed_by board xs) ≡ flat_map told_by (completed_cores board.modules given) ++ told_in (completed_by (left board) ys)
  board : (board : Standing) → last_board board xs ≡ last_board (left board) ys
  clocked : (board : Standing) (tree : Tree) → told_but_clocks (completed_by board (clocked_by tree xs))
      ≡ flat_map told_by (completed_cores board.modules (clocked_cores tree given)) ++ told_but_clocks (completed_by (left board) (clocked_by (tree_along given tree) ys))
  tree : (tree : Tree) → last_tree tree xs ≡ last_tree (tree_along given tree) ys
  done : acts xs ≡ orders_in_cores given ++ acts ys
  last : last_book book xs ≡ last_book next ys
  holds : last_kept kept xs ≡ last_kept more ys

module _ (c : Setup) where
  -- an event that is its own core event, does nothing to the device itself, and isn't about tasks
  record IsPlain (event : Event) : Type 0 where
    alone : (stand : Stand) → split c event stand ≡ record { events = event ∷ []; boxes = stand.boxes; notes = [] }
    no_act : rigs event ≡ []
    no_note : (t : Timetable) → task_notes event t ≡ []
    calms : (board : Standing) → board_after event board ≡ calm board

  -- those that a power call is lowered to are plain
  lowered_plain : (smc : psci.Smc) → Each IsPlain (lowered c.topology smc)
  lowered_plain smc = by (is_some (refusal c.topology smc)) (function_of smc)
    where
      of_pass : IsPlain Pass
      of_pass = record { alone = λ stand. refl; no_act = refl; no_note = λ t. refl; calms = λ board. refl }

      of_message : (sender : NodeId) (message : Message) → IsPlain (Ipi sender message)
      of_message sender message = record { alone = λ stand. refl; no_act = refl; no_note = λ t. refl; calms = λ board. refl }

      of_wait : (proc : NodeId) → IsPlain (Wfi proc)
      of_wait proc = record { alone = λ stand. refl; no_act = refl; no_note = λ t. refl; calms = λ board. refl }

      by : (refused : Bool) (function : Function) → Each IsPlain (or_pass (if refused then [] else sent c.topology smc function))
      by true function = (of_pass, tt)
      by false (CpuOn target entry) = (of_message _ _, tt)
      by false CpuOff = (of_message _ _, (of_wait _, tt))
      by false (AffinityInfo target level) = (of_message _ _, tt)
      by false SystemOff = (of_message _ _, tt)
      by false SystemReset = (of_message _ _, tt)
      by false Unknown = (of_pass, tt)

  -- lines of plain events
  plain_lines : (es : List Event) → Each IsPlain es → (rest : List Event) (stand : Stand) (kept : Kept) (answers : List (List Bool))
      → GoOn stand.book kept (drive kept answers (lines_of c (es ++ rest) stand))
      (give kept answers (cores_of es stand.book)) (book_after es stand.book) (kept_after kept (give kept answers (cores_of es stand.book)))
      (drive (kept_after kept (give kept answers (cores_of es stand.book))) (answers_after (cores_of es stand.book) answers) (lines_of c rest (stand_after es stand)))
      (calm_after es)
  plain_lines [] plain rest stand kept answers =
      record {
        steps = refl;
        told = refl;
        completed = λ board. refl;
        board = λ board. refl;
        clocked = λ board tree. refl;
        tree = λ tree. refl;
        done = refl;
        last = refl;
        holds = refl;
      }
  plain_lines (e ∷ es) plain rest stand kept answers =
      let g : Given = record { core = core_of e stand.book; part = part_of kept (first_answers answers) (effect e stand.book) (outputs e stand.book) } in
      let given : List Given = give kept answers (cores_of (e ∷ es) stand.book) in
      let after : Kept = kept_after kept given in
      let tail : List Driven = drive after (answers_after (cores_of (e ∷ es) stand.book) answers) (lines_of c rest (stand_after (e ∷ es) stand)) in
      let next : Stand = stand_after (e ∷ []) stand in
      let later = plain_lines es plain.1 rest next g.part.kept (later_answers answers) in
      let xs : List Driven = drive g.part.kept (later_answers answers) (lines_of c (es ++ rest) next) in
      let gs : List Given = give g.part.kept (later_answers answers) (cores_of es next.book) in
      let P : Split → Type 0 = λ s. GoOn stand.book kept (drive kept answers (line_by e stand s ∷ lines_of c (es ++ rest) (line_by e stand s).after)) given (book_after (e ∷ es) stand.book) after tail (calm_after (e ∷ es)) in
      subst P (sym (plain.0.alone stand)) (record {
        steps = ap (λ more. g ∷ more) later.steps;
        told =
            ap (λ first. first ++ told_in xs) (append-nil (told_by g ++ []) ∙ append-nil (told_by g))
            ∙ (ap (λ more. told_by g ++ more) later.told ∙ sym (append_assoc (told_by g) (flat_map told_by gs) (told_in tail)));
        completed = λ board.
            let told : List (List Word) = told_by (completed_core board.modules g) in
            let rest_told : List (List Word) = flat_map told_by (completed_cores board.modules gs) in
            ap (λ (notes : List Note). ((told ++ []) ++ map note_words notes) ++ told_in (completed_by (board_after e board) xs)) (plain.0.no_note board.tasks)
            ∙ (ap (λ (after : Standing). ((told ++ []) ++ []) ++ told_in (completed_by after xs)) (plain.0.calms board)
            ∙ (ap (λ (first : List (List Word)). first ++ told_in (completed_by (calm board) xs)) (append-nil (told ++ []) ∙ append-nil told)
            ∙ (ap (λ (more : List (List Word)). told ++ more) (later.completed (calm board))
            ∙ sym (append_assoc told rest_told (told_in (completed_by (calm_after es (calm board)) tail))))));
        board = λ board. ap (λ (after : Standing). last_board after xs) (plain.0.calms board) ∙ later.board (calm board);
        clocked = λ board tree.
            let next_tree : Tree = tree_after_core g.core tree in
            let told : List (List Word) = told_by (completed_core board.modules (clocked_core tree g)) in
            let rest_told : List (List Word) = flat_map told_by (completed_cores board.modules (clocked_cores next_tree gs)) in
            let notes : List Note = clock_notes tree (g ∷ []) in
            let more : Standing → List (List Word) = λ after. told_but_clocks (completed_by after (clocked_by next_tree xs)) in
            let end : List (List Word) = told_but_clocks (completed_by (calm_after es (calm board)) (clocked_by (tree_along gs next_tree) tail)) in
            ap (λ (fired : List Note). ((told ++ []) ++ map note_words (but_clocks (notes ++ fired))) ++ more (board_after e board)) (plain.0.no_note board.tasks)
            ∙ (ap (λ (left : List Note). ((told ++ []) ++ map note_words left) ++ more (board_after e board)) (none_of_clocks (turned tree next_tree) [])
            ∙ (ap (λ (after : Standing). ((told ++ []) ++ []) ++ more after) (plain.0.calms board)
            ∙ (ap (λ (first : List (List Word)). first ++ more (calm board)) (append-nil (told ++ []) ∙ append-nil told)
            ∙ (ap (λ (later : List (List Word)). told ++ later) (later.clocked (calm board) next_tree)
            ∙ sym (append_assoc told rest_told end)))));
        tree = λ tree. later.tree (tree_after_core g.core tree);
        done =
            ap (λ first. (first ++ orders_in_cores (g ∷ [])) ++ acts xs) plain.0.no_act
            ∙ (ap (λ first. first ++ acts xs) (append-nil (orders g))
            ∙ (ap (λ more. orders g ++ more) later.done ∙ sym (append_assoc (orders g) (orders_in_cores gs) (acts tail))));
        last = later.last;
        holds = later.holds;
      })

  -- all lines, and those in which the power calls are lowered
  all_lines : (events : List Event) (stand : Stand) (kept : Kept) (answers : List (List Bool))
      → GoOn stand.book kept (drive kept answers (lines_of c events stand)) [] stand.book kept (drive kept answers (lines_of c (lowered_script c.topology events) stand)) (λ board. board)
  all_lines [] stand kept answers =
      record {
        steps = refl;
        told = refl;
        completed = λ board. refl;
        board = λ board. refl;
        clocked = λ board tree. refl;
        tree = λ tree. refl;
        done = refl;
        last = refl;
        holds = refl;
      }
  all_lines (Smc proc function args ∷ events) stand kept answers =
      let smc : psci.Smc = call proc function args in
      let sent_events : List Event = if is_some (refusal c.topology smc) then [] else sent c.topology smc (function_of smc) in
      let es : List Event = lowered c.topology smc in
      let cores : List Core = cores_of es stand.book in
      let given : List Given = give kept answers cores in
      let after : Kept = kept_after kept given in
      let xs : List Driven = drive after (answers_after cores answers) (lines_of c events (stand_after es stand)) in
      let ys : List Driven = drive after (answers_after cores answers) (lines_of c (lowered_script c.topology events) (stand_after es stand)) in
      let later = all_lines events (stand_after es stand) after (answers_after cores answers) in
      let lower = plain_lines es (lowered_plain smc) (lowered_script c.topology events) stand kept answers in
      record {
        steps = ap (λ more. given ++ more) later.steps ∙ sym lower.steps;
        told =
            ap (λ first. first ++ told_in xs) (append-nil (flat_map told_by given))
            ∙ (ap (λ more. flat_map told_by given ++ more) later.told ∙ sym lower.told);
        completed = λ board.
            let told : List (List Word) = flat_map told_by (completed_cores board.modules given) in
            ap (λ (first : List (List Word)). first ++ told_in (completed_by (calm board) xs)) (append-nil told)
            ∙ (ap (λ (more : List (List Word)). told ++ more) (later.completed (calm board))
            ∙ (ap (λ (after : Standing). told ++ told_in (completed_by after ys)) (sym (is_calm sent_events board)) ∙ sym (lower.completed board)));
        board = λ board.
            later.board (calm board)
            ∙ (ap (λ (after : Standing). last_board after ys) (sym (is_calm sent_events board)) ∙ sym (lower.board board));
        clocked = λ board tree.
            let next_tree : Tree = tree_along given tree in
            let told : List (List Word) = flat_map told_by (completed_cores board.modules (clocked_cores tree given)) in
            ap (λ (left : List Note). (told ++ map note_words left) ++ told_but_clocks (completed_by (calm board) (clocked_by next_tree xs))) (none_of_clocks (turned tree next_tree) [])
            ∙ (ap (λ (first : List (List Word)). first ++ told_but_clocks (completed_by (calm board) (clocked_by next_tree xs))) (append-nil told)
            ∙ (ap (λ (more : List (List Word)). told ++ more) (later.clocked (calm board) next_tree)
            ∙ (ap (λ (after : Standing). told ++ told_but_clocks (completed_by after (clocked_by next_tree ys))) (sym (is_calm sent_events board))
            ∙ sym (lower.clocked board tree))));
        tree = λ tree. later.tree (tree_along given tree) ∙ sym (lower.tree tree);
        done = ap (λ more. orders_in_cores given ++ more) later.done ∙ sym lower.done;
        last = later.last ∙ sym lower.last;
        holds = later.holds ∙ sym lower.holds;
      }
  all_lines (event ∷ events) stand kept answers =
      let line : Line = line_of c event stand in
      let x : Driven = drive_line kept answers line in
      let later = all_lines events line.after x.kept (answers_after line.cores answers) in
      record {
        steps = ap (λ more. x.cores ++ more) later.steps;
        told = ap (λ more. (flat_map told_by x.cores ++ map note_words x.line.notes) ++ more) later.told;
        completed = λ board.
            ap (λ more. (flat_map told_by (completed_cores board.modules x.cores) ++ map note_words (line.notes ++ task_notes event board.tasks)) ++ more)
            (later.completed (board_after event board));
        board = λ board. later.board (board_after event board);
        clocked = λ board tree.
            let notes : List Note = (line.notes ++ clock_notes tree x.cores) ++ task_notes event board.tasks in
            ap (λ more. (flat_map told_by (completed_cores board.modules (clocked_cores tree x.cores)) ++ map note_words (but_clocks notes)) ++ more)
            (later.clocked (board_after event board) (tree_along x.cores tree));
        tree = λ tree. later.tree (tree_along x.cores tree);
        done = ap (λ more. acts_of x ++ more) later.done;
        last = later.last;
        holds = later.holds;
      }

  pub run_lowered : (events : List Event) (answers : List (List Bool)) → HaveSameSteps c (driven c answers events) (driven c answers (lowered_script c.topology events))
  run_lowered events answers =
      let start : Kept = at_zero c.topology in
      let x : Driven = drive_line start answers (line_0 c) in
      let xs : List Driven = driven c answers events in
      let ys : List Driven = driven c answers (lowered_script c.topology events) in
      let load : State = load_of c.object c.attached c.topology in
      let later = all_lines events (loaded c) x.kept (answers_after (line_0 c).cores answers) in
      record {
        steps = ap (λ more. x.cores ++ more) later.steps;
        told = ap (λ more. (flat_map told_by x.cores ++ map note_words x.line.notes) ++ more) later.told;
        completed = λ board.
            ap (λ more. (flat_map told_by (completed_cores board.modules x.cores) ++ []) ++ more) (later.completed (board_after Pass board));
        clocked = λ board.
            let tree : Tree = first_tree c in
            let notes : List Note = clock_notes tree x.cores ++ [] in
            ap (λ more. (flat_map told_by (completed_cores board.modules (clocked_cores tree x.cores)) ++ map note_words (but_clocks notes)) ++ more)
            (later.clocked (board_after Pass board) (tree_along x.cores tree));
        board = λ board. later.board (board_after Pass board);
        tree = later.tree (tree_along x.cores (first_tree c));
        done = ap (λ more. acts_of x ++ more) later.done;
        closing =
            ap (λ book. table_text book (last_kept start xs) (last_tree (first_tree c) xs)) later.last
            ∙ (ap (λ kept. table_text (last_book load ys) kept (last_tree (first_tree c) xs)) later.holds
            ∙ ap (table_text (last_book load ys) (last_kept start ys)) (later.tree (tree_along x.cores (first_tree c))));
      }
