-- A board and the clocks change only replies and the lines of power calls, tasks and clocks. A test that finds none
-- of these finds the same lines with and without them.
use Rattle.std.proofs.Common.{◌≡◌, ℕ, ℤ, ◌+◌, Bool, true, false, if◌then◌else◌, List, [], ◌∷◌, ◌++◌, Option, Some, None, refl, ap, sym, ◌∙◌}
use Rattle.std.specs.Prelude.{filter, flat_map, map, option_to_list, unwrap_or}
use Rattle.pm_base.specs.declared.events.Event.{Event}
use Rattle.pm_base.specs.declared.events.Event.TheVariants.{Ipi, Task, Cancel, Smc}
use Rattle.pm_base.specs.declared.names.NodeId.{NodeId}
use Rattle.pm_base.specs.declared.names.Unit.{Unit}
use Rattle.pm_base.specs.declared.names.Unit.TheVariants.{Node, Line}
use Rattle.pm_ipi.specs.declared.responses.Response.{Response}
use Rattle.pm_topology.specs.declared.topology.Topology.{Topology}
use Rattle.pm_psci.specs.Answers.{answered}
use Rattle.pm_modules.specs.Ranges.{Ranged, said_by}
use Rattle.pm_tasks.specs.declared.tasks.Fired.{Fired as FiredTask}
use Rattle.pm_tasks.specs.Timetable.{Timetable}
use Rattle.pm_board.specs.Board.{Standing, begun, board_after, is_done, settled}
use Rattle.pm_core.specs.declared.replies.Answer.{Answer}
use Rattle.pm_core.specs.declared.replies.Answer.TheVariants.{Reply}
use Rattle.pm_clock_tree.specs.declared.clock_tree.ClockChange.{ClockChange}
use Rattle.pm_clock_tree.specs.declared.calls.ClockCall.{ClockCall}
use Rattle.pm_clock_tree.specs.Served.{response as served}
use Rattle.pm_clock_tree.specs.Tree.{Seen, Tree}
use Rattle.pm_clocks.specs.Clocked.{answered as with_clocks, clock_answer, made, view_of, tree_after_core}
use Rattle.pm_split.specs.Split.{Note, call, called_note, noted_answer}
use Rattle.pm_split.specs.Split.Note.{Called, Clock, NoTask, Fired}
use Rattle.pm_run.specs.Run.{Setup}
use Rattle.pm_trace.specs.declared.line.Word.{Word}
use Rattle.pm_trace.specs.declared.step.StepLine.{StepLine}
use Rattle.pm_trace.specs.declared.step.StepLine.TheVariants as told
use Rattle.pm_trace.specs.Notes.{note_words}
use Rattle.pm_trace.specs.Step.{answer_line, late_line, notices_of, step_words, told_lines}
use Rattle.pm_drive.specs.Clocks.{clock_note, clock_notes, clocked, clocked_by, clocked_core, clocked_cores, clocked_line, first_tree, tree_along, turned}
use Rattle.pm_drive.specs.Drive.{Driven, Given}
use Rattle.pm_drive.specs.Completed.{completed, completed_by, completed_core, completed_cores, completed_in, completed_line}
use Rattle.pm_drive.specs.Tasks.{fired_note, key_notes, refusal_notes, task_notes}
use Rattle.pm_drive.specs.Text.{notes_of, reply_after}
use Rattle.pm_apart.specs.Lines.{driven_lines, given_lines, is_about, note_lines, numbered, step_lines}
use Rattle.pm_apart.proofs.FilterLemmas.{after_alike, left_out, none_after, parts_alike}
use Rattle.pm_apart.proofs.TextsLaw.{made_twice, note_apart}

-- the line that tells this, and the line of a note, in the script line with this number
abbrev pub told_line : ℕ → StepLine → List Word
told_line n line = numbered n (step_words line)

abbrev pub noted_line : ℕ → Note → List Word
noted_line n note = numbered n (note_words note)

-- the test finds no reply, no answer to a power call, and no line of a task or of a clock
pub record IsDeaf (p : List Word → Bool) : Type 0 where
  pub replies : (n : ℕ) (master : NodeId) (response : Response) → p (told_line n (told.Reply master response)) ≡ false
  pub answers : (n : ℕ) (proc : NodeId) (code : ℤ) → p (noted_line n (Called proc code)) ≡ false
  pub refusals : (n : ℕ) (key : ℕ) → p (noted_line n (NoTask key)) ≡ false
  pub calls : (n : ℕ) (key at word : ℕ) → p (noted_line n (Fired key at word)) ≡ false
  pub clocks : (n number : ℕ) (from to : Bool) → p (noted_line n (Clock number from to)) ≡ false

module _ (p : List Word → Bool) (deaf : IsDeaf p) where
  module _ (n : ℕ) where
    -- ---- of a core step

    -- with another answer whose line the test finds, or not, as the first one's
    with_answer : (g : Given) (other : Answer)
        → filter p (map (told_line n) (option_to_list (answer_line other))) ≡ filter p (map (told_line n) (option_to_list (answer_line g.part.answer)))
        → filter p (given_lines n (record g { part = record g.part { answer = other } })) ≡ filter p (given_lines n g)
    with_answer g other same =
        let commands : List StepLine = map told.Command g.part.commands in
        let starts : List StepLine = map told.Start g.core.outputs.starts in
        let late : List StepLine = map late_line g.core.outputs.late in
        let calls : List StepLine = map told.Call g.core.outputs.callbacks in
        let new : List StepLine = option_to_list (answer_line other) in
        let old : List StepLine = option_to_list (answer_line g.part.answer) in
        ap (filter p) (made_twice step_words (numbered n) (told_lines g.part.commands (notices_of g.core.outputs) other))
        ∙ (after_alike p (told_line n) commands (starts ++ (late ++ (calls ++ new))) (starts ++ (late ++ (calls ++ old)))
        (after_alike p (told_line n) starts (late ++ (calls ++ new)) (late ++ (calls ++ old))
        (after_alike p (told_line n) late (calls ++ new) (calls ++ old)
        (after_alike p (told_line n) calls new old same)))
        ∙ ap (filter p) (sym (made_twice step_words (numbered n) (told_lines g.part.commands (notices_of g.core.outputs) g.part.answer))))

    answer_alike : (modules : List Ranged) (event : Event) (answer : Answer)
        → filter p (map (told_line n) (option_to_list (answer_line (completed modules event answer))))
        ≡ filter p (map (told_line n) (option_to_list (answer_line answer)))
    answer_alike modules (Ipi sender message) (Reply master response) =
        let said : Response = unwrap_or (said_by modules message) response in
        left_out p (told_line n (told.Reply master said)) [] (deaf.replies n master said)
        ∙ sym (left_out p (told_line n (told.Reply master response)) [] (deaf.replies n master response))
    answer_alike modules event answer = refl

    given_alike : (modules : List Ranged) (g : Given) → filter p (given_lines n (completed_core modules g)) ≡ filter p (given_lines n g)
    given_alike modules g = with_answer g (completed modules g.core.event g.part.answer) (answer_alike modules g.core.event g.part.answer)

    cores_alike : (modules : List Ranged) (given : List Given)
        → filter p (flat_map (given_lines n) (completed_cores modules given)) ≡ filter p (flat_map (given_lines n) given)
    cores_alike modules [] = refl
    cores_alike modules (g ∷ given) =
        parts_alike p (given_lines n (completed_core modules g)) (flat_map (given_lines n) (completed_cores modules given))
        (given_lines n g) (flat_map (given_lines n) given) (given_alike modules g) (cores_alike modules given)

    -- with the reply of the clocks
    replied_alike : (seen : Seen) (tree : Tree) (call : Option (NodeId × ClockCall)) (answer : Answer)
        → filter p (map (told_line n) (option_to_list (answer_line (with_clocks seen tree call answer))))
        ≡ filter p (map (told_line n) (option_to_list (answer_line answer)))
    replied_alike seen tree None answer = refl
    replied_alike seen tree (Some call) (Reply master response) =
        let said : Response = served seen call.0 call.1 tree in
        left_out p (told_line n (told.Reply master said)) [] (deaf.replies n master said)
        ∙ sym (left_out p (told_line n (told.Reply master response)) [] (deaf.replies n master response))
    replied_alike seen tree (Some call) answer = refl

    clocked_alike : (tree : Tree) (given : List Given)
        → filter p (flat_map (given_lines n) (clocked_cores tree given)) ≡ filter p (flat_map (given_lines n) given)
    clocked_alike tree [] = refl
    clocked_alike tree (g ∷ given) =
        let after : Tree = tree_after_core g.core tree in
        parts_alike p (given_lines n (clocked_core tree g)) (flat_map (given_lines n) (clocked_cores after given))
        (given_lines n g) (flat_map (given_lines n) given)
        (with_answer g (clock_answer g.core.event g.part.answer g.core.after tree)
        (replied_alike (view_of g.core.after) tree (made g.core.event g.part.answer) g.part.answer))
        (clocked_alike after given)

    -- ---- of notes

    none_fired : (fired : List FiredTask) → filter p (note_lines n (map fired_note fired)) ≡ []
    none_fired [] = refl
    none_fired (f ∷ fired) =
        left_out p (noted_line n (fired_note f)) (note_lines n (map fired_note fired)) (deaf.calls n f.key f.at f.word) ∙ none_fired fired

    none_keyed : (event : Event) → filter p (note_lines n (key_notes event)) ≡ []
    none_keyed (Task key interval) = left_out p (noted_line n (NoTask key)) [] (deaf.refusals n key)
    none_keyed (Cancel key) = left_out p (noted_line n (NoTask key)) [] (deaf.refusals n key)
    none_keyed event = refl

    none_refused : (event : Event) (is : Bool) → filter p (note_lines n (if is then [] else key_notes event)) ≡ []
    none_refused event true = refl
    none_refused event false = none_keyed event

    none_of_tasks : (event : Event) (t : Timetable) → filter p (note_lines n (task_notes event t)) ≡ []
    none_of_tasks event t =
        let fired : List FiredTask = (begun event (settled t)).left in
        none_after p (noted_line n) (refusal_notes event t) (map fired_note fired) (none_fired fired) ∙ none_refused event (is_done event t)

    none_answered : (proc : NodeId) (code : Option ℤ) → filter p (note_lines n (noted_answer proc code)) ≡ []
    none_answered proc None = refl
    none_answered proc (Some code) = left_out p (noted_line n (Called proc code)) [] (deaf.answers n proc code)

    none_called : (t : Topology) (event : Event) (reply : Option Response) → filter p (note_lines n (called_note t event reply)) ≡ []
    none_called t (Smc proc function args) reply = none_answered proc (answered t (call proc function args) reply)
    none_called t event reply = refl

    none_turned : (changes : List ClockChange) → filter p (note_lines n (map clock_note changes)) ≡ []
    none_turned [] = refl
    none_turned (change ∷ changes) =
        left_out p (noted_line n (clock_note change)) (note_lines n (map clock_note changes)) (deaf.clocks n change.clock change.from change.to)
        ∙ none_turned changes

    none_of_clocks : (tree : Tree) (given : List Given) → filter p (note_lines n (clock_notes tree given)) ≡ []
    none_of_clocks tree given = none_turned (turned tree (tree_along given tree))

    -- with more notes behind those of a line, none of which the test finds, whatever the reply
    with_notes : (own more : List Note) (t : Topology) (event : Event) (new old : Option Response) → filter p (note_lines n more) ≡ []
        → filter p (note_lines n ((own ++ more) ++ called_note t event new)) ≡ filter p (note_lines n (own ++ called_note t event old))
    with_notes own more t event new old none =
        none_after p (noted_line n) (own ++ more) (called_note t event new) (none_called t event new)
        ∙ (none_after p (noted_line n) own more none ∙ sym (none_after p (noted_line n) own (called_note t event old) (none_called t event old)))

    notes_alike : (board : Standing) (x : Driven) → filter p (note_lines n (notes_of (completed_line board x))) ≡ filter p (note_lines n (notes_of x))
    notes_alike board x =
        with_notes x.line.notes (task_notes x.line.event board.tasks) x.line.after.book.fixed.topology x.line.event
        (reply_after None (completed_cores board.modules x.cores)) (reply_after None x.cores) (none_of_tasks x.line.event board.tasks)

    turns_alike : (tree : Tree) (x : Driven) → filter p (note_lines n (notes_of (clocked_line tree x))) ≡ filter p (note_lines n (notes_of x))
    turns_alike tree x =
        with_notes x.line.notes (clock_notes tree x.cores) x.line.after.book.fixed.topology x.line.event
        (reply_after None (clocked_cores tree x.cores)) (reply_after None x.cores) (none_of_clocks tree x.cores)

    -- ---- of a script line

    line_alike : (board : Standing) (x : Driven) → filter p (driven_lines n (completed_line board x)) ≡ filter p (driven_lines n x)
    line_alike board x =
        parts_alike p (flat_map (given_lines n) (completed_cores board.modules x.cores)) (note_lines n (notes_of (completed_line board x)))
        (flat_map (given_lines n) x.cores) (note_lines n (notes_of x)) (cores_alike board.modules x.cores) (notes_alike board x)

    clock_line_alike : (tree : Tree) (x : Driven) → filter p (driven_lines n (clocked_line tree x)) ≡ filter p (driven_lines n x)
    clock_line_alike tree x =
        parts_alike p (flat_map (given_lines n) (clocked_cores tree x.cores)) (note_lines n (notes_of (clocked_line tree x)))
        (flat_map (given_lines n) x.cores) (note_lines n (notes_of x)) (clocked_alike tree x.cores) (turns_alike tree x)

  -- ---- of all of them

  board_alike : (board : Standing) (n : ℕ) (xs : List Driven) → filter p (step_lines n (completed_by board xs)) ≡ filter p (step_lines n xs)
  board_alike board n [] = refl
  board_alike board n (x ∷ xs) =
      let after : Standing = board_after x.line.event board in
      parts_alike p (driven_lines n (completed_line board x)) (step_lines (n + 1) (completed_by after xs)) (driven_lines n x) (step_lines (n + 1) xs)
      (line_alike n board x) (board_alike after (n + 1) xs)

  clocks_alike : (tree : Tree) (n : ℕ) (xs : List Driven) → filter p (step_lines n (clocked_by tree xs)) ≡ filter p (step_lines n xs)
  clocks_alike tree n [] = refl
  clocks_alike tree n (x ∷ xs) =
      let after : Tree = tree_along x.cores tree in
      parts_alike p (driven_lines n (clocked_line tree x)) (step_lines (n + 1) (clocked_by after xs)) (driven_lines n x) (step_lines (n + 1) xs)
      (clock_line_alike n tree x) (clocks_alike after (n + 1) xs)

  -- the test finds the same lines with the clocks and a board as without
  pub completed_alike : (c : Setup) (board : Standing) (xs : List Driven) → filter p (step_lines 0 (completed_in c board xs)) ≡ filter p (step_lines 0 xs)
  completed_alike c board xs = board_alike board 0 (clocked c xs) ∙ clocks_alike (first_tree c) 0 xs

  -- two runs with equal findings have them with any boards too
  pub boards_alike : (c : Setup) (board other : Standing) (xs ys : List Driven) → filter p (step_lines 0 xs) ≡ filter p (step_lines 0 ys)
      → filter p (step_lines 0 (completed_in c board xs)) ≡ filter p (step_lines 0 (completed_in c other ys))
  boards_alike c board other xs ys same = completed_alike c board xs ∙ (same ∙ sym (completed_alike c other ys))

-- ---- of the lines about a unit

no_reply : (u : Unit) (n : ℕ) (master : NodeId) (response : Response) → is_about u (told_line n (told.Reply master response)) ≡ false
no_reply (Node node) n master response = refl
no_reply (Line line) n master response = refl

pub about_is_deaf : (u : Unit) → IsDeaf (is_about u)
about_is_deaf u = record {
  replies = no_reply u;
  answers = λ n proc code. note_apart u n u (Called proc code);
  refusals = λ n key. note_apart u n u (NoTask key);
  calls = λ n key at word. note_apart u n u (Fired key at word);
  clocks = λ n number from to. note_apart u n u (Clock number from to);
}
