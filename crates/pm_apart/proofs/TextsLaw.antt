-- The text of a run is that of its lines, and those of its script lines that are about a unit are the lines of the commands on it.
use Rattle.std.proofs.Common.{◌≡◌, ℕ, ◌+◌, ◌==◌, ◌&&◌, Bool, true, false, if◌then◌else◌, List, [], ◌∷◌, ◌++◌, refl, ap, sym, ◌∙◌}
use Rattle.std.specs.Prelude.{codes, filter, flat_map, map, option_to_list}
use Rattle.std.specs.List.{concat}
use Rattle.std.proofs.lemmas.List.{append-nil, map-append}
use Rattle.std.proofs.lemmas.List.Elements.{filter-append}
use Rattle.std.proofs.lemmas.List.Folds.{concat-append}
use Rattle.pm_base.specs.declared.events.Event.{Event}
use Rattle.pm_base.specs.declared.names.Unit.{Unit}
use Rattle.pm_base.specs.declared.names.Unit.TheVariants.{Node, Line}
use Rattle.pm_topology.specs.Units.{same_unit}
use Rattle.pm_core.specs.declared.outbox.Done.{Done}
use Rattle.pm_core.specs.declared.replies.Answer.{Answer}
use Rattle.pm_core.specs.declared.replies.Answer.TheVariants.{Silent, Drop, Reply, Ack}
use Rattle.pm_state.specs.Load.{load_of}
use Rattle.pm_state.specs.State.{State}
use Rattle.pm_state.specs.Units.{units}
use Rattle.pm_clock_tree.specs.declared.clock_tree.ClockEnd.{ClockEnd}
use Rattle.pm_clock_tree.specs.Told.{ends}
use Rattle.pm_clock_tree.specs.Tree.{Tree}
use Rattle.pm_split.specs.Split.{Note}
use Rattle.pm_split.specs.Split.Note.{Busy, Called, Clock, NoTask, Fired, Late}
use Rattle.pm_board.specs.Board.{Standing}
use Rattle.pm_run.specs.Run.{Setup}
use Rattle.pm_apply.specs.Part.{Kept}
use Rattle.pm_record.specs.Record.{at_zero, kept_value}
use Rattle.pm_trace.specs.declared.line.Word.{Word}
use Rattle.pm_trace.specs.declared.line.Word.TheVariants as word
use Rattle.pm_trace.specs.declared.step.StepLine.{StepLine}
use Rattle.pm_trace.specs.declared.step.StepLine.TheVariants as told
use Rattle.pm_trace.specs.Closing.{closing_text, unit_name, unit_text}
use Rattle.pm_state.specs.Values.{shown}
use Rattle.pm_trace.specs.Line.{line_text, numbers}
use Rattle.pm_trace.specs.Notes.{note_line, note_words, notes_text}
use Rattle.pm_trace.specs.Step.{Notices, answer_line, command_name, core_text, late_line, notices_of, numbered_line, output_words, told_lines, step_words}
use Rattle.pm_drive.specs.Drive.{Driven, Given, driven, last_book, last_kept}
use Rattle.pm_drive.specs.Clocks.{end_line, ends_text, first_tree, last_tree, table_text}
use Rattle.pm_drive.specs.Completed.{completed_in}
use Rattle.pm_drive.specs.Text.{driven_text, given_text, notes_of, run_text, texts}
use Rattle.pm_apart.specs.Lines.{clock_lines, closing_line, commands_of, commands_on, driven_lines, end_words, given_lines, is_about, is_on, note_lines, numbered, run_lines, set_lines, step_lines, table_lines}
use Rattle.pm_apart.proofs.FilterLemmas.{filter_made, left_out, none_of_both}

-- ---- the text

abbrev text_of : List (List Word) → List ℕ
text_of lines = concat (map line_text lines)

text_append : (a b : List (List Word)) → text_of (a ++ b) ≡ text_of a ++ text_of b
text_append a b = ap concat (map-append line_text a b) ∙ concat-append (map line_text a) (map line_text b)

core_is : (n : ℕ) (lines : List (List Word)) → concat (map (numbered_line n) lines) ≡ text_of (map (numbered n) lines)
core_is n [] = refl
core_is n (words ∷ lines) = ap (λ text. numbered_line n words ++ text) (core_is n lines)

joined : (a b c d : List ℕ) → a ≡ c → b ≡ d → a ++ b ≡ c ++ d
joined a b c d first second = ap (λ xs. xs ++ b) first ∙ ap (λ xs. c ++ xs) second

given_are : (n : ℕ) (given : List Given) → given_text n given ≡ text_of (flat_map (given_lines n) given)
given_are n [] = refl
given_are n (g ∷ given) =
    let lines = output_words g.part.commands (notices_of g.core.outputs) g.part.answer in
    joined (core_text n g.core.outputs g.part) (given_text n given)
    (text_of (map (numbered n) lines)) (text_of (flat_map (given_lines n) given)) (core_is n lines) (given_are n given)
    ∙ sym (text_append (map (numbered n) lines) (flat_map (given_lines n) given))

notes_are : (n : ℕ) (notes : List Note) → notes_text n notes ≡ text_of (note_lines n notes)
notes_are n [] = refl
notes_are n (note ∷ notes) = ap (λ text. note_line n note ++ text) (notes_are n notes)

line_is : (n : ℕ) (x : Driven) → driven_text n x ≡ text_of (driven_lines n x)
line_is n x =
    joined (given_text n x.cores) (notes_text n (notes_of x)) (text_of (flat_map (given_lines n) x.cores)) (text_of (note_lines n (notes_of x)))
    (given_are n x.cores) (notes_are n (notes_of x))
    ∙ sym (text_append (flat_map (given_lines n) x.cores) (note_lines n (notes_of x)))

pub steps_are : (n : ℕ) (xs : List Driven) → concat (texts n xs) ≡ text_of (step_lines n xs)
steps_are n [] = refl
steps_are n (x ∷ xs) =
    joined (driven_text n x) (concat (texts (n + 1) xs)) (text_of (driven_lines n x)) (text_of (step_lines (n + 1) xs))
    (line_is n x) (steps_are (n + 1) xs)
    ∙ sym (text_append (driven_lines n x) (step_lines (n + 1) xs))

end_is : (idle : Bool) (words : List Word) → (if idle then [] else line_text words) ≡ text_of (if idle then [] else words ∷ [])
end_is true words = refl
end_is false words = sym (append-nil (line_text words))

table_is : (book : State) (kept : Kept) (units : List Unit) → concat (map (unit_text book kept) units) ≡ text_of (flat_map (closing_line book kept) units)
table_is book kept [] = refl
table_is book kept (unit ∷ units) =
    let value = shown unit book in
    let stays = kept_value kept unit in
    joined (unit_text book kept unit) (concat (map (unit_text book kept) units)) (text_of (closing_line book kept unit)) (text_of (flat_map (closing_line book kept) units))
    (end_is ((value == 0) && (stays == 0)) (word.Name (codes "end") ∷ (unit_name book.fixed.topology unit ++ numbers (value ∷ stays ∷ []))))
    (table_is book kept units)
    ∙ sym (text_append (closing_line book kept unit) (flat_map (closing_line book kept) units))

-- the closing lines of the clocks that run
ends_are : (ends : List ClockEnd) → flat_map end_line ends ≡ text_of (map end_words ends)
ends_are [] = refl
ends_are (end ∷ ends) = ap (λ text. end_line end ++ text) (ends_are ends)

pub run_is : (c : Setup) (board : Standing) (answers : List (List Bool)) (events : List Event)
    → run_text c board answers events ≡ text_of (run_lines c board answers events)
run_is c board answers events =
    let xs : List Driven = driven c answers events in
    let ys : List Driven = completed_in c board xs in
    let book : State = last_book (load_of c.object c.attached c.topology) xs in
    let kept : Kept = last_kept (at_zero c.topology) xs in
    let tree : Tree = last_tree (first_tree c) xs in
    let own : List (List Word) = flat_map (closing_line book kept) (units book) in
    let table : table_text book kept tree ≡ text_of (table_lines c xs) =
    joined (closing_text book kept) (ends_text tree) (text_of own) (text_of (clock_lines tree)) (table_is book kept (units book)) (ends_are (ends tree))
    ∙ sym (text_append own (clock_lines tree))
    in
    concat-append (texts 0 ys) (table_text book kept tree ∷ [])
    ∙ (ap (λ text. concat (texts 0 ys) ++ text) (append-nil (table_text book kept tree))
    ∙ (joined (concat (texts 0 ys)) (table_text book kept tree) (text_of (step_lines 0 ys)) (text_of (table_lines c xs)) (steps_are 0 ys) table
    ∙ sym (text_append (step_lines 0 ys) (table_lines c xs))))

-- ---- the lines about a unit

-- a line of a core step is of a command on the unit
abbrev tells_on : Unit → StepLine → Bool
tells_on unit (told.Command d) = is_on unit d
tells_on unit _ = false

pub none_made : {X Y : Type 0} (p : Y → Bool) (f : X → Y) → ((x : X) → p (f x) ≡ false) → (xs : List X) → filter p (map f xs) ≡ []
none_made p f fails [] = refl
none_made p f fails (x ∷ xs) = left_out p (f x) (map f xs) (fails x) ∙ none_made p f fails xs

pub made_twice : {X Y Z : Type 0} (f : X → Y) (g : Y → Z) (xs : List X) → map g (map f xs) ≡ map (λ x. g (f x)) xs
made_twice f g [] = refl
made_twice f g (x ∷ xs) = ap (λ zs. g (f x) ∷ zs) (made_twice f g xs)

-- a test that finds no line of a core step
pub none_given : (p : List Word → Bool) → ((n : ℕ) (line : StepLine) → p (numbered n (step_words line)) ≡ false)
    → (n : ℕ) (given : List Given) → filter p (flat_map (given_lines n) given) ≡ []
none_given p fails n [] = refl
none_given p fails n (g ∷ given) =
    let lines : List StepLine = told_lines g.part.commands (notices_of g.core.outputs) g.part.answer in
    none_of_both p (given_lines n g) (flat_map (given_lines n) given)
    (ap (filter p) (made_twice step_words (numbered n) lines) ∙ none_made p (λ (line : StepLine). numbered n (step_words line)) (fails n) lines)
    (none_given p fails n given)

module _ (u : Unit) where
  answer_apart : (answer : Answer) → filter (tells_on u) (option_to_list (answer_line answer)) ≡ []
  answer_apart Silent = refl
  answer_apart (Drop master) = refl
  answer_apart (Reply master response) = refl
  answer_apart (Ack master node status point false) = refl
  answer_apart (Ack master node status point true) = refl

  -- of the lines of a core step those are of its commands on the unit
  commands_told : (ds : List Done) (notices : Notices) (answer : Answer)
      → filter (tells_on u) (told_lines ds notices answer) ≡ map told.Command (filter (is_on u) ds)
  commands_told ds notices answer =
      let calls = map told.Call notices.callbacks ++ option_to_list (answer_line answer) in
      let late = map late_line notices.late ++ calls in
      let rest = map told.Start notices.starts ++ late in
      let none : filter (tells_on u) rest ≡ [] =
      none_of_both (tells_on u) (map told.Start notices.starts) late (none_made (tells_on u) told.Start (λ x. refl) notices.starts)
      (none_of_both (tells_on u) (map late_line notices.late) calls (none_made (tells_on u) late_line (λ x. refl) notices.late)
      (none_of_both (tells_on u) (map told.Call notices.callbacks) (option_to_list (answer_line answer)) (none_made (tells_on u) told.Call (λ x. refl) notices.callbacks)
      (answer_apart answer)))
      in
      filter-append (tells_on u) (map told.Command ds) rest
      ∙ (ap (λ lines. lines ++ filter (tells_on u) rest) (filter_made (tells_on u) (is_on u) told.Command (λ d. refl) ds)
      ∙ (ap (λ lines. map told.Command (filter (is_on u) ds) ++ lines) none ∙ append-nil (map told.Command (filter (is_on u) ds))))

module _ (u : Unit) (n : ℕ) where
  command_about : (x other : Unit) (ok : Bool) (others : List Word) → is_about other (numbered n (command_name x ok ++ others)) ≡ same_unit x other
  command_about (Node a) (Node b) true others = refl
  command_about (Node a) (Node b) false others = refl
  command_about (Line a) (Line b) true others = refl
  command_about (Line a) (Line b) false others = refl
  command_about (Node a) (Line b) true others = refl
  command_about (Node a) (Line b) false others = refl
  command_about (Line a) (Node b) true others = refl
  command_about (Line a) (Node b) false others = refl

  abbrev line_of : StepLine → List Word
  line_of line = numbered n (step_words line)

  -- no other line of a core step is about a unit
  told_about : (x : Unit) (line : StepLine) → is_about x (line_of line) ≡ tells_on x line
  told_about x (told.Command d) = command_about d.command.unit x d.ok (numbers (d.from ∷ d.command.value ∷ []))
  told_about (Node node) (told.Start start) = refl
  told_about (Line line) (told.Start start) = refl
  told_about (Node node) (told.Reply master response) = refl
  told_about (Line line) (told.Reply master response) = refl
  told_about (Node node) (told.Drop master) = refl
  told_about (Line line) (told.Drop master) = refl
  told_about (Node node) (told.Call call) = refl
  told_about (Line line) (told.Call call) = refl

  abbrev set_line : Done → List Word
  set_line d = line_of (told.Command d)

  given_about : (given : List Given) → filter (is_about u) (flat_map (given_lines n) given) ≡ map set_line (filter (is_on u) (commands_of given))
  given_about [] = refl
  given_about (g ∷ given) =
      let lines = told_lines g.part.commands (notices_of g.core.outputs) g.part.answer in
      let one : filter (is_about u) (given_lines n g) ≡ map set_line (filter (is_on u) g.part.commands) =
      ap (filter (is_about u)) (made_twice step_words (numbered n) lines)
      ∙ (filter_made (is_about u) (tells_on u) line_of (told_about u) lines
      ∙ (ap (map line_of) (commands_told u g.part.commands (notices_of g.core.outputs) g.part.answer)
      ∙ made_twice told.Command line_of (filter (is_on u) g.part.commands)))
      in
      filter-append (is_about u) (given_lines n g) (flat_map (given_lines n) given)
      ∙ (ap (λ lines. lines ++ filter (is_about u) (flat_map (given_lines n) given)) one
      ∙ (ap (λ lines. map set_line (filter (is_on u) g.part.commands) ++ lines) (given_about given)
      ∙ (sym (map-append set_line (filter (is_on u) g.part.commands) (filter (is_on u) (commands_of given)))
      ∙ ap (map set_line) (sym (filter-append (is_on u) g.part.commands (commands_of given))))))

  -- no note is about a unit
  pub note_apart : (x : Unit) (note : Note) → is_about x (numbered n (note_words note)) ≡ false
  note_apart (Node node) (Busy master) = refl
  note_apart (Line line) (Busy master) = refl
  note_apart (Node node) (Called proc code) = refl
  note_apart (Line line) (Called proc code) = refl
  note_apart (Node node) (NoTask key) = refl
  note_apart (Node node) (Clock number from to) = refl
  note_apart (Line line) (NoTask key) = refl
  note_apart (Line line) (Clock number from to) = refl
  note_apart (Node node) (Fired key at told) = refl
  note_apart (Line line) (Fired key at told) = refl
  note_apart (Node node) (Late address) = refl
  note_apart (Line line) (Late address) = refl

  notes_apart : (notes : List Note) → filter (is_about u) (note_lines n notes) ≡ []
  notes_apart [] = refl
  notes_apart (note ∷ notes) = left_out (is_about u) (numbered n (note_words note)) (note_lines n notes) (note_apart u note) ∙ notes_apart notes

  driven_about : (x : Driven) → filter (is_about u) (driven_lines n x) ≡ map set_line (commands_on u x)
  driven_about x =
      filter-append (is_about u) (flat_map (given_lines n) x.cores) (note_lines n (notes_of x))
      ∙ (ap (λ lines. lines ++ filter (is_about u) (note_lines n (notes_of x))) (given_about x.cores)
      ∙ (ap (λ lines. map set_line (commands_on u x) ++ lines) (notes_apart (notes_of x))
      ∙ append-nil (map set_line (commands_on u x))))

pub lines_about : (u : Unit) (n : ℕ) (xs : List Driven) → filter (is_about u) (step_lines n xs) ≡ set_lines u n xs
lines_about u n [] = refl
lines_about u n (x ∷ xs) =
    filter-append (is_about u) (driven_lines n x) (step_lines (n + 1) xs)
    ∙ (ap (λ lines. lines ++ filter (is_about u) (step_lines (n + 1) xs)) (driven_about u n x)
    ∙ ap (λ lines. map (λ d. numbered n (step_words (told.Command d))) (commands_on u x) ++ lines) (lines_about u (n + 1) xs))
