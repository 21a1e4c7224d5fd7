-- The lines that tell of what is beyond the reach of a master, besides those of commands, are those of the run without its messages.
use Rattle.std.proofs.Common.{◌≡◌, ℕ, ◌==◌, Bool, true, false, not, ◌&&◌, ◌||◌, cond, if◌then◌else◌, List, [], ◌∷◌, ◌++◌, Option, refl, ap, sym, ◌∙◌}
use Rattle.std.specs.Prelude.{filter, flat_map, map, option_to_list, slice_index}
use Rattle.std.specs.List.{AllByRecursion as Each}
use Rattle.std.proofs.lemmas.List.{append-nil, map-append}
use Rattle.std.proofs.lemmas.List.Elements.{filter-append}
use Rattle.std.proofs.lemmas.Grind.{flat_map-append}
use Rattle.pm_base.specs.declared.events.Event.{Event}
use Rattle.pm_base.specs.declared.events.Event.TheVariants.{Ipi}
use Rattle.pm_base.specs.declared.events.Message.{Message}
use Rattle.pm_base.specs.declared.names.NodeId.{NodeId}
use Rattle.pm_base.specs.declared.names.Unit.{Unit}
use Rattle.pm_base.specs.declared.names.Unit.TheVariants.{Node, Line}
use Rattle.pm_ipi.specs.Callbacks.{init_suspend, notify}
use Rattle.pm_tell.specs.Callbacks.{acknowledgement}
use Rattle.pm_ipi.specs.declared.responses.Response.{Response}
use Rattle.pm_tell.specs.declared.callbacks.Callback.{Callback}
use Rattle.pm_core.specs.declared.outbox.Done.{Done}
use Rattle.pm_tell.specs.declared.late.Late.{Late as LateReply}
use Rattle.pm_values.specs.declared.starts.Start.{Start}
use Rattle.pm_core.specs.declared.replies.Answer.{Answer}
use Rattle.pm_core.specs.declared.replies.Answer.TheVariants.{Silent, Drop, Reply, Ack}
use Rattle.pm_state.specs.Values.{value}
use Rattle.pm_split.specs.Split.{Note}
use Rattle.pm_split.specs.Split.Note.{Busy, Called, Clock, NoTask, Fired, Late}
use Rattle.pm_board.specs.Board.{Standing}
use Rattle.pm_run.specs.Run.{Core, Line as ScriptLine, Setup, fixed_of, run}
use Rattle.pm_laws.specs.Answers.{is_dropped}
use Rattle.pm_laws.specs.Border.{Border, none_within}
use Rattle.pm_laws.specs.Callbacks.{is_callback_beyond}
use Rattle.pm_laws.specs.Hidden.{is_within}
use Rattle.pm_laws.specs.Quiet.{quiet}
use Rattle.pm_laws.specs.ReachBorder.{border_of, configured_place}
use Rattle.pm_laws.specs.Told.{callbacks_in, drops_in, is_others, starts_in}
use Rattle.pm_laws.specs.Values.{is_beyond}
use Rattle.pm_laws.specs.Worlds.{AreWorldsAlike, IsLineAlike}
use Rattle.pm_apply.specs.Failing.{falls_short, told_answer}
use Rattle.pm_apply.specs.Part.{Kept, Part, part_of}
use Rattle.pm_clock_laws.specs.Worlds.{AreClocksAlike}
use Rattle.pm_trace.specs.declared.line.Word.{Word}
use Rattle.pm_trace.specs.declared.step.StepLine.{StepLine}
use Rattle.pm_trace.specs.declared.step.StepLine.TheVariants as told
use Rattle.pm_trace.specs.Line.{numbers}
use Rattle.pm_trace.specs.Notes.{note_words}
use Rattle.pm_trace.specs.Step.{answer_line, command_name, late_line, notices_of, told_lines, step_words}
use Rattle.pm_drive.specs.Drive.{Given, drive_line, driven, first_answers, give, later_answers, until}
use Rattle.pm_drive.specs.Completed.{completed_in}
use Rattle.pm_drive.specs.Text.{notes_of}
use Rattle.pm_drive.specs.Drove.{IsTold}
use Rattle.pm_apart.specs.Lines.{given_lines, note_lines, numbered, step_lines}
use Rattle.pm_apart.specs.Telling.{TellsApart, is_call, tells_call, tells_drop, tells_start}
use Rattle.pm_apart.proofs.BusyLaw.{busy_apart}
use Rattle.pm_apart.proofs.Cuts.{both_map}
use Rattle.pm_apart.proofs.DropFacts.{Drops}
use Rattle.pm_apart.proofs.FilterLemmas.{filter_made, kept_in, left_out}
use Rattle.pm_apart.proofs.FoundLemmas.{IsFound, LineFinds, runs_found}
use Rattle.pm_apart.proofs.CompletedLaw.{IsDeaf, boards_alike}
use Rattle.pm_apart.proofs.TasksLaw.{tasks_apart}
use Rattle.pm_apart.proofs.TurnsLaw.{turns_apart}
use Rattle.pm_apart.proofs.TextsLaw.{made_twice, none_made}

-- ---- lines that a test finds

abbrev line_of : ℕ → StepLine → List Word
line_of n line = numbered n (step_words line)

-- lists made of core steps, if they are made of each part one by one
made_flat : {X : Type 0} (f : Core → List X) (G : List X → List StepLine) → G [] ≡ [] → ((xs ys : List X) → G (xs ++ ys) ≡ G xs ++ G ys)
    → (cores : List Core) → flat_map (λ core. G (f core)) cores ≡ G (flat_map f cores)
made_flat f G none parts [] = sym none
made_flat f G none parts (core ∷ cores) =
    ap (λ lines. G (f core) ++ lines) (made_flat f G none parts cores) ∙ sym (parts (f core) (flat_map f cores))

module _ (T : List Word → Bool) (F : Core → List StepLine) (none : (n : ℕ) (note : Note) → T (numbered n (note_words note)) ≡ false) where
  -- it finds no note
  no_notes : (n : ℕ) (notes : List Note) → filter T (note_lines n notes) ≡ []
  no_notes n [] = refl
  no_notes n (note ∷ notes) = left_out T (numbered n (note_words note)) (note_lines n notes) (none n note) ∙ no_notes n notes

  -- of the lines of a core step the test finds these
  abbrev Finds : Type 0
  Finds = (n : ℕ) (g : Given) → IsTold g → Drops g.core → filter T (given_lines n g) ≡ map (line_of n) (F g.core)

  -- and of those of a script line these
  abbrev lines_found : ℕ → ScriptLine → List (List Word)
  lines_found n line = map (line_of n) (flat_map F line.cores)

  module _ (finds : Finds) where
    given_found : (n : ℕ) (cores : List Core) (kept : Kept) (answers : List (List Bool)) → Each Drops cores
        → filter T (flat_map (given_lines n) (give kept answers cores)) ≡ map (line_of n) (flat_map F cores)
    given_found n [] kept answers drops = refl
    given_found n (core ∷ cores) kept answers drops =
        let part : Part = part_of kept (first_answers answers) core.after core.outputs in
        let g : Given = record { core = core; part = part } in
        let rest : List Given = give part.kept (later_answers answers) cores in
        filter-append T (given_lines n g) (flat_map (given_lines n) rest)
        ∙ (ap (λ lines. lines ++ filter T (flat_map (given_lines n) rest)) (finds n g refl drops.0)
        ∙ (ap (λ lines. map (line_of n) (F core) ++ lines) (given_found n cores part.kept (later_answers answers) drops.1)
        ∙ sym (map-append (line_of n) (F core) (flat_map F cores))))

    line_found : LineFinds T lines_found
    line_found n kept answers line drops =
        let given : List Given = give kept answers line.cores in
        let notes : List Note = notes_of (drive_line kept answers line) in
        filter-append T (flat_map (given_lines n) given) (note_lines n notes)
        ∙ (ap (λ found. found ++ filter T (note_lines n notes)) (given_found n line.cores kept answers drops)
        ∙ (ap (λ found. lines_found n line ++ found) (no_notes n notes)
        ∙ append-nil (lines_found n line)))

-- a test of lines by the outputs that they tell
module _ (T : List Word → Bool) (n : ℕ) (p : StepLine → Bool) (same : (line : StepLine) → T (line_of n line) ≡ p line) where
  by_line : (lines : List StepLine) → filter T (map (numbered n) (map step_words lines)) ≡ map (line_of n) (filter p lines)
  by_line lines = ap (filter T) (made_twice step_words (numbered n) lines) ∙ filter_made T p (line_of n) same lines

-- ---- the three tests

-- a line tells of a start, of a message that is dropped, or of a callback
data Tells : Type 0 where
  Starts : Tells
  Drops_sent : Tells
  Calls : Tells

fails_anyway : (b : Bool) → (b && false) ≡ false
fails_anyway true = refl
fails_anyway false = refl

two_parts : (p : StepLine → Bool) (a b c d : List StepLine) → filter p a ≡ c → filter p b ≡ d → filter p (a ++ b) ≡ c ++ d
two_parts p a b c d first second = filter-append p a b ∙ (ap (λ xs. xs ++ filter p b) first ∙ ap (λ xs. c ++ xs) second)

-- the findings in the lines of a core step are those in its five parts
five_parts : (p : StepLine → Bool) (g : Given) (commands starts late calls answer : List StepLine)
    → filter p (map told.Command g.part.commands) ≡ commands → filter p (map told.Start g.core.outputs.starts) ≡ starts
    → filter p (map late_line g.core.outputs.late) ≡ late → filter p (map told.Call g.core.outputs.callbacks) ≡ calls
    → filter p (option_to_list (answer_line g.part.answer)) ≡ answer
    → filter p (told_lines g.part.commands (notices_of g.core.outputs) g.part.answer) ≡ commands ++ (starts ++ (late ++ (calls ++ answer)))
five_parts p g commands starts late calls answer first second third fourth fifth =
    let xs : List StepLine = map told.Start g.core.outputs.starts in
    let ys : List StepLine = map late_line g.core.outputs.late in
    let zs : List StepLine = map told.Call g.core.outputs.callbacks in
    let ws : List StepLine = option_to_list (answer_line g.part.answer) in
    two_parts p (map told.Command g.part.commands) (xs ++ (ys ++ (zs ++ ws))) commands (starts ++ (late ++ (calls ++ answer))) first
    (two_parts p xs (ys ++ (zs ++ ws)) starts (late ++ (calls ++ answer)) second
    (two_parts p ys (zs ++ ws) late (calls ++ answer) third (two_parts p zs ws calls answer fourth fifth)))

module _ (c : Setup) (m : NodeId) (events : List Event) (alike : AreWorldsAlike c m events) where
  abbrev border : Border
  border = border_of (fixed_of c) m

  -- ---- which lines tell of what

  abbrev start_beyond : Start → Bool
  start_beyond start = is_beyond c.object c.topology border (Node start.proc)

  abbrev call_beyond : Callback → Bool
  call_beyond call = not (is_within border (configured_place c.object call.master)) && is_call border call.id (slice_index call.args 0)

  abbrev sender_beyond : NodeId → Bool
  sender_beyond master = not (master.0 == m.0) && none_within border (configured_place c.object master)

  abbrev tells : Tells → List Word → Bool
  tells Starts line = tells_start c border line
  tells Drops_sent line = tells_drop c border m line
  tells Calls line = tells_call c border line

  abbrev tells_of : Tells → StepLine → Bool
  tells_of Starts (told.Start start) = start_beyond start
  tells_of Drops_sent (told.Drop master) = sender_beyond master
  tells_of Calls (told.Call call) = call_beyond call
  tells_of what _ = false

  no_command : (what : Tells) (n : ℕ) (x : Unit) (ok : Bool) (others : List Word) → tells what (numbered n (command_name x ok ++ others)) ≡ false
  no_command Starts n (Node a) true others = refl
  no_command Starts n (Node a) false others = refl
  no_command Starts n (Line a) true others = refl
  no_command Starts n (Line a) false others = refl
  no_command _ n (Node a) true others = refl
  no_command _ n (Node a) false others = refl
  no_command _ n (Line a) true others = refl
  no_command _ n (Line a) false others = refl

  of_command : (what : Tells) (d : Done) → tells_of what (told.Command d) ≡ false
  of_command Starts d = refl
  of_command _ d = refl

  of_line : (what : Tells) (n : ℕ) (line : StepLine) → tells what (line_of n line) ≡ tells_of what line
  of_line what n (told.Command d) =
      no_command what n d.command.unit d.ok (numbers (d.from ∷ d.command.value ∷ [])) ∙ sym (of_command what d)
  of_line Starts n (told.Start start) = refl
  of_line Starts n (told.Reply master response) = refl
  of_line Starts n (told.Drop master) = refl
  of_line Starts n (told.Call call) = refl
  of_line _ n (told.Start start) = refl
  of_line _ n (told.Reply master response) = refl
  of_line _ n (told.Drop master) = refl
  of_line _ n (told.Call call) = refl

  no_reply : (what : Tells) (master : NodeId) (response : Response) → tells_of what (told.Reply master response) ≡ false
  no_reply Starts master response = refl
  no_reply _ master response = refl

  abbrev told_of : Tells → Given → List StepLine
  told_of what g = filter (tells_of what) (told_lines g.part.commands (notices_of g.core.outputs) g.part.answer)

  no_note : (what : Tells) (n : ℕ) (note : Note) → tells what (numbered n (note_words note)) ≡ false
  no_note Starts n (Busy master) = refl
  no_note Starts n (Called proc code) = refl
  no_note Starts n (NoTask key) = refl
  no_note Starts n (Clock number from to) = refl
  no_note Starts n (Fired key at told) = refl
  no_note Starts n (Late address) = refl
  no_note _ n (Busy master) = refl
  no_note _ n (Called proc code) = refl
  no_note _ n (NoTask key) = refl
  no_note _ n (Clock number from to) = refl
  no_note _ n (Fired key at told) = refl
  no_note _ n (Late address) = refl

  -- of the lines of a core step the test finds those that tell of it
  found_of : (what : Tells) (F : Core → List StepLine) → ((g : Given) → IsTold g → Drops g.core → told_of what g ≡ F g.core)
      → Finds (tells what) F (no_note what)
  found_of what F found n g answer drops =
      by_line (tells what) n (tells_of what) (of_line what n) (told_lines g.part.commands (notices_of g.core.outputs) g.part.answer)
      ∙ ap (map (line_of n)) (found g answer drops)

  -- of commands and of late replies none passes
  no_done : (what : Tells) (g : Given) → filter (tells_of what) (map told.Command g.part.commands) ≡ []
  no_done what g = none_made (tells_of what) told.Command (of_command what) g.part.commands

  no_late : (what : Tells) (g : Given) → filter (tells_of what) (map late_line g.core.outputs.late) ≡ []
  no_late what g = none_made (tells_of what) late_line (none_of what) g.core.outputs.late
    where
      none_of : (what : Tells) (l : LateReply) → tells_of what (late_line l) ≡ false
      none_of Starts l = refl
      none_of _ l = refl

  -- ---- starts

  no_start : (answer : Answer) → filter (tells_of Starts) (option_to_list (answer_line answer)) ≡ []
  no_start Silent = refl
  no_start (Drop master) = refl
  no_start (Reply master response) = refl
  no_start (Ack master node status point false) = refl
  no_start (Ack master node status point true) = refl

  abbrev starts_told : Core → List StepLine
  starts_told core = map told.Start (starts_in c.object c.topology border core)

  starts_found : Finds (tells Starts) starts_told (no_note Starts)
  starts_found = found_of Starts starts_told (λ g answer drops.
      five_parts (tells_of Starts) g [] (starts_told g.core) [] [] [] (no_done Starts g) (filter_made (tells_of Starts) start_beyond told.Start (λ s. refl) g.core.outputs.starts)
      (no_late Starts g) (none_made (tells_of Starts) told.Call (λ x. refl) g.core.outputs.callbacks) (no_start g.part.answer)
      ∙ append-nil (starts_told g.core))

  -- ---- callbacks

  no_call : (answer : Answer) → filter (tells_of Calls) (option_to_list (answer_line answer)) ≡ []
  no_call Silent = refl
  no_call (Drop master) = refl
  no_call (Reply master response) = refl
  no_call (Ack master node status point false) = refl
  no_call (Ack master node status point true) =
      left_out (tells_of Calls) (told.Call (acknowledgement master node status point)) [] (fails_anyway (not (is_within border (configured_place c.object master))))

  -- a callback that asks a master to suspend, or notifies it
  abbrev is_news : Callback → Bool
  is_news call = (call.id == init_suspend) || (call.id == notify)

  split_test : (w a b n : Bool) → (w && (a || (n && b))) ≡ ((w && (a || b)) && (a || n))
  split_test false a b n = refl
  split_test true true b n = refl
  split_test true false true true = refl
  split_test true false true false = refl
  split_test true false false true = refl
  split_test true false false false = refl

  by_both : (calls : List Callback) → filter call_beyond calls ≡ filter is_news (filter (is_callback_beyond c.object border) calls)
  by_both [] = refl
  by_both (call ∷ calls) = at (is_callback_beyond c.object border call) refl (by_both calls)
    where
      same : call_beyond call ≡ (is_callback_beyond c.object border call && is_news call)
      same = split_test (not (is_within border (configured_place c.object call.master))) (call.id == init_suspend) (border.node (slice_index call.args 0)) (call.id == notify)

      beyond : List Callback
      beyond = filter (is_callback_beyond c.object border) calls

      at : (is : Bool) → is_callback_beyond c.object border call ≡ is → filter call_beyond calls ≡ filter is_news beyond
          → filter call_beyond (call ∷ calls) ≡ filter is_news (filter (is_callback_beyond c.object border) (call ∷ calls))
      at true is later =
          ap (λ b. cond b (call ∷ filter call_beyond calls) (filter call_beyond calls)) (same ∙ ap (λ b. b && is_news call) is)
          ∙ (ap (λ found. cond (is_news call) (call ∷ found) found) later
          ∙ ap (filter is_news) (sym (kept_in (is_callback_beyond c.object border) call calls is)))
      at false is later =
          ap (λ b. cond b (call ∷ filter call_beyond calls) (filter call_beyond calls)) (same ∙ ap (λ b. b && is_news call) is)
          ∙ (later ∙ ap (filter is_news) (sym (left_out (is_callback_beyond c.object border) call calls is)))

  abbrev as_callbacks : List Callback → List StepLine
  as_callbacks calls = map told.Call (filter is_news calls)

  abbrev callbacks_told : Core → List StepLine
  callbacks_told core = as_callbacks (callbacks_in c.object border core)

  callbacks_found : Finds (tells Calls) callbacks_told (no_note Calls)
  callbacks_found = found_of Calls callbacks_told (λ g answer drops.
      five_parts (tells_of Calls) g [] [] [] (callbacks_told g.core) [] (no_done Calls g) (none_made (tells_of Calls) told.Start (λ s. refl) g.core.outputs.starts) (no_late Calls g)
      (filter_made (tells_of Calls) call_beyond told.Call (λ x. refl) g.core.outputs.callbacks ∙ ap (map told.Call) (by_both g.core.outputs.callbacks)) (no_call g.part.answer)
      ∙ append-nil (callbacks_told g.core))

  callbacks_join : (xs ys : List Callback) → as_callbacks (xs ++ ys) ≡ as_callbacks xs ++ as_callbacks ys
  callbacks_join xs ys = ap (map told.Call) (filter-append is_news xs ys) ∙ map-append told.Call (filter is_news xs) (filter is_news ys)

  -- ---- drops

  -- the line of a message with whether it is dropped
  abbrev sender_line : Event → List StepLine
  sender_line (Ipi master message) = told.Drop master ∷ []
  sender_line _ = []

  abbrev dropped_line : Event × Bool → List StepLine
  dropped_line pair = if pair.1 then sender_line pair.0 else []

  abbrev as_drops : List (Event × Bool) → List StepLine
  as_drops pairs = flat_map dropped_line pairs

  abbrev drops_told : Core → List StepLine
  drops_told core = as_drops (drops_in c.object border m core)

  kept_here : (event : Event) (b : Bool) → [] ≡ as_drops (if b then (event, false) ∷ [] else [])
  kept_here event true = refl
  kept_here event false = refl

  dropped_here : (d : NodeId) (message : Message) (b : Bool) → cond b (told.Drop d ∷ []) [] ≡ as_drops (if b then (Ipi d message, true) ∷ [] else [])
  dropped_here d message true = refl
  dropped_here d message false = refl

  -- whether a device followed the step makes no difference
  drop_told : (short : Bool) (answer : Answer)
      → filter (tells_of Drops_sent) (option_to_list (answer_line (told_answer short answer))) ≡ filter (tells_of Drops_sent) (option_to_list (answer_line answer))
  drop_told false answer = refl
  drop_told true Silent = refl
  drop_told true (Drop master) = refl
  drop_told true (Reply master response) = refl
  drop_told true (Ack master node status point false) = refl
  drop_told true (Ack master node status point true) = refl

  drop_answer : (core : Core) (answer : Answer) → answer ≡ core.outputs.answer → Drops core → filter (tells_of Drops_sent) (option_to_list (answer_line answer)) ≡ drops_told core
  drop_answer core answer is drops = by answer is ∙ ap (λ a. as_drops (if is_others c.object border m core.event then (core.event, is_dropped a) ∷ [] else [])) is
    where
      by : (answer : Answer) → answer ≡ core.outputs.answer
          → filter (tells_of Drops_sent) (option_to_list (answer_line answer)) ≡ as_drops (if is_others c.object border m core.event then (core.event, is_dropped answer) ∷ [] else [])
      by Silent is = kept_here core.event (is_others c.object border m core.event)
      by (Reply master response) is = kept_here core.event (is_others c.object border m core.event)
      by (Ack master node status point false) is = kept_here core.event (is_others c.object border m core.event)
      by (Ack master node status point true) is = kept_here core.event (is_others c.object border m core.event)
      by (Drop d) is =
          let own = drops d (sym is) in
          dropped_here d own.0 (sender_beyond d)
          ∙ ap (λ event. as_drops (if is_others c.object border m event then (event, true) ∷ [] else [])) (sym own.1)

  drop_line : (g : Given) → IsTold g → Drops g.core → filter (tells_of Drops_sent) (option_to_list (answer_line g.part.answer)) ≡ drops_told g.core
  drop_line g told drops =
      let short : Bool = falls_short (λ u. value u g.core.after) g.core.outputs.moved g.core.outputs.pulse g.part.commands g.part.kept in
      ap (λ answer. filter (tells_of Drops_sent) (option_to_list (answer_line answer))) told
      ∙ (drop_told short g.core.outputs.answer ∙ drop_answer g.core g.core.outputs.answer refl drops)

  drops_found : Finds (tells Drops_sent) drops_told (no_note Drops_sent)
  drops_found = found_of Drops_sent drops_told (λ g answer drops.
      five_parts (tells_of Drops_sent) g [] [] [] [] (drops_told g.core) (no_done Drops_sent g) (none_made (tells_of Drops_sent) told.Start (λ s. refl) g.core.outputs.starts)
      (no_late Drops_sent g) (none_made (tells_of Drops_sent) told.Call (λ x. refl) g.core.outputs.callbacks) (drop_line g answer drops))

  -- ---- all of them

  -- none of them finds what a board or a clock changes
  is_deaf : (what : Tells) → IsDeaf (tells what)
  is_deaf what = record {
    replies = λ n master response. of_line what n (told.Reply master response) ∙ no_reply what master response;
    answers = λ n proc code. no_note what n (Called proc code);
    refusals = λ n key. no_note what n (NoTask key);
    calls = λ n key at word. no_note what n (Fired key at word);
    clocks = λ n number from to. no_note what n (Clock number from to);
  }

  -- so it is in two runs, whatever boards they begin with
  found_apart : {X : Type 0} (what : Tells) (f : Core → List X) (G : List X → List StepLine) → G [] ≡ [] → ((xs ys : List X) → G (xs ++ ys) ≡ G xs ++ G ys)
      → ((x y : ScriptLine) → IsLineAlike c m x y → flat_map f x.cores ≡ flat_map f y.cores) → Finds (tells what) (λ core. G (f core)) (no_note what)
      → (board other : Standing) (answers others : List (List Bool)) (cut : Option ℕ)
      → filter (tells what) (step_lines 0 (completed_in c board (until cut (driven c answers events))))
      ≡ filter (tells what) (step_lines 0 (completed_in c other (until cut (driven c others (quiet m events)))))
  found_apart what f G none parts same finds board other answers others cut =
      let found : ℕ → ScriptLine → List (List Word) = lines_found (tells what) (λ core. G (f core)) (no_note what) in
      boards_alike (tells what) (is_deaf what) c board other (until cut (driven c answers events)) (until cut (driven c others (quiet m events)))
      (runs_found (tells what) found (line_found (tells what) (λ core. G (f core)) (no_note what) finds) c m events answers others cut
      (both_map (IsLineAlike c m) (IsFound (tells what) found)
      (λ x y alike n. ap (map (line_of n)) (made_flat f G none parts x.cores ∙ (ap G (same x y alike) ∙ sym (made_flat f G none parts y.cores))))
      (run c events) (run c (quiet m events)) alike))

  pub telling_apart : AreClocksAlike c m events → TellsApart c events m
  telling_apart clocks = record {
    starts = found_apart Starts (starts_in c.object c.topology border) (map told.Start) refl (map-append told.Start) (λ x y same. same.starts) starts_found;
    drops = found_apart Drops_sent (drops_in c.object border m) as_drops refl (flat_map-append dropped_line) (λ x y same. same.drops) drops_found;
    callbacks = found_apart Calls (callbacks_in c.object border) as_callbacks refl callbacks_join (λ x y same. same.callbacks) callbacks_found;
    busy = busy_apart c m events alike;
    tasks = tasks_apart c m events;
    clocks = λ number beyond. turns_apart number c m events clocks beyond;
  }
