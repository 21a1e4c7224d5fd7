-- The lines that tell other masters that their boxes are full are those of the run without the messages of a master.
use Rattle.std.proofs.Common.{◌≡◌, ℕ, ℤ, ◌==◌, Bool, true, false, not, cond, if◌then◌else◌, List, [], ◌∷◌, ◌++◌, Option, None, Some, refl, ap, ◌∙◌, append-nil}
use Rattle.std.specs.Prelude.{filter, flat_map, map}
use Rattle.std.proofs.lemmas.Grind.{flat_map-append}
use Rattle.std.proofs.lemmas.List.Elements.{filter-append}
use Rattle.pm_base.specs.declared.events.Event.{Event}
use Rattle.pm_base.specs.declared.events.Event.TheVariants.{Smc}
use Rattle.pm_base.specs.declared.names.NodeId.{NodeId}
use Rattle.pm_base.specs.declared.names.Unit.{Unit}
use Rattle.pm_base.specs.declared.names.Unit.TheVariants.{Node, Line}
use Rattle.pm_ipi.specs.declared.responses.Response.{Response}
use Rattle.pm_topology.specs.declared.topology.Topology.{Topology}
use Rattle.pm_psci.specs.Answers.{answered}
use Rattle.pm_split.specs.Split.{Note, call, called_note, noted_answer}
use Rattle.pm_split.specs.Split.Note.{Busy, Called, Clock, NoTask, Fired, Late}
use Rattle.pm_board.specs.Board.{Standing}
use Rattle.pm_run.specs.Run.{Line as ScriptLine, Setup, run}
use Rattle.pm_laws.specs.Quiet.{quiet}
use Rattle.pm_laws.specs.Worlds.{AreWorldsAlike, IsLineAlike, busy_of, busy_others}
use Rattle.pm_trace.specs.declared.line.Word.{Word}
use Rattle.pm_trace.specs.declared.step.StepLine.{StepLine}
use Rattle.pm_trace.specs.declared.step.StepLine.TheVariants as told
use Rattle.pm_trace.specs.Line.{numbers}
use Rattle.pm_trace.specs.Notes.{note_words}
use Rattle.pm_trace.specs.Step.{command_name, step_words}
use Rattle.pm_drive.specs.Drive.{Driven, Given, drive_line, driven, give, until}
use Rattle.pm_drive.specs.Completed.{completed_in}
use Rattle.pm_drive.specs.Text.{notes_of, reply_after}
use Rattle.pm_apart.specs.Lines.{given_lines, note_lines, numbered, step_lines}
use Rattle.pm_apart.specs.Telling.{tells_busy}
use Rattle.pm_apart.proofs.Cuts.{both_map}
use Rattle.pm_apart.proofs.FoundLemmas.{IsFound, LineFinds, runs_found}
use Rattle.pm_apart.proofs.CompletedLaw.{IsDeaf, boards_alike}
use Rattle.pm_apart.proofs.TextsLaw.{none_given}

module _ (m : NodeId) where
  -- no line of a core step tells of a full box
  no_command : (n : ℕ) (x : Unit) (ok : Bool) (others : List Word) → tells_busy m (numbered n (command_name x ok ++ others)) ≡ false
  no_command n (Node a) true others = refl
  no_command n (Node a) false others = refl
  no_command n (Line a) true others = refl
  no_command n (Line a) false others = refl

  no_line : (n : ℕ) (line : StepLine) → tells_busy m (numbered n (step_words line)) ≡ false
  no_line n (told.Command d) = no_command n d.command.unit d.ok (numbers (d.from ∷ d.command.value ∷ []))
  no_line n (told.Start start) = refl
  no_line n (told.Reply master response) = refl
  no_line n (told.Drop master) = refl
  no_line n (told.Call callback) = refl

  -- the lines of the masters whose boxes are full
  abbrev busy_line : ℕ → NodeId → List Word
  busy_line n master = numbered n (note_words (Busy master))

  abbrev busy_lines : ℕ → ScriptLine → List (List Word)
  busy_lines n line = map (busy_line n) (busy_others m line.notes)

  notes_found : (n : ℕ) (notes : List Note) → filter (tells_busy m) (note_lines n notes) ≡ map (busy_line n) (busy_others m notes)
  notes_found n [] = refl
  notes_found n (Called proc code ∷ notes) = notes_found n notes
  notes_found n (NoTask key ∷ notes) = notes_found n notes
  notes_found n (Clock number from to ∷ notes) = notes_found n notes
  notes_found n (Fired key at told ∷ notes) = notes_found n notes
  notes_found n (Late address ∷ notes) = notes_found n notes
  notes_found n (Busy master ∷ notes) = at (master.0 == m.0) (notes_found n notes)
    where
      later : List (List Word)
      later = filter (tells_busy m) (note_lines n notes)

      at : (own : Bool) → later ≡ map (busy_line n) (busy_others m notes)
          → cond (not own) (busy_line n master ∷ later) later ≡ map (busy_line n) ((if own then [] else master ∷ []) ++ busy_others m notes)
      at true same = same
      at false same = ap (λ lines. busy_line n master ∷ lines) same

  -- the answer to a power call tells of no full box
  none_answered : (proc : NodeId) (code : Option ℤ) → busy_others m (noted_answer proc code) ≡ []
  none_answered proc None = refl
  none_answered proc (Some code) = refl

  none_of : (t : Topology) (event : Event) (reply : Option Response) → busy_others m (called_note t event reply) ≡ []
  none_of t (Smc proc function args) reply = none_answered proc (answered t (call proc function args) reply)
  none_of t event reply = refl

  none_called : (notes : List Note) (t : Topology) (event : Event) (reply : Option Response)
      → busy_others m (notes ++ called_note t event reply) ≡ busy_others m notes
  none_called notes t event reply =
      flat_map-append (busy_of m) notes (called_note t event reply)
      ∙ (ap (λ (others : List NodeId). busy_others m notes ++ others) (none_of t event reply) ∙ append-nil (busy_others m notes))

  line_busy : LineFinds (tells_busy m) busy_lines
  line_busy n kept answers line drops =
      let given : List Given = give kept answers line.cores in
      let x : Driven = drive_line kept answers line in
      filter-append (tells_busy m) (flat_map (given_lines n) given) (note_lines n (notes_of x))
      ∙ (ap (λ found. found ++ filter (tells_busy m) (note_lines n (notes_of x))) (none_given (tells_busy m) no_line n given)
      ∙ (notes_found n (notes_of x)
      ∙ ap (map (busy_line n)) (none_called line.notes line.after.book.fixed.topology line.event (reply_after None x.cores))))

  -- nor do a board and the clocks change the lines of full boxes
  busy_is_deaf : IsDeaf (tells_busy m)
  busy_is_deaf = record {
    replies = λ n master response. no_line n (told.Reply master response);
    answers = λ n proc code. refl;
    refusals = λ n key. refl;
    calls = λ n key at word. refl;
    clocks = λ n number from to. refl;
  }

pub busy_apart : (c : Setup) (m : NodeId) (events : List Event) → AreWorldsAlike c m events
    → (board other : Standing) (answers others : List (List Bool)) (cut : Option ℕ)
    → filter (tells_busy m) (step_lines 0 (completed_in c board (until cut (driven c answers events))))
    ≡ filter (tells_busy m) (step_lines 0 (completed_in c other (until cut (driven c others (quiet m events)))))
busy_apart c m events alike board other answers others cut =
    boards_alike (tells_busy m) (busy_is_deaf m) c board other (until cut (driven c answers events)) (until cut (driven c others (quiet m events)))
    (runs_found (tells_busy m) (busy_lines m) (line_busy m) c m events answers others cut
    (both_map (IsLineAlike c m) (IsFound (tells_busy m) (busy_lines m)) (λ x y same n. ap (map (busy_line m n)) same.busy) (run c events) (run c (quiet m events)) alike))
