-- What is known of a run that was driven and written makes the headline.
use Rattle.std.proofs.Common.{◌≡◌, ℕ, ◌==◌, Bool, true, false, if◌then◌else◌, List, [], ◌∷◌, ◌++◌, Option, Some, refl, sym, ◌∙◌, ap, subst, inl, inr}
use Rattle.std.specs.Prelude.{filter, map}
use Rattle.std.specs.List.{concat}
use Rattle.pm_base.specs.declared.events.Event.{Event}
use Rattle.pm_base.specs.declared.events.Event.TheVariants.{Attach, Ipi, Pass, Post, Smc}
use Rattle.pm_base.specs.declared.names.NodeId.{NodeId}
use Rattle.pm_base.specs.declared.names.Unit.{Unit}
use Rattle.pm_base.specs.declared.names.Unit.TheVariants.{Node}
use Rattle.pm_io.specs.declared.sink.Sink as Sink
use Rattle.pm_object.specs.declared.attached.Attached.{Attached}
use Rattle.pm_object.specs.declared.object.Object.{Object}
use Rattle.pm_object.specs.Grammar.{IsObject}
use Rattle.pm_block.specs.declared.block.Piece.{Piece}
use Rattle.pm_block.specs.Block.{attached_by, passed, passed_from, pieces_from}
use Rattle.pm_block.specs.Pieces.{attached_in, takes, with_words}
use Rattle.pm_topology.specs.declared.places.Kind.{Kind}
use Rattle.pm_topology.specs.declared.places.Kind.TheVariants.{Slave}
use Rattle.pm_topology.specs.declared.topology.Topology.{Topology}
use Rattle.pm_topology.specs.Places.{KindLaws, kind_of}
use Rattle.pm_topology.specs.WellFormed.{IsWellFormed}
use Rattle.pm_reach.specs.declared.members.MemberKind.TheVariants as members
use Rattle.pm_reach.specs.Border.{IsIn}
use Rattle.pm_device.specs.declared.device.Device as Device
use Rattle.pm_state.specs.Load.{load_of}
use Rattle.pm_state.specs.State.{Fixed, objects_in}
use Rattle.pm_run.specs.Run.{Line, Setup, cores_in, fixed_of, run, setup, setup_for}
use Rattle.pm_causes.specs.Caused.{HaveCauses}
use Rattle.pm_apply.specs.Part.{Kept}
use Rattle.pm_record.specs.Record.{at_zero}
use Rattle.pm_laws.specs.Border.{AreObjects, unit_beyond}
use Rattle.pm_laws.specs.Quiet.{quiet}
use Rattle.pm_laws.specs.ReachBorder.{IsBorderOf, border_of, configured_place}
use Rattle.pm_board.specs.Board.{Standing}
use Rattle.pm_trace.specs.Line.{line_text}
use Rattle.pm_drive.specs.Completed.{completed_in}
use Rattle.pm_drive.specs.Drive.{Driven, answers_after, drive, drive_line, driven, last_book}
use Rattle.pm_drive.specs.Drove.{BreaksNone, Drove, Follows, NoFailure}
use Rattle.pm_drive.specs.Scripts.{script_driven, script_text}
use Rattle.pm_drive.specs.Text.{closing_after, texts}
use Rattle.pm_drive.proofs.DroveLaw.{lines-driven}
use Rattle.pm_apart.specs.Apart.{IsOutOfReach, KeepsApart, StaysApart}
use Rattle.pm_apart.specs.Lines.{is_about, run_lines, step_lines, table_lines}
use Rattle.pm_isolate.specs.Transitions.{transitions}
use Rattle.pm_top.specs.Given.{Text}
use Rattle.pm_top.specs.Theorem.{IsReplayedBy}
use Rattle.pm_top.specs.Headline.{Headline, IsBeyondPaths, IsHeadline, IsUnfailing, lines_about, lines_over, run_over}

-- ---- a device that reported no failure

-- whether a line breaks a node, no answer says
breaks_alike : (lines : List Line) (kept other : Kept) (answers others : List (List Bool)) → BreaksNone (drive kept answers lines) → BreaksNone (drive other others lines)
breaks_alike [] kept other answers others none = tt
breaks_alike (line ∷ lines) kept other answers others none =
    (none.0, breaks_alike lines (drive_line kept answers line).kept (drive_line other others line).kept (answers_after line.cores answers) (answers_after line.cores others) none.1)

module _ {D : Type 0} (d : Device.Ghosts D) (object : Object) (t : Topology) (answers : List (List Bool)) (events : List Event) (start device : D) where
  unfailed : NoFailure d t (script_driven object t [] events) start device → NoFailure d t (script_driven object t answers events) start device
  unfailed (inl still) = inl still
  unfailed (inr whole) =
      inr (whole.0, whole.1, breaks_alike (run (setup_for object t events) (passed events)) (at_zero t) (at_zero t) [] answers whole.2)

  -- gave only answers that are yes
  all_yes : Drove d (setup_for object t events) (script_driven object t answers events) start device → NoFailure d t (script_driven object t [] events) start device
      → script_driven object t answers events ≡ script_driven object t [] events
  all_yes drove none =
      drove.unfailing (unfailed none) ∙ ap (λ (lines : List Line). drive (at_zero t) [] lines) (lines-driven (run (setup_for object t events) (passed events)) (at_zero t) answers)

-- ---- a script without the messages of a master attaches the same

quiet_pieces : (m : NodeId) (pieces : List Piece) (events : List Event) → pieces_from pieces (quiet m events) ≡ pieces_from pieces events
quiet_pieces m pieces [] = refl
quiet_pieces m pieces (Attach address words ∷ events) =
    ap (λ (later : List Piece). if takes address pieces then later else pieces) (quiet_pieces m (with_words address words pieces) events)
quiet_pieces m pieces (Ipi master message ∷ events) = by (master.0 == m.0)
  where
    by : (b : Bool) → pieces_from pieces ((if b then Pass else Ipi master message) ∷ quiet m events) ≡ pieces
    by true = refl
    by false = refl
quiet_pieces m pieces (Post master message ∷ events) = by (master.0 == m.0)
  where
    by : (b : Bool) → pieces_from pieces ((if b then Pass else Post master message) ∷ quiet m events) ≡ pieces
    by true = refl
    by false = refl
quiet_pieces m pieces (Smc proc function args ∷ events) = by (m.0 == 1)
  where
    by : (b : Bool) → pieces_from pieces ((if b then Pass else Smc proc function args) ∷ quiet m events) ≡ pieces
    by true = refl
    by false = refl
quiet_pieces m pieces (event ∷ events) = refl

quiet_passed : (m : NodeId) (pieces : List Piece) (events : List Event) → passed_from pieces (quiet m events) ≡ quiet m (passed_from pieces events)
quiet_passed m pieces [] = refl
quiet_passed m pieces (Attach address words ∷ events) = by (takes address pieces) (quiet_passed m (with_words address words pieces) events)
  where
    by : (b : Bool) → passed_from (with_words address words pieces) (quiet m events) ≡ quiet m (passed_from (with_words address words pieces) events)
        → (if b then Pass ∷ passed_from (with_words address words pieces) (quiet m events) else Attach address words ∷ quiet m events)
        ≡ quiet m (if b then Pass ∷ passed_from (with_words address words pieces) events else Attach address words ∷ events)
    by true later = ap (λ (later : List Event). Pass ∷ later) later
    by false later = refl
quiet_passed m pieces (Ipi master message ∷ events) = by (master.0 == m.0)
  where
    by : (b : Bool) → passed_from pieces ((if b then Pass else Ipi master message) ∷ quiet m events) ≡ (if b then Pass else Ipi master message) ∷ quiet m events
    by true = refl
    by false = refl
quiet_passed m pieces (Post master message ∷ events) = by (master.0 == m.0)
  where
    by : (b : Bool) → passed_from pieces ((if b then Pass else Post master message) ∷ quiet m events) ≡ (if b then Pass else Post master message) ∷ quiet m events
    by true = refl
    by false = refl
quiet_passed m pieces (Smc proc function args ∷ events) = by (m.0 == 1)
  where
    by : (b : Bool) → passed_from pieces ((if b then Pass else Smc proc function args) ∷ quiet m events) ≡ (if b then Pass else Smc proc function args) ∷ quiet m events
    by true = refl
    by false = refl
quiet_passed m pieces (event ∷ events) = refl

module _ (object : Object) (t : Topology) (events : List Event) (m : NodeId) where
  same_setup : setup_for object t events ≡ setup_for object t (quiet m events)
  same_setup = ap (λ (pieces : List Piece). setup object (map attached_in pieces) t) (sym (quiet_pieces m [] events))

  -- so it is run over what the whole one is run over
  pub quiet_run : {X : Type 0} (f : Setup → List Event → X) → f (setup_for object t events) (quiet m (passed events)) ≡ f (setup_for object t (quiet m events)) (passed (quiet m events))
  quiet_run f =
      ap (λ (c : Setup). f c (quiet m (passed events))) same_setup
      ∙ ap (λ (es : List Event). f (setup_for object t (quiet m events)) es) (sym (quiet_passed m [] events))

-- ---- a slave to which no path leads

module _ (kinds : KindLaws) (exact : (fixed : Fixed) (m : NodeId) (from : ℕ) → configured_place fixed.object m ≡ Some from → IsBorderOf fixed from (border_of fixed m)) (object : Object) (t : Topology) (events : List Event) (m slave : NodeId) (formed : IsWellFormed t) (is : IsBeyondPaths object t events m slave) where
  abbrev fixed : Fixed
  fixed = fixed_of (setup_for object t events)

  slave_beyond : (b : Bool) → (border_of fixed m).slave is.place ≡ b → (border_of fixed m).slave is.place ≡ true
  slave_beyond true beyond = beyond
  slave_beyond false within =
      let brought : IsIn (objects_in object (attached_by events)) t is.from members.Slave (Node is.entry.node) = ((exact fixed m is.from is.master).slave is.place is.entry is.there).0 within in
      absurd (is.beyond (subst (λ (n : NodeId). IsIn (objects_in object (attached_by events)) t is.from members.Slave (Node n)) is.is brought))

  pub out_of_reach : IsOutOfReach (setup_for object t events) m (Node slave)
  out_of_reach =
      let kind : Slave is.place ≡ kind_of t slave = kinds.alone t slave (Slave is.place) formed (is.entry, is.there, ap (λ (n : NodeId). n.0) is.is) in
      subst (λ (kind : Kind). unit_beyond object t (border_of fixed m) kind ≡ true) kind (slave_beyond ((border_of fixed m).slave is.place) refl)

-- ---- the headline

-- what is known of runs
pub record HeadlineLaws {D : Type 0} (d : Device.Ghosts D) : Type 0 where
  pub kinds : KindLaws
  pub exact : (fixed : Fixed) (m : NodeId) (from : ℕ) → configured_place fixed.object m ≡ Some from → IsBorderOf fixed from (border_of fixed m)
  pub objects : (object : Object) (t : Topology) (events : List Event) → IsObject object → AreObjects (fixed_of (setup_for object t events))
  pub keeps : (c : Setup) (events : List Event) (answers : List (List Bool)) (old new : D) → AreObjects (fixed_of c) → IsWellFormed c.topology → Drove d c (driven c answers events) old new → KeepsApart d c answers events old new
  pub causes : (c : Setup) (events : List Event) → HaveCauses (cores_in (run c events))
  pub transitions : (c : Setup) (m : NodeId) (events : List Event) (unit : Unit) → AreObjects (fixed_of c) → IsWellFormed c.topology → IsOutOfReach c m unit → transitions unit (run c events) ≡ transitions unit (run c (quiet m events))

module _ {O D : Type 0} (o : Sink.Ghosts O) (d : Device.Ghosts D) (laws : HeadlineLaws d) (object : Object) (t : Topology) (board : Standing) (answers : List (List Bool)) (events : List Event) (sink sink' : O) (start device : D) (of : IsObject object) (formed : IsWellFormed t)
    (text : (o.state sink').bytes ≡ (o.state sink).bytes ++ script_text object t board answers events)
    (drove : Drove d (setup_for object t events) (script_driven object t answers events) start device) where
  abbrev c : Setup
  c = setup_for object t events

  kept : KeepsApart d c answers (passed events) start device
  kept = laws.keeps c (passed events) answers start device (laws.objects object t events of) formed drove

  stays : NoFailure d t (script_driven object t [] events) start device → StaysApart c answers (passed events)
  stays none = kept.apart (unfailed d object t answers events start device none)

  is_unfailing : NoFailure d t (script_driven object t [] events) start device → IsUnfailing o d object t board events sink sink' device
  is_unfailing none =
      let same : script_driven object t answers events ≡ script_driven object t [] events = all_yes d object t answers events start device drove none in
      record {
        text = text ∙ ap (λ (xs : List Driven). (o.state sink).bytes ++ concat (texts 0 (completed_in c board xs) ++ closing_after c xs ∷ [])) same;
        lines =
            ap (λ (xs : List Driven). concat (texts 0 (completed_in c board xs) ++ closing_after c xs ∷ [])) (sym same)
            ∙ (kept.lines board ∙ ap (λ (xs : List Driven). concat (map line_text (step_lines 0 (completed_in c board xs) ++ table_lines c xs))) same);
        follows = λ seen. subst (λ (xs : List Driven). Follows (last_book (load_of object (attached_by events) t) xs) (d.state device)) same
            (drove.follows seen (unfailed d object t answers events start device none));
        apart = λ other m slave is.
            ap (λ (xs : List Driven). filter (is_about (Node slave)) (step_lines 0 (completed_in c board xs) ++ table_lines c xs)) (sym same)
            ∙ (stays none board other m (Node slave) (out_of_reach laws.kinds laws.exact object t events m slave formed is)
            ∙ quiet_run object t events m (λ (c : Setup) (es : List Event). filter (is_about (Node slave)) (run_lines c other [] es)));
      }

  pub is_headline : IsHeadline o d object t board events sink sink' start device
  is_headline = record {
    answers = answers;
    drove = drove;
    unfailing = is_unfailing;
    text = text;
    causes = laws.causes c (passed events);
    told = drove.told;
    apart = λ m slave is.
        laws.transitions c m (passed events) (Node slave) (laws.objects object t events of) formed (out_of_reach laws.kinds laws.exact object t events m slave formed is)
        ∙ quiet_run object t events m (λ (c : Setup) (es : List Event). transitions (Node slave) (run c es));
  }

-- so of what Done of `replay` means
module _ {O D : Type 0} (o : Sink.Ghosts O) (d : Device.Ghosts D) (laws : HeadlineLaws d) (AreRead : List Text → Type 0) (named : Option ℕ) (ws : List (List ℕ)) (board is : Standing) (sink sink' : O) (device device' : D) where
  pub replayed_headline : IsReplayedBy o d AreRead named ws board is sink sink' device device' → Headline o d AreRead named ws board sink sink' device device'
  replayed_headline run = record {
    object_bytes = run.object_bytes;
    topology_texts = run.topology_texts;
    script_bytes = run.script_bytes;
    object = run.object;
    topology = run.topology;
    events = run.events;
    start = run.start;
    read = run.read;
    reads = run.reads;
    over = run.over;
    means = run.means;
    formed = run.formed;
    fitted = run.fitted;
    holds = is_headline o d laws run.object run.topology board run.answers run.events sink sink' run.start device' run.reads.object run.formed run.text run.drove;
  }
