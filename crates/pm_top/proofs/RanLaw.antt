-- Each work did its job on the subject that was read, in whichever way the job is what was asked for.
use Rattle.std.proofs.Common.{◌≡◌, ℕ, ◌+◌, ◌⊎◌, Bool, false, List, [], ◌++◌, length, Option, Some, None, Result, Ok, Err, refl, sym, ◌∙◌, ap, subst, inl, inr, ◌∷◌}
use Rattle.std.specs.Prelude.{is_some, unwrap_or}
use Rattle.pm_base.specs.declared.errors.Exit.{Exit}
use Rattle.pm_base.specs.declared.names.NodeId.{NodeId}
use Rattle.pm_base.specs.declared.events.Event.{Event}
use Rattle.pm_io.specs.declared.sink.Sink as Sink
use Rattle.pm_io.specs.Writing.{Leaves}
use Rattle.pm_object.specs.declared.object.Object.{Object}
use Rattle.pm_gen.specs.Laboratory.{laboratory}
use Rattle.pm_gen.specs.Script.{made}
use Rattle.pm_chip.specs.Chip.{chip}
use Rattle.pm_topology.specs.declared.topology.Topology.{Topology}
use Rattle.pm_reach.specs.declared.members.Member.{Member}
use Rattle.pm_reach.specs.Membership.{IsReach}
use Rattle.pm_block.proofs.BlockLaw.{length_passed}
use Rattle.pm_reader.specs.Front.{ran}
use Rattle.pm_board.specs.Board.{Standing}
use Rattle.pm_device.specs.Act.{Fit}
use Rattle.pm_device.specs.declared.device.Device as Device
use Rattle.pm_script.specs.Named.{IsScript}
use Rattle.pm_script.specs.Script.{Script, Stop}
use Rattle.pm_trace.specs.declared.faults.Fault.{Fault}
use Rattle.pm_trace.specs.declared.faults.Fault.TheVariants.{Memory, Read}
use Rattle.pm_trace.specs.declared.faults.Fault.TheVariants as faults
use Rattle.pm_trace.specs.Report.{Did, Report, Reports, exit_of, pieces, refusal, report_of}
use Rattle.pm_trace.specs.Scripts.{fault_at}
use Rattle.pm_replay.specs.Replay.{Touched, replay_report}
use Rattle.pm_isolate.specs.Compared.{Comparison, TouchesNothing, comparison_report}
use Rattle.pm_top.specs.declared.works.Form.{Form}
use Rattle.pm_top.specs.declared.works.Piece.{Piece}
use Rattle.pm_top.specs.declared.works.Source.TheVariants as source
use Rattle.pm_top.specs.declared.works.Work.TheVariants.{Replay, Isolate, Make, Write}
use Rattle.pm_top.specs.declared.reading.Subject.{Subject}
use Rattle.pm_top.specs.Asked.{lines_by, no_script}
use Rattle.pm_top.specs.Fit.{IsFitted, LeftBy, MayBeFitted}
use Rattle.pm_top.specs.Form.{IsPiece, form_of, piece_node}
use Rattle.pm_top.specs.Words.{word}
use Rattle.pm_top.specs.Job.{IsFound, Job}
use Rattle.pm_top.specs.Done.{report}
use Rattle.pm_top.specs.Making.{Makes, Starves, Summarizes, WasDriven}
use Rattle.pm_top.specs.Ran.{Drives, RanAs, Touches, TouchesBy, drives}
use Rattle.pm_top.specs.Ran.Drives.{AsItWrites, BeforeItWrites, Never}
use Rattle.pm_top.specs.Within.{Writes, one_piece}
use Rattle.pm_top.proofs.JobLemmas.{asked_with, job_by, whole_job}
use Rattle.pm_top.proofs.PieceLemmas.{text_of_job}
use Rattle.pm_top.proofs.SubjectLemmas.{err_is, unnamed}

-- what is written up to the line before number n + 1, and then the fault at which a script stops there, if it does
abbrev up_to : List (List ℕ) → Stop → ℕ → Report
up_to body stop n = record { body = body; fault = fault_at (1 + n) stop }

-- a script stops in the same line as it is run
same_stop : (body : List (List ℕ)) (s : Script) → up_to body s.stop (length (ran s).events) ≡ up_to body s.stop (length s.events)
same_stop body s = ap (up_to body s.stop) (length_passed [] s.events)

-- a script alone, as a comparison without members
abbrev pub alone : Result Script Fault → Result Comparison Fault
alone (Ok s) = Ok (record { members = []; script = s })
alone (Err fault) = Err fault

module _ {D : Type 0} (d : Device.Ghosts D) (Named : Topology → Type 0) (dev dev' : D) where
  -- nothing was done to a device
  unfitted : (named : Option ℕ) → dev ≡ dev' → MayBeFitted d named Named dev dev'
  unfitted None same = same
  unfitted (Some k) same = inl same

  left_alone : (fault : Fault) (named : Option ℕ) → dev ≡ dev' → LeftBy d fault named Named dev dev'
  left_alone faults.Usage named same = same
  left_alone (faults.Object fault) named same = same
  left_alone (faults.Text fault) named same = same
  left_alone (faults.TopologyText fault) named same = same
  left_alone (faults.Topology fault) named same = same
  left_alone (faults.Line n cause) named same = same
  left_alone faults.Read named same = unfitted named same
  left_alone faults.Memory named same = unfitted named same
  left_alone faults.Size named same = same
  left_alone faults.Node named same = same
  left_alone faults.Number named same = same

  untouched : (board is : Standing) (drive : Drives) (named : Option ℕ) (n : ℕ) (fault : Fault) (answers : List (List Bool)) (cut : Option ℕ) → dev ≡ dev' → board ≡ is → TouchesBy d drive named board is Named n dev dev' (Err fault) answers cut
  untouched board is AsItWrites named n fault answers cut same kept = (left_alone fault named same, kept)
  untouched board is BeforeItWrites named n fault answers cut same kept = inl (same, kept)
  untouched board is Never named n fault answers cut same kept = (same, kept)

  -- it was fitted, and nothing else was done to it
  fitted_alone : (named : Option ℕ) (topology : Topology) (start : D) → IsFitted d named topology dev start → Named topology → start ≡ dev' → MayBeFitted d named Named dev dev'
  fitted_alone None topology start fitted is same = fitted.1 ∙ same
  fitted_alone (Some k) topology start fitted is same = inr (topology, is, subst (λ (end : D). d.Does (Fit topology) dev end) same fitted)

-- what a number of lines is made of
pub record IsOfLines (ws : List (List ℕ)) (subject : Subject) : Type 0 where
  pub object : subject.object ≡ laboratory
  pub topology : subject.topology ≡ chip
  pub lines : subject.lines ≡ lines_by source.Number (word 1 ws)
  pub named : is_some subject.master ≡ false

module _ {O D : Type 0} (o : Sink.Ghosts O) (d : Device.Ghosts D) (ws : List (List ℕ)) (board is : Standing) (sink sink' : O) (dev dev' : D) (result : Exit) (Named : Topology → Type 0) where
  module _ (f : Form) (IsAsked : Result Job Fault → Type 0) where
    -- a job was asked for, if it was reported so
    abbrev pub Asks : Result Job Fault → Type 0
    Asks job =
        (answers : List (List Bool)) (cut : Option ℕ)
        → Leaves o (pieces (report_of (report board f.work) job answers)) cut sink sink'
        → result ≡ exit_of (report_of (report board f.work) job answers) cut → IsAsked job

    abbrev pub Ran : Type 0
    Ran = RanAs o d f ws board is IsAsked Named sink sink' dev dev' result

    -- a form was refused
    pub refused_as : (fault : Fault) → Asks (Err fault) → dev ≡ dev' → board ≡ is → Reports o (refusal fault) sink sink' result → Ran
    refused_as fault asks same kept reports = record {
      job = Err fault;
      answers = [];
      cut = reports.cut;
      asked = asks [] reports.cut reports.left reports.ends;
      left = reports.left;
      ends = reports.ends;
      touched = untouched d Named dev dev' board is (drives f.work) f.topology (lines_by f.source (word 1 ws)) fault [] reports.cut same kept;
    }

    -- a form without a script was carried out: its text is one piece
    one_as : (subject : Subject) (members : List Member) (events : List Event) (answers : List (List Bool)) (text : List ℕ) → Asks (Ok (whole_job subject members events)) → report board f.work (whole_job subject members events) answers ≡ one_piece text → ((cut : Option ℕ) → Touches d f ws board is Named dev dev' (Ok (whole_job subject members events)) answers cut) → Reports o (one_piece text) sink sink' result → Ran
    one_as subject members events answers text asks same touched reports =
        let wrote : Reports o (report board f.work (whole_job subject members events) answers) sink sink' result = subst (λ (r : Report). Reports o r sink sink' result) (sym same) reports in
        record {
          job = Ok (whole_job subject members events);
          answers = answers;
          cut = wrote.cut;
          asked = asks answers wrote.cut wrote.left wrote.ends;
          left = wrote.left;
          ends = wrote.ends;
          touched = touched wrote.cut;
        }

  -- a work that writes one piece and does nothing else
  pub piece_as : (piece : Piece) (named : Option ℕ) (subject : Subject) (IsAsked : Result Job Fault → Type 0) → is_some subject.master ≡ is_some (piece_node piece)
      → Asks (form_of (Write piece) named) IsAsked (Err Memory)
      → ((members : List Member) → IsFound (asked_with subject no_script) members → Asks (form_of (Write piece) named) IsAsked (Ok (whole_job subject members [])))
      → Writes o (IsPiece piece subject) sink sink' result → dev ≡ dev' → board ≡ is → Ran (form_of (Write piece) named) IsAsked
  piece_as piece named subject IsAsked called starves asks writes same kept =
      let f : Form = form_of (Write piece) named in
      elim writes [
        | inl memory ↦ refused_as f IsAsked Memory starves same kept memory
        | inr one ↦
            let text = text_of_job piece subject one.text called one.holds in
            one_as f IsAsked subject text.members [] [] one.text (asks text.members text.found) (ap one_piece (sym text.is)) (λ cut. (same, kept)) one.reports
      ]

  -- a script that can't be begun, and want of memory, come after the device was fitted
  left_fitted : (named : Option ℕ) (topology : Topology) (start : D) (fault : Fault) → IsFitted d named topology dev start → Named topology → start ≡ dev' → (◌≡◌ {A = Result Script Fault} (Err fault) (Err Read)) ⊎ (◌≡◌ {A = Result Script Fault} (Err fault) (Err Memory)) → LeftBy d fault named Named dev dev'
  left_fitted named topology start fault fitted holds same known = elim known [
    | inl read ↦ subst left (sym (err_is read)) may
    | inr memory ↦ subst left (sym (err_is memory)) may
  ]
    where
      left : Fault → Type 0
      left fault = LeftBy d fault named Named dev dev'

      may : MayBeFitted d named Named dev dev'
      may = fitted_alone d Named dev dev' named topology start fitted holds same

  -- a script was run
  pub script_as : (named : Option ℕ) (subject : Subject) (IsAsked : Result Job Fault → Type 0) (IsRead : Result Script Fault → Type 0) (start : D)
      → IsFitted d named subject.topology dev start → Named subject.topology
      → ((job : Result Script Fault) → IsRead job → IsAsked (job_by subject (alone job)))
      → ((fault : Fault) → IsRead (Err fault) → (◌≡◌ {A = Result Script Fault} (Err fault) (Err Read)) ⊎ (◌≡◌ {A = Result Script Fault} (Err fault) (Err Memory)))
      → Did o IsRead (replay_report subject.object subject.topology board) (Touched d subject.object subject.topology board is start dev') sink sink' result
      → Ran (form_of Replay named) IsAsked
  script_as named subject IsAsked IsRead start fitted holds asks known did = by did.job did.asked did.left did.ends did.touched
    where
      by : (job : Result Script Fault) → IsRead job → Leaves o (pieces (report_of (replay_report subject.object subject.topology board) job did.answers)) did.cut sink sink' → result ≡ exit_of (report_of (replay_report subject.object subject.topology board) job did.answers) did.cut → Touched d subject.object subject.topology board is start dev' job did.answers did.cut → Ran (form_of Replay named) IsAsked
      by (Ok s) asked left ends touched =
          let same = same_stop (replay_report subject.object subject.topology board s did.answers).body s in
          record {
            job = job_by subject (alone (Ok s));
            answers = did.answers;
            cut = did.cut;
            asked = asks (Ok s) asked;
            left = subst (λ (r : Report). Leaves o (pieces r) did.cut sink sink') same left;
            ends = subst (λ (r : Report). result ≡ exit_of r did.cut) same ends;
            touched = record { start = start; fitted = fitted; touched = touched };
          }
      by (Err fault) asked left ends touched = record {
        job = Err fault;
        answers = did.answers;
        cut = did.cut;
        asked = asks (Err fault) asked;
        left = left;
        ends = ends;
        touched = (left_fitted named subject.topology start fault fitted holds touched.0 (known fault asked), touched.1);
      }

  -- two runs were compared
  pub compared_as : (place : Option ℕ) (subject : Subject) (master : NodeId) (IsAsked : Result Job Fault → Type 0) (IsCompared : Result Comparison Fault → Type 0)
      → subject.master ≡ Some master → ((job : Result Comparison Fault) → IsCompared job → IsAsked (job_by subject job))
      → Did o IsCompared (comparison_report subject.object subject.topology master) TouchesNothing sink sink' result → dev ≡ dev' → board ≡ is
      → Ran (form_of Isolate place) IsAsked
  compared_as place subject master IsAsked IsCompared named asks did same kept = by did.job did.asked did.left did.ends
    where
      by : (job : Result Comparison Fault) → IsCompared job → Leaves o (pieces (report_of (comparison_report subject.object subject.topology master) job did.answers)) did.cut sink sink' → result ≡ exit_of (report_of (comparison_report subject.object subject.topology master) job did.answers) did.cut → Ran (form_of Isolate place) IsAsked
      by (Ok found) asked left ends =
          let P : Option NodeId → Type 0 = λ named. Leaves o (pieces (comparison_report subject.object subject.topology (unwrap_or named (record { 0 = 0 })) found did.answers)) did.cut sink sink' in
          let Q : Option NodeId → Type 0 = λ named. result ≡ exit_of (comparison_report subject.object subject.topology (unwrap_or named (record { 0 = 0 })) found did.answers) did.cut in
          let stops = same_stop (comparison_report subject.object subject.topology (unwrap_or subject.master (record { 0 = 0 })) found did.answers).body found.script in
          record {
            job = job_by subject (Ok found);
            answers = did.answers;
            cut = did.cut;
            asked = asks (Ok found) asked;
            left = subst (λ (r : Report). Leaves o (pieces r) did.cut sink sink') stops (subst P (sym named) left);
            ends = subst (λ (r : Report). result ≡ exit_of r did.cut) stops (subst Q (sym named) ends);
            touched = (same, kept);
          }
      by (Err fault) asked left ends = record { job = Err fault; answers = did.answers; cut = did.cut; asked = asks (Err fault) asked; left = left; ends = ends; touched = (same, kept) }

  -- a script that is made was run before its summary was written, or memory is wanted
  pub made_as : (subject : Subject) (IsAsked : Result Job Fault → Type 0) → IsOfLines ws subject
      → Asks (form_of Make None) IsAsked (Err Memory)
      → ((events : List Event) → IsFound (asked_with subject no_script) [] → IsScript (made subject.lines) events → Asks (form_of Make None) IsAsked (Ok (whole_job subject [] events)))
      → Makes o d subject.object subject.topology board is subject.lines sink sink' dev dev' result → Ran (form_of Make None) IsAsked
  made_as subject IsAsked of starved asks did = elim did [
    | inl starves ↦ late starves
    | inr wrote ↦
        one_as (form_of Make None) IsAsked subject [] wrote.made.events wrote.made.answers wrote.text
        (asks wrote.made.events (unnamed (λ master. IsReach (subject.object ∷ []) subject.topology master []) subject.master of.named) wrote.made.means)
        (ap one_piece (sym wrote.made.said)) (λ cut. (wrote.made.drove, wrote.made.tasks_left)) wrote.reports
  ]
    where
      late : Starves o d subject.object subject.topology board is subject.lines sink sink' dev dev' result → Ran (form_of Make None) IsAsked
      late starves = record {
        job = Err Memory;
        answers = [];
        cut = starves.reports.cut;
        asked = starved [] starves.reports.cut starves.reports.left starves.reports.ends;
        left = starves.reports.left;
        ends = starves.reports.ends;
        touched = elim starves.device [
          | inl idle ↦ inl idle
          | inr driven ↦ inr (
            refl,
            subst (λ (n : ℕ). WasDriven d laboratory chip board is n dev dev') of.lines
                (subst (λ (topology : Topology). WasDriven d laboratory topology board is subject.lines dev dev') of.topology
                (subst (λ (object : Object). WasDriven d object subject.topology board is subject.lines dev dev') of.object driven)),
          )
        ];
      }
