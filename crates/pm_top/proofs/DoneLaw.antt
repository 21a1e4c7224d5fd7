-- What Done means of each work, of whichever texts that were read.
use Rattle.std.proofs.Common.{◌≡◌, ℕ, ◌⊎◌, List, [], ◌∷◌, ◌++◌, Option, Some, None, Result, Ok, Err, refl, sym, ◌∙◌, ap, subst, inl, inr}
use Rattle.std.specs.Prelude.{unwrap_or}
use Rattle.pm_base.specs.declared.errors.Exit.{Exit}
use Rattle.pm_base.specs.declared.errors.Exit.TheVariants as exit
use Rattle.pm_base.specs.declared.names.NodeId.{NodeId}
use Rattle.pm_io.specs.declared.inputs.Inputs as Inputs
use Rattle.pm_io.specs.declared.sink.Sink as Sink
use Rattle.pm_io.specs.Inputs.{Moment}
use Rattle.pm_io.specs.Prefix.{Prefix}
use Rattle.pm_io.specs.World.{world}
use Rattle.pm_object.specs.declared.object.Object.{Object}
use Rattle.pm_gen.specs.Laboratory.{laboratory}
use Rattle.pm_gen.specs.Summary.{summary}
use Rattle.pm_chip.specs.Chip.{chip}
use Rattle.pm_topology.specs.declared.topology.Topology.{Topology}
use Rattle.pm_board.specs.Board.{Standing}
use Rattle.pm_device.specs.declared.device.Device as Device
use Rattle.pm_drive.specs.Scripts.{script_text}
use Rattle.pm_script.specs.Script.{script_limit}
use Rattle.pm_trace.specs.declared.faults.Fault.{Fault}
use Rattle.pm_trace.specs.declared.faults.Fault.TheVariants as faults
use Rattle.pm_trace.specs.Faults.{exit_by}
use Rattle.pm_trace.specs.Report.{Reports, refusal}
use Rattle.pm_trace.proofs.ReadsLemmas.{refused}
use Rattle.pm_replay.specs.Replayed.{IsRun}
use Rattle.pm_isolate.specs.Compared.{IsCompared}
use Rattle.pm_top.specs.declared.works.Form.{Form}
use Rattle.pm_top.specs.declared.works.Piece.{Piece}
use Rattle.pm_top.specs.declared.works.Work.TheVariants.{Replay, Isolate, Make, Write}
use Rattle.pm_top.specs.declared.works.Source.TheVariants as source
use Rattle.pm_top.specs.declared.reading.Subject.{Subject}
use Rattle.pm_top.specs.Asked.{laboratory_if, lines_asked, object_limit}
use Rattle.pm_top.specs.Fit.{IsFitted}
use Rattle.pm_top.specs.Form.{IsPiece, form_of, piece_source}
use Rattle.pm_top.specs.Given.{IsTopologyOf, Text, object_texts, text}
use Rattle.pm_top.specs.Words.{word}
use Rattle.pm_top.specs.Done.{IsIsolatedBy, IsMadeBy, WorkDoneBy}
use Rattle.pm_top.specs.Theorem.{IsReplayedBy}
use Rattle.pm_top.specs.Making.{IsSummary, Makes, Summarizes}
use Rattle.pm_top.specs.Within.{ReadsSubject, Writes}
use Rattle.pm_top.proofs.PieceLemmas.{piece_done}
use Rattle.pm_top.proofs.SubjectLemmas.{err_is_ok, is_chip, was_read}
use Rattle.pm_top.proofs.WritingLemmas.{wrote_one}

-- the texts that were read for a subject: one for its first word, if that is a name, and one for its topology, if a word names one
pub record SubjectRead (AreRead : List Text → Type 0) (f : Form) (ws : List (List ℕ)) (bytes : List ℕ) (topology : Topology) : Type 0 where
  pub texts : List Text
  pub over : IsTopologyOf f.topology ws texts topology
  pub read : AreRead (object_texts f.source (word 1 ws) bytes ++ texts)

-- no fault ends in Done
fault_is_done : (fault : Fault) → exit_by fault ≡ exit.Done → ⊥
fault_is_done faults.Usage is = cc
fault_is_done (faults.Object fault) is = cc
fault_is_done (faults.Text fault) is = cc
fault_is_done (faults.TopologyText fault) is = cc
fault_is_done (faults.Topology fault) is = cc
fault_is_done (faults.Line n cause) is = cc
fault_is_done faults.Read is = cc
fault_is_done faults.Memory is = cc
fault_is_done faults.Size is = cc
fault_is_done faults.Node is = cc
fault_is_done faults.Number is = cc

pub never_refused : {O : Type 0} (o : Sink.Ghosts O) (fault : Fault) (sink sink' : O) (result : Exit) → result ≡ exit.Done → Reports o (refusal fault) sink sink' result → ⊥
never_refused o fault sink sink' result done reports = fault_is_done fault (sym (refused o fault sink sink' result reports) ∙ done)

pub never_starved : {O : Type 0} (o : Sink.Ghosts O) (sink sink' : O) (result : Exit) → result ≡ exit.Done → Reports o (refusal faults.Memory) sink sink' result → ⊥
never_starved o sink sink' result done reports = never_refused o faults.Memory sink sink' result done reports

-- the lines that are asked for, where the laboratory's object is
asked_lines : (lines : Option ℕ) (object : Object) → laboratory_if lines ≡ Ok object → lines ≡ Some (unwrap_or lines 0)
asked_lines None object is = absurd (err_is_ok is)
asked_lines (Some n) object is = refl

module _ {O D : Type 0} (o : Sink.Ghosts O) (d : Device.Ghosts D) (AreRead : List Text → Type 0) (ws : List (List ℕ)) (board is : Standing) (before after : Moment) (sink sink' : O) (dev dev' : D) (result : Exit) (shown : Type 0) (subject : Subject) where
  -- a script was run, which another source held
  pub replayed_done : {J : Type 0} (j : Inputs.Ghosts J) (named : Option ℕ) (start : D) (inputs inputs' : J) → (reads : ReadsSubject shown (form_of Replay named) ws before after (Ok subject)) → (texts : List Text)
      → IsTopologyOf named ws texts subject.topology → IsFitted d named subject.topology dev start
      → (run : IsRun j o d subject.object subject.topology board is (word 2 ws) (world inputs sink start) (world inputs' sink' dev'))
      → AreRead (text (word 1 ws) object_limit reads.prefix.bytes ∷ (texts ++ text (word 2 ws) script_limit run.script_bytes ∷ []))
      → IsReplayedBy o d AreRead named ws board is sink sink' dev dev'
  replayed_done j named start inputs inputs' reads texts over fitted run read = record {
    object_bytes = reads.prefix.bytes;
    topology_texts = texts;
    script_bytes = run.script_bytes;
    object = subject.object;
    topology = subject.topology;
    events = run.events;
    answers = run.answers;
    start = start;
    read = read;
    reads = reads.says;
    over = over;
    means = run.means;
    formed = reads.supported.well_formed;
    text = run.text;
    fitted = fitted;
    drove = run.drove;
    tasks_left = run.tasks_left;
  }

  -- two runs of such a script were compared
  pub compared_done : {J : Type 0} (j : Inputs.Ghosts J) (named : Option ℕ) (master : NodeId) (inputs : J) → subject.master ≡ Some master → (reads : ReadsSubject shown (form_of Isolate named) ws before after (Ok subject)) → (texts : List Text)
      → IsTopologyOf named ws texts subject.topology
      → (run : IsCompared j o subject.object subject.topology master (word 2 ws) inputs sink sink')
      → AreRead (text (word 1 ws) object_limit reads.prefix.bytes ∷ (texts ++ text (word 2 ws) script_limit run.script_bytes ∷ []))
      → IsIsolatedBy o d AreRead named ws sink sink'
  compared_done j named master inputs called reads texts over run read = record {
    object_bytes = reads.prefix.bytes;
    topology_texts = texts;
    script_bytes = run.script_bytes;
    object = subject.object;
    topology = subject.topology;
    events = run.events;
    master = master;
    members = run.members;
    read = read;
    reads = reads.says;
    over = over;
    means = run.means;
    master_named = (was_read (form_of Isolate named) ws reads.prefix reads.topology subject reads.is).master 3 refl ∙ called;
    reach = run.reach;
    text = run.text;
    listed = run.listed;
  }

  module _ (written : o.observable) (done : result ≡ exit.Done) where
    -- a script that is made was run
    made_of : (reads : ReadsSubject shown (form_of Make None) ws before after (Ok subject)) → AreRead [] → Summarizes o d subject.object subject.topology board is subject.lines sink sink' dev dev' result → IsMadeBy o d AreRead ws board is sink sink' dev dev'
    made_of reads read wrote =
        let known = was_read (form_of Make None) ws reads.prefix reads.topology subject reads.is in
        let n : ℕ = unwrap_or (lines_asked (word 1 ws)) 0 in
        let lines : lines_asked (word 1 ws) ≡ Some n = subst (λ (p : Prefix). lines_asked p.bytes ≡ Some (unwrap_or (lines_asked p.bytes) 0)) reads.read.0 (asked_lines (lines_asked reads.prefix.bytes) subject.object known.object) in
        let said : IsSummary d laboratory chip board is n dev dev' wrote.text = subst (λ (n : ℕ). IsSummary d laboratory chip board is n dev dev' wrote.text) known.lines
        (subst (λ (topology : Topology). IsSummary d laboratory topology board is subject.lines dev dev' wrote.text) (is_chip (form_of Make None) shown ws before after subject reads)
        (subst (λ (object : Object). IsSummary d object subject.topology board is subject.lines dev dev' wrote.text) reads.says wrote.made)) in
        record {
          n = n;
          events = said.events;
          answers = said.answers;
          read = read;
          asked = lines;
          means = said.means;
          text = (wrote_one o wrote.text sink sink' result wrote.reports done).appended written ∙ ap (λ (text : List ℕ). (o.state sink).bytes ++ text) said.said;
          drove = said.drove;
          tasks_left = said.tasks_left;
        }

    pub made_done : (reads : ReadsSubject shown (form_of Make None) ws before after (Ok subject)) → SubjectRead AreRead (form_of Make None) ws reads.prefix.bytes subject.topology → Makes o d subject.object subject.topology board is subject.lines sink sink' dev dev' result → IsMadeBy o d AreRead ws board is sink sink' dev dev'
    made_done reads read (inl starves) = absurd (never_starved o sink sink' result done starves.reports)
    made_done reads read (inr wrote) = made_of reads (subst AreRead read.over.0 read.read) wrote

    -- one piece was written
    pub wrote_done : (piece : Piece) (named : Option ℕ) → (reads : ReadsSubject shown (form_of (Write piece) named) ws before after (Ok subject)) → SubjectRead AreRead (form_of (Write piece) named) ws reads.prefix.bytes subject.topology
        → Writes o (IsPiece piece subject) sink sink' result → dev ≡ dev' → board ≡ is → WorkDoneBy o d AreRead (Write piece) named ws board is sink sink' dev dev'
    wrote_done piece named reads read (inl memory) same kept = absurd (never_starved o sink sink' result done memory)
    wrote_done piece named reads read (inr one) same kept = (
      piece_done o AreRead ws before after sink sink' named subject one.text shown ((wrote_one o one.text sink sink' result one.reports done).appended written) piece reads read.texts read.over read.read one.holds,
      (same, kept),
    )
