-- Each work did its job on the subject that was read, by what the calls of the inputs gave.
use Rattle.std.proofs.Common.{◌≡◌, ℕ, ◌⊎◌, List, [], ◌++◌, Option, Some, None, Result, Ok, Err, refl, sym, ◌∙◌, ap, subst, inl, inr}
use Rattle.std.specs.Prelude.{IfOk}
use Rattle.std.proofs.lemmas.List.{append-nil}
use Rattle.pm_base.specs.declared.errors.Exit.{Exit}
use Rattle.pm_base.specs.declared.names.NodeId.{NodeId}
use Rattle.pm_io.specs.declared.inputs.Inputs as Inputs
use Rattle.pm_io.specs.declared.sink.Sink as Sink
use Rattle.pm_io.specs.Calls.{Call}
use Rattle.pm_io.specs.Given.{prefix_called}
use Rattle.pm_io.specs.Inputs.{Moment}
use Rattle.pm_io.specs.Readings.{Meanwhile}
use Rattle.pm_io.specs.World.{world}
use Rattle.pm_io.proofs.ReadingsLemmas.{meanwhile_both, meanwhile_map}
use Rattle.pm_topology.specs.declared.topology.Topology.{Topology}
use Rattle.pm_reach.specs.Membership.{IsReach}
use Rattle.pm_block.specs.Block.{attached_by}
use Rattle.pm_state.specs.State.{objects_in}
use Rattle.pm_board.specs.Board.{Standing}
use Rattle.pm_device.specs.declared.device.Device as Device
use Rattle.pm_reader.specs.Shown.{giving, shown}
use Rattle.pm_script.specs.Named.{script_in}
use Rattle.pm_script.specs.Script.{Script, script_limit, script_of}
use Rattle.pm_trace.specs.declared.faults.Fault.{Fault}
use Rattle.pm_trace.specs.declared.faults.Fault.TheVariants.{Memory}
use Rattle.pm_trace.specs.Report.{Reports, refusal}
use Rattle.pm_trace.specs.Scripts.{IsScriptOf, script_or_fault}
use Rattle.pm_replay.specs.Replayed.{ReplayedGiven}
use Rattle.pm_isolate.specs.Compared.{ComparedGiven, Comparison, IsComparisonOf, script_of_job}
use Rattle.pm_top.specs.declared.works.Form.{Form}
use Rattle.pm_top.specs.declared.works.Piece.{Piece}
use Rattle.pm_top.specs.declared.works.Work.{Work}
use Rattle.pm_top.specs.declared.works.Work.TheVariants.{Replay, Isolate, Make, Write}
use Rattle.pm_top.specs.declared.reading.Subject.{Subject}
use Rattle.pm_top.specs.Asked.{script_word}
use Rattle.pm_top.specs.Called.{asked_given, topology_given}
use Rattle.pm_top.specs.Fit.{IsFitted}
use Rattle.pm_top.specs.Form.{IsPiece, form_of}
use Rattle.pm_top.specs.Words.{word}
use Rattle.pm_top.specs.Job.{IsFound, IsJobFor, Job}
use Rattle.pm_top.specs.Done.{Compares, Replays, ReplaysFitted, Worked}
use Rattle.pm_top.specs.Making.{Makes}
use Rattle.pm_top.specs.Ran.{RanGiven}
use Rattle.pm_top.specs.Within.{ReadsSubject, Writes}
use Rattle.pm_top.proofs.CalledLaw.{BothCalled, IsRefusedFor, job_refused, job_script, job_starved, job_whole, refused_called, script_of_calls, subject_called}
use Rattle.pm_top.proofs.CallsLaw.{AreOfScript, Starts, script_calls, script_starts}
use Rattle.pm_top.proofs.JobLemmas.{asked_with, job_by, whole_job}
use Rattle.pm_top.proofs.PieceLemmas.{unnumbered}
use Rattle.pm_top.proofs.RanLaw.{Asks, alone, compared_as, made_as, piece_as, refused_as, script_as}
use Rattle.pm_top.proofs.SubjectLemmas.{err_is, was_read}
use Rattle.pm_top.proofs.WorkLemmas.{none_found, object_is_number, of_lines, reach_found}

module _ {O D : Type 0} (o : Sink.Ghosts O) (d : Device.Ghosts D) (ws : List (List ℕ)) (board is : Standing) (sink sink' : O) (dev dev' : D) (result : Exit) (observable : Type 0) where
  abbrev Given : Form → List Call → Type 0
  Given f calls = RanGiven o d (Some f) ws board is calls sink sink' dev dev' result

  abbrev Gave : Form → List Call → Topology → Type 0
  Gave f calls topology = topology_given f calls ≡ Ok topology

  abbrev IsFor : Form → List Call → Result Job Fault → Type 0
  IsFor f calls = IsJobFor f (asked_given f ws calls)

  -- what was asked for was, however it was reported
  asks : (f : Form) (calls : List Call) (job : Result Job Fault) → IsFor f calls job → Asks o d ws board is sink sink' dev dev' result (Gave f calls) f (IsFor f calls) job
  asks f calls job asked = λ answers cut left ends. asked

  -- memory was wanted
  starved_given : (f : Form) (calls : List Call) → dev ≡ dev' → board ≡ is → Reports o (refusal Memory) sink sink' result → Given f calls
  starved_given f calls same kept reports =
      refused_as o d ws board is sink sink' dev dev' result (Gave f calls) f (IsFor f calls) Memory (asks f calls (Err Memory) (job_starved f (asked_given f ws calls))) same kept reports

  module _ (f : Form) (before after : Moment) where
    -- a form was refused
    pub refused_given : (fault : Fault) (Are : List Call → Type 0) → Meanwhile before after Are
        → ((◌≡◌ {A = Result Subject Fault} (Err fault) (Err Memory)) ⊎ ReadsSubject observable f ws before after (Err fault))
        → dev ≡ dev' → board ≡ is → Reports o (refusal fault) sink sink' result → Meanwhile before after (Given f)
    refused_given fault Are made (inl memory) same kept reports =
        meanwhile_map before after Are (Given f)
        (λ calls are. starved_given f calls same kept (subst (λ (fault : Fault). Reports o (refusal fault) sink sink' result) (err_is memory) reports)) made
    refused_given fault Are made (inr reads) same kept reports =
        meanwhile_map before after (IsRefusedFor f ws observable before after fault) (Given f)
        (λ calls refused. refused_as o d ws board is sink sink' dev dev' result (Gave f calls) f (IsFor f calls) fault (asks f calls (Err fault) (job_refused f ws observable before after fault calls reads refused)) same kept reports)
        (refused_called f ws observable before after fault reads)

  module _ (subject : Subject) (before after : Moment) where
    -- of calls that are those of the subject alone
    alone_given : (f : Form) → (reads : ReadsSubject observable f ws before after (Ok subject)) → ((one : List Call) → BothCalled f ws reads.prefix (Ok subject.topology) one → Given f (one ++ [])) → Meanwhile before after (Given f)
    alone_given f reads of =
        meanwhile_map before after (BothCalled f ws reads.prefix (Ok subject.topology)) (Given f)
        (λ one both. subst (Given f) (append-nil one) (of one both))
        (subject_called f ws observable before after subject reads)

    -- a work that writes one piece, and one that makes its script
    piece_given : (piece : Piece) (named : Option ℕ) → ReadsSubject observable (form_of (Write piece) named) ws before after (Ok subject) → Writes o (IsPiece piece subject) sink sink' result → dev ≡ dev' → board ≡ is → Meanwhile before after (Given (form_of (Write piece) named))
    piece_given piece named reads writes same kept =
        let f : Form = form_of (Write piece) named in
        alone_given f reads (λ one both.
        piece_as o d ws board is sink sink' dev dev' result (Gave f (one ++ [])) piece named subject (IsFor f (one ++ []))
        (was_read f ws reads.prefix reads.topology subject reads.is).named
        (asks f (one ++ []) (Err Memory) (job_starved f (asked_given f ws (one ++ []))))
        (λ members found. asks f (one ++ []) (Ok (whole_job subject members []))
        (job_whole f ws observable before after subject reads one [] both tt members [] refl found (λ number. absurd (unnumbered piece number))))
        writes same kept)

    made_given : ReadsSubject observable (form_of Make None) ws before after (Ok subject) → Makes o d subject.object subject.topology board is subject.lines sink sink' dev dev' result → Meanwhile before after (Given (form_of Make None))
    made_given reads did =
        let f : Form = form_of Make None in
        alone_given f reads (λ one both.
        made_as o d ws board is sink sink' dev dev' result (Gave f (one ++ [])) subject (IsFor f (one ++ []))
        (of_lines observable ws before after subject reads)
        (asks f (one ++ []) (Err Memory) (job_starved f (asked_given f ws (one ++ []))))
        (λ events found means. asks f (one ++ []) (Ok (whole_job subject [] events))
        (job_whole f ws observable before after subject reads one [] both tt [] events refl found (λ number. means)))
        did)

  module _ (subject : Subject) (before between after : Moment) where
    -- what was asked of a script is what its calls gave
    gave_script : (job : Result Script Fault) (two : List Call) → AreOfScript two → IsScriptOf shown (word 2 ws) (giving script_limit two between) after result job
        → (job ≡ Err Memory) ⊎ (job ≡ script_or_fault (script_of (prefix_called script_limit two)))
    gave_script job two of it = by (it.shown tt)
      where
        by : (job ≡ Err Memory) ⊎ (job ≡ script_or_fault (script_in (giving script_limit two between) (word 2 ws))) → (job ≡ Err Memory) ⊎ (job ≡ script_or_fault (script_of (prefix_called script_limit two)))
        by (inl memory) = inl memory
        by (inr is) = inr (is ∙ ap script_or_fault (script_of_calls (word 2 ws) two between of))

    -- a script was run
    script_given : (named : Option ℕ) (start : D) → (reads : ReadsSubject observable (form_of Replay named) ws before between (Ok subject)) → (one two : List Call)
        → BothCalled (form_of Replay named) ws reads.prefix (Ok subject.topology) one → IsFitted d named subject.topology dev start
        → ReplayedGiven o d subject.object subject.topology board is (word 2 ws) two (world between sink start) (world after sink' dev') result
        → Given (form_of Replay named) (one ++ two)
    script_given named start reads one two both fitted given =
        script_as o d ws board is sink sink' dev dev' result (Gave f (one ++ two)) named subject (IsFor f (one ++ two)) (IsScriptOf shown (word 2 ws) (giving script_limit two between) after result) start fitted
        (both.second two starts) asked (λ fault it. it.known) given.ran
      where
        f : Form
        f = form_of Replay named

        of : AreOfScript two
        of = script_calls result (word 2 ws) two given.reads

        starts : Starts two
        starts = script_starts two of

        asked : (job : Result Script Fault) → IsScriptOf shown (word 2 ws) (giving script_limit two between) after result job → IsFor f (one ++ two) (job_by subject (alone job))
        asked (Ok s) it =
            job_script f ws observable before between subject reads one two both starts 2 refl object_is_number (alone (Ok s)) (gave_script (Ok s) two of it) it.known
            (none_found observable f ws before between subject reads refl s)
        asked (Err fault) it =
            job_script f ws observable before between subject reads one two both starts 2 refl object_is_number (alone (Err fault)) (gave_script (Err fault) two of it) it.known tt

    -- two runs were compared
    compared_given : (place : Option ℕ) (master : NodeId) → subject.master ≡ Some master → (reads : ReadsSubject observable (form_of Isolate place) ws before between (Ok subject)) → (one two : List Call)
        → BothCalled (form_of Isolate place) ws reads.prefix (Ok subject.topology) one → dev ≡ dev' → board ≡ is
        → ComparedGiven o subject.object subject.topology master (word 2 ws) two between after sink sink' result
        → Given (form_of Isolate place) (one ++ two)
    compared_given place master named reads one two both same kept given =
        compared_as o d ws board is sink sink' dev dev' result (Gave f (one ++ two)) place subject master (IsFor f (one ++ two))
        (IsComparisonOf shown subject.object subject.topology master (word 2 ws) (giving script_limit two between) after result) named asked given.ran same kept
      where
        f : Form
        f = form_of Isolate place

        of : AreOfScript two
        of = script_calls result (word 2 ws) two given.reads

        starts : Starts two
        starts = script_starts two of

        reached : (job : Result Comparison Fault) → IfOk job (λ job. IsReach (objects_in subject.object (attached_by job.script.events)) subject.topology master job.members) → IfOk job (λ found. IsFound (asked_with subject found.script) found.members)
        reached (Ok found) reach = reach_found subject master found named reach
        reached (Err fault) none = tt

        asked : (job : Result Comparison Fault) → IsComparisonOf shown subject.object subject.topology master (word 2 ws) (giving script_limit two between) after result job → IsFor f (one ++ two) (job_by subject job)
        asked job it =
            job_script f ws observable before between subject reads one two both starts 2 refl object_is_number job (gave_script (script_of_job job) two of it.script) it.script.known (reached job it.reach)

module _ {I O D : Type 0} (i : Inputs.Ghosts I) (o : Sink.Ghosts O) (d : Device.Ghosts D) (ws : List (List ℕ)) (board is : Standing) (old mid new : I) (sink sink' : O) (dev dev' : D) (result : Exit) where
  abbrev Ran : Form → List Call → Type 0
  Ran f calls = RanGiven o d (Some f) ws board is calls sink sink' dev dev' result

  -- where the work read nothing
  still_made : (f : Form) → mid ≡ new → Meanwhile (i.state old) (i.state mid) (Ran f) → Meanwhile (i.state old) (i.state new) (Ran f)
  still_made f same made = subst (λ (end : I). Meanwhile (i.state old) (i.state end) (Ran f)) same made

  replayed_given : (named : Option ℕ) (subject : Subject) → ReadsSubject i.observable (form_of Replay named) ws (i.state old) (i.state mid) (Ok subject) → Replays i o d named subject.object subject.topology board is (word 2 ws) (world mid sink dev) (world new sink' dev') result → Meanwhile (i.state old) (i.state new) (Ran (form_of Replay named))
  replayed_given named subject reads (inl starves) =
      still_made (form_of Replay named) starves.inputs
      (meanwhile_map (i.state old) (i.state mid) (BothCalled (form_of Replay named) ws reads.prefix (Ok subject.topology)) (Ran (form_of Replay named))
      (λ calls both. starved_given o d ws board is sink sink' dev dev' result i.observable (form_of Replay named) calls starves.device starves.still starves.reports)
      (subject_called (form_of Replay named) ws i.observable (i.state old) (i.state mid) subject reads))
  replayed_given named subject reads (inr fits) =
      meanwhile_both (i.state old) (i.state mid) (i.state new) (BothCalled (form_of Replay named) ws reads.prefix (Ok subject.topology))
      (λ calls. ReplayedGiven o d subject.object subject.topology board is (word 2 ws) calls (world (i.state mid) sink fits.start) (world (i.state new) sink' dev') result)
      (Ran (form_of Replay named))
      (λ one two both given. script_given o d ws board is sink sink' dev dev' result i.observable subject (i.state old) (i.state mid) (i.state new) named fits.start reads one two both fits.fitted given)
      (subject_called (form_of Replay named) ws i.observable (i.state old) (i.state mid) subject reads) fits.given

  isolated_given : (place : Option ℕ) (subject : Subject) (master : NodeId) → subject.master ≡ Some master → ReadsSubject i.observable (form_of Isolate place) ws (i.state old) (i.state mid) (Ok subject) → Compares i o d subject.object subject.topology master board is (word 2 ws) (world mid sink dev) (world new sink' dev') result → Meanwhile (i.state old) (i.state new) (Ran (form_of Isolate place))
  isolated_given place subject master named reads did =
      meanwhile_both (i.state old) (i.state mid) (i.state new) (BothCalled (form_of Isolate place) ws reads.prefix (Ok subject.topology))
      (λ calls. ComparedGiven o subject.object subject.topology master (word 2 ws) calls (i.state mid) (i.state new) sink sink' result)
      (Ran (form_of Isolate place))
      (λ one two both given. compared_given o d ws board is sink sink' dev dev' result i.observable subject (i.state old) (i.state mid) (i.state new) place master named reads one two both did.device did.still given)
      (subject_called (form_of Isolate place) ws i.observable (i.state old) (i.state mid) subject reads) did.given

  pub worked_given : (work : Work) (named : Option ℕ) (subject : Subject) → ReadsSubject i.observable (form_of work named) ws (i.state old) (i.state mid) (Ok subject) → Worked i o d work named subject board is (script_word (form_of work named).script ws) (world mid sink dev) (world new sink' dev') result → Meanwhile (i.state old) (i.state new) (Ran (form_of work named))
  worked_given Replay named subject reads did = replayed_given named subject reads did
  worked_given Isolate named subject reads did = isolated_given named subject did.0 did.1 reads did.2
  worked_given Make named subject reads did =
      still_made (form_of Make None) did.1 (made_given o d ws board is sink sink' dev dev' result i.observable subject (i.state old) (i.state mid) reads did.0)
  worked_given (Write piece) named subject reads did =
      still_made (form_of (Write piece) named) did.inputs
      (piece_given o d ws board is sink sink' dev dev' result i.observable subject (i.state old) (i.state mid) piece named reads did.writes did.device did.still)
