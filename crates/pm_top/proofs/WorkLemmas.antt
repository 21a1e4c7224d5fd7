-- Each work did its job on the subject that was read: by what the inputs showed.
use Rattle.std.proofs.Common.{◌≡◌, ℕ, ◌⊎◌, false, List, [], Option, Some, None, Result, Ok, Err, refl, sym, ◌∙◌, subst, inl, inr}
use Rattle.std.specs.Prelude.{IfSome, is_some}
use Rattle.pm_base.specs.declared.errors.Exit.{Exit}
use Rattle.pm_io.specs.declared.inputs.Inputs as Inputs
use Rattle.pm_base.specs.declared.names.NodeId.{NodeId}
use Rattle.pm_io.specs.declared.sink.Sink as Sink
use Rattle.pm_io.specs.Inputs.{Moment}
use Rattle.pm_io.specs.World.{world}
use Rattle.pm_topology.specs.declared.topology.Topology.{Topology}
use Rattle.pm_reach.specs.Membership.{IsReach}
use Rattle.pm_block.specs.Block.{attached_by}
use Rattle.pm_state.specs.State.{objects_in}
use Rattle.pm_board.specs.Board.{Standing}
use Rattle.pm_device.specs.declared.device.Device as Device
use Rattle.pm_script.specs.Script.{Script}
use Rattle.pm_trace.specs.declared.faults.Fault.{Fault}
use Rattle.pm_trace.specs.declared.faults.Fault.TheVariants.{Memory}
use Rattle.pm_trace.specs.Report.{Reports, refusal}
use Rattle.pm_trace.specs.Scripts.{IsScriptOf}
use Rattle.pm_isolate.specs.Compared.{Comparison, IsComparisonOf}
use Rattle.pm_top.specs.declared.works.Form.{Form}
use Rattle.pm_top.specs.declared.works.Piece.{Piece}
use Rattle.pm_top.specs.declared.works.Work.{Work}
use Rattle.pm_top.specs.declared.works.Work.TheVariants.{Replay, Isolate, Make, Write}
use Rattle.pm_top.specs.declared.works.Source.TheVariants as source
use Rattle.pm_top.specs.declared.reading.Subject.{Subject}
use Rattle.pm_top.specs.Asked.{script_word}
use Rattle.pm_top.specs.Form.{IsPiece, form_of}
use Rattle.pm_top.specs.Words.{word}
use Rattle.pm_top.specs.Job.{IsAsked, IsFound, Job}
use Rattle.pm_top.specs.Done.{Compares, Replays, Worked}
use Rattle.pm_top.specs.Making.{Makes}
use Rattle.pm_top.specs.Ran.{IsShown, RanForm}
use Rattle.pm_top.specs.Within.{ReadsSubject, Writes}
use Rattle.pm_top.proofs.JobLemmas.{asked_refused, asked_script, asked_whole, asked_with, job_by, starved, whole_job}
use Rattle.pm_top.proofs.PieceLemmas.{unnumbered}
use Rattle.pm_top.proofs.RanLaw.{Asks, IsOfLines, alone, compared_as, made_as, piece_as, refused_as, script_as}
use Rattle.pm_top.proofs.SubjectLemmas.{is_chip, topology_held, unnamed, was_read}
use Rattle.pm_top.proofs.Unread.{IsAskedFor, by_exit}

pub object_is_number : source.Object ≡ source.Number → ⊥
object_is_number e = cc

module _ (shown : Type 0) (f : Form) (ws : List (List ℕ)) (old mid : Moment) (subject : Subject) (reads : ReadsSubject shown f ws old mid (Ok subject)) where
  -- a form without a master has no reach
  pub none_found : is_some f.node ≡ false → (s : Script) → IsFound (asked_with subject s) []
  none_found none s = unnamed (λ master. IsReach (objects_in subject.object (attached_by s.events)) subject.topology master []) subject.master ((was_read f ws reads.prefix reads.topology subject reads.is).named ∙ none)

-- the reach of a comparison is that of the master of its subject
pub reach_found : (subject : Subject) (master : NodeId) (found : Comparison) → subject.master ≡ Some master → IsReach (objects_in subject.object (attached_by found.script.events)) subject.topology master found.members → IsFound (asked_with subject found.script) found.members
reach_found subject master found named reach =
    subst (λ (named : Option NodeId). IfSome named (λ master. IsReach (objects_in subject.object (attached_by found.script.events)) subject.topology master found.members)) (sym named) reach

pub of_lines : (shown : Type 0) (ws : List (List ℕ)) (old mid : Moment) (subject : Subject) → ReadsSubject shown (form_of Make None) ws old mid (Ok subject) → IsOfLines ws subject
of_lines shown ws old mid subject reads =
    let was = was_read (form_of Make None) ws reads.prefix reads.topology subject reads.is in
    record { object = reads.says; topology = is_chip (form_of Make None) shown ws old mid subject reads; lines = was.lines; named = was.named }

module _ {I O D : Type 0} (i : Inputs.Ghosts I) (o : Sink.Ghosts O) (d : Device.Ghosts D) (ws : List (List ℕ)) (board is : Standing) (old new : I) (sink sink' : O) (dev dev' : D) (result : Exit) where
  abbrev Named : Form → Topology → Type 0
  Named f = IsShown i o d f ws (world old sink dev)

  -- a job that was asked for was, if it was reported so
  asks : (f : Form) (job : Result Job Fault) → IsAskedFor i f ws old new job → Asks o d ws board is sink sink' dev dev' result (Named f) f (IsAsked i f ws old new result) job
  asks f job asked = λ answers cut left ends. by_exit i o board f ws old new sink sink' result job answers cut asked left ends

  pub subject_refused : (f : Form) (fault : Fault) → ((◌≡◌ {A = Result Subject Fault} (Err fault) (Err Memory)) ⊎ ReadsSubject i.observable f ws (i.state old) (i.state new) (Err fault)) → dev ≡ dev' → board ≡ is → Reports o (refusal fault) sink sink' result → RanForm i o d (Some f) ws board is (world old sink dev) (world new sink' dev') result
  subject_refused f fault reads same kept reports =
      refused_as o d ws board is sink sink' dev dev' result (Named f) f (IsAsked i f ws old new result) fault (asks f (Err fault) (asked_refused i f ws old new fault reads)) same kept reports

  -- memory was wanted
  starved_ran : (f : Form) → dev ≡ dev' → board ≡ is → Reports o (refusal Memory) sink sink' result → RanForm i o d (Some f) ws board is (world old sink dev) (world new sink' dev') result
  starved_ran f same kept reports =
      refused_as o d ws board is sink sink' dev dev' result (Named f) f (IsAsked i f ws old new result) Memory (asks f (Err Memory) (starved i f ws old new)) same kept reports

  -- a work that writes one piece, and one that makes its script: nothing was read after the subject
  module _ (subject : Subject) where
    piece_ran : (piece : Piece) (named : Option ℕ) → ReadsSubject i.observable (form_of (Write piece) named) ws (i.state old) (i.state new) (Ok subject) → Writes o (IsPiece piece subject) sink sink' result → dev ≡ dev' → board ≡ is → RanForm i o d (Some (form_of (Write piece) named)) ws board is (world old sink dev) (world new sink' dev') result
    piece_ran piece named reads writes same kept =
        let f : Form = form_of (Write piece) named in
        piece_as o d ws board is sink sink' dev dev' result (Named f) piece named subject (IsAsked i f ws old new result)
        (was_read f ws reads.prefix reads.topology subject reads.is).named
        (asks f (Err Memory) (starved i f ws old new))
        (λ members found. asks f (Ok (whole_job subject members [])) (asked_whole i f ws old new subject members [] refl reads found (λ number. absurd (unnumbered piece number))))
        writes same kept

    made_ran : ReadsSubject i.observable (form_of Make None) ws (i.state old) (i.state new) (Ok subject) → Makes o d subject.object subject.topology board is subject.lines sink sink' dev dev' result → RanForm i o d (Some (form_of Make None)) ws board is (world old sink dev) (world new sink' dev') result
    made_ran reads did =
        let f : Form = form_of Make None in
        made_as o d ws board is sink sink' dev dev' result (Named f) subject (IsAsked i f ws old new result)
        (of_lines i.observable ws (i.state old) (i.state new) subject reads)
        (asks f (Err Memory) (starved i f ws old new))
        (λ events found means. asks f (Ok (whole_job subject [] events)) (asked_whole i f ws old new subject [] events refl reads found (λ number. means)))
        did

module _ {I O D : Type 0} (i : Inputs.Ghosts I) (o : Sink.Ghosts O) (d : Device.Ghosts D) (ws : List (List ℕ)) (board is : Standing) (old mid new : I) (sink sink' : O) (dev dev' : D) (result : Exit) where
  script_ran : (named : Option ℕ) (subject : Subject) → ReadsSubject i.observable (form_of Replay named) ws (i.state old) (i.state mid) (Ok subject) → Replays i o d named subject.object subject.topology board is (word 2 ws) (world mid sink dev) (world new sink' dev') result → RanForm i o d (Some (form_of Replay named)) ws board is (world old sink dev) (world new sink' dev') result
  script_ran named subject reads (inl starves) = starved_ran i o d ws board is old new sink sink' dev dev' result (form_of Replay named) starves.device starves.still starves.reports
  script_ran named subject reads (inr did) =
      script_as o d ws board is sink sink' dev dev' result (IsShown i o d f ws (world old sink dev)) named subject (IsAsked i f ws old new result) (IsScriptOf i (word 2 ws) mid new result) did.start did.fitted
      (topology_held f i.observable ws (i.state old) (i.state mid) subject reads) asked (λ fault asked. asked.known) did.ran
    where
      f : Form
      f = form_of Replay named

      asked : (job : Result Script Fault) → IsScriptOf i (word 2 ws) mid new result job → IsAsked i f ws old new result (job_by subject (alone job))
      asked (Ok s) it = asked_script i f ws 2 refl object_is_number old mid new result subject (alone (Ok s)) reads it (none_found i.observable f ws (i.state old) (i.state mid) subject reads refl s)
      asked (Err fault) it = asked_script i f ws 2 refl object_is_number old mid new result subject (alone (Err fault)) reads it tt

  compared_ran : (place : Option ℕ) (subject : Subject) (master : NodeId) → subject.master ≡ Some master → ReadsSubject i.observable (form_of Isolate place) ws (i.state old) (i.state mid) (Ok subject) → Compares i o d subject.object subject.topology master board is (word 2 ws) (world mid sink dev) (world new sink' dev') result → RanForm i o d (Some (form_of Isolate place)) ws board is (world old sink dev) (world new sink' dev') result
  compared_ran place subject master named reads did =
      compared_as o d ws board is sink sink' dev dev' result (IsShown i o d f ws (world old sink dev)) place subject master (IsAsked i f ws old new result) (IsComparisonOf i subject.object subject.topology master (word 2 ws) mid new result) named asked did.ran did.device did.still
    where
      f : Form
      f = form_of Isolate place

      asked : (job : Result Comparison Fault) → IsComparisonOf i subject.object subject.topology master (word 2 ws) mid new result job → IsAsked i f ws old new result (job_by subject job)
      asked (Ok found) it = asked_script i f ws 2 refl object_is_number old mid new result subject (Ok found) reads it.script (reach_found subject master found named it.reach)
      asked (Err fault) it = asked_script i f ws 2 refl object_is_number old mid new result subject (Err fault) reads it.script tt

  -- where the work read nothing
  still_read : (f : Form) (subject : Subject) → mid ≡ new → ReadsSubject i.observable f ws (i.state old) (i.state mid) (Ok subject) → ReadsSubject i.observable f ws (i.state old) (i.state new) (Ok subject)
  still_read f subject same reads = subst (λ (end : I). ReadsSubject i.observable f ws (i.state old) (i.state end) (Ok subject)) same reads

  pub worked_ran : (work : Work) (named : Option ℕ) (subject : Subject) → ReadsSubject i.observable (form_of work named) ws (i.state old) (i.state mid) (Ok subject) → Worked i o d work named subject board is (script_word (form_of work named).script ws) (world mid sink dev) (world new sink' dev') result → RanForm i o d (Some (form_of work named)) ws board is (world old sink dev) (world new sink' dev') result
  worked_ran Replay named subject reads did = script_ran named subject reads did
  worked_ran Isolate named subject reads did = compared_ran named subject did.0 did.1 reads did.2
  worked_ran Make named subject reads did = made_ran i o d ws board is old new sink sink' dev dev' result subject (still_read (form_of Make None) subject did.1 reads) did.0
  worked_ran (Write piece) named subject reads did =
      piece_ran i o d ws board is old new sink sink' dev dev' result subject piece named (still_read (form_of (Write piece) named) subject did.inputs reads) did.writes did.device did.still
