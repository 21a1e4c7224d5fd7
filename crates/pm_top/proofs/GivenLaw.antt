-- What was read of the names is what the calls gave, one name after another.
use Rattle.std.proofs.Common.{◌≡◌, ℕ, List, [], ◌∷◌, ◌++◌, Option, Some, None, Ok, inl, inr, refl, sym, ◌∙◌, ap, subst, append_assoc}
use Rattle.std.specs.Prelude.{IsSomeAnd}
use Rattle.std.proofs.lemmas.List.{append-nil}
use Rattle.pm_base.specs.declared.errors.Exit.{Exit}
use Rattle.pm_base.specs.declared.errors.Exit.TheVariants as exit
use Rattle.pm_base.specs.declared.names.NodeId.{NodeId}
use Rattle.pm_io.specs.declared.inputs.Inputs as Inputs
use Rattle.pm_io.specs.declared.prefix.StopReason.{StopReason}
use Rattle.pm_io.specs.declared.prefix.StopReason.TheVariants.{End}
use Rattle.pm_io.specs.declared.sink.Sink as Sink
use Rattle.pm_io.specs.Calls.{Call, named}
use Rattle.pm_io.specs.Given.{NameGiven, prefix_called}
use Rattle.pm_io.specs.Inputs.{Moment}
use Rattle.pm_io.specs.Prefix.{Prefix}
use Rattle.pm_io.specs.Readings.{Meanwhile, NameReadBy}
use Rattle.pm_io.specs.World.{world}
use Rattle.pm_io.proofs.GivenLemmas.{meanwhile_same}
use Rattle.pm_io.proofs.ReadingsLemmas.{meanwhile_both, meanwhile_map, meanwhile_none}
use Rattle.pm_topology.specs.declared.topology.Topology.{Topology}
use Rattle.pm_topofile.specs.Meaning.{meaning}
use Rattle.pm_device.specs.declared.device.Device as Device
use Rattle.pm_board.specs.Board.{Standing}
use Rattle.pm_reader.specs.Shown.{file_by, giving, shown}
use Rattle.pm_script.specs.Script.{script_limit}
use Rattle.pm_trace.specs.Scripts.{ReadsScript, script_named}
use Rattle.pm_replay.specs.Replayed.{ReplayedGiven}
use Rattle.pm_isolate.specs.Compared.{ComparedGiven}
use Rattle.pm_top.specs.declared.works.Form.{Form}
use Rattle.pm_top.specs.declared.works.Source.{Source}
use Rattle.pm_top.specs.declared.works.Source.TheVariants as source
use Rattle.pm_top.specs.declared.works.Work.{Work}
use Rattle.pm_top.specs.declared.works.Work.TheVariants.{Replay, Isolate, Make, Write}
use Rattle.pm_top.specs.declared.reading.Subject.{Subject}
use Rattle.pm_top.specs.Asked.{Says, object_by, object_limit, script_word, text_limit, topology_limit}
use Rattle.pm_top.specs.Done.{Compares, Replays, WorkDoneBy, Worked}
use Rattle.pm_top.specs.Form.{form_of}
use Rattle.pm_top.specs.Given.{Gave, GaveEach, IsTopologyOf, Text, object_texts, text}
use Rattle.pm_top.specs.Within.{GivenFor, GivenOf, ReadsSubject, ReadsTopology, Takes}
use Rattle.pm_top.specs.Words.{word}
use Rattle.pm_top.proofs.CallsLaw.{whole_of_one}
use Rattle.pm_top.proofs.DoneLaw.{SubjectRead, compared_done, made_done, never_starved, replayed_done, wrote_done}
use Rattle.pm_top.proofs.SubjectLemmas.{topology_read, was_read}
use Rattle.pm_top.proofs.TakingLemmas.{ok_is, topology_end, topology_ok}
use Rattle.pm_top.proofs.WritingLemmas.{object_end, text_end}

-- ---- one name

gave_read : (name : List ℕ) (limit : ℕ) (before after : Moment) (prefix : Prefix) → GivenOf name limit before after prefix → prefix.stop ≡ End → Meanwhile before after (Gave (text name limit prefix.bytes))
gave_read name limit before after prefix of end =
    meanwhile_map before after (λ calls. NameReadBy prefix.stop (named name limit) calls × NameGiven limit prefix calls) (Gave (text name limit prefix.bytes))
    (λ calls both. record {
      reads = whole_of_one (named name limit) calls (subst (λ (stop : StopReason). NameReadBy stop (named name limit) calls) end both.0);
      is = sym both.1 ∙ ap (λ (stop : StopReason). record { bytes = prefix.bytes; stop = stop }) end;
    })
    (meanwhile_same before after (NameReadBy prefix.stop (named name limit)) (NameGiven limit prefix) of.calls of.given)

-- ---- one after another

one_gave : (it : Text) (calls : List Call) → Gave it calls → GaveEach calls (it ∷ [])
one_gave it calls gave = (calls, [], sym (append-nil calls), gave, refl)

each_gave : (first second : List Text) (one two : List Call) → GaveEach one first → GaveEach two second → GaveEach (one ++ two) (first ++ second)
each_gave [] second one two a b = subst (λ (calls : List Call). GaveEach (calls ++ two) second) (sym a) b
each_gave (it ∷ first) second one two a b =
    (a.0, a.1 ++ two, ap (λ (calls : List Call). calls ++ two) a.2 ∙ append_assoc a.0 a.1 two, a.3, each_gave first second a.1 two a.4 b)

-- ---- the topology

pub record GaveTopology (named : Option ℕ) (ws : List (List ℕ)) (t : Topology) (before after : Moment) : Type 0 where
  pub texts : List Text
  pub over : IsTopologyOf named ws texts t
  pub gave : Meanwhile before after (λ calls. GaveEach calls texts)

topology_gave : (observable : Type 0) (ws : List (List ℕ)) (before after : Moment) (named : Option ℕ) (t : Topology) → ReadsTopology observable named ws before after (Ok t) → GaveTopology named ws t before after
topology_gave observable ws before after None t read = record {
  texts = [];
  over = (refl, ok_is read.0);
  gave = subst (λ (m : Moment). Meanwhile before m (λ calls. GaveEach calls [])) read.1 (meanwhile_none before (λ calls. GaveEach calls []) refl);
}
topology_gave observable ws before after (Some k) t read =
    let it : Text = text (word k ws) topology_limit read.prefix.bytes in
    record {
      texts = it ∷ [];
      over = (read.prefix.bytes, refl, topology_ok read.prefix.stop (meaning read.prefix.bytes) t read.is);
      gave = meanwhile_map before after (Gave it) (λ calls. GaveEach calls (it ∷ [])) (one_gave it)
          (gave_read (word k ws) topology_limit before after read.prefix read.given (topology_end read.prefix t read.read.size read.is));
    }

-- ---- the script

script_is : (prefix : Prefix) (bytes : List ℕ) → prefix.stop ≡ End → IsSomeAnd (file_by prefix.stop prefix.bytes) (λ file. file.bytes ≡ bytes) → prefix ≡ record { bytes = bytes; stop = End }
script_is prefix bytes end held =
    let same : prefix.bytes ≡ bytes = subst (λ (stop : StopReason). IsSomeAnd (file_by stop prefix.bytes) (λ file. file.bytes ≡ bytes)) end held in
    ap (λ (stop : StopReason). record { bytes = prefix.bytes; stop = stop }) end ∙ ap (λ (bytes : List ℕ). record { bytes = bytes; stop = End }) same

-- a script that was read whole
script_gave : (name : List ℕ) (calls : List Call) (bytes : List ℕ) (due : Exit) → due ≡ exit.Done → ReadsScript due (script_named name) calls → (prefix_called script_limit calls).stop ≡ End
    → IsSomeAnd (file_by (prefix_called script_limit calls).stop (prefix_called script_limit calls).bytes) (λ file. file.bytes ≡ bytes) → Gave (text name script_limit bytes) calls
script_gave name calls bytes due done reads whole held = record {
  reads = whole_of_one (script_named name) calls (subst (λ (due : Exit). ReadsScript due (script_named name) calls) done reads);
  is = script_is (prefix_called script_limit calls) bytes whole held;
}

-- ---- a subject

module _ (observable : Type 0) (f : Form) (ws : List (List ℕ)) (before after : Moment) (subject : Subject) (reads : ReadsSubject observable f ws before after (Ok subject)) where
  -- what is known of its first word
  record FirstRead (s : Source) : Type 0 where
    pub took : Takes s observable (word 1 ws) before reads.between reads.prefix
    pub given : GivenFor s (word 1 ws) before reads.between reads.prefix
    pub is : object_by s reads.prefix ≡ Ok subject.object
    pub says : Says s reads.prefix.bytes subject.object

  first_gave : (s : Source) → FirstRead s → Meanwhile before reads.between (λ calls. GaveEach calls (object_texts s (word 1 ws) reads.prefix.bytes))
  first_gave source.Object it =
      let t : Text = text (word 1 ws) object_limit reads.prefix.bytes in
      meanwhile_map before reads.between (Gave t) (λ calls. GaveEach calls (t ∷ [])) (one_gave t)
      (gave_read (word 1 ws) object_limit before reads.between reads.prefix it.given (object_end reads.prefix subject.object it.took.size it.is))
  first_gave source.Text it =
      let t : Text = text (word 1 ws) text_limit reads.prefix.bytes in
      meanwhile_map before reads.between (Gave t) (λ calls. GaveEach calls (t ∷ [])) (one_gave t)
      (gave_read (word 1 ws) text_limit before reads.between reads.prefix it.given (text_end reads.prefix subject.object it.took.size it.says it.is))
  first_gave source.Number it = subst (λ (m : Moment). Meanwhile before m (λ calls. GaveEach calls [])) it.took.1 (meanwhile_none before (λ calls. GaveEach calls []) refl)
  first_gave source.Nothing it = subst (λ (m : Moment). Meanwhile before m (λ calls. GaveEach calls [])) it.took.1 (meanwhile_none before (λ calls. GaveEach calls []) refl)

  -- the texts of its names
  pub subject_gave : Meanwhile before after (λ calls. SubjectRead (GaveEach calls) f ws reads.prefix.bytes subject.topology)
  subject_gave =
      let first : FirstRead f.source = record { took = reads.read; given = reads.given; is = (was_read f ws reads.prefix reads.topology subject reads.is).object; says = reads.says } in
      let topology = topology_gave observable ws reads.between after f.topology subject.topology (topology_read f observable ws before after subject reads) in
      meanwhile_both before reads.between after (λ calls. GaveEach calls (object_texts f.source (word 1 ws) reads.prefix.bytes)) (λ calls. GaveEach calls topology.texts)
      (λ calls. SubjectRead (GaveEach calls) f ws reads.prefix.bytes subject.topology)
      (λ one two gave later. record { texts = topology.texts; over = topology.over; read = each_gave (object_texts f.source (word 1 ws) reads.prefix.bytes) topology.texts one two gave later })
      (first_gave f.source first) topology.gave

-- ---- each work

module _ {I O D : Type 0} (i : Inputs.Ghosts I) (o : Sink.Ghosts O) (d : Device.Ghosts D) (ws : List (List ℕ)) (board is : Standing) (old mid new : I) (sink sink' : O) (dev dev' : D) (result : Exit) (written : o.observable) (done : result ≡ exit.Done) (subject : Subject) where
  abbrev Reads : Form → Type 0
  Reads f = ReadsSubject i.observable f ws (i.state old) (i.state mid) (Ok subject)

  abbrev Done : Work → Option ℕ → List Call → Type 0
  Done work named calls = WorkDoneBy o d (GaveEach calls) work named ws board is sink sink' dev dev'

  abbrev SubjectGave : (f : Form) → Reads f → List Call → Type 0
  SubjectGave f reads calls = SubjectRead (GaveEach calls) f ws reads.prefix.bytes subject.topology

  -- the texts of a subject, and of a script behind it
  with_script : (f : Form) (reads : Reads f) (texts : List Text) (bytes : List ℕ) (one two : List Call) → GaveEach one (object_texts f.source (word 1 ws) reads.prefix.bytes ++ texts) → Gave (text (word 2 ws) script_limit bytes) two
      → GaveEach (one ++ two) ((object_texts f.source (word 1 ws) reads.prefix.bytes ++ texts) ++ text (word 2 ws) script_limit bytes ∷ [])
  with_script f reads texts bytes one two first gave =
      let it : Text = text (word 2 ws) script_limit bytes in
      each_gave (object_texts f.source (word 1 ws) reads.prefix.bytes ++ texts) (it ∷ []) one two first (one_gave it two gave)

  replay_gave : (named : Option ℕ) → Reads (form_of Replay named) → Replays i o d named subject.object subject.topology board is (word 2 ws) (world mid sink dev) (world new sink' dev') result → Meanwhile (i.state old) (i.state new) (Done Replay named)
  replay_gave named reads (inl starves) = absurd (never_starved o sink sink' result done starves.reports)
  replay_gave named reads (inr fits) =
      meanwhile_both (i.state old) (i.state mid) (i.state new) (SubjectGave (form_of Replay named) reads)
      (λ calls. ReplayedGiven o d subject.object subject.topology board is (word 2 ws) calls (world (i.state mid) sink fits.start) (world (i.state new) sink' dev') result)
      (Done Replay named)
      (λ one two read both.
      let run = both.done written done in
      replayed_done o d (GaveEach (one ++ two)) ws board is (i.state old) (i.state mid) sink sink' dev dev' result i.observable subject shown named fits.start (giving script_limit two (i.state mid)) (i.state new) reads read.texts read.over fits.fitted run
      (with_script (form_of Replay named) reads read.texts run.script_bytes one two read.read (script_gave (word 2 ws) two run.script_bytes result done both.reads (both.whole done) run.held)))
      (subject_gave i.observable (form_of Replay named) ws (i.state old) (i.state mid) subject reads) fits.given

  isolate_gave : (named : Option ℕ) (master : NodeId) → subject.master ≡ Some master → Reads (form_of Isolate named) → Compares i o d subject.object subject.topology master board is (word 2 ws) (world mid sink dev) (world new sink' dev') result → Meanwhile (i.state old) (i.state new) (Done Isolate named)
  isolate_gave named master called reads did =
      meanwhile_both (i.state old) (i.state mid) (i.state new) (SubjectGave (form_of Isolate named) reads)
      (λ calls. ComparedGiven o subject.object subject.topology master (word 2 ws) calls (i.state mid) (i.state new) sink sink' result)
      (Done Isolate named)
      (λ one two read both.
      let run = both.done written done in (
        compared_done o d (GaveEach (one ++ two)) ws board is (i.state old) (i.state mid) sink sink' dev dev' result i.observable subject shown named master (giving script_limit two (i.state mid)) called reads read.texts read.over run
            (with_script (form_of Isolate named) reads read.texts run.script_bytes one two read.read (script_gave (word 2 ws) two run.script_bytes result done both.reads (both.whole done) run.held)),
        (did.device, did.still),
      ))
      (subject_gave i.observable (form_of Isolate named) ws (i.state old) (i.state mid) subject reads) did.given

  -- where the work read nothing
  still_gave : (f : Form) (Then : List Call → Type 0) → (reads : Reads f) → mid ≡ new → ((calls : List Call) → SubjectGave f reads calls → Then calls) → Meanwhile (i.state old) (i.state new) Then
  still_gave f Then reads same step =
      subst (λ (end : I). Meanwhile (i.state old) (i.state end) Then) same
      (meanwhile_map (i.state old) (i.state mid) (SubjectGave f reads) Then step (subject_gave i.observable f ws (i.state old) (i.state mid) subject reads))

  pub worked_gave : (work : Work) (named : Option ℕ) → Reads (form_of work named) → Worked i o d work named subject board is (script_word (form_of work named).script ws) (world mid sink dev) (world new sink' dev') result → Meanwhile (i.state old) (i.state new) (Done work named)
  worked_gave Replay named reads did = replay_gave named reads did
  worked_gave Isolate named reads did = isolate_gave named did.0 did.1 reads did.2
  worked_gave Make named reads did =
      still_gave (form_of Make None) (Done Make named) reads did.1
      (λ calls read. made_done o d (GaveEach calls) ws board is (i.state old) (i.state mid) sink sink' dev dev' result i.observable subject written done reads read did.0)
  worked_gave (Write piece) named reads did =
      still_gave (form_of (Write piece) named) (Done (Write piece) named) reads did.inputs
      (λ calls read. wrote_done o d (GaveEach calls) ws board is (i.state old) (i.state mid) sink sink' dev dev' result i.observable subject written done piece named reads read did.writes did.device did.still)
