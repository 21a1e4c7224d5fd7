-- What Done means of each work, of the texts that the inputs held.
use Rattle.std.proofs.Common.{◌≡◌, ℕ, List, [], ◌∷◌, ◌++◌, Option, Some, None, Ok, refl, subst, inl, inr}
use Rattle.std.specs.Prelude.{IsSomeAnd}
use Rattle.pm_base.specs.declared.errors.Exit.{Exit}
use Rattle.pm_base.specs.declared.errors.Exit.TheVariants as exit
use Rattle.pm_io.specs.declared.inputs.Inputs as Inputs
use Rattle.pm_io.specs.declared.sink.Sink as Sink
use Rattle.pm_io.specs.Inputs.{File, Holds, Moment, SameFiles}
use Rattle.pm_io.specs.World.{world}
use Rattle.pm_topology.specs.declared.topology.Topology.{Topology}
use Rattle.pm_board.specs.Board.{Standing}
use Rattle.pm_device.specs.declared.device.Device as Device
use Rattle.pm_script.specs.Script.{script_limit}
use Rattle.pm_top.specs.declared.works.Form.{Form}
use Rattle.pm_top.specs.declared.works.Source.{Source}
use Rattle.pm_top.specs.declared.works.Source.TheVariants as source
use Rattle.pm_top.specs.declared.works.Work.{Work}
use Rattle.pm_top.specs.declared.works.Work.TheVariants.{Replay, Isolate, Make, Write}
use Rattle.pm_top.specs.declared.reading.Subject.{Subject}
use Rattle.pm_top.specs.Asked.{script_word, topology_limit}
use Rattle.pm_top.specs.Done.{Replays, WorkDone, Worked}
use Rattle.pm_top.specs.Fit.{HoldsTopology}
use Rattle.pm_top.specs.Form.{form_of}
use Rattle.pm_top.specs.Given.{HoldsEach, IsTopologyOf, Text, object_texts, text}
use Rattle.pm_top.specs.Theorem.{IsReplayed}
use Rattle.pm_top.specs.Within.{ReadsSubject}
use Rattle.pm_top.specs.Words.{word}
use Rattle.pm_top.proofs.DoneLaw.{SubjectRead, compared_done, made_done, never_starved, replayed_done, wrote_done}
use Rattle.pm_top.proofs.SubjectLemmas.{subject_files, topology_held}
use Rattle.pm_top.proofs.WritingLemmas.{object_held, text_held}

each_held : (m : Moment) (first second : List Text) → HoldsEach m first → HoldsEach m second → HoldsEach m (first ++ second)
each_held m [] second one two = two
each_held m (it ∷ first) second one two = (one.0, each_held m first second one.1 two)

-- the text of a topology
record TopologyHeld (m : Moment) (place : Option ℕ) (ws : List (List ℕ)) (t : Topology) : Type 0 where
  pub texts : List Text
  pub over : IsTopologyOf place ws texts t
  pub held : HoldsEach m texts

texts_held : (m : Moment) (place : Option ℕ) (ws : List (List ℕ)) (t : Topology) → HoldsTopology place ws m t → TopologyHeld m place ws t
texts_held m None ws t is = record { texts = []; over = (refl, is); held = tt }
texts_held m (Some k) ws t held = record { texts = text (word k ws) topology_limit held.0 ∷ []; over = (held.0, refl, held.2); held = (held.1, tt) }

second_held : (before after : Moment) (name bytes : List ℕ) → SameFiles before after → Holds after name bytes → Holds before name bytes
second_held before after name bytes files held = subst (λ (shown : Option File). IsSomeAnd shown (λ file. file.bytes ≡ bytes)) (files name) held

module _ {I O D : Type 0} (i : Inputs.Ghosts I) (o : Sink.Ghosts O) (d : Device.Ghosts D) (ws : List (List ℕ)) (board is : Standing) (old mid new : I) (sink sink' : O) (dev dev' : D) (result : Exit) (seen : i.observable) (written : o.observable) (done : result ≡ exit.Done) (subject : Subject) where
  abbrev Reads : Form → Type 0
  Reads f = ReadsSubject i.observable f ws (i.state old) (i.state mid) (Ok subject)

  -- the texts of a subject
  first_held : (f : Form) (reads : Reads f) (s : Source) → f.source ≡ s → HoldsEach (i.state old) (object_texts s (word 1 ws) reads.prefix.bytes)
  first_held f reads source.Object from = (object_held i.observable f ws (i.state old) (i.state mid) subject reads from seen, tt)
  first_held f reads source.Text from = (text_held i.observable f ws (i.state old) (i.state mid) subject reads from seen, tt)
  first_held f reads source.Number from = tt
  first_held f reads source.Nothing from = tt

  subject_held : (f : Form) (reads : Reads f) → SubjectRead (HoldsEach (i.state old)) f ws reads.prefix.bytes subject.topology
  subject_held f reads =
      let it = texts_held (i.state old) f.topology ws subject.topology (topology_held f i.observable ws (i.state old) (i.state mid) subject reads seen) in
      record {
        texts = it.texts;
        over = it.over;
        read = each_held (i.state old) (object_texts f.source (word 1 ws) reads.prefix.bytes) it.texts (first_held f reads f.source refl) it.held;
      }

  -- and of a script that was held after it
  script_held : (f : Form) (reads : Reads f) (texts : List Text) (bytes : List ℕ) → HoldsEach (i.state old) (object_texts f.source (word 1 ws) reads.prefix.bytes ++ texts) → Holds (i.state mid) (word 2 ws) bytes
      → HoldsEach (i.state old) ((object_texts f.source (word 1 ws) reads.prefix.bytes ++ texts) ++ text (word 2 ws) script_limit bytes ∷ [])
  script_held f reads texts bytes first held =
      each_held (i.state old) (object_texts f.source (word 1 ws) reads.prefix.bytes ++ texts) (text (word 2 ws) script_limit bytes ∷ []) first
      (second_held (i.state old) (i.state mid) (word 2 ws) bytes (subject_files f i.observable ws (i.state old) (i.state mid) subject reads seen) held, tt)

  replay_held : (named : Option ℕ) → Reads (form_of Replay named) → Replays i o d named subject.object subject.topology board is (word 2 ws) (world mid sink dev) (world new sink' dev') result → IsReplayed i o d named ws board is (world old sink dev) (world new sink' dev')
  replay_held named reads (inl starves) = absurd (never_starved o sink sink' result done starves.reports)
  replay_held named reads (inr fits) =
      let run = fits.done seen written done in
      let read = subject_held (form_of Replay named) reads in
      replayed_done o d (HoldsEach (i.state old)) ws board is (i.state old) (i.state mid) sink sink' dev dev' result i.observable subject i named fits.start mid new reads read.texts read.over fits.fitted run
      (script_held (form_of Replay named) reads read.texts run.script_bytes read.read run.held)

  pub worked_done : (work : Work) (named : Option ℕ) → Reads (form_of work named) → Worked i o d work named subject board is (script_word (form_of work named).script ws) (world mid sink dev) (world new sink' dev') result → WorkDone i o d work named ws board is (world old sink dev) (world new sink' dev')
  worked_done Replay named reads did = replay_held named reads did
  worked_done Isolate named reads did =
      let run = did.2.done seen written done in
      let read = subject_held (form_of Isolate named) reads in (
        compared_done o d (HoldsEach (i.state old)) ws board is (i.state old) (i.state mid) sink sink' dev dev' result i.observable subject i named did.0 mid did.1 reads read.texts read.over run
            (script_held (form_of Isolate named) reads read.texts run.script_bytes read.read run.held),
        (did.2.device, did.2.still),
      )
  worked_done Make named reads did =
      made_done o d (HoldsEach (i.state old)) ws board is (i.state old) (i.state mid) sink sink' dev dev' result i.observable subject written done reads (subject_held (form_of Make None) reads) did.0
  worked_done (Write piece) named reads did =
      wrote_done o d (HoldsEach (i.state old)) ws board is (i.state old) (i.state mid) sink sink' dev dev' result i.observable subject written done piece named reads
      (subject_held (form_of (Write piece) named) reads) did.writes did.device did.still
