-- What was written to a sink is what its writer took, if that is the same.
use Rattle.std.proofs.Common.{◌≡◌, ℕ, List, [], ◌++◌, Option, Some, None, sym, ◌∙◌, ap}
use Rattle.pm_io.specs.declared.sink.Sink as Sink
use Rattle.pm_board.specs.Board.{Standing}
use Rattle.pm_device.specs.declared.device.Device as Device
use Rattle.pm_top.specs.declared.works.Piece.{Piece}
use Rattle.pm_top.specs.declared.works.Piece.TheVariants.{Reach, ObjectText, ObjectBytes, TopologyText}
use Rattle.pm_top.specs.declared.works.Request.{Request}
use Rattle.pm_top.specs.declared.works.Work.{Work}
use Rattle.pm_top.specs.declared.works.Work.TheVariants.{Replay, Isolate, Make, Write}
use Rattle.pm_top.specs.Done.{DoneBy, IsIsolatedBy, IsMadeBy, WorkDoneBy}
use Rattle.pm_top.specs.Form.{PieceDoneBy}
use Rattle.pm_top.specs.Given.{Text}
use Rattle.pm_top.specs.Headline.{Headline}
use Rattle.pm_top.specs.Theorem.{IsReplayedBy}
use Rattle.pm_cli.specs.Replayed.{taken}

module _ {O D : Type 0} (o : Sink.Ghosts O) (d : Device.Ghosts D) (AreRead : List Text → Type 0) (named : Option ℕ) (ws : List (List ℕ)) (board : Standing) (sink sink' : O) (device device' : D) (bytes : List ℕ)
    (empty : (o.state sink).bytes ≡ []) (all : (o.state sink').bytes ≡ bytes) where
  pub text_taken : (text : List ℕ) → (o.state sink').bytes ≡ (o.state sink).bytes ++ text → bytes ≡ text
  text_taken text is = sym all ∙ is ∙ ap (λ (front : List ℕ). front ++ text) empty

  abbrev pub taken_headline : Headline o d AreRead named ws board sink sink' device device' → Headline taken d AreRead named ws board [] bytes device device'
  taken_headline h = record {
    object_bytes = h.object_bytes;
    topology_texts = h.topology_texts;
    script_bytes = h.script_bytes;
    object = h.object;
    topology = h.topology;
    events = h.events;
    start = h.start;
    read = h.read;
    reads = h.reads;
    over = h.over;
    means = h.means;
    formed = h.formed;
    fitted = h.fitted;
    holds = record {
      answers = h.holds.answers;
      drove = h.holds.drove;
      unfailing = λ none. let u = h.holds.unfailing none in record {
        text = text_taken _ u.text;
        lines = u.lines;
        follows = u.follows;
        apart = u.apart;
      };
      text = text_taken _ h.holds.text;
      causes = h.holds.causes;
      told = h.holds.told;
      apart = h.holds.apart;
    };
  }

  taken_replayed : (is : Standing) → IsReplayedBy o d AreRead named ws board is sink sink' device device' → IsReplayedBy taken d AreRead named ws board is [] bytes device device'
  taken_replayed is r = record {
    object_bytes = r.object_bytes;
    topology_texts = r.topology_texts;
    script_bytes = r.script_bytes;
    object = r.object;
    topology = r.topology;
    events = r.events;
    answers = r.answers;
    start = r.start;
    read = r.read;
    reads = r.reads;
    over = r.over;
    means = r.means;
    formed = r.formed;
    text = text_taken _ r.text;
    fitted = r.fitted;
    drove = r.drove;
    tasks_left = r.tasks_left;
  }

  taken_isolated : IsIsolatedBy o d AreRead named ws sink sink' → IsIsolatedBy taken d AreRead named ws [] bytes
  taken_isolated r = record {
    object_bytes = r.object_bytes;
    topology_texts = r.topology_texts;
    script_bytes = r.script_bytes;
    object = r.object;
    topology = r.topology;
    events = r.events;
    master = r.master;
    members = r.members;
    read = r.read;
    reads = r.reads;
    over = r.over;
    means = r.means;
    master_named = r.master_named;
    reach = r.reach;
    text = text_taken _ r.text;
    listed = r.listed;
  }

  taken_made : (is : Standing) → IsMadeBy o d AreRead ws board is sink sink' device device' → IsMadeBy taken d AreRead ws board is [] bytes device device'
  taken_made is r = record {
    n = r.n;
    events = r.events;
    answers = r.answers;
    read = r.read;
    asked = r.asked;
    means = r.means;
    text = text_taken _ r.text;
    drove = r.drove;
    tasks_left = r.tasks_left;
  }

  taken_piece : (piece : Piece) → PieceDoneBy o AreRead piece named ws sink sink' → PieceDoneBy taken AreRead piece named ws [] bytes
  taken_piece Reach r = record {
    bytes = r.bytes;
    topology_texts = r.topology_texts;
    object = r.object;
    topology = r.topology;
    master = r.master;
    members = r.members;
    read = r.read;
    reads = r.reads;
    over = r.over;
    master_named = r.master_named;
    reach = r.reach;
    text = text_taken _ r.text;
  }
  taken_piece ObjectText r = record {
    bytes = r.bytes;
    topology_texts = r.topology_texts;
    object = r.object;
    topology = r.topology;
    read = r.read;
    reads = r.reads;
    over = r.over;
    text = text_taken _ r.text;
  }
  taken_piece ObjectBytes r = record { bytes = r.bytes; object = r.object; read = r.read; says = r.says; text = text_taken _ r.text; reads = r.reads }
  taken_piece TopologyText r = record { read = r.read; text = text_taken _ r.text; means = r.means }

  -- what each work did
  pub taken_work : (is : Standing) (work : Work) → WorkDoneBy o d AreRead work named ws board is sink sink' device device' → WorkDoneBy taken d AreRead work named ws board is [] bytes device device'
  taken_work is Replay did = taken_replayed is did
  taken_work is Isolate did = (taken_isolated did.0, did.1)
  taken_work is Make did = taken_made is did
  taken_work is (Write piece) did = (taken_piece piece did.0, did.1)

-- and what the words asked for
pub taken_done : {O D : Type 0} (o : Sink.Ghosts O) (d : Device.Ghosts D) (AreRead : List Text → Type 0) (request : Option Request) (ws : List (List ℕ)) (board is : Standing) (sink sink' : O) (device device' : D) (bytes : List ℕ)
    → (o.state sink).bytes ≡ [] → (o.state sink').bytes ≡ bytes → DoneBy o d AreRead request ws board is sink sink' device device' → DoneBy taken d AreRead request ws board is [] bytes device device'
taken_done o d AreRead None ws board is sink sink' device device' bytes empty all did = absurd did
taken_done o d AreRead (Some request) ws board is sink sink' device device' bytes empty all did =
    taken_work o d AreRead request.topology ws board sink sink' device device' bytes empty all is request.work did
