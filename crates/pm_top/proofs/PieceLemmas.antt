-- Each piece that a form writes: it is the text of its job, and what Done means of it.
use Rattle.std.proofs.Common.{◌≡◌, ℕ, false, List, [], ◌∷◌, ◌++◌, Option, Ok, refl, sym, ◌∙◌, ap, subst}
use Rattle.std.specs.Prelude.{IfSome, is_some}
use Rattle.pm_base.specs.declared.names.NodeId.{NodeId}
use Rattle.pm_io.specs.declared.sink.Sink as Sink
use Rattle.pm_io.specs.Inputs.{Moment}
use Rattle.pm_object.specs.Grammar.{Reads, little_endian, words_of}
use Rattle.pm_objtext.specs.Printing.{text_of}
use Rattle.pm_reach.specs.declared.members.Member.{Member}
use Rattle.pm_reach.specs.Membership.{IsReach}
use Rattle.pm_topofile.specs.Meaning.{meaning}
use Rattle.pm_topofile.specs.Printing.{text_of as table_of}
use Rattle.pm_chip.specs.Chip.{chip}
use Rattle.pm_topology.specs.declared.topology.Topology.{Topology}
use Rattle.pm_trace.specs.Reach.{reach_text}
use Rattle.pm_top.specs.declared.reading.Subject.{Subject}
use Rattle.pm_top.specs.declared.works.Form.{Form}
use Rattle.pm_top.specs.declared.works.Piece.{Piece}
use Rattle.pm_top.specs.declared.works.Piece.TheVariants.{Reach, ObjectText, ObjectBytes, TopologyText}
use Rattle.pm_top.specs.declared.works.Source.TheVariants as source
use Rattle.pm_top.specs.declared.works.Work.TheVariants.{Write}
use Rattle.pm_top.specs.Form.{IsPiece, PieceDoneBy, form_of, piece_node, piece_source, piece_text}
use Rattle.pm_top.specs.Given.{IsTopologyOf, Text, object_texts}
use Rattle.pm_top.specs.Within.{ReadsSubject}
use Rattle.pm_top.specs.Words.{word}
use Rattle.pm_top.proofs.SubjectLemmas.{is_chip, unnamed, was_read}

-- no piece is read from a number of lines
pub unnumbered : (piece : Piece) → piece_source piece ≡ source.Number → ⊥
unnumbered Reach e = cc
unnumbered ObjectText e = cc
unnumbered ObjectBytes e = cc
unnumbered TopologyText e = cc

-- ---- it is the text of its job

pub record IsTextOf (piece : Piece) (subject : Subject) (text : List ℕ) : Type 0 where
  pub members : List Member
  pub found : IfSome subject.master (λ master. IsReach (subject.object ∷ []) subject.topology master members)
  pub is : text ≡ piece_text piece subject members

-- no master is named
alone : (piece : Piece) (subject : Subject) (text : List ℕ) → is_some subject.master ≡ false → text ≡ piece_text piece subject [] → IsTextOf piece subject text
alone piece subject text named is = record {
  members = [];
  found = unnamed (λ master. IsReach (subject.object ∷ []) subject.topology master []) subject.master named;
  is = is;
}

pub text_of_job : (piece : Piece) (subject : Subject) (text : List ℕ) → is_some subject.master ≡ is_some (piece_node piece) → IsPiece piece subject text → IsTextOf piece subject text
text_of_job Reach subject text named made = record {
  members = made.2.members;
  found = subst (λ (named : Option NodeId). IfSome named (λ master. IsReach (subject.object ∷ []) subject.topology master made.2.members)) (sym made.1) made.2.reach;
  is = made.2.is;
}
text_of_job ObjectText subject text named made = alone ObjectText subject text named made
text_of_job ObjectBytes subject text named made = alone ObjectBytes subject text named made.spelling
text_of_job TopologyText subject text named made = alone TopologyText subject text named made.is

-- ---- what Done means

module _ {O : Type 0} (o : Sink.Ghosts O) (AreRead : List Text → Type 0) (ws : List (List ℕ)) (before after : Moment) (sink sink' : O) (named : Option ℕ) (subject : Subject) (text : List ℕ) (shown : Type 0) (appended : (o.state sink').bytes ≡ (o.state sink).bytes ++ text) where
  -- the same where the text is spelled so
  spelled : (other : List ℕ) → text ≡ other → (o.state sink').bytes ≡ (o.state sink).bytes ++ other
  spelled other same = appended ∙ ap (λ (text : List ℕ). (o.state sink).bytes ++ text) same

  pub piece_done : (piece : Piece) → (reads : ReadsSubject shown (form_of (Write piece) named) ws before after (Ok subject)) → (texts : List Text)
      → IsTopologyOf (form_of (Write piece) named).topology ws texts subject.topology → AreRead (object_texts (piece_source piece) (word 1 ws) reads.prefix.bytes ++ texts)
      → IsPiece piece subject text → PieceDoneBy o AreRead piece named ws sink sink'
  piece_done Reach reads texts over read made = record {
    bytes = reads.prefix.bytes;
    topology_texts = texts;
    object = subject.object;
    topology = subject.topology;
    master = made.0;
    members = made.2.members;
    read = read;
    reads = reads.says;
    over = over;
    master_named = (was_read (form_of (Write Reach) named) ws reads.prefix reads.topology subject reads.is).master 2 refl ∙ made.1;
    reach = made.2.reach;
    text = spelled (reach_text made.2.members) made.2.is;
  }
  piece_done ObjectText reads texts over read made = record {
    bytes = reads.prefix.bytes;
    topology_texts = texts;
    object = subject.object;
    topology = subject.topology;
    read = read;
    reads = reads.says;
    over = over;
    text = spelled (text_of subject.object) made;
  }
  piece_done ObjectBytes reads texts over read made = record {
    bytes = reads.prefix.bytes;
    object = subject.object;
    read = subst (λ (texts : List Text). AreRead (object_texts source.Text (word 1 ws) reads.prefix.bytes ++ texts)) over.0 read;
    says = reads.says;
    text = spelled (little_endian (words_of subject.object)) made.spelling;
    reads = subst (λ (bytes : List ℕ). Reads bytes subject.object) made.spelling made;
  }
  piece_done TopologyText reads texts over read made =
      let chips : subject.topology ≡ chip = is_chip (form_of (Write TopologyText) named) shown ws before after subject reads in
      let same : text ≡ table_of chip = made.is ∙ ap table_of chips in
      record {
        read = subst AreRead over.0 read;
        text = spelled (table_of chip) same;
        means = sym (ap meaning same) ∙ made.means ∙ ap (λ (t : Topology). Ok t) chips;
      }
