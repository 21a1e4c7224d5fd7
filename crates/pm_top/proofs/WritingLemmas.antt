-- A text of one piece, and what was read to its end.
use Rattle.std.proofs.Common.{◌≡◌, ℕ, ◌<◌, ◌≤◌, Bool, true, nat_lt, List, [], ◌∷◌, length, Option, Some, None, Result, Ok, Err, if◌then◌else◌, refl, sym, ◌∙◌, ap, subst, arith}
use Rattle.std.proofs.lemmas.Bool.{lt-ltb}
use Rattle.std.proofs.lemmas.List.{append-nil}
use Rattle.std.proofs.lemmas.Option.{slice_get_within}
use Rattle.pm_base.specs.declared.errors.Exit.{Exit}
use Rattle.pm_base.specs.declared.errors.Exit.TheVariants as exit
use Rattle.pm_io.specs.declared.prefix.StopReason.{StopReason}
use Rattle.pm_io.specs.declared.prefix.StopReason.TheVariants as reason
use Rattle.pm_io.specs.declared.sink.Sink as Sink
use Rattle.pm_io.specs.Inputs.{Holds, Moment}
use Rattle.pm_io.specs.Prefix.{HasSize, Prefix}
use Rattle.pm_io.specs.Sink.{Wrote}
use Rattle.pm_io.specs.Writing.{BreaksIn, Leaves}
use Rattle.pm_io.proofs.PrefixEnds.{prefix_whole}
use Rattle.pm_object.specs.declared.object.Object.{Object}
use Rattle.pm_object.specs.declared.object.ObjectFault.{ObjectFault}
use Rattle.pm_object.specs.Reading.{reading}
use Rattle.pm_objtext.specs.Building.{building}
use Rattle.pm_objtext.specs.Meaning.{Means}
use Rattle.pm_trace.specs.Report.{Reports, exit_of}
use Rattle.pm_top.specs.declared.reading.Subject.{Subject}
use Rattle.pm_top.specs.declared.works.Form.{Form}
use Rattle.pm_top.specs.declared.works.Source.{Source}
use Rattle.pm_top.specs.declared.works.Source.TheVariants as source
use Rattle.pm_top.specs.Asked.{Says, built_of, if_read, object_by, object_limit, object_of, object_or_fault, text_limit, text_or_fault}
use Rattle.pm_top.specs.Within.{ReadsSubject, Takes, one_piece}
use Rattle.pm_top.specs.Words.{word}
use Rattle.pm_top.proofs.SubjectLemmas.{err_is_ok, was_read}

-- ---- an object that says something was read to its end

object_ok : (read : Result Object ObjectFault) (o : Object) → object_or_fault read ≡ Ok o → (p : Object) × (read ≡ Ok p)
object_ok (Ok p) o is = (p, refl)
object_ok (Err error) o is = absurd (err_is_ok is)

too_long : (bytes : List ℕ) (o : Object) → 16384 < length bytes → reading bytes ≡ Ok o → ⊥
unfolding reading
too_long bytes o long is = let test : nat_lt 16384 (length bytes) ≡ true = lt-ltb 16384 (length bytes) long in err_is_ok (rw test at is)

pub object_end : (p : Prefix) (o : Object) → HasSize object_limit p.stop (length p.bytes) → object_of p ≡ Ok o → p.stop ≡ reason.End
object_end p o size is = by p.stop size is
  where
    by : (stop : StopReason) → HasSize object_limit stop (length p.bytes) → if_read stop (object_or_fault (reading p.bytes)) ≡ Ok o → stop ≡ reason.End
    by reason.End size is = refl
    by reason.Limit size is = let read = object_ok (reading p.bytes) o is in absurd (too_long p.bytes read.0 (omega arith) read.1)
    by reason.Failure size is = absurd (err_is_ok is)
    by reason.Unbegun size is = absurd (err_is_ok is)

pub text_end : (p : Prefix) (o : Object) → HasSize text_limit p.stop (length p.bytes) → Means p.bytes o → built_of p ≡ Ok o → p.stop ≡ reason.End
text_end p o size means is = by p.stop size is
  where
    by : (stop : StopReason) → HasSize text_limit stop (length p.bytes) → if_read stop (text_or_fault (building p.bytes)) ≡ Ok o → stop ≡ reason.End
    by reason.End size is = refl
    by reason.Limit size is = let short : length p.bytes ≤ 1048576 = means.short in absurd (omega arith)
    by reason.Failure size is = absurd (err_is_ok is)
    by reason.Unbegun size is = absurd (err_is_ok is)

-- ---- so it was held whole

module _ (shown : Type 0) (f : Form) (ws : List (List ℕ)) (before after : Moment) (subject : Subject) (reads : ReadsSubject shown f ws before after (Ok subject)) where
  of_source : (s : Source) → f.source ≡ s → object_by s reads.prefix ≡ Ok subject.object
  of_source s from = subst (λ (s : Source). object_by s reads.prefix ≡ Ok subject.object) from (was_read f ws reads.prefix reads.topology subject reads.is).object

  taken : (s : Source) → f.source ≡ s → Takes s shown (word 1 ws) before reads.between reads.prefix
  taken s from = subst (λ (s : Source). Takes s shown (word 1 ws) before reads.between reads.prefix) from reads.read

  pub object_held : f.source ≡ source.Object → shown → Holds before (word 1 ws) reads.prefix.bytes
  object_held from seen =
      let took : Takes source.Object shown (word 1 ws) before reads.between reads.prefix = taken source.Object from in
      prefix_whole object_limit (before.file (word 1 ws)) before.room reads.prefix (took.is seen)
      (object_end reads.prefix subject.object took.size (of_source source.Object from))

  pub text_held : f.source ≡ source.Text → shown → Holds before (word 1 ws) reads.prefix.bytes
  text_held from seen =
      let took : Takes source.Text shown (word 1 ws) before reads.between reads.prefix = taken source.Text from in
      let says : Means reads.prefix.bytes subject.object = subst (λ (s : Source). Says s reads.prefix.bytes subject.object) from reads.says in
      prefix_whole text_limit (before.file (word 1 ws)) before.room reads.prefix (took.is seen)
      (text_end reads.prefix subject.object took.size says (of_source source.Text from))

-- ---- one piece

module _ {O : Type 0} (o : Sink.Ghosts O) (text : List ℕ) (old new : O) where
  -- the sink broke off within the piece
  pub one_broken : BreaksIn o 0 (text ∷ []) old new → Reports o (one_piece text) old new exit.WriteFault
  one_broken breaks = record { cut = Some 0; left = breaks; ends = refl }

  pub wrote_one : (result : Exit) → Reports o (one_piece text) old new result → result ≡ exit.Done → Wrote o.observable text (o.state old) (o.state new)
  wrote_one result reports is = by reports.cut reports.left reports.ends
    where
      first : (k : ℕ) → k < 1 → nat_lt k 1 ≡ true
      first k within = lt-ltb k 1 within

      by : (cut : Option ℕ) → Leaves o (text ∷ []) cut old new → result ≡ exit_of (one_piece text) cut → Wrote o.observable text (o.state old) (o.state new)
      by None left ends = subst (λ (bytes : List ℕ). Wrote o.observable bytes (o.state old) (o.state new)) (append-nil text) left
      by (Some k) left ends =
          let broke : result ≡ exit.WriteFault = ends ∙ ap (λ (b : Bool). if b then exit.WriteFault else exit.Done) (first k (slice_get_within (text ∷ []) k left.piece left.is)) in
          let clash : exit.Done ≡ exit.WriteFault = sym is ∙ broke in cc
