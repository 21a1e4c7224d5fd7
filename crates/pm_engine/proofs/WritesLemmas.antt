-- A text that is written piece by piece is written whole, as far as the sink takes it.
use Rattle.std.proofs.Common.{◌≡◌, ℕ, List, [], ◌∷◌, ◌++◌, Option, Some, Result, Ok, Err, refl, sym, ◌∙◌, ap, subst}
use Rattle.std.specs.Prelude.{⊤, OnErr, OnOk}
use Rattle.std.proofs.lemmas.Grind.{flat_map-append}
use Rattle.std.proofs.lemmas.List.{append_assoc}
use Rattle.pm_base.specs.declared.errors.Failed.{Failed}
use Rattle.pm_io.specs.declared.sink.Sink as Sink
use Rattle.pm_io.specs.Sink.{Wrote}
use Rattle.pm_io.specs.Writing.{BreaksIn}
use Rattle.pm_io.proofs.SinkLemmas.{Wrote-refl, Wrote-trans}
use Rattle.pm_split.specs.Split.{Note}
use Rattle.pm_trace.specs.Notes.{note_line, notes_text}
use Rattle.pm_engine.specs.Writes.{Writes, WritesOn}

module _ {O : Type 0} (o : Sink.Ghosts O) where
  -- a piece was written, by the result
  pub wrote_by : (piece : List ℕ) (old new : O) (result : Result ⊤ Failed) → OnOk result (Wrote o.observable piece (o.state old) (o.state new)) → OnErr result (BreaksIn o 0 (piece ∷ []) old new) → Writes o piece old new result
  wrote_by piece old new (Ok nothing) written short = written
  wrote_by piece old new (Err error) written short = short

  -- nothing more was written
  pub on-none : (so_far : Result ⊤ Failed) (old : O) → WritesOn o [] so_far so_far old old
  on-none (Ok nothing) old = Wrote-refl o.observable (o.state old)
  on-none (Err error) old = (refl, refl)

  -- the sink broke off within the first of two texts
  breaks-first : (a b : List ℕ) (old new : O) → BreaksIn o 0 (a ∷ []) old new → BreaksIn o 0 ((a ++ b) ∷ []) old new
  breaks-first a b old new breaks =
      let whole : breaks.part ++ breaks.lost ≡ a = sym breaks.split ∙ first breaks.piece breaks.is in
      record {
        piece = a ++ b;
        part = breaks.part;
        lost = breaks.lost ++ b;
        before = breaks.before;
        is = refl;
        split = ap (λ (text : List ℕ). text ++ b) (sym whole) ∙ append_assoc breaks.part breaks.lost b;
        short = longer breaks.lost b breaks.short;
        wrote = breaks.wrote;
        failed = breaks.failed;
        ended = breaks.ended;
      }
    where
      first : (piece : List ℕ) → ◌≡◌ {A = Option (List ℕ)} (Some a) (Some piece) → piece ≡ a
      first piece e = cc

      longer : (lost more : List ℕ) → (lost ≡ [] → ⊥) → lost ++ more ≡ [] → ⊥
      longer [] more some e = some refl
      longer (x ∷ lost) more some e = cc

  -- or within the second of them
  BreaksIn-second : (a b : List ℕ) (old via new : O) → Wrote o.observable a (o.state old) (o.state via) → BreaksIn o 0 (b ∷ []) via new → BreaksIn o 0 ((a ++ b) ∷ []) old new
  BreaksIn-second a b old via new first breaks =
      let whole : breaks.part ++ breaks.lost ≡ b = sym breaks.split ∙ second breaks.piece breaks.is in
      record {
        piece = a ++ b;
        part = a ++ breaks.part;
        lost = breaks.lost;
        before = breaks.before;
        is = refl;
        split = ap (λ (text : List ℕ). a ++ text) (sym whole) ∙ sym (append_assoc a breaks.part breaks.lost);
        short = breaks.short;
        wrote = Wrote-trans o.observable a breaks.part (o.state old) (o.state via) (o.state breaks.before) first breaks.wrote;
        failed = breaks.failed;
        ended = breaks.ended;
      }
    where
      second : (piece : List ℕ) → ◌≡◌ {A = Option (List ℕ)} (Some b) (Some piece) → piece ≡ b
      second piece e = cc

  -- one text after another
  pub on-both : (a b : List ℕ) (s f r : Result ⊤ Failed) (old via new : O) → WritesOn o a s f old via → WritesOn o b f r via new → WritesOn o (a ++ b) s r old new
  on-both a b (Ok n) (Ok m) (Ok k) old via new first second = Wrote-trans o.observable a b (o.state old) (o.state via) (o.state new) first second
  on-both a b (Ok n) (Ok m) (Err e) old via new first second = BreaksIn-second a b old via new first second
  on-both a b (Ok n) (Err e) r old via new first second = subst (λ (r : Result ⊤ Failed). WritesOn o (a ++ b) (Ok n) r old new) (sym second.0) (subst (λ (new : O). BreaksIn o 0 ((a ++ b) ∷ []) old new) second.1 (breaks-first a b old via first))
  on-both a b (Err e) f r old via new first second = after f first.0 second
    where
      after : (f : Result ⊤ Failed) → f ≡ Err e → WritesOn o b f r via new → (r ≡ Err e) × (old ≡ new)
      after (Ok m) is second = cc
      after (Err other) is second = (second.0 ∙ is, first.1 ∙ second.1)

-- the notes of two lists, one after another
pub notes_after : (n : ℕ) (a b : List Note) → notes_text n (a ++ b) ≡ notes_text n a ++ notes_text n b
notes_after n a b = flat_map-append (note_line n) a b
