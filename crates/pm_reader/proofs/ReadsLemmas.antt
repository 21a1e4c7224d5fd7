-- How a reading of an input comes on by the calls of a reader.
use Rattle.std.proofs.Common.{◌≡◌, ◌<◌, ◌≤◌, ◌+◌, ◌-◌, ◌==◌, ℕ, Bool, true, false, IsTrue, List, [], ◌∷◌, length, Some, None, refl, sym, ◌∙◌, ap, subst, arith, inl, inr}
use Rattle.std.proofs.lemmas.Bool.Decides.{nat_tests}
use Rattle.pm_io.specs.Calls.{Comes, GoesOn, GoesUpTo, Read}
use Rattle.pm_io.specs.Inputs.{Adds, Moment}
use Rattle.pm_io.specs.Readings.{LeftReadBy, Meanwhile}
use Rattle.pm_io.specs.declared.prefix.StopReason.TheVariants as reason
use Rattle.pm_io.proofs.ReadingsLemmas.{comes_both, comes_ended, comes_start, comes_then_fault, comes_to_fault, comes_took, comes_up_to, comes_whole}
use Rattle.pm_script.specs.Script.{script_limit}
use Rattle.pm_reader.specs.declared.reader.Taken.{Taken}
use Rattle.pm_reader.specs.declared.reader.Taken.TheVariants.{Line, End, Long, Over, Fault}
use Rattle.pm_reader.specs.Reader.{ComesOn, Gives, HasRead, Held, NeedsMore}

-- ---- one read

pub more_reads : (id credit count : ℕ) (before after : Moment) (got : List ℕ) → Adds (Read id (Some got)) before after → length got ≡ count → count ≤ credit → 0 < credit → Meanwhile before after (Comes id credit false (credit - count) (count == 0))
more_reads id credit count before after [] adds size few some =
    let none : count ≡ 0 = omega (arith, size) in
    let left : credit ≡ credit - count = omega (arith, none) in
    let over : true ≡ (count == 0) = grind (arith, nat_tests) in
    let ended : Meanwhile before after (Comes id credit false credit true) = comes_ended id credit credit false before before after (comes_start id credit false before) adds some in
    subst (λ (e : Bool). Meanwhile before after (Comes id credit false (credit - count) e)) over
    (subst (λ (n : ℕ). Meanwhile before after (Comes id credit false n true)) left ended)
more_reads id credit count before after (x ∷ xs) adds size few some =
    let several : 0 < count = omega (arith, size) in
    let left : (credit - count) + length (x ∷ xs) ≡ credit = omega (arith, size, few) in
    let on : false ≡ (count == 0) = grind (arith, nat_tests) in
    subst (λ (e : Bool). Meanwhile before after (Comes id credit false (credit - count) e)) on
    (comes_took id credit credit (credit - count) false (x ∷ xs) before before after (comes_start id credit false before) adds (omega arith) left)

-- ---- one answer

-- an answer leaves what may still be read, and whether the end was seen
same_bounds : (held new : Held) (answer : Taken) (line : List ℕ) → Gives held answer line new → (new.credit ≡ held.credit) × (new.ended ≡ held.ended)
same_bounds held new Line line (inl gave) = (gave.credit, gave.ended)
same_bounds held new Line line (inr gave) = (ap (λ (h : Held). h.credit) gave.new_is, ap (λ (h : Held). h.ended) gave.new_is)
same_bounds held new End line gives = (ap (λ (h : Held). h.credit) gives.3, ap (λ (h : Held). h.ended) gives.3)
same_bounds held new Long line gives = (ap (λ (h : Held). h.credit) gives.2, ap (λ (h : Held). h.ended) gives.2)
same_bounds held new Over line gives = (ap (λ (h : Held). h.credit) gives.2, ap (λ (h : Held). h.ended) gives.2)
same_bounds held new Fault line gives = (ap (λ (h : Held). h.credit) gives.3, ap (λ (h : Held). h.ended) gives.3)

moved : (id : ℕ) (old held new : Held) (before after : Moment) → (new.credit ≡ held.credit) × (new.ended ≡ held.ended) → Meanwhile before after (ComesOn id old held) → Meanwhile before after (ComesOn id old new)
moved id old held new before after same reads =
    subst (λ (e : Bool). Meanwhile before after (Comes id old.credit old.ended new.credit e)) (sym same.1)
    (subst (λ (n : ℕ). Meanwhile before after (Comes id old.credit old.ended n held.ended)) (sym same.0) reads)

pub gave_reads : (id : ℕ) (old held new : Held) (answer : Taken) (line : List ℕ) (before after : Moment) → (answer ≡ Fault → ⊥) → Gives held answer line new → Meanwhile before after (ComesOn id old held) → Meanwhile before after (HasRead answer id old new)
gave_reads id old held new Line line before after calm gives reads = moved id old held new before after (same_bounds held new Line line gives) reads
gave_reads id old held new End line before after calm gives reads = moved id old held new before after (same_bounds held new End line gives) reads
gave_reads id old held new Long line before after calm gives reads = moved id old held new before after (same_bounds held new Long line gives) reads
gave_reads id old held new Over line before after calm gives reads = moved id old held new before after (same_bounds held new Over line gives) reads
gave_reads id old held new Fault line before after calm gives reads = absurd (calm refl)

-- more was read where what was held decided nothing
pub then_more : (id : ℕ) (old held asked new : Held) (before mid after : Moment) → NeedsMore held asked → Meanwhile before mid (ComesOn id old held) → Meanwhile mid after (ComesOn id asked new) → Meanwhile before after (ComesOn id old new)
then_more id old held asked new before mid after needs reads more =
    comes_both id old.credit asked.credit new.credit old.ended asked.ended new.ended before mid after
    (subst (λ (h : Held). Meanwhile before mid (ComesOn id old h)) (sym needs.same) reads) more

-- the read of more failed
pub then_fault : (id : ℕ) (old held asked new : Held) (before mid after : Moment) → NeedsMore held asked → Meanwhile before mid (ComesOn id old held) → Adds (Read id None) mid after → Meanwhile before after (HasRead Fault id old new)
then_fault id old held asked new before mid after needs reads adds =
    comes_to_fault id old.credit held.credit old.ended before mid after
    (subst (λ (e : Bool). Meanwhile before mid (Comes id old.credit old.ended held.credit e)) needs.ended reads) adds needs.credit

-- ---- all lines

pub lines_start : (id : ℕ) (held : Held) (m : Moment) → held ≡ record { bytes = []; credit = script_limit + 1; ended = false } → Meanwhile m m (Comes id (script_limit + 1) false held.credit held.ended)
lines_start id held m is = subst (λ (h : Held). Meanwhile m m (Comes id (script_limit + 1) false h.credit h.ended)) (sym is) (comes_start id (script_limit + 1) false m)

module _ (id : ℕ) (old new : Held) (before mid after : Moment) (so_far : Meanwhile before mid (Comes id (script_limit + 1) false old.credit old.ended)) where
  pub lines_on : Meanwhile mid after (ComesOn id old new) → Meanwhile before after (Comes id (script_limit + 1) false new.credit new.ended)
  lines_on reads = comes_both id (script_limit + 1) old.credit new.credit false old.ended new.ended before mid after so_far reads

  -- a line has no meaning, or it was not followed
  pub lines_up_to : Meanwhile mid after (ComesOn id old new) → Meanwhile before after (GoesUpTo id (script_limit + 1) false)
  lines_up_to reads = comes_up_to id (script_limit + 1) new.credit false new.ended before after (lines_on reads)

  over : (n : ℕ) (ended : Bool) → n ≡ 0 → GoesOn id n ended []
  over n true none = refl
  over n false none = none

  pub lines_end : (held : Held) (line : List ℕ) → Gives held End line new → Meanwhile mid after (ComesOn id old new) → Meanwhile before after (LeftReadBy reason.End id (script_limit + 1))
  lines_end held line gives reads =
      comes_whole id (script_limit + 1) new.credit false new.ended before after (lines_on reads)
      (subst (λ (e : Bool). GoesOn id new.credit e []) (sym (ap (λ (h : Held). h.ended) gives.3 ∙ truth held.ended gives.1)) refl)
    where
      truth : (b : Bool) → IsTrue b → b ≡ true
      truth true is = refl
      truth false is = cc

  pub lines_over : (held : Held) (line : List ℕ) → Gives held Over line new → Meanwhile mid after (ComesOn id old new) → Meanwhile before after (LeftReadBy reason.Limit id (script_limit + 1))
  lines_over held line gives reads =
      comes_whole id (script_limit + 1) new.credit false new.ended before after (lines_on reads)
      (over new.credit new.ended (ap (λ (h : Held). h.credit) gives.2 ∙ gives.0))

  pub lines_fault : Meanwhile mid after (HasRead Fault id old new) → Meanwhile before after (LeftReadBy reason.Failure id (script_limit + 1))
  lines_fault reads = comes_then_fault id (script_limit + 1) old.credit false old.ended before mid after so_far reads
