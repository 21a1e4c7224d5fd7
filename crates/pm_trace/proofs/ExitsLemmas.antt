-- The promises of a report's exit, by its fault and its cut.
use Rattle.std.proofs.Common.{◌≡◌, ℕ, ◌<◌, Bool, true, false, List, ◌++◌, length, Option, Some, None, if◌then◌else◌, refl, sym, ◌∙◌, ap, subst, arith, inl, inr}
use Rattle.std.specs.Prelude.{nat_lt}
use Rattle.std.specs.List.{concat}
use Rattle.std.proofs.lemmas.Bool.Decides.{nat_tests}
use Rattle.std.proofs.lemmas.List.{append-nil}
use Rattle.std.proofs.lemmas.Option.{slice_get_within}
use Rattle.pm_base.specs.declared.errors.Exit.{Exit}
use Rattle.pm_base.specs.declared.errors.Exit.TheVariants as exit
use Rattle.pm_io.specs.declared.sink.Sink as Sink
use Rattle.pm_io.specs.Sink.{HasFailed, Wrote}
use Rattle.pm_io.specs.Writing.{Leaves}
use Rattle.pm_io.proofs.SinkLemmas.{BreaksIn-failed}
use Rattle.pm_trace.specs.declared.faults.Fault.{Fault}
use Rattle.pm_trace.specs.declared.faults.Fault.TheVariants.{Line, Memory, Node, Number, Object, Read, Size, Text, Topology, TopologyText, Usage}
use Rattle.pm_trace.specs.Exits.{EndsBy, ExitSays, IsWhole}
use Rattle.pm_trace.specs.Faults.{exit_after}
use Rattle.pm_trace.specs.Report.{Report, exit_of, fault_lines, pieces}

-- ---- the fault of an exit

-- the fault with which an exit comes, if it is only one, and the exit isn't that of a failed sink
abbrev pub Only : Exit → Option Fault → Type 0
Only exit.Done fault = fault ≡ None
Only exit.Usage fault = fault ≡ Some Usage
Only exit.ReadFault fault = fault ≡ Some Read
Only exit.Memory fault = fault ≡ Some Memory
Only exit.WriteFault fault = ⊥
Only exit.BadObject fault = Unit {0}
Only exit.BadText fault = Unit {0}
Only exit.BadLine fault = Unit {0}
Only exit.TooLarge fault = Unit {0}

only : (fault : Option Fault) → Only (exit_after fault) fault
only None = refl
only (Some Usage) = refl
only (Some (Object fault)) = tt
only (Some (Text fault)) = tt
only (Some (TopologyText fault)) = tt
only (Some (Topology fault)) = tt
only (Some (Line n cause)) = tt
only (Some Read) = refl
only (Some Memory) = refl
only (Some Size) = tt
only (Some Node) = tt
only (Some Number) = tt

-- an exit that is another one than that of a failed sink is that of the fault
only_at : (due e : Exit) (fault : Option Fault) → e ≡ exit_after fault → e ≡ due → Only due fault
only_at due e fault is at = subst (λ (x : Exit). Only x fault) (sym is ∙ at) (only fault)

module _ {O : Type 0} (o : Sink.Ghosts O) (r : Report) (old new : O) (result : Exit) where
  -- the exit is that of the fault, or the sink broke off within the body
  ends_by : (cut : Option ℕ) → Leaves o (pieces r) cut old new → result ≡ exit_of r cut → EndsBy o (exit_after r.fault) old new result
  ends_by None left ends = inl ends
  ends_by (Some k) left ends = by (nat_lt k (length r.body)) ends
    where
      by : (b : Bool) → result ≡ (if b then exit.WriteFault else exit_after r.fault) → EndsBy o (exit_after r.fault) old new result
      by true ends = inr (ends, BreaksIn-failed o k (pieces r) old new left)
      by false ends = inl ends

  -- an exit that no failed sink has
  fault_is : (due : Exit) → (due ≡ exit.WriteFault → ⊥) → EndsBy o (exit_after r.fault) old new result → result ≡ due → Only due r.fault
  fault_is due other (inl is) at = only_at due result r.fault is at
  fault_is due other (inr broken) at = absurd (other (sym at ∙ broken.0))

  failed_by : EndsBy o (exit_after r.fault) old new result → result ≡ exit.WriteFault → HasFailed (o.state old) (o.state new)
  failed_by (inl is) at = absurd (only_at exit.WriteFault result r.fault is at)
  failed_by (inr broken) at = broken.1

  same_pieces : r.fault ≡ None → pieces r ≡ r.body
  same_pieces none = ap (λ (f : Option Fault). r.body ++ fault_lines f) none ∙ append-nil r.body

  -- without a fault there is no piece after the body, so a cut is within it
  whole_by : (cut : Option ℕ) → r.fault ≡ None → Leaves o (pieces r) cut old new → result ≡ exit_of r cut → result ≡ exit.Done → IsWhole o r cut old new
  whole_by None none left ends at = record {
    faultless = none;
    uncut = refl;
    wrote = subst (λ (all : List (List ℕ)). Wrote o.observable (concat all) (o.state old) (o.state new)) (same_pieces none) left;
  }
  whole_by (Some k) none left ends at = absurd (by (nat_lt k (length r.body)) refl (sym at ∙ ends))
    where
      outside : (n m : ℕ) → k < m → m ≡ n → nat_lt k n ≡ false → ⊥
      outside n m within is past = grind (arith, nat_tests)

      by : (b : Bool) → nat_lt k (length r.body) ≡ b → exit.Done ≡ (if b then exit.WriteFault else exit_after r.fault) → ⊥
      by true within e = cc
      by false past e = outside (length r.body) (length (pieces r)) (slice_get_within (pieces r) k left.piece left.is) (ap length (same_pieces none)) past

pub exit_says : {O : Type 0} (o : Sink.Ghosts O) (r : Report) (cut : Option ℕ) (old new : O) (result : Exit) → Leaves o (pieces r) cut old new → result ≡ exit_of r cut → ExitSays o r cut old new result
exit_says o r cut old new result left ends =
    let how = ends_by o r old new result cut left ends in
    record {
      ends = how;
      done = λ at. whole_by o r old new result cut (fault_is o r old new result exit.Done (λ e. cc) how at) left ends at;
      usage = fault_is o r old new result exit.Usage (λ e. cc) how;
      read = fault_is o r old new result exit.ReadFault (λ e. cc) how;
      memory = fault_is o r old new result exit.Memory (λ e. cc) how;
      failed = failed_by o r old new result how;
    }
