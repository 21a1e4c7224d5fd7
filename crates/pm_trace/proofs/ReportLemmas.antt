-- A fault line that is tried once.
use Rattle.std.proofs.Common.{◌≡◌, ◌∙◌, ℕ, List, [], ◌∷◌, Result, Ok, Err, None, Some, subst, sym}
use Rattle.std.specs.Prelude.{⊤, OnOk, OnErr}
use Rattle.std.specs.List.{concat}
use Rattle.std.proofs.lemmas.List.{append-nil}
use Rattle.pm_base.specs.declared.errors.Exit.{Exit}
use Rattle.pm_base.specs.declared.errors.Failed.{Failed}
use Rattle.pm_io.specs.declared.sink.Sink as Sink
use Rattle.pm_io.specs.Sink.{Wrote}
use Rattle.pm_io.specs.Writing.{BreaksIn}
use Rattle.pm_io.proofs.SinkLemmas.{Wrote-is}
use Rattle.pm_trace.specs.declared.faults.Fault.{Fault}
use Rattle.pm_trace.specs.Faults.{fault_text, exit_by}
use Rattle.pm_trace.specs.Report.{Reports, refusal}

module _ {O : Type 0} (o : Sink.Ghosts O) where
  pub Reports-refusal : (fault : Fault) (line : List ℕ) (old new : O) (result : Result ⊤ Failed) (exit : Exit) → line ≡ fault_text fault → exit ≡ exit_by fault → OnOk result (Wrote o.observable line (o.state old) (o.state new)) → OnErr result (BreaksIn o 0 (line ∷ []) old new) → Reports o (refusal fault) old new exit
  Reports-refusal fault line old new (Ok nothing) exit is ends written short = record {
    cut = None;
    left = Wrote-is o.observable line (concat (fault_text fault ∷ [])) (o.state old) (o.state new) (is ∙ sym (append-nil (fault_text fault))) written;
    ends = ends;
  }
  Reports-refusal fault line old new (Err error) exit is ends written short = record {
    cut = Some 0;
    left = subst (λ piece. BreaksIn o 0 (piece ∷ []) old new) is short;
    ends = ends;
  }
