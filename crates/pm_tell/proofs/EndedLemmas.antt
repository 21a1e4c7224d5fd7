-- The requests that end in a step, master by master.
use Rattle.std.proofs.Common.{◌≡◌, ℕ, ◌+◌, ◌≤◌, ◌<◌, List, ◌++◌, length, drop, Option, Some, None, sym, ap, ◌∙◌, inl, inr, arith}
use Rattle.std.specs.Prelude.{unwrap_or}
use Rattle.std.proofs.lemmas.Option.{slice_get_cases}
use Rattle.pm_base.proofs.ListLemmas.{drop_found}
use Rattle.pm_procs.specs.declared.pending.Pending.{Pending}
use Rattle.pm_procs.specs.Pending.{pending_at}
use Rattle.pm_values.specs.declared.turns.Turns.{Turns}
use Rattle.pm_tell.specs.Ended.{ended_at, ended_from, ended_with, end_of}

-- the end of what is pending on the master at place m comes before those of the masters after it
pub ended_step : (turns : ℕ → Turns) (aborts count : Option ℕ) (m : ℕ) (pending : List (Option Pending)) → m < length pending
    → ended_from turns aborts count m (drop m pending)
    ≡ ended_at (turns m) aborts count m (pending_at m pending) ++ ended_from turns aborts count (m + 1) (drop (m + 1) pending)
ended_step turns aborts count m pending within = elim ((slice_get_cases pending m).1) [
  | inl here ↦
      let is : pending_at m pending ≡ here.0 = ap (λ o. unwrap_or o None) here.2 in
      ap (ended_from turns aborts count m) (drop_found pending m here.0 here.2)
      ∙ ap (λ p. ended_at (turns m) aborts count m p ++ ended_from turns aborts count (m + 1) (drop (m + 1) pending)) (sym is)
  | inr past ↦ absurd (omega (arith, within, past.0))
]

-- a master ends one request at most
pub ended_few : (turns : Turns) (aborts count : Option ℕ) (m : ℕ) (pending : Option Pending) → length (ended_at turns aborts count m pending) ≤ 1
ended_few turns aborts count m None = omega arith
ended_few turns aborts count m (Some request) = with_few m request (end_of turns aborts count m request)
  where
    with_few : (m : ℕ) (request : Pending) (status : Option ℕ) → length (ended_with m request status) ≤ 1
    with_few m request None = omega arith
    with_few m request (Some status) = omega arith
