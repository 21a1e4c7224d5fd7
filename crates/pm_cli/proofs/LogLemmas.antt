-- The log of a device in memory that was fitted, if a word names a topology, and then driven.
use Rattle.std.proofs.Common.{◌≡◌, ◌⊎◌, ℕ, List, [], ◌∷◌, ◌++◌, Option, Some, None, refl, sym, ◌∙◌, ap, subst, inl, inr}
use Rattle.std.specs.Prelude.{IfNone, IsSome}
use Rattle.pm_chip.specs.Chip.{chip}
use Rattle.pm_topology.specs.declared.topology.Topology.{Topology}
use Rattle.pm_device.specs.Act.{Act, Chain, Fit}
use Rattle.pm_device.specs.Model.{Bench}
use Rattle.pm_device.specs.declared.device.Device as Device
use Rattle.pm_apply.specs.Order.{IsOrdered}
use Rattle.pm_replay.specs.Safe.{IsSafe}
use Rattle.pm_top.specs.Fit.{IsFitted, IsSafeRun}
use Rattle.pm_cli.specs.Logged.{IsSafeLog, fits}

module _ (d : Device.Ghosts Bench) (safe : (t : Topology) (old new : Bench) → old.log ≡ [] → IsSafe d t old new → IsOrdered t (λ unit. 0) new.log)
    (logged : (acts : List Act) (old new : Bench) → Chain d.Does acts old new → new.log ≡ old.log ++ acts) (old new : Bench) (empty : old.log ≡ []) where
  -- a fit is in the log
  pub fit_logged : (named : Option ℕ) (topology : Topology) (start : Bench) → IsFitted d named topology old start → start.log ≡ fits named topology
  fit_logged None topology start fitted = ap (λ (b : Bench). b.log) (sym fitted.1) ∙ empty
  fit_logged (Some k) topology start fitted = logged (Fit topology ∷ []) old start (start, fitted, refl) ∙ ap (λ (log : List Act). log ++ (Fit topology ∷ [])) empty

  pub built_in : (named : Option ℕ) (topology : Topology) (start : Bench) → IsFitted d named topology old start → IfNone named (topology ≡ chip)
  built_in None topology start fitted = fitted.0
  built_in (Some k) topology start fitted = tt

  -- and so is all that is done after it
  pub all_logged : (named : Option ℕ) (topology : Topology) (start : Bench) (acts : List Act) → IsFitted d named topology old start → Chain d.Does acts start new → new.log ≡ fits named topology ++ acts
  all_logged named topology start acts fitted given = logged acts start new given ∙ ap (λ (log : List Act). log ++ acts) (fit_logged named topology start fitted)

  pub safe_logged : (place : Option ℕ) → IsSafeRun d place old new → IsSafeLog place new.log
  safe_logged place run = by run.named run.asked run.fitted
    where
      is_named : (k : ℕ) → (Some k ≡ None) ⊎ (Some k ≡ place) → IsSome place
      is_named k (inl is) = cc
      is_named k (inr is) = subst IsSome is refl

      by : (named : Option ℕ) → (named ≡ None) ⊎ (named ≡ place) → IsFitted d named run.topology old run.start → IsSafeLog place new.log
      by None asked fitted =
          let still : IsSafe d run.topology old new = subst (λ (b : Bench). IsSafe d run.topology b new) (sym fitted.1) run.safe in
          inl (safe chip old new empty (subst (λ (t : Topology). IsSafe d t old new) fitted.0 still))
      by (Some k) asked fitted = inr (is_named k asked, (run.topology, run.safe.acts, all_logged (Some k) run.topology run.start run.safe.acts fitted run.safe.given, run.safe.ordered))
