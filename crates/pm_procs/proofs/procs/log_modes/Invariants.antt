use Rattle.std.proofs.Common.{◌≡◌, ℕ, ◌<◌, length, slice_get, unwrap_or}
use Rattle.pm_base.specs.declared.names.Mode.TheVariants.{Off}
use Rattle.pm_procs.specs.Procs.{master_mode_in}
use Rattle.pm_procs.proofs.procs.log_modes.Given as goal

-- the modes of the masters before place m are written
abbrev pub invariant-loop-m : goal.invariant-loop-m
invariant-loop-m l = record {
  places : length l.modes ≡ length l.members;
  each : (n : ℕ) → n < l.m → unwrap_or (slice_get l.modes n) Off ≡ master_mode_in n l.members l.procs;
}
