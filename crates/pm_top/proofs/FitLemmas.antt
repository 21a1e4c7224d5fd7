-- A device that is of the chip, or that was fitted to a topology first.
use Rattle.std.proofs.Common.{◌≡◌, [], None, Option, refl, ℕ, inl}
use Rattle.pm_chip.specs.Chip.{chip}
use Rattle.pm_topology.specs.declared.topology.Topology.{Topology}
use Rattle.pm_device.specs.declared.device.Device as Device
use Rattle.pm_replay.specs.Safe.{IsSafe}
use Rattle.pm_top.specs.Fit.{IsSafeRun}

module _ {D : Type 0} (d : Device.Ghosts D) (place : Option ℕ) (old new : D) where
  -- nothing was done to it
  pub still_safe : old ≡ new → IsSafeRun d place old new
  still_safe same = record { named = None; asked = inl refl; topology = chip; start = old; fitted = (refl, refl); safe = record { acts = []; given = same; ordered = tt } }

  -- it is of the chip
  pub chip_safe : (topology : Topology) → topology ≡ chip → IsSafe d topology old new → IsSafeRun d place old new
  chip_safe topology is safe = record { named = None; asked = inl refl; topology = topology; start = old; fitted = (is, refl); safe = safe }
