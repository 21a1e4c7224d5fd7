-- The table of the chip keeps the rules.
use Rattle.std.proofs.Common.{◌≡◌, ℕ, ◌<◌, true, nat_lt, refl, arith}
use Rattle.std.specs.List.{list_all}
use Rattle.std.proofs.lemmas.Bool.Decides.{nat_tests}
use Rattle.pm_topology.specs.declared.topology.SlaveState.{SlaveState}
use Rattle.pm_topology.specs.declared.topology.SlaveDef.{SlaveDef}
use Rattle.pm_chip.specs.Chip.{chip, slaves}
use Rattle.pm_topology.specs.WellFormed.{IsSupported}
use Rattle.pm_topology.proofs.Causes.{all_at}
use Rattle.pm_topology.proofs.WellFormedLaw.{well_formed_from}

known : (n : ℕ) → nat_lt n 8 ≡ true → n < 8
known n e = grind (arith, nat_tests)

-- the rules are tried on the written table, entry by entry
pub chip_sound : IsSupported chip
unfolding chip slaves
chip_sound = record {
  well_formed = well_formed_from chip refl;
  known = λ k s here j e there.
      known e.caps.0
      (all_at (λ (e : SlaveState). nat_lt e.caps.0 8) s.states
      (all_at (λ (s : SlaveDef). list_all (λ (e : SlaveState). nat_lt e.caps.0 8) s.states) chip.slaves refl k s here)
      j e there);
}
