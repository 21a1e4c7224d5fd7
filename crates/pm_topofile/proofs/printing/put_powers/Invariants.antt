use Rattle.std.proofs.Common.{◌≡◌, ◌++◌, take}
use Rattle.std.specs.List.{AllByRecursion, flat_map}
use Rattle.pm_topofile.specs.Printing.{AreSmall, power_text, power_words}
use Rattle.pm_topofile.proofs.printing.put_powers.Given as goal

abbrev pub invariant-loop-power : goal.invariant-loop-power
invariant-loop-power l = record {
  text : l.text.items ≡ l.fn.text.items ++ flat_map (power_text l.powers) (take l.power-index l.powers);
  small : AllByRecursion (λ p. AreSmall (power_words l.powers p)) (take l.power-index l.powers);
}
