use Rattle.std.proofs.Common.{◌≡◌, ◌++◌, take}
use Rattle.std.specs.List.{AllByRecursion, flat_map}
use Rattle.pm_topofile.specs.Printing.{AreSmall, state_text, state_words}
use Rattle.pm_topofile.proofs.printing.put_states.Given as goal

abbrev pub invariant-loop-state : goal.invariant-loop-state
invariant-loop-state l = record {
  text : l.text.items ≡ l.fn.text.items ++ flat_map state_text (take l.state-index l.states);
  small : AllByRecursion (λ s. AreSmall (state_words s)) (take l.state-index l.states);
}
