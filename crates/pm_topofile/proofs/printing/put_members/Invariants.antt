use Rattle.std.proofs.Common.{◌≡◌, ◌++◌, take, map}
use Rattle.std.specs.List.{AllByRecursion, flat_map}
use Rattle.pm_topofile.specs.Printing.{IsSmall, number_of, word_text}
use Rattle.pm_topofile.proofs.printing.put_members.Given as goal

abbrev pub invariant-loop-proc : goal.invariant-loop-proc
invariant-loop-proc l = record {
  text : l.text.items ≡ l.fn.text.items ++ flat_map word_text (map number_of (take l.proc-index l.procs));
  small : AllByRecursion (λ n. IsSmall (number_of n)) (take l.proc-index l.procs);
}
