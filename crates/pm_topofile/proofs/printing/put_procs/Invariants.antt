use Rattle.std.proofs.Common.{◌≡◌, ◌++◌, take}
use Rattle.std.specs.List.{AllByRecursion, flat_map}
use Rattle.pm_topofile.specs.Printing.{AreSmall, proc_text, proc_words}
use Rattle.pm_topofile.proofs.printing.put_procs.Given as goal

abbrev pub invariant-loop-proc : goal.invariant-loop-proc
invariant-loop-proc l = record {
  text : l.text.items ≡ l.fn.text.items ++ flat_map (proc_text l.powers) (take l.proc-index l.procs);
  small : AllByRecursion (λ p. AreSmall (proc_words l.powers p)) (take l.proc-index l.procs);
}
