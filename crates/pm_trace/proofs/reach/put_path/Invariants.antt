use Rattle.std.proofs.Common.{◌≡◌, ◌++◌, take}
use Rattle.std.specs.List.{flat_map}
use Rattle.pm_trace.specs.Line.{after_space}
use Rattle.pm_trace.specs.Reach.{path_words}
use Rattle.pm_trace.proofs.reach.put_path.Given as goal

abbrev pub invariant-loop-node : goal.invariant-loop-node
invariant-loop-node l = l.text.items ≡ l.fn.text.items ++ flat_map after_space (path_words (take l.node-index l.path))
