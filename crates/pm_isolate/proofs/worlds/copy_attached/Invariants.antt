use Rattle.std.proofs.Common.{◌≡◌, take}
use Rattle.pm_isolate.proofs.worlds.copy_attached.Given as goal

abbrev pub invariant-loop-one : goal.invariant-loop-one
invariant-loop-one l = l.copied ≡ take l.one-index l.attached
