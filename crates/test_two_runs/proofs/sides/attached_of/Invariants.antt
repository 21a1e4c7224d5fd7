use Rattle.std.proofs.Common.{◌≡◌, map, take}
use Rattle.test_two_runs.specs.Sides.{at_4096}
use Rattle.test_two_runs.proofs.sides.attached_of.Given as goal

abbrev pub invariant-loop-object : goal.invariant-loop-object
invariant-loop-object l = l.attached.value ≡ map at_4096 (take l.object-index l.objects)
