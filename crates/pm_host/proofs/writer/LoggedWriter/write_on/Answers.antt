use Rattle.std.proofs.Common.{arith}
use Rattle.std.proofs.lemmas.List.{take_rest}
use Rattle.pm_host.proofs.WrittenLemmas.{hands_next}
use Rattle.pm_host.proofs.writer.LoggedWriter.write_on.Goals as goal

pub loop-count-preserved : goal.loop-count-preserved
loop-count-preserved g c = (
  omega (arith, c.in-Some.ensures.bound),
  hands_next c.args.bytes.now _ c.loop-count.count c.in-Some.more _ _ _ (take_rest c.args.bytes.now c.loop-count.count) c.loop-count.invariant.1 c.in-Some.ensures.hands,
)
