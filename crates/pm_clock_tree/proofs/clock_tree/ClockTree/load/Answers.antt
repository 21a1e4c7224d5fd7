use Rattle.std.proofs.Common.{Bool, ap, arith}
use Rattle.pm_base.specs.BoundedList.{Bounded}
use Rattle.pm_clock_tree.proofs.clock_tree.ClockTree.load.Goals as goal

pub invariant_of-result : goal.invariant_of-result
invariant_of-result g c = (
  ap (λ (it : Bounded Bool). it.items) c.find_running.ensures.running,
  (λ still. ap (λ (it : Bounded Bool). it.items) c.copy.ensures),
  c.find_running.ensures.count,
  grind (arith, ap (λ (it : Bounded Bool). it.room) c.find_running.ensures.running, c.in_ok-running.ensures, c.roots.ensures, c.all_clocks.ensures),
  grind (arith, ap (λ (it : Bounded Bool). it.room) c.copy.ensures, c.in_ok-told.ensures, c.roots-2.ensures, c.all_clocks-2.ensures),
)
