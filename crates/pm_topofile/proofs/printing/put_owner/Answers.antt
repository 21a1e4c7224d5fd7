use Rattle.std.proofs.Common.{arith}
use Rattle.std.proofs.lemmas.List.{take_rest}
use Rattle.pm_topofile.proofs.Owners.{owner_step, small_joined}
use Rattle.pm_topofile.proofs.printing.put_owner.Goals as goal

pub lines-preserved : goal.lines-preserved
lines-preserved c = record {
  text = owner_step c.args.master.now.node _ c.lines.text.items _ c.lines.left.now _ (omega arith) (take_rest c.lines.left.now 16) c.in_ok-put_owner_line.ensures.text c.lines.invariant.text;
  small = λ left. c.lines.invariant.small (small_joined c.lines.left.now _ (take_rest c.lines.left.now 16) c.in_ok-put_owner_line.ensures.small.1 left);
}
