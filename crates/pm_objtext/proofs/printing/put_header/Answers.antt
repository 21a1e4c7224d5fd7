use Rattle.std.proofs.Common.{arith}
use Rattle.std.proofs.lemmas.List.{take_rest}
use Rattle.pm_objtext.proofs.Headers.{header_step}
use Rattle.pm_objtext.proofs.printing.put_header.Goals as goal

pub lines-preserved : goal.lines-preserved
lines-preserved c = header_step _ c.lines.text.items _ c.lines.left.now _ (omega arith) (take_rest c.lines.left.now 16) c.in_ok-put_line.ensures c.lines.invariant
