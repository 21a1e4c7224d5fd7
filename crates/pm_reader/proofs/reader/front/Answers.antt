use Rattle.std.proofs.Common.{sym, arith}
use Rattle.std.proofs.lemmas.List.{length-take-le, take_all}
use Rattle.pm_reader.proofs.reader.front.Goals as goal

pub slice_bounds-result-end : goal.slice_bounds-result-end
slice_bounds-result-end c = sym (length-take-le 256 c.args.text.now (omega (arith, c.if-text-gt-TOO_LONG.true)))

pub returns-else-text-gt-TOO_LONG : goal.returns-else-text-gt-TOO_LONG
returns-else-text-gt-TOO_LONG c = sym (take_all 256 c.args.text.now (omega (arith, c.if-text-gt-TOO_LONG.false)))
