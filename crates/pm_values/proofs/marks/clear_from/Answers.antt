use Rattle.std.proofs.Common.{arith}
use Rattle.pm_values.proofs.WordsLaw.{clear_to_end, clear_to_next}
use Rattle.pm_values.proofs.marks.clear_from.Goals as goal

pub returns-then-left-eq0-clause-clear : goal.returns-then-left-eq0-clause-clear
returns-then-left-eq0-clause-clear c =
    λ i from to. clear_to_end c.args.word c.args.bit i (omega (arith, c.if-left-eq0.true)) from

pub returns-else-left-eq0-clause-within : goal.returns-else-left-eq0-clause-within
returns-else-left-eq0-clause-within c =
    (clear_to_next c.args.word c.args.bit c.ranges.word.fits c.requires (omega (arith, c.if-left-eq0.false))).0

pub returns-else-left-eq0-clause-clear : goal.returns-else-left-eq0-clause-clear
returns-else-left-eq0-clause-clear c =
    (clear_to_next c.args.word c.args.bit c.ranges.word.fits c.requires (omega (arith, c.if-left-eq0.false))).1
