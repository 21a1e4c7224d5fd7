use Rattle.std.proofs.Common.{refl}
use Rattle.pm_trace.proofs.LineLemmas.{decimal_pair}
use Rattle.pm_trace.proofs.line.put_pair.Goals as goal

pub returns-clause-text : goal.returns-clause-text
returns-clause-text c = rw (c.put_byte.ensures.text, c.put_byte-at.ensures.text, decimal_pair c.args.n c.requires.from c.requires.to) refl
