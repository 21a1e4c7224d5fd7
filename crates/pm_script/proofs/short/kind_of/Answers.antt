-- The line is its keyword, a blank and what follows.
use Rattle.std.proofs.Common.{arith}
use Rattle.std.proofs.lemmas.Grind.{common_steps}
use Rattle.pm_script.proofs.ShortLemmas.{five_first, four_first}
use Rattle.pm_script.proofs.short.kind_of.Goals as goal

pub returns-in-119-clause-text : goal.returns-in-119-clause-text
returns-in-119-clause-text c = four_first c.args.text.now 119 102 105 32 (omega (arith, c.in-119.len_at_least)) (grind (arith, common_steps)) (grind (arith, common_steps)) (grind (arith, common_steps)) (grind (arith, common_steps))

pub returns-in-105-clause-text : goal.returns-in-105-clause-text
returns-in-105-clause-text c = four_first c.args.text.now 105 114 113 32 (omega (arith, c.in-105.len_at_least)) (grind (arith, common_steps)) (grind (arith, common_steps)) (grind (arith, common_steps)) (grind (arith, common_steps))

pub returns-in-103-clause-text : goal.returns-in-103-clause-text
returns-in-103-clause-text c = four_first c.args.text.now 103 105 99 32 (omega (arith, c.in-103.len_at_least)) (grind (arith, common_steps)) (grind (arith, common_steps)) (grind (arith, common_steps)) (grind (arith, common_steps))

pub returns-in-116-clause-text : goal.returns-in-116-clause-text
returns-in-116-clause-text c = five_first c.args.text.now 116 105 99 107 32 c.in-116.len_at_least (grind (arith, common_steps)) (grind (arith, common_steps)) (grind (arith, common_steps)) (grind (arith, common_steps)) (grind (arith, common_steps))

pub returns-in-98-clause-text : goal.returns-in-98-clause-text
returns-in-98-clause-text c = five_first c.args.text.now 98 111 111 116 32 c.in-98.len_at_least (grind (arith, common_steps)) (grind (arith, common_steps)) (grind (arith, common_steps)) (grind (arith, common_steps)) (grind (arith, common_steps))
