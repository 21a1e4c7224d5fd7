use Rattle.pm_gen.proofs.NamedLemmas.{name_behind, shorter_behind}
use Rattle.pm_gen.proofs.summary.named_line.Goals as goal

pub returns-clause-named : goal.returns-clause-named
returns-clause-named c = name_behind c.in_ok-name.name c.args.text.now c.in_ok-behind.behind.now c.in_ok-name.rest.now c.in_ok-after.after.now c.in_ok-behind.ensures c.in_ok-name.ensures c.in_ok-after.ensures

pub returns-clause-shorter : goal.returns-clause-shorter
returns-clause-shorter c = shorter_behind c.in_ok-name.name c.args.text.now c.in_ok-behind.behind.now c.in_ok-name.rest.now c.in_ok-after.after.now c.in_ok-behind.ensures c.in_ok-name.ensures c.in_ok-after.ensures
