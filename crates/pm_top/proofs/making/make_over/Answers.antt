use Rattle.pm_top.proofs.MakingLemmas.{summarized}
use Rattle.pm_top.proofs.making.make_over.Goals as goal

pub returns-in-Ok-clause-made : goal.returns-in-Ok-clause-made
returns-in-Ok-clause-made g c = summarized c.in-Ok.summary.items c.as_slice.result.now c.as_slice.ensures.value c.in-Ok.ensures.made c.write_whole.ensures
