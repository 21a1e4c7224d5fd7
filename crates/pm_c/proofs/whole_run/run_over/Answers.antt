use Rattle.std.proofs.Common.{◌≡◌, Ok}
use Rattle.pm_base.specs.declared.errors.Exit.{Exit}
use Rattle.pm_base.specs.declared.errors.NoMemory.{NoMemory}
use Rattle.std.specs.Prelude.{Result}
use Rattle.pm_c.proofs.WholeRunLemmas.{ends_by, line_due, none_stand, one_holds, read_due, size_due, was_run}
use Rattle.pm_c.proofs.whole_run.run_over.Goals as goal

same_in_ok : {x y : Exit} → ◌≡◌ {A = Result Exit NoMemory} (Ok x) (Ok y) → x ≡ y
same_in_ok e = cc

pub returns : goal.returns
returns c = record {
  done = λ is.
      let run = c.replay.ensures.done tt tt (same_in_ok is) in
      was_run _ _ _ c.args.object _ _ _ _ c.args.script.now _ _ c.in_ok-topology.ensures.table
      (none_stand _ _ c.in_ok-modules.ensures c.in_ok-tasks.ensures)
      (one_holds _ _ c.in_ok-inputs.ensures.made) c.requires.empty c.in_ok-device.ensures.fresh run;
  line = λ is. line_due c.args.script.now _ (ends_by _ c.args.script.now _ c.in_ok-inputs.ensures.made (c.replay.ensures.decided tt)) (same_in_ok is);
  unread = λ is. read_due c.args.script.now _ (ends_by _ c.args.script.now _ c.in_ok-inputs.ensures.made (c.replay.ensures.decided tt)) (same_in_ok is);
  large = λ is. size_due c.args.script.now _ (ends_by _ c.args.script.now _ c.in_ok-inputs.ensures.made (c.replay.ensures.decided tt)) (same_in_ok is);
}
