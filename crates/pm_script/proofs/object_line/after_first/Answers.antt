use Rattle.std.proofs.Common.{◌∙◌, ◌++◌, ◌∷◌, [], ap, arith}
use Rattle.pm_script.proofs.ObjectLineLemmas.{next_one}
use Rattle.pm_script.proofs.object_line.after_first.Goals as goal

pub loop-k-preserved : goal.loop-k-preserved
loop-k-preserved c = record {
  past = omega (arith, c.loop-k.invariant.past);
  so_far =
      c.push.ensures
      ∙ (ap (λ words. words ++ c.get.result.now ∷ []) c.loop-k.invariant.so_far
      ∙ next_one c.args.numbers.now c.loop-k.k c.get.result.now c.loop-k.invariant.past c.get.ensures);
}
