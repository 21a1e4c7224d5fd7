use Rattle.std.proofs.Common.{◌≡◌, ◌<◌, ◌≤◌, ◌+◌, ℕ, suc, None, ◌++◌, drop, length, ap, arith, subst, ◌∙◌}
use Rattle.std.proofs.Math.ListN.{length-set}
use Rattle.pm_ipi.specs.Mail.{all_empty, emptied}
use Rattle.pm_split.proofs.Lists.{all_emptied, next_empty}
use Rattle.pm_split.proofs.boxes.empty_all.Goals as goal

pub loop-m-preserved : goal.loop-m-preserved
loop-m-preserved c =
    let within : c.loop-m.m < length c.args.boxes.now = omega arith in
    let on : suc c.loop-m.m ≡ c.loop-m.m + 1 = omega arith in
    let P : ℕ → Type 0 = λ n. c.take-message.new.self ≡ all_empty n ++ drop n c.args.boxes.now in (
      ap length c.take-message.ensures.boxes ∙ length-set c.loop-m.boxes c.loop-m.m None ∙ c.loop-m.invariant.0,
      subst P on (c.take-message.ensures.boxes ∙ ap (emptied c.loop-m.m) c.loop-m.invariant.1 ∙ next_empty c.loop-m.m c.args.boxes.now within),
    )

pub returns : goal.returns
returns c =
    let past : length c.args.boxes.now ≤ c.loop-m.m = omega arith in
    let all : c.loop-m.m ≡ c.args.masters = omega arith in
    c.loop-m.invariant.1 ∙ all_emptied c.loop-m.m c.args.boxes.now past ∙ ap all_empty all
