-- The next kind is that of the next number.
use Rattle.std.proofs.Common.{◌+◌, ap, ◌∙◌}
use Rattle.std.proofs.lemmas.List.{length-append}
use Rattle.pm_state.proofs.ChipLaw.{one_more_kind}
use Rattle.pm_state.proofs.chip.kinds_of.Goals as goal

pub loop-number-preserved : goal.loop-number-preserved
loop-number-preserved c =
    rw c.in_ok-push.ensures.ok
    (record {
      count = length-append c.loop-number.kinds _ ∙ ap (λ n. n + 1) c.loop-number.invariant.count;
      kinds = one_more_kind c.args.t.now c.loop-number.kinds c.loop-number.number c.kind.result c.loop-number.invariant.count
          c.loop-number.invariant.kinds c.kind.ensures.place;
    })
