use Rattle.std.proofs.Common.{◌+◌, ◌∙◌, ap, length, arith}
use Rattle.std.proofs.lemmas.List.{length-set}
use Rattle.pm_rows.proofs.Ranges.{indexed_next}
use Rattle.pm_rows.proofs.spans.index_in.Goals as goal

pub loop-k-preserved : goal.loop-k-preserved
loop-k-preserved c =
    let first_len = ap length c.set_place.ensures ∙ length-set c.loop-k.first c.seed_at-slave.result.slave c.min-low.result in
    let past_len = ap length c.set_place-in-loop-k.ensures ∙ length-set c.loop-k.past c.seed_at-slave.result.slave (c.loop-k.k + 1) in
    record {
      index =
          indexed_next c.loop-k.k c.args.pairs.now c.loop-k.first c.loop-k.past c.seed_at-slave.result c.min-low.result _ _ (length c.args.first.now)
          c.loop-k.invariant.index c.seed_at-slave.ensures c.requires.placed c.loop-k.invariant.places (omega (arith, c.min-low.ensures, c.at_or.ensures)) c.set_place.ensures c.set_place-in-loop-k.ensures;
      places = first_len ∙ c.loop-k.invariant.places;
      others = past_len ∙ c.loop-k.invariant.others;
    }
