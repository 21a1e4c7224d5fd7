use Rattle.std.proofs.Common.{◌∙◌, arith}
use Rattle.pm_gen.proofs.CountLemmas.{all_counted, has_room, line_counted, nothing_counted}
use Rattle.pm_gen.proofs.summary.counts_of.Goals as goal

pub lines-init : goal.lines-init
lines-init c = nothing_counted c.args.text.now

pub count_first-requires : goal.count_first-requires
count_first-requires c = record {
  room = has_room c.lines.counts c.lines.left.now c.args.text.now (omega arith) c.lines.invariant;
}

pub lines-preserved : goal.lines-preserved
lines-preserved c =
    let first = c.in-Some.ensures.counted in
    rw first.counts (line_counted c.lines.counts first.line c.lines.left.now c.in-Some.after.now c.args.text.now first.lines c.lines.invariant)

pub returns : goal.returns
returns c = c.in_default.ensures.counted.0 ∙ all_counted c.lines.counts c.lines.left.now c.args.text.now c.in_default.ensures.counted.1 c.lines.invariant
