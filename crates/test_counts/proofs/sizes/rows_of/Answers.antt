use Rattle.std.proofs.Common.{◌≡◌, ap, ◌∙◌, arith}
use Rattle.std.specs.Int.{from_bool}
use Rattle.pm_rows.specs.Counted.{is_on}
use Rattle.pm_rows.specs.Rows.{is_at}
use Rattle.test_counts.proofs.Counting.{at_most_one, counted}
use Rattle.test_counts.proofs.sizes.rows_of.Goals as goal

pub loop-k-preserved : goal.loop-k-preserved
loop-k-preserved c =
    let one = counted (is_at c.args.master c.args.slave) c.args.rows.now.entries c.loop-k.k c.entry-entry.result c.entry-entry.ensures in
    let two = counted (is_on c.args.slave) c.args.rows.now.entries c.loop-k.k c.entry-entry.result c.entry-entry.ensures in
    let own : c.from-own.result ≡ from_bool (is_at c.args.master c.args.slave c.entry-entry.result) =
    c.from-own.ensures ∙ ap from_bool c.is_at.ensures
    in
    let all : c.from-all.result ≡ from_bool (is_on c.args.slave c.entry-entry.result) = c.from-all.ensures in
    let few_one = at_most_one (is_at c.args.master c.args.slave c.entry-entry.result) in
    let few_two = at_most_one (is_on c.args.slave c.entry-entry.result) in
    record {
      few = omega (arith, all, few_two, c.loop-k.invariant.few);
      less = omega (arith, own, few_one, c.loop-k.invariant.less);
      own = omega (arith, own, one, c.loop-k.invariant.own);
      all = omega (arith, all, two, c.loop-k.invariant.all);
    }
