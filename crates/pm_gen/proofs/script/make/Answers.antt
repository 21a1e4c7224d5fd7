use Rattle.std.proofs.Common.{◌+◌, ◌*◌, ◌≤◌, ℕ, List, length, subst, sym}
use Rattle.pm_gen.specs.Script.{HasMeaning, made}
use Rattle.pm_gen.proofs.LinesLemmas.{no_more, one_more}
use Rattle.pm_gen.proofs.MeaningLemmas.{made_has_meaning, made_is_short}
use Rattle.pm_gen.proofs.script.make.Goals as goal

pub loop-preserved : goal.loop-preserved
loop-preserved c = one_more c.loop.text.items c.put_line.new.text.items (made c.args.n) c.args.n c.loop.counter c.loop.state c.next-state.result c.loop-test.true c.next-state.ensures c.in_ok-put_line.ensures c.loop.invariant

pub returns : goal.returns
returns c =
    let is = no_more c.loop.text.items (made c.args.n) c.args.n c.loop.counter c.loop.state c.loop-test.false c.loop.invariant in
    record {
      exact = is;
      meant = subst HasMeaning (sym is) (made_has_meaning c.args.n);
      short = subst (λ (text : List ℕ). length text ≤ 18 * (c.args.n + 1)) (sym is) (made_is_short c.args.n);
    }
