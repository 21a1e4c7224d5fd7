use Rattle.std.proofs.Common.{◌≡◌, sym, ◌∙◌, ap, arith, refl}
use Rattle.pm_reader.specs.Reader.{Held}
use Rattle.pm_reader.proofs.HeldLemmas.{open_is}
use Rattle.pm_reader.proofs.reader.LineReader.give_open.Goals as goal

pub returns-then-self-eq0-clause-gives : goal.returns-then-self-eq0-clause-gives
returns-then-self-eq0-clause-gives c =
    let zero : c.args.self.now.credit ≡ 0 = ap (λ (h : Held). h.credit) (sym c.self.view_is) ∙ c.if-self-eq0.true in
    (zero, open_is c.args.self.now c.within.result.now c.within.ensures c.requires.none (omega (arith, c.if-within-ge-TOO_LONG.false)), refl)

pub give_last-requires-clause-unended : goal.give_last-requires-clause-unended
give_last-requires-clause-unended c = open_is c.args.self.now c.within.result.now c.within.ensures c.requires.none (omega (arith, c.if-within-ge-TOO_LONG.false))

pub returns-else-self-clause-gives : goal.returns-else-self-clause-gives
returns-else-self-clause-gives c =
    let credit : c.self.inside.credit ≡ c.args.self.now.credit = ap (λ (h : Held). h.credit) c.self.view_is in
    record {
      unended = open_is c.args.self.now c.within.result.now c.within.ensures c.requires.none (omega (arith, c.if-within-ge-TOO_LONG.false));
      credit = omega (arith, credit, c.if-self-eq0.false);
      ended = ap (λ (h : Held). h.ended) (sym c.self.view_is) ∙ c.if-self.false;
      same = refl;
    }
