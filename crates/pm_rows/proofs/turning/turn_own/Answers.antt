use Rattle.std.proofs.Common.{◌≡◌, ◌==◌, false, arith}
use Rattle.std.proofs.lemmas.Bool.{eq-eqb}
use Rattle.std.proofs.lemmas.Bool.Decides.{nat_tests}
use Rattle.pm_rows.specs.declared.passes.Pass.TheVariants.{Shift}
use Rattle.pm_rows.proofs.Linked.{visits_left, visits_put}
use Rattle.pm_rows.proofs.Turns.{turns_here}
use Rattle.pm_rows.proofs.turning.turn_own.Goals as goal

pub turn_at-requires-clause-turns : goal.turn_at-requires-clause-turns
turn_at-requires-clause-turns g c =
    turns_here c.args.known.now c.args.m c.args.from c.args.to c.args.k c.args.table.now c.seed-seed.result c.seed-seed.ensures c.if-seed-m.true
    c.requires.mode c.requires.there

pub returns-then-seed-m : goal.returns-then-seed-m
returns-then-seed-m g c =
    visits_put (Shift c.args.m c.args.from c.args.to) c.args.known.now c.args.k c.args.table.now c.args.steps.now c.turn_at.new.table c.turn_at.new.steps
    c.seed-seed.result c.seed-seed.ensures (eq-eqb _ _ c.if-seed-m.true) c.turn_at.ensures

pub returns-else-seed-m : goal.returns-else-seed-m
returns-else-seed-m g c =
    let other : (c.seed-seed.result.master == c.args.m) ≡ false = grind (arith, nat_tests) in
    visits_left (Shift c.args.m c.args.from c.args.to) c.args.known.now c.args.k c.args.table.now c.args.steps.now c.seed-seed.result c.seed-seed.ensures other
