use Rattle.std.proofs.Common.{arith}
use Rattle.pm_state.specs.Values.{value}
use Rattle.pm_apply.specs.declared.turns.Turn.TheVariants.{PowerOff}
use Rattle.pm_apply.proofs.CountLemmas.{due_most}
use Rattle.pm_apply.proofs.TakesLemmas.{Takes-none}
use Rattle.pm_apply.proofs.TakingLemmas.{KeepsRest-refl}
use Rattle.pm_apply.proofs.taking.lower_one.Goals as goal

pub returns-in_default : goal.returns-in_default
returns-in_default g c = record {
  takes = Takes-none g.D.Device.Does c.args.book.now.fixed.topology (λ u. value u c.args.book.now) (PowerOff c.args.place) c.args.kept.now c.args.out.now.done.items c.args.dev.now c.in_default.ensures.none;
  rest = KeepsRest-refl c.args.out.now;
}

pub issue_at-requires-clause-room : goal.issue_at-requires-clause-room
issue_at-requires-clause-room g c =
    let one = due_most c.args.book.now.fixed.topology (λ u. value u c.args.book.now) (PowerOff c.args.place) c.args.kept.now c.in-Some.command c.in-Some.ensures.some in
    omega (arith, one, c.requires.room)

pub returns : goal.returns
returns g c = record {
  takes = c.issue_at.ensures.takes c.args.book.now.fixed.topology (λ u. value u c.args.book.now) (PowerOff c.args.place) c.in-Some.ensures.some;
  rest = c.issue_at.ensures.rest;
}
