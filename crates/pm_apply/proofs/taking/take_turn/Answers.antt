use Rattle.std.proofs.Common.{sym, ◌∙◌, arith}
use Rattle.pm_state.specs.Values.{value}
use Rattle.pm_apply.proofs.CountLemmas.{due_most}
use Rattle.pm_apply.proofs.TakesLemmas.{Takes-none}
use Rattle.pm_apply.proofs.TakingLemmas.{KeepsRest-refl}
use Rattle.pm_apply.proofs.taking.take_turn.Goals as goal

pub returns-in_default : goal.returns-in_default
returns-in_default g c = record {
  takes = Takes-none g.D.Device.Does c.args.book.now.fixed.topology (λ u. value u c.args.book.now) c.args.turn c.args.kept.now c.args.out.now.done.items c.args.dev.now (sym c.due.ensures ∙ c.in_default.is);
  rest = KeepsRest-refl c.args.out.now;
}

pub issue-requires : goal.issue-requires
issue-requires g c =
    let one = due_most c.args.book.now.fixed.topology (λ u. value u c.args.book.now) c.args.turn c.args.kept.now c.in-Some.command (sym c.due.ensures ∙ c.in-Some.is) in
    omega (arith, one, c.requires.room)

pub returns : goal.returns
returns g c = record {
  takes = c.issue.ensures.takes c.args.book.now.fixed.topology (λ u. value u c.args.book.now) c.args.turn (sym c.due.ensures ∙ c.in-Some.is);
  rest = c.issue.ensures.rest;
}
