use Rattle.std.proofs.Common.{Some, sym, ap, ◌∙◌}
use Rattle.pm_state.specs.Values.{value}
use Rattle.pm_apply.specs.declared.turns.Turn.TheVariants.{Apply}
use Rattle.pm_apply.proofs.ApplyLemmas.{apply_unit}
use Rattle.pm_apply.proofs.TakesLemmas.{Takes-none}
use Rattle.pm_apply.proofs.TakingLemmas.{KeepsRest-refl}
use Rattle.pm_apply.proofs.taking.take_value.Goals as goal

pub returns-in_default : goal.returns-in_default
returns-in_default g c = record {
  takes = Takes-none g.D.Device.Does c.args.book.now.fixed.topology (λ u. value u c.args.book.now) (Apply c.args.unit) c.args.kept.now c.args.out.now.done.items c.args.dev.now (sym c.apply_at.ensures ∙ c.in_default.is);
  rest = KeepsRest-refl c.args.out.now;
}

pub issue_at-requires-clause-there : goal.issue_at-requires-clause-there
issue_at-requires-clause-there g c =
    c.requires.there
    ∙ ap Some (sym (apply_unit c.args.book.now.fixed.topology (λ u. value u c.args.book.now) c.args.kept.now c.args.unit c.in-Some.command (sym c.apply_at.ensures ∙ c.in-Some.is)))

pub returns : goal.returns
returns g c = record {
  takes = c.issue_at.ensures.takes c.args.book.now.fixed.topology (λ u. value u c.args.book.now) (Apply c.args.unit) (sym c.apply_at.ensures ∙ c.in-Some.is);
  rest = c.issue_at.ensures.rest;
}
