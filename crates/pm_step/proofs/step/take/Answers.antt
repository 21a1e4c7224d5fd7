use Rattle.std.proofs.Common.{refl, sym}
use Rattle.pm_step.specs.Step.{stages}
use Rattle.pm_values.proofs.AlongLaw.{once_trailed}
use Rattle.pm_step.proofs.StepLaw.{no_message, none_served, stages_once}
use Rattle.pm_step.proofs.step.take.Goals as goal

pub returns : goal.returns
returns c =
    let book = c.args.tables.now in
    let event = c.args.event.now in
    let none = no_message event c.in_default.not-Ipi in
    record {
      book = c.happen.ensures.book;
      written = c.happen.ensures.written;
      served = sym (none_served event book none);
      along = once_trailed (stages event book) book c.happen.new.tables c.args.along.now (stages_once event book none) c.requires.along c.happen.ensures.book;
      still = λ none. refl;
    }
