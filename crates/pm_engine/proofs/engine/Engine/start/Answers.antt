use Rattle.std.proofs.Common.{◌≡◌, subst, sym}
use Rattle.pm_core.specs.Outbox.{Holds}
use Rattle.pm_core.specs.Step.{outputs_at_load}
use Rattle.pm_trace.specs.Step.{notices_in, notices_of}
use Rattle.pm_engine.specs.Progress.{Progress}
use Rattle.pm_engine.proofs.NoticesLemmas.{notices_are}
use Rattle.pm_engine.proofs.engine.Engine.start.Goals as goal

pub returns-clause-notices : goal.returns-clause-notices
returns-clause-notices g c =
    let old = c.self.inside in
    let H : Progress → Type 0 = λ progress. Holds (outputs_at_load progress.book) progress.outbox in
    let P : Progress → Type 0 = λ progress. notices_in c.follow.new.runner.outbox ≡ notices_of (outputs_at_load progress.book) in
    let held : Holds (outputs_at_load old.runner.book) old.runner.outbox = subst H (sym c.self.view_is) c.requires.out in
    subst P c.self.view_is (notices_are (outputs_at_load old.runner.book) old.runner.outbox c.follow.new.runner.outbox held c.follow.ensures.starts c.follow.ensures.late c.follow.ensures.callbacks)
