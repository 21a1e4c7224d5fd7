use Rattle.std.proofs.Common.{ap, ◌∙◌}
use Rattle.pm_clock_tree.specs.Told.{Clocked, told}
use Rattle.pm_engine.specs.Progress.{Progress}
use Rattle.pm_engine.proofs.engine.Engine.tell_clocks.Goals as goal

pub returns : goal.returns
returns c =
    let old = c.self.inside in
    ap (λ (it : Clocked). record { book = old.runner.book; kept = old.kept; outbox = old.runner.outbox; boxes = old.runner.boxes; clocks = it }) c.tell.ensures
    ∙ ap (λ (it : Progress). record it { clocks = told it.clocks }) c.self.view_is
