use Rattle.std.proofs.Common.{◌∙◌, Bool, List, ap, sym}
use Rattle.pm_clock_tree.specs.Table.{clocks}
use Rattle.pm_clock_tree.specs.Told.{Clocked}
use Rattle.pm_clock_tree.specs.Tree.{running}
use Rattle.pm_clock_tree.proofs.ChangeLemmas.{no_changes}
use Rattle.pm_clock_tree.proofs.clock_tree.ClockTree.has_changes.Goals as goal

pub returns-clause-changes : goal.returns-clause-changes
returns-clause-changes c = λ still. no_changes c.args.self.now clocks
    (sym (ap (λ (it : Clocked). it.told) c.self.view_is) ∙ c.self.invariant.1 still ∙ c.self.invariant.0
    ∙ ap (λ (it : Clocked). running it.tree) c.self.view_is)

pub returns-clause-still : goal.returns-clause-still
returns-clause-still c = λ still.
    ap (λ (told : List Bool). record c.args.self.now { told = told })
    (sym (sym (ap (λ (it : Clocked). it.told) c.self.view_is) ∙ c.self.invariant.1 still ∙ c.self.invariant.0
    ∙ ap (λ (it : Clocked). running it.tree) c.self.view_is))
