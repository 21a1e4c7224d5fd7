use Rattle.std.proofs.Common.{◌≡◌, ◌↔◌, ◌∙◌, IsTrue, false, ap, subst, sym}
use Rattle.std.specs.Prelude.{slice_get, unwrap_or}
use Rattle.pm_clock_tree.specs.Told.{Clocked}
use Rattle.pm_clock_tree.specs.Tree.{HasAllPlaces, Runs, Tree, running, runs}
use Rattle.pm_clock_tree.proofs.clock_tree.ClockTree.runs.Goals as goal

pub returns-clause-by_parents : goal.returns-clause-by_parents
returns-clause-by_parents c =
    let tree_is : c.self.inside.tree ≡ c.args.self.now.tree = ap (λ (it : Clocked). it.tree) c.self.view_is in
    let found : c.at_or.result ≡ runs c.args.number c.args.self.now.tree =
    c.at_or.ensures
    ∙ ap (λ found. unwrap_or (slice_get found c.args.number) false)
    (c.as_slice.ensures ∙ c.self.invariant.0 ∙ ap (λ (tree : Tree). running tree) tree_is) in
    subst (λ on. IsTrue on ↔ Runs c.args.self.now.tree c.args.number) (sym found)
    (c.clocks_run_by_their_parents.ensures c.args.self.now.tree
    (subst (λ (tree : Tree). HasAllPlaces tree) tree_is c.has_all_places.ensures) c.args.number)
