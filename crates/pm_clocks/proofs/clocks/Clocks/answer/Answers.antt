use Rattle.std.proofs.Common.{◌≡◌, ◌∙◌, ap, sym, subst}
use Rattle.pm_clock_tree.specs.Followed.{ArePermitted, RootsStand, served_by}
use Rattle.pm_clock_tree.specs.Told.{Clocked}
use Rattle.pm_clock_tree.specs.Tree.{Tree}
use Rattle.pm_clocks.specs.Clocked.{made, tree_after, view_of}
use Rattle.pm_clocks.proofs.StepLemmas.{are_permitted, not_so, roots_stand, served_permitted, served_stand, stays_on_pass}
use Rattle.pm_clocks.proofs.clocks.Clocks.answer.Goals as goal

pub returns-in-Pass-clause-clocks : goal.returns-in-Pass-clause-clocks
returns-in-Pass-clause-clocks c =
    ap (λ (tree : Tree). record c.args.self.now { tree = tree })
    (sym (ap (λ e. tree_after e c.args.out.now.answer c.args.book.now c.args.self.now.tree) c.in-Pass.is
    ∙ stays_on_pass c.args.event.now c.args.out.now.moved.items c.args.self.now.tree c.args.book.now c.requires.stepped c.in-Pass.is))

pub returns-in-Pass-clause-stands : goal.returns-in-Pass-clause-stands
returns-in-Pass-clause-stands c =
    stays_on_pass c.args.event.now c.args.out.now.moved.items c.args.self.now.tree c.args.book.now c.requires.stepped c.in-Pass.is

pub follow-requires : goal.follow-requires
follow-requires c =
    let tree : Tree = c.args.self.now.tree in
    let is : c.self.inside.tree.tree ≡ served_by (view_of c.args.book.now) (made c.args.event.now c.args.out.now.answer) tree =
    ap (λ (it : Clocked). it.tree) (c.self.view_is ∙ c.serve.ensures.clocks) in
    record {
      kept = λ yes. subst (λ it. ArePermitted (view_of c.args.book.now) it) (sym is)
          (served_permitted c.enables_stay_permitted.ensures (view_of c.args.book.now) (made c.args.event.now c.args.out.now.answer) tree
          (are_permitted c.args.event.now c.args.out.now.moved.items tree c.args.book.now c.requires.stepped c.clocks_stand_after_steps.ensures
          c.only_one_call_configures.ensures.force (sym c.configures.ensures ∙ not_so c.configures.result yes)));
      stand = subst (λ it. RootsStand (view_of c.args.book.now) c.as_slice.result.now it) (sym is)
          (subst (λ units. RootsStand (view_of c.args.book.now) units (served_by (view_of c.args.book.now) (made c.args.event.now c.args.out.now.answer) tree))
          (sym c.as_slice.ensures)
          (served_stand c.clocks_stand_after_steps.ensures (view_of c.args.book.now) (made c.args.event.now c.args.out.now.answer) c.args.out.now.moved.items tree
          (roots_stand c.args.event.now c.args.out.now.moved.items tree c.args.book.now c.requires.stepped
          c.units_stand_in_order.ensures c.kinds_are_exact.ensures)));
    }
