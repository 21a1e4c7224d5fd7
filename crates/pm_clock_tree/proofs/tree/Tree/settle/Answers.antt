use Rattle.std.proofs.Common.{◌≡◌, ◌∙◌, List, false, ap, subst, sym}
use Rattle.std.specs.List.{list_any}
use Rattle.pm_clock_tree.specs.Followed.{AreHoldersPermitted}
use Rattle.pm_clock_tree.specs.Tree.{Holder, Tree}
use Rattle.pm_clock_tree.proofs.HolderLemmas.{all_settled}
use Rattle.pm_clock_tree.proofs.tree.Tree.settle.Goals as goal

pub settle_holders-requires : goal.settle_holders-requires
settle_holders-requires g c = record {
  kept = λ yes. subst (λ holders. AreHoldersPermitted (g.S.Scene.seen c.args.scene.now) holders)
      (sym (c.deref_mut.ensures.value ∙ ap (λ (it : Tree). it.holders) c.self.view_is)) (c.requires.kept yes);
}

-- where there is no enable, none is dropped
pub returns-then-not-self-clause-tree : goal.returns-then-not-self-clause-tree
returns-then-not-self-clause-tree g c =
    let none : list_any (λ (holder : Holder). list_any (λ on. on) holder.enables) c.args.self.now.holders ≡ false =
    sym (ap (λ (it : Tree). list_any (λ (holder : Holder). list_any (λ on. on) holder.enables) it.holders) c.self.view_is)
    ∙ c.self.invariant.2 c.if-not-self.true
    in
    ap (λ (holders : List Holder). record c.args.self.now { holders = holders })
    (all_settled (g.S.Scene.seen c.args.scene.now) c.args.self.now.holders none)
