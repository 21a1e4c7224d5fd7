use Rattle.std.proofs.Common.{◌≡◌, ◌∙◌, Bool, List, length, ap, arith}
use Rattle.std.proofs.lemmas.List.{with_items_is}
use Rattle.pm_clock_tree.specs.Followed.{permitted, reviewed}
use Rattle.pm_clock_tree.specs.Table.{clocks}
use Rattle.pm_clock_tree.specs.Tree.{Holder}
use Rattle.pm_clock_tree.proofs.holders.Holder.review.Goals as goal

pub returns : goal.returns
returns g c =
    let make : List Bool → Holder = λ enables. record { node = c.self.inside.node; enables = enables } in
    let kept : length c.review.new.enables ≡ c.self.inside.enables.len = omega (arith, c.review.auto.enables, c.deref_mut.ensures.len) in
    ap make (with_items_is c.self.inside.enables c.review.new.enables kept
    ∙ c.review.ensures
    ∙ ap (λ defs. permitted (g.S.Scene.seen c.args.scene.now) c.self.inside.node defs c.deref_mut.result.now) c.all_clocks.ensures
    ∙ ap (λ enables. permitted (g.S.Scene.seen c.args.scene.now) c.self.inside.node clocks enables) c.deref_mut.ensures.value)
    ∙ ap (λ holder. reviewed (g.S.Scene.seen c.args.scene.now) holder) c.self.view_is
