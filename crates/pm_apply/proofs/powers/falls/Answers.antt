use Rattle.std.proofs.Common.{◌≡◌, ◌==◌, ◌&&◌, true, false, not, sym, ap, ◌∙◌}
use Rattle.std.proofs.lemmas.Bool.{eq-eqb, ne_eqb}
use Rattle.pm_base.specs.declared.names.Unit.TheVariants.{Node}
use Rattle.pm_state.specs.Values.{value}
use Rattle.pm_apply.specs.Plan.{is_used}
use Rattle.pm_apply.proofs.powers.falls.Goals as goal

pub returns-then-value_at-eq0 : goal.returns-then-value_at-eq0
returns-then-value_at-eq0 c =
    let unit = Node c.args.power.now.node in
    let down : (value unit c.args.book.now == 0) ≡ true = eq-eqb (value unit c.args.book.now) 0 (sym (c.value_at.ensures.value unit c.requires.at) ∙ c.if-value_at-eq0.true) in
    ap not c.is_used.ensures ∙ ap (λ b. b && not (is_used c.args.book.now.fixed.topology c.args.kept.now c.args.place)) (sym down)

pub returns-else-value_at-eq0 : goal.returns-else-value_at-eq0
returns-else-value_at-eq0 c =
    let unit = Node c.args.power.now.node in
    let stays : (c.value_at.result == 0) ≡ false = ne_eqb c.value_at.result 0 c.if-value_at-eq0.false in
    let up : (value unit c.args.book.now == 0) ≡ false = ap (λ v. v == 0) (sym (c.value_at.ensures.value unit c.requires.at)) ∙ stays in
    stays ∙ ap (λ b. b && not (is_used c.args.book.now.fixed.topology c.args.kept.now c.args.place)) (sym up)
