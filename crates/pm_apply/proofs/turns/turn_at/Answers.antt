use Rattle.std.proofs.Common.{◌≡◌, ◌-◌, length, ap, ◌∙◌, arith}
use Rattle.pm_topology.specs.Units.{units_of}
use Rattle.pm_apply.proofs.TurnsLemmas.{length-unit_turns, turn_up, turn_between, turn_down}
use Rattle.pm_apply.proofs.turns.turn_at.Goals as goal

pub overflow_sub-result-else-k-powers-2-3 : goal.overflow_sub-result-else-k-powers-2-3
overflow_sub-result-else-k-powers-2-3 c =
    let t = c.args.book.now.fixed.topology in
    let powers : c.len-powers.result ≡ length t.powers = c.len-powers.ensures ∙ ap (λ t. length t.powers) c.topology.ensures.topology in
    let units : c.units-units.result ≡ length (units_of t) = c.units-units.ensures in
    omega (arith, powers, units, length-unit_turns t, c.requires)

pub returns-then-k-powers : goal.returns-then-k-powers
returns-then-k-powers c =
    let t = c.args.book.now.fixed.topology in
    let powers : c.len-powers.result ≡ length t.powers = c.len-powers.ensures ∙ ap (λ t. length t.powers) c.topology.ensures.topology in
    turn_up t c.args.k (omega (arith, powers, c.if-k-powers.true))

pub returns-then-k-powers-2 : goal.returns-then-k-powers-2
returns-then-k-powers-2 c =
    let t = c.args.book.now.fixed.topology in
    let powers : c.len-powers.result ≡ length t.powers = c.len-powers.ensures ∙ ap (λ t. length t.powers) c.topology.ensures.topology in
    turn_between t c.args.k (c.args.k - c.len-powers.result) c.unit.result (omega (arith, powers, c.if-k-powers.false)) c.unit.ensures

pub returns-else-k-powers-2 : goal.returns-else-k-powers-2
returns-else-k-powers-2 c =
    let t = c.args.book.now.fixed.topology in
    let powers : c.len-powers.result ≡ length t.powers = c.len-powers.ensures ∙ ap (λ t. length t.powers) c.topology.ensures.topology in
    let units : c.units-units.result ≡ length (units_of t) = c.units-units.ensures in
    let i = c.args.k - c.len-powers.result - c.units-units.result in
    turn_down t c.args.k i (c.len-powers.result - 1 - i) (omega (arith, powers, units, c.if-k-powers.false, c.if-k-powers-2.false)) (omega (arith, powers, units, length-unit_turns t, c.requires, c.if-k-powers.false, c.if-k-powers-2.false))
