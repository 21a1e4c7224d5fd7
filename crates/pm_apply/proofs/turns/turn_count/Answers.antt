use Rattle.std.proofs.Common.{◌≡◌, length, ap, ◌∙◌, arith}
use Rattle.pm_topology.specs.Units.{units_of}
use Rattle.pm_apply.proofs.TurnsLemmas.{few_turns, length-unit_turns}
use Rattle.pm_apply.proofs.turns.turn_count.Goals as goal

pub overflow_add-result : goal.overflow_add-result
overflow_add-result c =
    let t = c.args.book.now.fixed.topology in
    let powers : c.len-powers.result ≡ length t.powers = c.len-powers.ensures ∙ ap (λ t. length t.powers) c.topology.ensures.topology in
    let units : c.units.result ≡ length (units_of t) = c.units.ensures in
    let few = few_turns c.units_stand_in_order.ensures t c.stays_sound.ensures.formed in
    omega (arith, powers, units, few, length-unit_turns t)

pub overflow_add-result-2 : goal.overflow_add-result-2
overflow_add-result-2 c =
    let t = c.args.book.now.fixed.topology in
    let powers : c.len-powers.result ≡ length t.powers = c.len-powers.ensures ∙ ap (λ t. length t.powers) c.topology.ensures.topology in
    let units : c.units.result ≡ length (units_of t) = c.units.ensures in
    let few = few_turns c.units_stand_in_order.ensures t c.stays_sound.ensures.formed in
    omega (arith, powers, units, few, length-unit_turns t)

pub returns-clause-count : goal.returns-clause-count
returns-clause-count c =
    let t = c.args.book.now.fixed.topology in
    let powers : c.len-powers.result ≡ length t.powers = c.len-powers.ensures ∙ ap (λ t. length t.powers) c.topology.ensures.topology in
    let units : c.units.result ≡ length (units_of t) = c.units.ensures in
    omega (arith, powers, units, length-unit_turns t)
