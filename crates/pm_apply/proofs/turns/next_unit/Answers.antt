use Rattle.std.proofs.Common.{◌≡◌, ◌-◌, length, sym, ap, ◌∙◌, arith}
use Rattle.std.proofs.lemmas.List.{length-map}
use Rattle.pm_topology.specs.Units.{units_of}
use Rattle.pm_apply.proofs.TurnsLemmas.{few_turns, length-unit_turns}
use Rattle.pm_apply.proofs.VisitsLemmas.{idle_at}
use Rattle.pm_apply.proofs.turns.next_unit.Goals as goal

pub next_marked-place-requires : goal.next_marked-place-requires
next_marked-place-requires c =
    let units : length c.args.kept.now ≡ length (units_of c.args.book.now.fixed.topology) = sym (length-map c.args.kept.now (λ e. e.0)) ∙ ap length c.requires in
    omega (arith, units, c.units.ensures)

pub overflow_add-result : goal.overflow_add-result
overflow_add-result c =
    let t = c.args.book.now.fixed.topology in
    let powers : c.len-powers.result ≡ length t.powers = c.len-powers.ensures ∙ ap (λ t. length t.powers) c.topology.ensures.topology in
    let units : length c.args.kept.now ≡ length (units_of t) = sym (length-map c.args.kept.now (λ e. e.0)) ∙ ap length c.requires in
    let few = few_turns c.units_stand_in_order.ensures t c.stays_sound.ensures.formed in
    omega (arith, powers, units, few, length-unit_turns t, c.next_marked-place.ensures.end)

pub returns-clause-idle : goal.returns-clause-idle
returns-clause-idle c =
    λ k after before.
    let t = c.args.book.now.fixed.topology in
    let powers : c.len-powers.result ≡ length t.powers = c.len-powers.ensures ∙ ap (λ t. length t.powers) c.topology.ensures.topology in
    idle_at c.units_stand_in_order.ensures t c.args.kept.now k c.len-powers.result c.requires powers (omega (arith, after))
    (c.next_marked-place.ensures.idle (k - c.len-powers.result) (omega (arith, after)) (omega (arith, after, before)))
