use Rattle.std.proofs.Common.{◌≡◌, ℕ, length, ap, ◌∙◌, arith}
use Rattle.pm_apply.specs.Visits.{IsIdleAt}
use Rattle.pm_record.proofs.Below.{ChipLaws}
use Rattle.pm_apply.proofs.TurnsLemmas.{length-unit_turns}
use Rattle.pm_apply.proofs.UnmarkedLemmas.{all_rest}
use Rattle.pm_apply.proofs.VisitsLemmas.{holds_on}
use Rattle.pm_apply.proofs.turns.next_visited.Goals as goal

pub next_power-up-requires-clause-within : goal.next_power-up-requires-clause-within
next_power-up-requires-clause-within c =
    let t = c.args.book.now.fixed.topology in
    let powers : c.len-powers.result ≡ length t.powers = c.len-powers.ensures ∙ ap (λ t. length t.powers) c.topology.ensures.topology in
    omega (arith, powers, length-unit_turns t)

pub returns-then-not-has_marks-clause-idle : goal.returns-then-not-has_marks-clause-idle
returns-then-not-has_marks-clause-idle c =
    λ k after before.
    let laws : ChipLaws = record { units = c.units_stand_in_order.ensures; kinds = c.kinds_are_exact.ensures; table = c.unit_maps.ensures } in
    all_rest laws c.args.book.now.fixed.topology c.args.kept.now c.turn_count-turns.ensures.formed c.requires (c.has_marks.ensures c.if-not-has_marks.true)
    k (omega (arith, before, c.turn_count-turns.ensures.count))

pub returns-clause-idle : goal.returns-clause-idle
returns-clause-idle c =
    let P : ℕ → Type 0 = λ k. IsIdleAt c.args.book.now.fixed.topology c.args.kept.now k in
    holds_on P c.args.from c.next_unit-unit.result c.next_power.result
    (holds_on P c.args.from c.next_power-up.result c.next_unit-unit.result c.next_power-up.ensures.idle c.next_unit-unit.ensures.idle)
    c.next_power.ensures.idle
