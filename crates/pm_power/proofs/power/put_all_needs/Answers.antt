use Rattle.std.proofs.Common.{◌≡◌, ◌∙◌, ◌-◌, ℕ, List, length, ap, arith, refl, zero}
use Rattle.pm_power.specs.Needs.{with_needs_in}
use Rattle.pm_power.specs.declared.child.Child.{Child}
use Rattle.pm_power.specs.Uses.{needs_cost_in}
use Rattle.pm_power.proofs.NeedsSet.{both_cost, both_put}
use Rattle.pm_power.proofs.power.put_all_needs.Goals as goal

pub returns-clause-children : goal.returns-clause-children
returns-clause-children g c =
    let first = c.min-first.result in
    let left = length c.args.children.now - first in
    let all : first - 0 ≡ first = omega arith in
    let put = c.put_needs.ensures.children ∙ ap (λ (n : ℕ). with_needs_in zero n c.args.slaves.now c.args.children.now) all in
    c.put_needs-2.ensures.children
    ∙ (ap (with_needs_in first left c.args.procs.now) put
    ∙ both_put c.args.slaves.now c.args.procs.now c.args.children.now first left c.min-first.ensures refl)

pub returns-clause-cost : goal.returns-clause-cost
returns-clause-cost g c =
    let powers = c.args.powers.now in
    let cs = c.args.children.now in
    let first = c.min-first.result in
    let left = length cs - first in
    let all : first - 0 ≡ first = omega arith in
    let put = c.put_needs.ensures.children ∙ ap (λ (n : ℕ). with_needs_in zero n c.args.slaves.now cs) all in
    let one = ap (λ (n : ℕ). needs_cost_in powers zero n c.args.slaves.now cs) all in
    let two = ap (λ (xs : List Child). needs_cost_in powers first left c.args.procs.now xs) put in
    let both = both_cost powers c.args.slaves.now c.args.procs.now cs first left c.min-first.ensures refl in
    omega (arith, c.put_needs.ensures.cost, c.put_needs-2.ensures.cost, one, two, both)
