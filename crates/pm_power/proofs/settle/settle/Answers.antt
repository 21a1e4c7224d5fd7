use Rattle.std.proofs.Common.{◌≡◌, ℕ, ◌+◌, ◌-◌, subst, arith}
use Rattle.pm_power.specs.Uses.{AreSettledFrom}
use Rattle.pm_power.proofs.Settled.{settled_first}
use Rattle.pm_power.proofs.settle.settle.Goals as goal

pub loop-w-init : goal.loop-w-init
loop-w-init g c = record {
  within = omega arith;
  settled = settled_first c.args.powers.now c.args.counts.now c.args.ups.now c.requires.counts c.requires.ups;
}

pub settle_at-requires-clause-place : goal.settle_at-requires-clause-place
settle_at-requires-clause-place g c = omega (arith, c.loop-w.invariant.within, c.loop-w-test.true)

pub settle_at-requires-clause-later : goal.settle_at-requires-clause-later
settle_at-requires-clause-later g c =
    let back : c.loop-w.w ≡ c.loop-w.w - 1 + 1 = omega (arith, c.loop-w-test.true) in
    let P : ℕ → Type 0 = λ w. AreSettledFrom w c.args.powers.now c.loop-w.counts c.loop-w.ups in
    subst P back c.loop-w.invariant.settled
