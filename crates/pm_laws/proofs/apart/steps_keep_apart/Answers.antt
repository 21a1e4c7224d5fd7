use Rattle.pm_laws.specs.Below.{BelowLaws}
use Rattle.pm_laws.specs.Left.{border_in}
use Rattle.pm_laws.proofs.ModesLaw.{mode_alike}
use Rattle.pm_laws.proofs.StepApart.{ReachLaws, agree_quiet, both_apart, left_apart, rest_apart, told_quiet}
use Rattle.pm_laws.proofs.ValuesLaw.{values_alike}
use Rattle.pm_laws.proofs.apart.steps_keep_apart.Goals as goal

pub returns : goal.returns
returns c =
    let laws : BelowLaws = c.laws_below.ensures in
    let reach : ReachLaws = record { closed = c.reach_is_closed.ensures.closed; own = c.reach_is_closed.ensures.own } in
    record {
      values = λ m a b object chip agree unit beyond.
          values_alike (border_in a m) unit a b (reach.closed a.fixed m object chip) beyond agree;
      modes = λ m a b agree proc beyond. mode_alike (border_in a m) proc a b agree beyond;
      both = λ m event a b object chip sound_a sound_b agree. both_apart reach laws m a b object chip sound_a sound_b agree event;
      left = λ m event a b own object chip sound_a sound_b agree. left_apart reach laws m a b object chip sound_a sound_b agree event own;
      rest = rest_apart reach laws;
      agree = agree_quiet reach laws;
      told = told_quiet reach laws;
    }
