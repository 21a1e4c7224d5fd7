use Rattle.pm_values.proofs.laws.values_are_fed.Goals as goal

pub returns : goal.returns
returns c = c.values_meet.ensures.fed
