use Rattle.pm_laws.proofs.PulseLaw.{pulse_agree}
use Rattle.pm_laws.proofs.VerdictsLaw.{pulse_hidden}
use Rattle.pm_laws.proofs.laws.pulses_agree.Goals as goal

pub returns : goal.returns
returns c = record { both = pulse_agree c.laws_below.ensures; hidden = λ border event book closed sound is. pulse_hidden border book event (record { closed = closed; force = record { place = sound.force.place; there = sound.force.there } }) is }
