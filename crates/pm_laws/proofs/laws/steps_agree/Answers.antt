use Rattle.pm_laws.proofs.EventsLaw.{event_hidden}
use Rattle.pm_laws.proofs.StepLaw.{message_within, step_hidden, steps_agree}
use Rattle.pm_laws.proofs.laws.steps_agree.Goals as goal

pub returns : goal.returns
returns c = record {
  both = steps_agree c.laws_below.ensures;
  hidden = step_hidden c.laws_below.ensures;
  messages = message_within;
  stages = λ border event book closed sound is. event_hidden c.laws_below.ensures.kinds border event book (record { closed = closed; force = record { place = sound.force.place; there = sound.force.there } }) is;
}
