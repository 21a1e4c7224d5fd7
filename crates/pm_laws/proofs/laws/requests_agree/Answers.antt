use Rattle.pm_laws.proofs.RequestsLaw.{asked_agree, asked_hidden, ends_agree, ends_hidden, told_agree, told_hidden}
use Rattle.pm_laws.proofs.laws.requests_agree.Goals as goal

pub returns : goal.returns
returns c = record {
  asked = asked_agree c.laws_below.ensures;
  asked_hidden = λ border event book closed sound is. asked_hidden c.laws_below.ensures border event book (record { closed = closed; force = record { place = sound.force.place; there = sound.force.there } }) is;
  ended = ends_agree c.laws_below.ensures;
  ended_hidden = λ border event book closed sound is. ends_hidden c.laws_below.ensures border event book (record { closed = closed; force = record { place = sound.force.place; there = sound.force.there } }) sound is;
  told = told_agree c.laws_below.ensures;
  told_hidden = λ border event book closed sound is. told_hidden c.laws_below.ensures border event book (record { closed = closed; force = record { place = sound.force.place; there = sound.force.there } }) sound is;
}
