use Rattle.pm_laws.proofs.AnswersLaw.{answers_agree, drops_agree}
use Rattle.pm_laws.proofs.answers.answers_agree.Goals as goal

pub returns : goal.returns
returns c = record { drops = drops_agree c.laws_below.ensures; answers = answers_agree c.laws_below.ensures c.laws_below.ensures.kinds }
