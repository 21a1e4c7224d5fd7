use Rattle.pm_laws.proofs.CallbacksLaw.{callbacks_agree, callbacks_hidden}
use Rattle.pm_laws.proofs.answers.callbacks_agree.Goals as goal

pub returns : goal.returns
returns c = record { both = callbacks_agree c.laws_below.ensures; hidden = callbacks_hidden c.laws_below.ensures }
