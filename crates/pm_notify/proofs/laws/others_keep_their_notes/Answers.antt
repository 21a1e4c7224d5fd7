use Rattle.pm_notify.proofs.NotifyLaw.{other_notes_laws}
use Rattle.pm_notify.proofs.laws.others_keep_their_notes.Goals as goal

pub returns : goal.returns
returns c = other_notes_laws
