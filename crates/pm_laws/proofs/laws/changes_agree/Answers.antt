use Rattle.pm_laws.proofs.ChangesLaw.{changes_agree, one_unseen, seen_agree, unseen_agree}
use Rattle.pm_laws.proofs.laws.changes_agree.Goals as goal

pub returns : goal.returns
returns c = record { seen = seen_agree c.laws_below.ensures; unseen = one_unseen c.laws_below.ensures; alike = changes_agree c.laws_below.ensures; hidden = unseen_agree c.laws_below.ensures }
