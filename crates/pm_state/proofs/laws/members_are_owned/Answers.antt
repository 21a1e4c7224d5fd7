use Rattle.pm_state.proofs.MembersLaw.{members_owned}
use Rattle.pm_state.proofs.laws.members_are_owned.Goals as goal

pub returns : goal.returns
returns c = λ object topology m p is. (members_owned object topology m p is).own
