use Rattle.pm_laws.proofs.TalkFacts.{talk_seen, talk_unseen, talked_alike, talked_unseen}
use Rattle.pm_laws.proofs.laws.talks_agree.Goals as goal

pub returns : goal.returns
returns c = record { both = talk_seen; unseen = talk_unseen; alike = talked_alike; hidden = talked_unseen }
