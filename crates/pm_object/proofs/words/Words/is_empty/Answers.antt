use Rattle.pm_object.proofs.Bytes.{is_short}
use Rattle.pm_object.proofs.words.Words.is_empty.Goals as goal

pub returns : goal.returns
returns c = rw (← c.self.view_is) (is_short c.self.inside.bytes.now)
