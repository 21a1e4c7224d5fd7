use Rattle.pm_block.proofs.FormedLaw.{all_formed}
use Rattle.pm_block.proofs.laws.attached_objects_are_formed.Goals as goal

pub returns : goal.returns
returns c = all_formed
