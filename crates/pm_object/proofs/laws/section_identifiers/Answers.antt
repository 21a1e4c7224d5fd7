use Rattle.pm_object.proofs.Bodies.{words-section}
use Rattle.pm_object.proofs.SectionNames.{is_same_exactly}
use Rattle.pm_object.proofs.laws.section_identifiers.Goals as goal

pub returns : goal.returns
returns c = record { same = is_same_exactly; words = words-section }
