use Rattle.pm_clock_tree.proofs.PermittedLemmas.{followed_permitted, served_permitted}
use Rattle.pm_clock_tree.proofs.laws.enables_stay_permitted.Goals as goal

pub returns : goal.returns
returns c = record {
  followed = followed_permitted;
  served = served_permitted;
}
