use Rattle.pm_clock_tree.proofs.StandLemmas.{followed_stands, kept_permitted, loaded_stands, served_roots, stands_permitted}
use Rattle.pm_clock_tree.proofs.laws.clocks_stand_after_steps.Goals as goal

pub returns : goal.returns
returns c = record {
  loaded = loaded_stands;
  followed = followed_stands;
  permitted = stands_permitted;
  kept = kept_permitted;
  roots = served_roots;
}
