use Rattle.test_parts.proofs.domains.power_nodes_follow_each_subset_of_needs.Given as goal

abbrev pub ghosts-wrong_subset : goal.ghosts-wrong_subset
ghosts-wrong_subset g a = record { name = a.blank.name; parts = a.blank.parts }
