use Rattle.test_power.proofs.needs.needs_of_a_tree_meet_at_its_branches.Given as goal

abbrev pub ghosts-wrong_step : goal.ghosts-wrong_step
ghosts-wrong_step g a = record { name = a.blank.name; parts = a.blank.parts }
