use Rattle.test_power.proofs.needs.all_needs_are_set_at_once.Given as goal

abbrev pub ghosts-wrong_recompute : goal.ghosts-wrong_recompute
ghosts-wrong_recompute g a = record { name = a.blank.name; parts = a.blank.parts }
