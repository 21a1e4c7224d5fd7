use Rattle.test_counts.proofs.counts.each_change_counts_one_step.Given as goal

abbrev pub ghosts-turned : goal.ghosts-turned
ghosts-turned g a = record { name = a.blank.name; parts = a.blank.parts }
