use Rattle.test_counts.proofs.requirements.two_rows_of_a_pair_change_together.Given as goal

abbrev pub ghosts-change_twice : goal.ghosts-change_twice
ghosts-change_twice g a = record { name = a.blank.name; parts = a.blank.parts }
