use Rattle.test_counts.proofs.sizes.a_change_costs_the_same_over_any_number_of_slaves.Given as goal

abbrev pub ghosts-change_each : goal.ghosts-change_each
ghosts-change_each g a = record { name = a.blank.name; parts = a.blank.parts }
