use Rattle.test_counts.proofs.cells.each_cell_has_the_first_value.Given as goal

abbrev pub ghosts-first_values : goal.ghosts-first_values
ghosts-first_values g a = record { name = a.blank.name; parts = a.blank.parts }
