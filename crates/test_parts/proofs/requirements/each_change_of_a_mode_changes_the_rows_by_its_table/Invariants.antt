use Rattle.test_parts.proofs.requirements.each_change_of_a_mode_changes_the_rows_by_its_table.Given as goal

abbrev pub ghosts-wrong_shift : goal.ghosts-wrong_shift
ghosts-wrong_shift g a = record { name = a.blank.name; parts = a.blank.parts }
