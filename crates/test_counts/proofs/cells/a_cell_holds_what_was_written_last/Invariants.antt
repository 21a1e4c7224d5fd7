use Rattle.test_counts.proofs.cells.a_cell_holds_what_was_written_last.Given as goal

abbrev pub ghosts-wrong_write : goal.ghosts-wrong_write
ghosts-wrong_write g a = record { name = a.blank.name; parts = a.blank.parts }
