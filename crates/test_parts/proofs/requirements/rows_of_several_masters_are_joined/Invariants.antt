use Rattle.test_parts.proofs.requirements.rows_of_several_masters_are_joined.Given as goal

abbrev pub ghosts-join : goal.ghosts-join
ghosts-join g a = record { name = a.blank.name; parts = a.blank.parts }
