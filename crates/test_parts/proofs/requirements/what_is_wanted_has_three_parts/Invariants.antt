use Rattle.test_parts.proofs.requirements.what_is_wanted_has_three_parts.Given as goal

abbrev pub ghosts-wrong_want : goal.ghosts-wrong_want
ghosts-wrong_want g a = record { name = a.blank.name; parts = a.blank.parts }
