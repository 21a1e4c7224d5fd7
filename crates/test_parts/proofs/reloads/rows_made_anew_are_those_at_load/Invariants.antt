use Rattle.test_parts.proofs.reloads.rows_made_anew_are_those_at_load.Given as goal

abbrev pub ghosts-change_and_reload : goal.ghosts-change_and_reload
ghosts-change_and_reload g a = record { name = a.blank.name; parts = a.blank.parts }
