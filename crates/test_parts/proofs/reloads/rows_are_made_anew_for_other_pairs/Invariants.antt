use Rattle.test_parts.proofs.reloads.rows_are_made_anew_for_other_pairs.Given as goal

abbrev pub ghosts-reload_others : goal.ghosts-reload_others
ghosts-reload_others g a = record { name = a.blank.name; parts = a.blank.parts }
