use Rattle.test_parts.proofs.reloads.a_row_is_changed_by_its_calls.Given as goal

abbrev pub ghosts-change_each : goal.ghosts-change_each
ghosts-change_each g a = record { name = a.blank.name; parts = a.blank.parts }
