use Rattle.test_power.proofs.levels.a_need_changes_a_count_for_each_level_above.Given as goal

abbrev pub ghosts-needs_at_each_level : goal.ghosts-needs_at_each_level
ghosts-needs_at_each_level g a = record { name = a.blank.name; parts = a.blank.parts }
