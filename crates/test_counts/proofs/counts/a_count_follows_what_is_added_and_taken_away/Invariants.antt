use Rattle.test_counts.proofs.counts.a_count_follows_what_is_added_and_taken_away.Given as goal

abbrev pub ghosts-wrong_change : goal.ghosts-wrong_change
ghosts-wrong_change g a = record { name = a.blank.name; parts = a.blank.parts }
