use Rattle.test_counts.proofs.requirements.the_counts_tell_what_the_rows_come_to.Given as goal

abbrev pub ghosts-call_each : goal.ghosts-call_each
ghosts-call_each g a = record { name = a.blank.name; parts = a.blank.parts }
