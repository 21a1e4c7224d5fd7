use Rattle.test_counts.proofs.fields.rows_fields.Given as goal

abbrev pub ghosts-load_and_name : goal.ghosts-load_and_name
ghosts-load_and_name a = record { name = a.blank.name; parts = a.blank.parts }
