use Rattle.test_parts.proofs.requirements.the_first_to_start_gets_a_slave_that_cannot_be_shared.Given as goal

abbrev pub ghosts-start_each : goal.ghosts-start_each
ghosts-start_each g a = record { name = a.blank.name; parts = a.blank.parts }
