use Rattle.test_power.proofs.needs.a_need_climbs_each_level_of_a_chain.Given as goal

abbrev pub ghosts-wrong_step : goal.ghosts-wrong_step
ghosts-wrong_step g a = record { name = a.blank.name; parts = a.blank.parts }
