use Rattle.pm_state.proofs.counters.drop_slave.Given as goal

abbrev pub ghosts-drop_slave_by : goal.ghosts-drop_slave_by
ghosts-drop_slave_by a = record { name = a.blank.name; parts = a.blank.parts }
