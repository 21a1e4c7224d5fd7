use Rattle.pm_state.proofs.counters.clear.Given as goal

abbrev pub ghosts-clear_by : goal.ghosts-clear_by
ghosts-clear_by a = record { name = a.blank.name; parts = a.blank.parts }
