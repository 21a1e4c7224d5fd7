use Rattle.pm_state.proofs.counters.reload.Given as goal

abbrev pub ghosts-reload_by : goal.ghosts-reload_by
ghosts-reload_by a = record { name = a.blank.name; parts = a.blank.parts }
