use Rattle.pm_state.proofs.counters.shift.Given as goal

abbrev pub ghosts-shift_by : goal.ghosts-shift_by
ghosts-shift_by a = record { name = a.blank.name; parts = a.blank.parts }
