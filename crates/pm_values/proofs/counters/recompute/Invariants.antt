use Rattle.pm_values.proofs.counters.recompute.Given as goal

abbrev pub ghosts-recompute_by : goal.ghosts-recompute_by
ghosts-recompute_by a = record { name = a.blank.name; parts = a.blank.parts }
