-- What is logged between the two stages of a call.
use Rattle.std.specs.Prelude.{ℕ, List, [], ◌∷◌}
use Rattle.pm_state.specs.State.{State}
use Rattle.pm_values.specs.Along.{Trail, trailed}

-- the moment after the first stage, if a processor is written down by then: if none is, the modes are as they were
abbrev pub between : List ℕ → State → Trail → Trail
between [] book along = along
between (p ∷ procs) book along = trailed book along
