use Rattle.pm_base.proofs.Booleans.{unequal}
use Rattle.pm_rows.proofs.Shifted.{others_shifted, seed_shifted, armed_kept, armed_shifted, hold_shifted}
use Rattle.pm_rows.proofs.laws.shifts_leave_others.Goals as goal

pub returns-clause-others : goal.returns-clause-others
returns-clause-others c rows m from to entry other =
    others_shifted rows m from to entry (unequal entry.seed.master m other)

pub returns-clause-pair : goal.returns-clause-pair
returns-clause-pair c = seed_shifted

pub returns-clause-kept : goal.returns-clause-kept
returns-clause-kept c = armed_kept

pub returns-clause-armed : goal.returns-clause-armed
returns-clause-armed c = armed_shifted

pub returns-clause-hold : goal.returns-clause-hold
returns-clause-hold c = hold_shifted
