use Rattle.std.proofs.Common.{◌==◌, refl}
use Rattle.std.proofs.lemmas.List.{length-set}
use Rattle.pm_rows.proofs.Known.{count_at_load, mode_set_at, mode_at_load}
use Rattle.pm_rows.proofs.laws.rows_know_modes.Goals as goal

pub returns-clause-load : goal.returns-clause-load
returns-clause-load c masters slaves boot room m seeds within = mode_at_load masters boot m within

pub returns-clause-shift : goal.returns-clause-shift
returns-clause-shift c rows m k to within = mode_set_at rows.known m k to within (k == m) refl

pub returns-clause-count : goal.returns-clause-count
returns-clause-count c masters slaves boot room seeds = count_at_load masters boot

pub returns-clause-same_count : goal.returns-clause-same_count
returns-clause-same_count c rows m to = length-set rows.known m to
