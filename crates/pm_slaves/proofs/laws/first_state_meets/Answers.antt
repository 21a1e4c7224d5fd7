use Rattle.pm_slaves.proofs.Full.{first_at, always_found}
use Rattle.pm_slaves.proofs.laws.first_state_meets.Goals as goal

pub returns : goal.returns
returns c = record { first = first_at; full = always_found }
