use Rattle.std.proofs.lemmas.List.{length-map, length-replicate, length-set}
use Rattle.pm_procs.proofs.PendingLaw as law
use Rattle.pm_procs.proofs.laws.requests_of_masters.Goals as goal

pub returns-clause-asks : goal.returns-clause-asks
returns-clause-asks c = law.asks

pub returns-clause-asks_one : goal.returns-clause-asks_one
returns-clause-asks_one c = law.asks_one

pub returns-clause-ends : goal.returns-clause-ends
returns-clause-ends c = law.ends

pub returns-clause-ends_one : goal.returns-clause-ends_one
returns-clause-ends_one c = law.ends_one

pub returns-clause-passes : goal.returns-clause-passes
returns-clause-passes c = law.passes

pub returns-clause-adds : goal.returns-clause-adds
returns-clause-adds c = law.adds

pub returns-clause-due : goal.returns-clause-due
returns-clause-due c = law.due

pub returns-clause-load : goal.returns-clause-load
returns-clause-load c = law.load

pub returns-clause-length_asked : goal.returns-clause-length_asked
returns-clause-length_asked c m request pending = length-set pending m _

pub returns-clause-length_ended : goal.returns-clause-length_ended
returns-clause-length_ended c m pending = length-set pending m _

pub returns-clause-length_lowered : goal.returns-clause-length_lowered
returns-clause-length_lowered c count pending = length-map pending _

pub returns-clause-length_load : goal.returns-clause-length_load
returns-clause-length_load c masters = length-replicate masters _

pub returns-clause-renew : goal.returns-clause-renew
returns-clause-renew c = law.renew
