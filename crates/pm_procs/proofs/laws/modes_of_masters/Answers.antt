use Rattle.std.proofs.lemmas.List.{length-set}
use Rattle.pm_procs.proofs.MastersLaw as law
use Rattle.pm_procs.proofs.laws.modes_of_masters.Goals as goal

pub returns-clause-goes : goal.returns-clause-goes
returns-clause-goes c = law.goes

pub returns-clause-others : goal.returns-clause-others
returns-clause-others c = law.others

pub returns-clause-apart : goal.returns-clause-apart
returns-clause-apart c = law.apart

pub returns-clause-address : goal.returns-clause-address
returns-clause-address c = law.address

pub returns-clause-active : goal.returns-clause-active
returns-clause-active c = law.active

pub returns-clause-off : goal.returns-clause-off
returns-clause-off c = law.all_members_off

pub returns-clause-load : goal.returns-clause-load
returns-clause-load c = law.load

pub returns-clause-length_mode : goal.returns-clause-length_mode
returns-clause-length_mode c p to procs = length-set procs p _

pub returns-clause-length_address : goal.returns-clause-length_address
returns-clause-length_address c p a procs = length-set procs p _

pub returns-clause-restart : goal.returns-clause-restart
returns-clause-restart c = law.restart
