use Rattle.pm_device.specs.Chains.{values_after-append}
use Rattle.pm_device.proofs.ChainLaw.{AllMatch-append, AreHarmless-append, refusals-append, shown_by-append}
use Rattle.pm_device.proofs.laws.acts_append.Goals as goal

pub returns-clause-refusals : goal.returns-clause-refusals
returns-clause-refusals c = refusals-append

pub returns-clause-values : goal.returns-clause-values
returns-clause-values c = values_after-append

pub returns-clause-shown : goal.returns-clause-shown
returns-clause-shown c = shown_by-append

pub returns-clause-matched : goal.returns-clause-matched
returns-clause-matched c = AllMatch-append

pub returns-clause-harmless : goal.returns-clause-harmless
returns-clause-harmless c = AreHarmless-append
