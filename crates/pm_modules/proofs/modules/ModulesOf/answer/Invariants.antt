use Rattle.std.proofs.Common.{◌≡◌, drop, map}
use Rattle.pm_modules.specs.Ranges.{said_by}
use Rattle.pm_modules.specs.Modules.{ranged}
use Rattle.pm_modules.proofs.modules.ModulesOf.answer.Given as goal

-- what the modules that are left say is what all say
abbrev pub invariant-loop-module : goal.invariant-loop-module
invariant-loop-module g l = said_by (map (ranged g.H.Responder) (drop l.module-index l.self.modules.items)) l.message ≡ said_by (map (ranged g.H.Responder) l.self.modules.items) l.message
