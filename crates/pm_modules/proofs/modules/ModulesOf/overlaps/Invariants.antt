use Rattle.std.proofs.Common.{◌≡◌, drop}
use Rattle.pm_modules.specs.Modules.{overlaps_in}
use Rattle.pm_modules.proofs.modules.ModulesOf.overlaps.Given as goal

-- whether one that is left overlaps is whether one of all does
abbrev pub invariant-loop-module : goal.invariant-loop-module
invariant-loop-module g l = overlaps_in g.H.Responder l.added (drop l.module-index l.self.modules.items) ≡ overlaps_in g.H.Responder l.added l.self.modules.items
