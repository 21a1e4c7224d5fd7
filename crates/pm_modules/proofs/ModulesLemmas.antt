-- A word below those that a module can have is in no range.
use Rattle.std.proofs.Common.{◌≡◌, ◌<◌, List, [], ◌∷◌, map, None, false, refl, arith}
use Rattle.std.specs.Prelude.{nat_le}
use Rattle.std.proofs.lemmas.Bool.Decides.{nat_tests}
use Rattle.pm_base.specs.declared.events.Message.{Message}
use Rattle.pm_modules.specs.Modules.{ranged}
use Rattle.pm_modules.specs.Ranges.{said_by}
use Rattle.pm_modules.specs.declared.module.ModuleOf.{ModuleOf}
use Rattle.pm_modules.specs.declared.responders.Responder as Responder

pub none_below : {H : Type 0} (responder : Responder.Ghosts H) (items : List (ModuleOf H)) (message : Message) → message.api < 256
    → said_by (map (ranged responder) items) message ≡ None
none_below responder [] message below = refl
none_below responder (it ∷ rest) message below =
    let out : nat_le it.first message.api ≡ false = grind (arith, nat_tests, below, it.from) in
    rw out (none_below responder rest message below)
