-- What the modules that are stored are to contracts. `responder` is the meaning of the interface of the handlers.
use Rattle.std.specs.Prelude.{List, [], ◌∷◌, map, length, Option, Some, None, Bool, true, false, nat_le, if◌then◌else◌}
use Rattle.pm_base.specs.declared.events.Message.{Message}
use Rattle.pm_ipi.specs.declared.responses.Response.{Response}
use Rattle.pm_modules.specs.Ranges.{Ranged, have_common_word, said_by}
use Rattle.pm_modules.specs.declared.module.ModuleOf.{ModuleOf}
use Rattle.pm_modules.specs.declared.modules.ModulesOf.{ModulesOf}
use Rattle.pm_modules.specs.declared.modules.AddErrorOf.{AddErrorOf}
use Rattle.pm_modules.specs.declared.modules.AddErrorOf.TheVariants.{Overlap, Full}
use Rattle.pm_modules.specs.declared.responders.Responder as Responder

module _ {H : Type 0} (responder : Responder.Ghosts H) where
  -- a module: its range, and what its handler says
  abbrev pub ranged : ModuleOf H → Ranged
  ranged it = record { first = it.first; last = it.last; says = responder.says it.handler }

  -- the modules, in the order in which they were added
  abbrev pub ranges : ModulesOf H → List Ranged
  ranges it = map ranged it.modules.items

  abbrev pub says_of : ModulesOf H → Message → Option Response
  says_of it message = said_by (ranges it) message

  -- a word is in the range of the module that is added and in that of one of these
  abbrev pub overlaps_in : ModuleOf H → List (ModuleOf H) → Bool
  overlaps_in added [] = false
  overlaps_in added (it ∷ rest) =
      if have_common_word (ranged added) (ranged it) then true else overlaps_in added rest

  abbrev pub overlaps : ModuleOf H → ModulesOf H → Bool
  overlaps added it = overlaps_in added it.modules.items

  -- why a module isn't added, if it isn't: an overlap comes first, and there is room for eight
  abbrev pub refusal : ModuleOf H → ModulesOf H → Option (AddErrorOf H)
  refusal added it =
      if overlaps added it then Some (Overlap added)
      else if nat_le 8 (length it.modules.items) then Some (Full added)
      else None
