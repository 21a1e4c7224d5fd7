-- PM_SET_CONFIGURATION (UG1200; UG1137, configuration object).
use Rattle.std.specs.Prelude.{ℕ, Bool, List, [], ◌∷◌, Option, Some, None}
use Rattle.pm_object.specs.Causes.{cause_number}
use Rattle.pm_calls.specs.declared.verdict.Say.TheVariants.{Unwatch}
use Rattle.pm_calls.specs.Checks.{Checks, unchecked}
use Rattle.pm_calls.specs.Verdict.{Called, changing, saying}
use Rattle.pm_state.specs.declared.objects.Found.{Found}
use Rattle.pm_state.specs.declared.objects.Found.TheVariants.{Nothing, Unreadable, Unusable, Usable}
use Rattle.pm_state.specs.Prims.{Prim, Enforce}

-- none if an object that can be put in force is at the address, else the words of the refusal: for words that are no
-- object the cause and the place of the fault
abbrev pub unfit_words : Found → Option (List ℕ)
unfit_words Nothing = Some (0 ∷ 0 ∷ 0 ∷ [])
unfit_words (Unreadable fault) = Some (cause_number fault.cause ∷ fault.offset ∷ 0 ∷ [])
unfit_words Unusable = Some (0 ∷ 0 ∷ 0 ∷ [])
unfit_words (Usable k) = None

-- an object that can be put in force is at the address, and the caller may set the configuration
abbrev pub set_configuration_checks : Found → (permitted : Bool) → Checks
set_configuration_checks found permitted = record unchecked { arguments = unfit_words found; permitted = permitted }

-- the change that puts that object in force
abbrev pub enforced_by : Found → List Prim
enforced_by Nothing = []
enforced_by (Unreadable fault) = []
enforced_by Unusable = []
enforced_by (Usable k) = Enforce k ∷ []

-- the call that puts the object in force and removes all notifiers
abbrev pub set_configuration : Found → (permitted : Bool) → Called
set_configuration found permitted =
    record (changing (set_configuration_checks found permitted) (enforced_by found)) { effects = saying (Some Unwatch) }
