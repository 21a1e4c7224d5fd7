-- A module may be added beside another if they have no word in common.
use Rattle.std.proofs.Common.{◌≡◌, ℕ, Bool, true, false, if◌then◌else◌, List, [], ◌∷◌, ◌++◌, length, Some, None, refl, ap, ◌∙◌}
use Rattle.std.specs.Prelude.{map, nat_le}
use Rattle.pm_base.specs.declared.events.Message.{Message}
use Rattle.pm_ipi.specs.declared.responses.Response.{Response}
use Rattle.pm_modules.specs.Ranges.{Ranged, have_common_word}
use Rattle.pm_modules.specs.Modules.{overlaps_in, ranged, ranges, refusal}
use Rattle.pm_modules.specs.declared.module.ModuleOf.{ModuleOf}
use Rattle.pm_modules.specs.declared.modules.AddErrorOf.TheVariants.{Overlap, Full}
use Rattle.pm_modules.specs.declared.modules.ModulesOf.{ModulesOf}
use Rattle.pm_modules.specs.declared.responders.Responder as Responder

abbrev first_of : Ranged → List Ranged → Ranged
first_of other [] = other
first_of other (it ∷ rest) = it

module _ {H : Type 0} (responder : Responder.Ghosts H) (added : ModuleOf H) (r : Ranged) (none : have_common_word (ranged responder added) r ≡ false) where
  apart : (items : List (ModuleOf H)) → map (ranged responder) items ≡ r ∷ [] → overlaps_in responder added items ≡ false
  apart [] is = cc
  apart (x ∷ []) is =
      ap (λ (b : Bool). if b then true else false) (ap (λ xs. have_common_word (ranged responder added) (first_of r xs)) is ∙ none)
  apart (x ∷ y ∷ items) is = cc

  one : (items : List (ModuleOf H)) → map (ranged responder) items ≡ r ∷ [] → length items ≡ 1
  one [] is = cc
  one (x ∷ []) is = refl
  one (x ∷ y ∷ items) is = cc

  fits : (it : ModulesOf H) → ranges responder it ≡ r ∷ [] → refusal responder added it ≡ None
  fits it is =
      ap (λ (b : Bool). if b then Some (Overlap added) else if nat_le 8 (length it.modules.items) then Some (Full added) else None) (apart it.modules.items is)
      ∙ ap (λ (n : ℕ). if nat_le 8 n then Some (Full added) else None) (one it.modules.items is)

  -- a module may be added beside the only one
  pub fits_beside : (it : ModulesOf H) (before : List Ranged) → ranges responder it ≡ before ++ r ∷ [] → before ≡ [] → refusal responder added it ≡ None
  fits_beside it before is none = fits it (is ∙ ap (λ xs. xs ++ r ∷ []) none)

-- modules of words 256 to 259 and of 260 to 263 have no word in common
pub have_none : (x y : Ranged) (says other : Message → Response) → x ≡ record { first = 260; last = 263; says = says } → y ≡ record { first = 256; last = 259; says = other }
    → have_common_word x y ≡ false
have_none x y says other later earlier = ap (λ x. have_common_word x y) later ∙ ap (λ y. have_common_word (record { first = 260; last = 263; says = says }) y) earlier
