-- What is said of the controller that was found.
use Rattle.std.proofs.Common.{◌≡◌, true, false, Option, Some, None, refl, sym, subst}
use Rattle.std.specs.Prelude.{IsSome, is_none, is_some, option_map}
use Rattle.pm_controller.specs.Controls.{Controls}
use Rattle.pm_slot.specs.Held.{OfSome}

pub found : {B : Type 0} (value : B → Controls) (P : Controls → Type 0) (o : Option B) (b : B) (seen : Controls) → o ≡ Some b → seen ≡ value b → P seen → OfSome P (option_map value o)
found {B} value P o b seen is same p = subst (λ (o : Option B). OfSome P (option_map value o)) (sym is) (subst P same p)

-- what isn't none is some
pub not_none : {X : Type 0} (o : Option X) → false ≡ is_none o → IsSome o
not_none None is = cc
not_none (Some x) is = refl

pub is_there : {X : Type 0} (o : Option X) → true ≡ is_some o → IsSome o
is_there None is = cc
is_there (Some x) is = refl

pub is_none_now : {X : Type 0} (o : Option X) → true ≡ is_none o → o ≡ None
is_none_now None is = refl
is_none_now (Some x) is = cc
