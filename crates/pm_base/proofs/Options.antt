-- What holds of the value of an option.
use Rattle.std.proofs.Common.{◌≡◌, Option, Some, IfSome, subst}

-- what holds where a value is there holds of this value
pub holds_of : {X : Type 0} (P : X → Type 0) (o : Option X) (x : X) → o ≡ Some x → IfSome o P → P x
holds_of {X} P o x is holds = let Q : Option X → Type 0 = λ o. IfSome o P in subst Q is holds
