-- A change that isn't seen, and what a closed border keeps within.
use Rattle.std.proofs.Common.{◌≡◌, Bool, true, false, if◌then◌else◌, List, [], ◌∷◌, refl, sym, ◌∙◌, ap}
use Rattle.pm_grants.specs.declared.grants.Grants.{Grants}
use Rattle.pm_grants.specs.Several.{all_grants, some_permits}
use Rattle.pm_laws.specs.Agree.{IsAmong}
use Rattle.pm_state.specs.State.{grants_in, objects_of}
use Rattle.pm_state.proofs.ObjectsLaw.{permitted_by_some}
use Rattle.pm_laws.proofs.Common.{Border, IsClosed, IsUnseen, Prim, State, in_force, seen}

pub one_hidden : (border : Border) (prim : Prim) → seen border prim ≡ false → IsUnseen border (prim ∷ [])
one_hidden border prim is = let prims : List Prim = prim ∷ [] in ap (λ b. if b then prims else []) is

-- what gives only what isn't there isn't there
pub within_by : (b c : Bool) → (b ≡ true → c ≡ true) → c ≡ false → b ≡ false
within_by false c gives none = refl
within_by true c gives none = let e : true ≡ false = sym (gives refl) ∙ none in cc

-- in a book an object of the run is in force, and a border is closed by what these permit
pub record HasClosed (border : Border) (book : State) : Type 0 where
  pub closed : IsClosed book.fixed border
  pub force : IsAmong book.fixed (in_force book)

-- what the object in force permits one of the run's does
pub by_one : (book : State) (permits : Grants → Bool) → IsAmong book.fixed (in_force book) → permits (grants_in book) ≡ true → some_permits permits (all_grants (objects_of book.fixed) book.fixed.topology) ≡ true
by_one book permits of may = permitted_by_some permits book.fixed of.place (in_force book) of.there may
