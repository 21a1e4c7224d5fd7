-- Lists of changes of which the same part is seen keep two books alike.
use Rattle.std.proofs.Common.{◌≡◌, Bool, true, false, if◌then◌else◌, List, [], ◌∷◌, refl, subst}
use Rattle.pm_laws.proofs.Common.{Agree, BelowLaws, Border, Fixed, IsUnseen, Now, Prim, Same, State, applies, apply, changed, seen, seen_part}
use Rattle.pm_laws.proofs.AgreeLaw.{same_sym, same_trans}
use Rattle.pm_laws.proofs.PrimFacts.{prim_alike, prim_unseen}

-- what is left of the changes is made in both alike, if the first one is
first_made : BelowLaws → (fixed : Fixed) (border : Border) (prim : Prim) (seen_later later : List Prim) (a b : Now) (is : Bool) → border.some ≡ true → seen border prim ≡ is → Same fixed border a b → ((x y : Now) → Same fixed border x y → Same fixed border (applies fixed later x) (applies fixed seen_later y)) → Same fixed border (applies fixed later (apply fixed prim a)) (applies fixed (if is then prim ∷ seen_later else seen_later) b)
first_made laws fixed border prim seen_later later a b true some is same rest =
    rest (apply fixed prim a) (apply fixed prim b) (prim_alike laws fixed border prim a b some is same)
first_made laws fixed border prim seen_later later a b false some is same rest =
    rest (apply fixed prim a) b (prim_unseen laws fixed border prim a b is same)

-- of the changes that are made in one book, those that are seen are made in the other
seen_made : BelowLaws → (fixed : Fixed) (border : Border) (prims : List Prim) (a b : Now) → border.some ≡ true → Same fixed border a b → Same fixed border (applies fixed prims a) (applies fixed (seen_part border prims) b)
seen_made laws fixed border [] a b some same = same
seen_made laws fixed border (prim ∷ prims) a b some same =
    first_made laws fixed border prim (seen_part border prims) prims a b (seen border prim) some refl same (λ x y is. seen_made laws fixed border prims x y some is)

-- two lists of changes with the same visible part, one made in each book, if some master is beyond
pub changes_alike : BelowLaws → (fixed : Fixed) (border : Border) (ps qs : List Prim) (a b : Now) → border.some ≡ true → seen_part border ps ≡ seen_part border qs → Same fixed border a b → Same fixed border (applies fixed ps a) (applies fixed qs b)
changes_alike laws fixed border ps qs a b some is same =
    let turned : Same fixed border b a = same_sym fixed border a b same in
    let itself : Same fixed border b b = same_trans fixed border b a b turned same in
    let P : List Prim → Type 0 = λ part. Same fixed border (applies fixed ps a) (applies fixed part b) in
    let first : Same fixed border (applies fixed ps a) (applies fixed (seen_part border qs) b) = subst P is (seen_made laws fixed border ps a b some same) in
    let second : Same fixed border (applies fixed (seen_part border qs) b) (applies fixed qs b) =
    same_sym fixed border (applies fixed qs b) (applies fixed (seen_part border qs) b) (seen_made laws fixed border qs b b some itself)
    in
    same_trans fixed border (applies fixed ps a) (applies fixed (seen_part border qs) b) (applies fixed qs b) first second

pub changes_agree : BelowLaws → (border : Border) (ps qs : List Prim) (a b : State) → border.some ≡ true → seen_part border ps ≡ seen_part border qs → Agree border a b → Agree border (changed ps a) (changed qs b)
changes_agree laws border ps qs a b some is agree =
    let P : Fixed → Type 0 = λ fixed. Same a.fixed border (applies a.fixed ps a.now) (applies fixed qs b.now) in
    record { fixed = agree.fixed; now = subst P agree.fixed (changes_alike laws a.fixed border ps qs a.now b.now some is agree.now) }

-- unseen changes, made in one book alone
unseen_first : BelowLaws → (fixed : Fixed) (border : Border) (prim : Prim) (prims part : List Prim) (a b : Now) (is : Bool) → seen border prim ≡ is → (if is then prim ∷ part else part) ≡ [] → Same fixed border a b → (part ≡ [] → (x : Now) → Same fixed border x b → Same fixed border (applies fixed prims x) b) → Same fixed border (applies fixed prims (apply fixed prim a)) b
unseen_first laws fixed border prim prims part a b true is none same rest = cc
unseen_first laws fixed border prim prims part a b false is none same rest =
    rest none (apply fixed prim a) (prim_unseen laws fixed border prim a b is same)

unseen_made : BelowLaws → (fixed : Fixed) (border : Border) (prims : List Prim) (a b : Now) → IsUnseen border prims → Same fixed border a b → Same fixed border (applies fixed prims a) b
unseen_made laws fixed border [] a b none same = same
unseen_made laws fixed border (prim ∷ prims) a b none same =
    unseen_first laws fixed border prim prims (seen_part border prims) a b (seen border prim) refl none same (λ later x is. unseen_made laws fixed border prims x b later is)

pub unseen_agree : BelowLaws → (border : Border) (ps : List Prim) (a b : State) → IsUnseen border ps → Agree border a b → Agree border (changed ps a) b
unseen_agree laws border ps a b is agree = record { fixed = agree.fixed; now = unseen_made laws a.fixed border ps a.now b.now is agree.now }

-- the two facts of one change of two books
pub seen_agree : BelowLaws → (border : Border) (prim : Prim) (a b : State) → border.some ≡ true → seen border prim ≡ true → Agree border a b → Agree border (changed (prim ∷ []) a) (changed (prim ∷ []) b)
seen_agree laws border prim a b some is agree = changes_agree laws border (prim ∷ []) (prim ∷ []) a b some refl agree

pub one_unseen : BelowLaws → (border : Border) (prim : Prim) (a b : State) → seen border prim ≡ false → Agree border a b → Agree border (changed (prim ∷ []) a) b
one_unseen laws border prim a b is agree = record { fixed = agree.fixed; now = prim_unseen laws a.fixed border prim a.now b.now is agree.now }
