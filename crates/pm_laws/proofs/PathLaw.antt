-- The books along a step: in the hidden shape all agree with the book before, and in the alike shape they agree one by one.
use Rattle.std.proofs.Common.{◌≡◌, true, List, [], ◌∷◌, refl, subst}
use Rattle.std.specs.List.{AllByRecursion as Each}
use Rattle.pm_laws.proofs.Common.{Agree, AreAlike, AreHidden, BelowLaws, Border, Both, Fixed, KnowsModes, Prim, Same, State}
use Rattle.pm_state.specs.Stages.{after_stage, after_stages, last_of, path_from}
use Rattle.pm_laws.proofs.FollowLaw.{stage_agrees, stage_hidden}

-- ---- hidden

pub path_hidden : BelowLaws → (border : Border) (stages : List (List Prim)) (still now : State) → KnowsModes still → AreHidden border stages → Agree border still now → Each (Agree border still) (path_from stages now)
path_hidden laws border [] still now knows hidden agree = tt
path_hidden laws border (stage ∷ later) still now knows hidden agree =
    let next : Agree border still (after_stage stage now) = stage_hidden laws border stage still now knows hidden.0 agree in
    (next, path_hidden laws border later still (after_stage stage now) knows hidden.1 next)

last_hidden : (border : Border) (still now : State) (books : List State) → Agree border still now → Each (Agree border still) books → Agree border still (last_of now books)
last_hidden border still now [] agree each = agree
last_hidden border still now (book ∷ books) agree each = last_hidden border still book books each.0 each.1

pub stages_hidden : BelowLaws → (border : Border) (stages : List (List Prim)) (still now : State) → KnowsModes still → AreHidden border stages → Agree border still now → Agree border still (after_stages stages now)
stages_hidden laws border stages still now knows hidden agree =
    let last : Agree border still (last_of now (path_from stages now)) =
    last_hidden border still now (path_from stages now) agree (path_hidden laws border stages still now knows hidden agree)
    in
    record { fixed = agree.fixed; now = last.now }

-- ---- alike, where some master is beyond

pub path_alike : BelowLaws → (border : Border) (first second : List (List Prim)) (a b : State) → border.some ≡ true → AreAlike border first second → Agree border a b → Both (Agree border) (path_from first a) (path_from second b)
path_alike laws border [] [] a b some alike agree = tt
path_alike laws border [] (q ∷ qs) a b some alike agree = absurd alike
path_alike laws border (p ∷ ps) [] a b some alike agree = absurd alike
path_alike laws border (p ∷ ps) (q ∷ qs) a b some alike agree =
    let next : Agree border (after_stage p a) (after_stage q b) = stage_agrees laws border p q a b some alike.0 agree in
    (next, path_alike laws border ps qs (after_stage p a) (after_stage q b) some alike.1 next)

last_alike : (border : Border) (a b : State) (first second : List State) → Agree border a b → Both (Agree border) first second → Agree border (last_of a first) (last_of b second)
last_alike border a b [] [] agree each = agree
last_alike border a b [] (y ∷ ys) agree each = absurd each
last_alike border a b (x ∷ xs) [] agree each = absurd each
last_alike border a b (x ∷ xs) (y ∷ ys) agree each = last_alike border x y xs ys each.0 each.1

-- what is fixed stays along the stages
last_fixed : (stages : List (List Prim)) (book : State) → (last_of book (path_from stages book)).fixed ≡ book.fixed
last_fixed [] book = refl
last_fixed (stage ∷ later) book = last_fixed later (after_stage stage book)

pub stages_alike : BelowLaws → (border : Border) (first second : List (List Prim)) (a b : State) → border.some ≡ true → AreAlike border first second → Agree border a b → Agree border (after_stages first a) (after_stages second b)
stages_alike laws border first second a b some alike agree =
    let last : Agree border (last_of a (path_from first a)) (last_of b (path_from second b)) =
    last_alike border a b (path_from first a) (path_from second b) agree (path_alike laws border first second a b some alike agree)
    in
    let P : Fixed → Type 0 = λ fixed. Same fixed border (last_of a (path_from first a)).now (last_of b (path_from second b)).now in
    record { fixed = agree.fixed; now = subst P (last_fixed first a) last.now }
