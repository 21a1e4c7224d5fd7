-- The rows follow alike in two books that agree: a master's mode comes from its own processors alone.
use Rattle.std.proofs.Common.{◌≡◌, ℕ, ◌+◌, ◌<◌, Bool, true, false, ◌==◌, if◌then◌else◌, List, [], ◌∷◌, ◌++◌, length, Option, Some, None, refl, sym, ◌∙◌, ap, subst, arith}
use Rattle.std.proofs.lemmas.Bool.{eqb-true}
use Rattle.std.proofs.lemmas.List.Elements.{filter-append}
use Rattle.pm_laws.proofs.Common.{Agree, BelowLaws, Border, CoreHalf, Fixed, IsBeyond, IsUnseen, KnowsModes, MasterRec, Mode, Now, Off, Prim, Same, SameProc, Shift, State, changed, is_place, members_at, members_of, mode_among, mode_at, mode_of_master, off, owner_at, proc_at, same_mode, seen, seen_part}
use Rattle.pm_base.proofs.Booleans.{equal}
use Rattle.pm_procs.specs.declared.procs.Proc.{Proc}
use Rattle.pm_rows.specs.Rows.{mode_of}
use Rattle.pm_state.specs.Members.{owns}
use Rattle.pm_state.specs.Stages.{follow_to, follow_at, follow_from, follow, followed, after_stage}
use Rattle.pm_laws.proofs.AgreeLaw.{agree_sym}
use Rattle.pm_laws.proofs.ChangesLaw.{changes_agree, unseen_agree}
use Rattle.pm_laws.proofs.Places.{BothFrom-get, map_among}
use Rattle.pm_laws.proofs.PrimFacts.{known_alike}

-- ---- modes

pub placed : (m : ℕ) (owner : Option ℕ) → is_place m owner ≡ true → owner ≡ Some m
placed m None is = cc
placed m (Some k) is = ap (λ j. Some j) (eqb-true k m is)

-- a processor of a master beyond is the same in both
pub proc_alike : (fixed : Fixed) (border : Border) (m p : ℕ) (a b : Now) → IsBeyond border m → owns fixed.object fixed.topology m p ≡ true → Same fixed border a b → proc_at p a.core.procs ≡ proc_at p b.core.procs
proc_alike fixed border m p a b beyond own same =
    BothFrom-get (SameProc fixed border) (λ x y. x ≡ y) 0 p p off (omega arith) refl
    (λ x y is. is.beyond m (placed m (owner_at fixed.object fixed.topology p) own) beyond) a.core.procs b.core.procs same.procs

-- a master beyond has the same mode in both
pub mode_alike : BelowLaws → (fixed : Fixed) (border : Border) (m : ℕ) (a b : Now) → IsBeyond border m → Same fixed border a b → mode_of_master fixed a.core m ≡ mode_of_master fixed b.core m
mode_alike laws fixed border m a b beyond same =
    ap mode_among (map_among (λ q p. q == p) (λ p. mode_at p a.core.procs) (λ p. mode_at p b.core.procs) (λ p. equal p p refl) (members_at m (members_of fixed.object fixed.topology))
    (λ p is. ap (λ (x : Proc). x.mode) (proc_alike fixed border m p a b beyond (laws.owned fixed.object fixed.topology m p is) same)))

-- ---- the shifts of one master

-- those of a master within aren't seen
shift_unseen : (border : Border) (m : ℕ) (mode : Mode) (stays : Bool) → border.master m ≡ false → seen_part border (if stays then [] else Shift m mode ∷ []) ≡ []
shift_unseen border m mode true within = refl
shift_unseen border m mode false within =
    let shifts : List Prim = Shift m mode ∷ [] in
    ap (λ b. if b then shifts else []) within

at_alike : BelowLaws → (fixed : Fixed) (border : Border) (m : ℕ) (a b : Now) (is : Bool) → border.master m ≡ is → Same fixed border a b → seen_part border (follow_at fixed a.core m) ≡ seen_part border (follow_at fixed b.core m)
at_alike laws fixed border m a b true beyond same =
    ap (λ known. seen_part border (follow_to m known (mode_of_master fixed a.core m))) (known_alike fixed border m a b beyond same)
    ∙ ap (λ mode. seen_part border (follow_to m (mode_of m b.core.rows) mode)) (mode_alike laws fixed border m a b beyond same)
at_alike laws fixed border m a b false within same =
    shift_unseen border m (mode_of_master fixed a.core m) (same_mode (mode_of m a.core.rows) (mode_of_master fixed a.core m)) within
    ∙ sym (shift_unseen border m (mode_of_master fixed b.core m) (same_mode (mode_of m b.core.rows) (mode_of_master fixed b.core m)) within)

-- ---- the shifts of all masters

from_alike : BelowLaws → (fixed : Fixed) (border : Border) (m : ℕ) (masters : List MasterRec) (a b : Now) → Same fixed border a b → seen_part border (follow_from fixed a.core m masters) ≡ seen_part border (follow_from fixed b.core m masters)
from_alike laws fixed border m [] a b same = refl
from_alike laws fixed border m (master ∷ masters) a b same =
    let here = at_alike laws fixed border m a b (border.master m) refl same in
    let later = from_alike laws fixed border (m + 1) masters a b same in
    filter-append (seen border) (follow_at fixed a.core m) (follow_from fixed a.core (m + 1) masters)
    ∙ (ap (λ part. part ++ seen_part border (follow_from fixed a.core (m + 1) masters)) here
    ∙ (ap (λ part. seen_part border (follow_at fixed b.core m) ++ part) later
    ∙ sym (filter-append (seen border) (follow_at fixed b.core m) (follow_from fixed b.core (m + 1) masters))))

pub follow_alike : BelowLaws → (border : Border) (a b : State) → Agree border a b → seen_part border (follow a) ≡ seen_part border (follow b)
follow_alike laws border a b agree =
    let P : Fixed → Type 0 = λ fixed. seen_part border (follow a) ≡ seen_part border (follow_from fixed b.now.core 0 fixed.object.masters) in
    subst P agree.fixed (from_alike laws a.fixed border 0 a.fixed.object.masters a.now b.now agree.now)

-- ---- where the rows know the modes nothing shifts

pub stays_same : (mode : Mode) → same_mode mode mode ≡ true
stays_same Off = refl
stays_same _ = refl

at_rest : (m : ℕ) (known mode : Mode) → known ≡ mode → follow_to m known mode ≡ []
at_rest m known mode is =
    let same : same_mode known mode ≡ true = ap (λ other. same_mode known other) (sym is) ∙ stays_same known in
    let shifts : List Prim = Shift m mode ∷ [] in
    ap (λ b. if b then [] else shifts) same

from_rest : (fixed : Fixed) (core : CoreHalf) (m count : ℕ) (masters : List MasterRec) → m + length masters ≡ count → ((k : ℕ) → k < count → mode_of k core.rows ≡ mode_of_master fixed core k) → follow_from fixed core m masters ≡ []
from_rest fixed core m count [] is knows = refl
from_rest fixed core m count (master ∷ masters) is knows =
    let here : follow_at fixed core m ≡ [] = at_rest m (mode_of m core.rows) (mode_of_master fixed core m) (knows m (omega (arith, is))) in
    let later : follow_from fixed core (m + 1) masters ≡ [] = from_rest fixed core (m + 1) count masters (omega (arith, is)) knows in
    ap (λ first. first ++ follow_from fixed core (m + 1) masters) here ∙ later

pub follow_rests : (book : State) → KnowsModes book → follow book ≡ []
follow_rests book knows =
    from_rest book.fixed book.now.core 0 (length book.fixed.object.masters) book.fixed.object.masters (omega arith) knows.right

-- ---- stages

-- two stages with the same visible part, if some master is beyond
pub stage_agrees : BelowLaws → (border : Border) (ps qs : List Prim) (a b : State) → border.some ≡ true → seen_part border ps ≡ seen_part border qs → Agree border a b → Agree border (after_stage ps a) (after_stage qs b)
stage_agrees laws border ps qs a b some is agree =
    let after : Agree border (changed ps a) (changed qs b) = changes_agree laws border ps qs a b some is agree in
    changes_agree laws border (follow (changed ps a)) (follow (changed qs b)) (changed ps a) (changed qs b) some
    (follow_alike laws border (changed ps a) (changed qs b) after) after

-- a stage of which nothing is seen, beside a book that stays and whose rows know the modes
pub stage_hidden : BelowLaws → (border : Border) (ps : List Prim) (still now : State) → KnowsModes still → IsUnseen border ps → Agree border still now → Agree border still (after_stage ps now)
stage_hidden laws border ps still now knows unseen agree =
    let after : Agree border (changed ps now) still = unseen_agree laws border ps now still unseen (agree_sym border still now agree) in
    let rest : IsUnseen border (follow (changed ps now)) =
    follow_alike laws border (changed ps now) still after ∙ ap (λ prims. seen_part border prims) (follow_rests still knows)
    in
    agree_sym border (followed (changed ps now)) still (unseen_agree laws border (follow (changed ps now)) (changed ps now) still rest after)

-- ---- books

pub book_mode_alike : BelowLaws → (border : Border) (m : ℕ) (a b : State) → IsBeyond border m → Agree border a b → mode_of_master a.fixed a.now.core m ≡ mode_of_master b.fixed b.now.core m
book_mode_alike laws border m a b beyond agree =
    mode_alike laws a.fixed border m a.now b.now beyond agree.now ∙ ap (λ fixed. mode_of_master fixed b.now.core m) agree.fixed
