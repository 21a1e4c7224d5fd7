-- Boxes by their places: what is put into one or taken out of it, and what stays of the others.
use Rattle.std.proofs.Common.{◌≡◌, ◌≢◌, ℕ, zero, suc, ◌<◌, ◌≤◌, List, [], ◌∷◌, ◌++◌, length, Option, None, refl, sym, ◌∙◌, ap, arith, drop}
use Rattle.std.proofs.lemmas.List.{append-nil}
use Rattle.std.specs.Prelude.{option_and_then, slice_get, slice_set}
use Rattle.pm_base.specs.declared.events.Message.{Message}
use Rattle.pm_ipi.specs.Mail.{all_empty, box_at, emptied}

-- a place that is written twice is as if it were written once
pub set_again : {X : Type 0} (xs : List X) (k : ℕ) (x y : X) → slice_set (slice_set xs k x) k y ≡ slice_set xs k y
set_again [] k x y = refl
set_again (z ∷ xs) zero x y = refl
set_again (z ∷ xs) (suc k) x y = ap (λ l. z ∷ l) (set_again xs k x y)

-- two places are written in either order
pub set_either : {X : Type 0} (xs : List X) (k j : ℕ) (x y : X) → k ≢ j → slice_set (slice_set xs k x) j y ≡ slice_set (slice_set xs j y) k x
set_either [] k j x y other = refl
set_either (z ∷ xs) zero zero x y other = absurd (other refl)
set_either (z ∷ xs) zero (suc j) x y other = refl
set_either (z ∷ xs) (suc k) zero x y other = refl
set_either (z ∷ xs) (suc k) (suc j) x y other = ap (λ l. z ∷ l) (set_either xs k j x y (λ e. other (ap suc e)))

pub get_other : {X : Type 0} (xs : List X) (k j : ℕ) (y : X) → k ≢ j → slice_get (slice_set xs k y) j ≡ slice_get xs j
get_other [] k j y other = refl
get_other (x ∷ xs) zero zero y other = absurd (other refl)
get_other (x ∷ xs) zero (suc j) y other = refl
get_other (x ∷ xs) (suc k) zero y other = refl
get_other (x ∷ xs) (suc k) (suc j) y other = get_other xs k j y (λ e. other (ap suc e))

-- ---- boxes

-- an empty box is emptied: nothing changes
pub empty_stays : (m : ℕ) (boxes : List (Option Message)) → box_at m boxes ≡ None → emptied m boxes ≡ boxes
empty_stays m [] is = refl
empty_stays zero (box ∷ boxes) is = ap (λ held. held ∷ boxes) (sym is)
empty_stays (suc m) (box ∷ boxes) is = ap (λ l. box ∷ l) (empty_stays m boxes is)

-- the box at a place where one was emptied, and at any other place
pub box_emptied : (m : ℕ) (boxes : List (Option Message)) → box_at m (emptied m boxes) ≡ None
box_emptied m [] = refl
box_emptied zero (box ∷ boxes) = refl
box_emptied (suc m) (box ∷ boxes) = box_emptied m boxes

pub box_other : (m k : ℕ) (boxes : List (Option Message)) → m ≢ k → box_at k (emptied m boxes) ≡ box_at k boxes
box_other m k boxes other = ap (λ (found : Option (Option Message)). option_and_then (λ held. held) found) (get_other boxes m k None other)

-- of boxes that are all empty each is
pub all_stay : (m n : ℕ) → emptied m (all_empty n) ≡ all_empty n
all_stay m zero = refl
all_stay zero (suc n) = refl
all_stay (suc m) (suc n) = ap (λ (l : List (Option Message)). None ∷ l) (all_stay m n)

-- ---- all boxes are emptied, one after another

pub next_empty : (m : ℕ) (boxes : List (Option Message)) → m < length boxes
    → emptied m (all_empty m ++ drop m boxes) ≡ all_empty (suc m) ++ drop (suc m) boxes
next_empty m [] within = absurd (omega arith)
next_empty zero (box ∷ boxes) within = refl
next_empty (suc m) (box ∷ boxes) within = ap (λ (l : List (Option Message)). None ∷ l) (next_empty m boxes (omega arith))

none_left : (m : ℕ) (boxes : List (Option Message)) → length boxes ≤ m → drop m boxes ≡ []
none_left zero [] past = refl
none_left (suc m) [] past = refl
none_left zero (box ∷ boxes) past = absurd (omega arith)
none_left (suc m) (box ∷ boxes) past = none_left m boxes (omega arith)

pub all_emptied : (m : ℕ) (boxes : List (Option Message)) → length boxes ≤ m → all_empty m ++ drop m boxes ≡ all_empty m
all_emptied m boxes past = ap (λ (l : List (Option Message)). all_empty m ++ l) (none_left m boxes past) ∙ append-nil (all_empty m)
