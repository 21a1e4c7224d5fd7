-- The units that move, place by place and as a whole.
use Rattle.std.proofs.Common.{◌≡◌, ℕ, ◌+◌, ◌<◌, ◌≤◌, ◌==◌, Bool, true, false, not, cond, if◌then◌else◌, List, [], ◌∷◌, ◌++◌, length, map, take, drop, length-append, slice_get, Option, Some, None, refl, zero, suc, arith, ap, sym, ◌∙◌, subst, append_assoc, inl, inr}
use Rattle.std.specs.Prelude.{filter}
use Rattle.std.proofs.lemmas.Option.{slice_get_cases}
use Rattle.pm_base.proofs.ListLemmas.{drop_found}
use Rattle.pm_base.specs.declared.names.Unit.{Unit}
use Rattle.pm_topology.specs.UnitMap.{with_value_at, units_in}
use Rattle.pm_values.specs.declared.caches.UnitKind.{UnitKind}
use Rattle.pm_values.specs.Caches.{revalued, moved_at, moved_by}

take_written : {T : Type 0} (k : ℕ) (value : T) (es : List (Unit × T)) (e : Unit × T) → slice_get es k ≡ Some e → take (suc k) (with_value_at k value es) ≡ take k es ++ (e.0, value) ∷ []
take_written k value [] e here = cc
take_written zero value (x ∷ xs) e here = let same : x ≡ e = cc in ap (λ y. (y.0, value) ∷ []) same
take_written (suc k) value (x ∷ xs) e here = ap (λ ys. x ∷ ys) (take_written k value xs e here)

drop_written : {T : Type 0} (k : ℕ) (value : T) (es : List (Unit × T)) → drop (suc k) (with_value_at k value es) ≡ drop (suc k) es
drop_written k value [] = refl
drop_written zero value (x ∷ xs) = refl
drop_written (suc k) value (x ∷ xs) = drop_written k value xs

pub left_written : {T : Type 0} (k : ℕ) (value : T) (es : List (Unit × T)) → drop (k + 1) (with_value_at k value es) ≡ drop (k + 1) es
left_written k value es =
    let next : suc k ≡ k + 1 = omega arith in
    let P : ℕ → Type 0 = λ n. drop n (with_value_at k value es) ≡ drop n es in
    subst P next (drop_written k value es)

-- a value that is written where it stands changes nothing
pub same_written : {T : Type 0} (k : ℕ) (value : T) (es : List (Unit × T)) (e : Unit × T) → slice_get es k ≡ Some e → e.1 ≡ value → with_value_at k value es ≡ es
same_written k value [] e here same = refl
same_written zero value (x ∷ xs) e here same = let is : x ≡ e = cc in ap (λ v. (x.0, v) ∷ xs) (sym (ap (λ y. y.1) is ∙ same))
same_written (suc k) value (x ∷ xs) e here same = ap (λ ys. x ∷ ys) (same_written k value xs e here same)

pub length-written : {T : Type 0} (k : ℕ) (value : T) (es : List (Unit × T)) → length (with_value_at k value es) ≡ length es
length-written k value [] = refl
length-written zero value (x ∷ xs) = refl
length-written (suc k) value (x ∷ xs) = let later : length (with_value_at k value xs) ≡ length xs = length-written k value xs in omega arith

few_at : (b : Bool) (u : Unit) → length (if b then [] else u ∷ []) ≤ 1
few_at true u = omega arith
few_at false u = omega arith

few_moved : (value : ℕ) (e : Option (Unit × ℕ)) → length (moved_at value e) ≤ 1
few_moved value None = omega arith
few_moved value (Some e) = few_at (e.1 == value) e.0

-- one unit more has moved at most
pub length-moved_at : (value : ℕ) (e : Option (Unit × ℕ)) (items new : List Unit) → new ≡ items ++ moved_at value e → length new ≤ length items + 1
length-moved_at value e items new is =
    let all : length new ≡ length items + length (moved_at value e) = ap length is ∙ length-append items (moved_at value e) in
    let few : length (moved_at value e) ≤ 1 = few_moved value e in
    omega arith

-- what the turn of the loop at place k does to the values, where this entry stands
values_at : (new : UnitKind → ℕ) (kinds : List UnitKind) (k : ℕ) (kind : UnitKind) (es : List (Unit × ℕ)) (e : Unit × ℕ) → slice_get kinds k ≡ Some kind → slice_get es k ≡ Some e → take (suc k) (with_value_at k (new kind) es) ++ revalued new (drop (suc k) kinds) (drop (suc k) (with_value_at k (new kind) es)) ≡ take k es ++ revalued new (drop k kinds) (drop k es)
values_at new kinds k kind es e at here =
    let next : k + 1 ≡ suc k = omega arith in
    let front : take (suc k) (with_value_at k (new kind) es) ≡ take k es ++ (e.0, new kind) ∷ [] = take_written k (new kind) es e here in
    let back : drop (suc k) (with_value_at k (new kind) es) ≡ drop (suc k) es = drop_written k (new kind) es in
    let left : drop k es ≡ e ∷ drop (suc k) es = drop_found es k e here ∙ ap (λ n. e ∷ drop n es) next in
    let kinds_left : drop k kinds ≡ kind ∷ drop (suc k) kinds = drop_found kinds k kind at ∙ ap (λ n. kind ∷ drop n kinds) next in
    ap (λ xs. xs ++ revalued new (drop (suc k) kinds) (drop (suc k) (with_value_at k (new kind) es))) front
    ∙ (append_assoc (take k es) ((e.0, new kind) ∷ []) (revalued new (drop (suc k) kinds) (drop (suc k) (with_value_at k (new kind) es)))
    ∙ (ap (λ ys. take k es ++ ((e.0, new kind) ∷ revalued new (drop (suc k) kinds) ys)) back
    ∙ (ap (λ ys. take k es ++ revalued new (kind ∷ drop (suc k) kinds) ys) (sym left)
    ∙ ap (λ ks. take k es ++ revalued new ks (drop k es)) (sym kinds_left))))

pub values_step : (new : UnitKind → ℕ) (kinds : List UnitKind) (k : ℕ) (kind : UnitKind) (es : List (Unit × ℕ)) (whole : List (Unit × ℕ)) → slice_get kinds k ≡ Some kind → k < length es → take k es ++ revalued new (drop k kinds) (drop k es) ≡ whole → take (k + 1) (with_value_at k (new kind) es) ++ revalued new (drop (k + 1) kinds) (drop (k + 1) (with_value_at k (new kind) es)) ≡ whole
values_step new kinds k kind es whole at within before =
    let next : suc k ≡ k + 1 = omega arith in
    let P : ℕ → Type 0 = λ n. take n (with_value_at k (new kind) es) ++ revalued new (drop n kinds) (drop n (with_value_at k (new kind) es)) ≡ whole in
    elim ((slice_get_cases es k).1) [
      | inl here ↦ subst P next (values_at new kinds k kind es here.0 at here.2 ∙ before)
      | inr past ↦ absurd (omega (arith, past.0))
    ]

-- what it does to the units that moved
moves_at : (new : UnitKind → ℕ) (kinds : List UnitKind) (k : ℕ) (kind : UnitKind) (es : List (Unit × ℕ)) (e : Unit × ℕ) (items : List Unit) → slice_get kinds k ≡ Some kind → slice_get es k ≡ Some e → (items ++ moved_at (new kind) (slice_get es k)) ++ moved_by new (drop (suc k) kinds) (drop (suc k) (with_value_at k (new kind) es)) ≡ items ++ moved_by new (drop k kinds) (drop k es)
moves_at new kinds k kind es e items at here =
    let next : k + 1 ≡ suc k = omega arith in
    let back : drop (suc k) (with_value_at k (new kind) es) ≡ drop (suc k) es = drop_written k (new kind) es in
    let left : drop k es ≡ e ∷ drop (suc k) es = drop_found es k e here ∙ ap (λ n. e ∷ drop n es) next in
    let kinds_left : drop k kinds ≡ kind ∷ drop (suc k) kinds = drop_found kinds k kind at ∙ ap (λ n. kind ∷ drop n kinds) next in
    append_assoc items (moved_at (new kind) (slice_get es k)) (moved_by new (drop (suc k) kinds) (drop (suc k) (with_value_at k (new kind) es)))
    ∙ (ap (λ o. items ++ (moved_at (new kind) o ++ moved_by new (drop (suc k) kinds) (drop (suc k) (with_value_at k (new kind) es)))) here
    ∙ (ap (λ ys. items ++ (moved_at (new kind) (Some e) ++ moved_by new (drop (suc k) kinds) ys)) back
    ∙ (ap (λ ys. items ++ moved_by new (kind ∷ drop (suc k) kinds) ys) (sym left)
    ∙ ap (λ ks. items ++ moved_by new ks (drop k es)) (sym kinds_left))))

pub moves_step : (new : UnitKind → ℕ) (kinds : List UnitKind) (k : ℕ) (kind : UnitKind) (es : List (Unit × ℕ)) (items whole : List Unit) → slice_get kinds k ≡ Some kind → k < length es → items ++ moved_by new (drop k kinds) (drop k es) ≡ whole → (items ++ moved_at (new kind) (slice_get es k)) ++ moved_by new (drop (k + 1) kinds) (drop (k + 1) (with_value_at k (new kind) es)) ≡ whole
moves_step new kinds k kind es items whole at within before =
    let next : suc k ≡ k + 1 = omega arith in
    let P : ℕ → Type 0 = λ n. (items ++ moved_at (new kind) (slice_get es k)) ++ moved_by new (drop n kinds) (drop n (with_value_at k (new kind) es)) ≡ whole in
    elim ((slice_get_cases es k).1) [
      | inl here ↦ subst P next (moves_at new kinds k kind es here.0 items at here.2 ∙ before)
      | inr past ↦ absurd (omega (arith, past.0))
    ]

-- all of a table
pub revalued_all : (new : UnitKind → ℕ) (kind_in : Unit → UnitKind) (es : List (Unit × ℕ)) → revalued new (map kind_in (units_in es)) es ≡ map (λ u. (u, new (kind_in u))) (units_in es)
revalued_all new kind_in [] = refl
revalued_all new kind_in (e ∷ es) = ap (λ xs. (e.0, new (kind_in e.0)) ∷ xs) (revalued_all new kind_in es)

one_moves : (b : Bool) (u : Unit) (later : List Unit) → (if b then [] else u ∷ []) ++ later ≡ cond (not b) (u ∷ later) later
one_moves true u later = refl
one_moves false u later = refl

-- the units that move, where the values before are those by a function of the unit
pub moved_all : (new : UnitKind → ℕ) (kind_in : Unit → UnitKind) (before now : Unit → ℕ) → ((u : Unit) → new (kind_in u) ≡ now u) → (us : List Unit) → moved_by new (map kind_in us) (map (λ u. (u, before u)) us) ≡ filter (λ u. not (before u == now u)) us
moved_all new kind_in before now are [] = refl
moved_all new kind_in before now are (u ∷ us) =
    let later : moved_by new (map kind_in us) (map (λ u. (u, before u)) us) ≡ filter (λ u. not (before u == now u)) us = moved_all new kind_in before now are us in
    ap (λ n. (if before u == n then [] else u ∷ []) ++ moved_by new (map kind_in us) (map (λ u. (u, before u)) us)) (are u)
    ∙ (one_moves (before u == now u) u (moved_by new (map kind_in us) (map (λ u. (u, before u)) us))
    ∙ ap (λ xs. cond (not (before u == now u)) (u ∷ xs) xs) later)

pub valued_same : (f g : Unit → ℕ) → ((u : Unit) → f u ≡ g u) → (us : List Unit) → map {B = Unit × ℕ} (λ u. (u, f u)) us ≡ map {B = Unit × ℕ} (λ u. (u, g u)) us
valued_same f g same [] = refl
valued_same f g same (u ∷ us) =
    ap (λ n. (u, n) ∷ map {B = Unit × ℕ} (λ u. (u, f u)) us) (same u)
    ∙ ap (λ xs. (u, g u) ∷ xs) (valued_same f g same us)

pub moved_by-same : (f g : UnitKind → ℕ) → ((kind : UnitKind) → f kind ≡ g kind) → (kinds : List UnitKind) (es : List (Unit × ℕ)) → moved_by f kinds es ≡ moved_by g kinds es
moved_by-same f g same [] es = refl
moved_by-same f g same (kind ∷ kinds) [] = refl
moved_by-same f g same (kind ∷ kinds) (e ∷ es) =
    ap (λ n. moved_at n (Some e) ++ moved_by f kinds es) (same kind)
    ∙ ap (λ xs. moved_at (g kind) (Some e) ++ xs) (moved_by-same f g same kinds es)
