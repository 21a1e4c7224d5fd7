-- Marks that are made anew place by place.
use Rattle.std.proofs.Common.{◌≡◌, ℕ, ◌+◌, ◌<◌, ◌==◌, ◌||◌, ◌++◌, Bool, true, false, not, cond, nat_lt, List, [], ◌∷◌, Option, Some, None, length, zero, suc, refl, sym, ◌∙◌, ap, subst, arith}
use Rattle.std.specs.Prelude.{slice_get}
use Rattle.std.specs.List.{list_all, position_or_len}
use Rattle.std.specs.Option.{option_map}
use Rattle.std.proofs.lemmas.Bool.Decides.{nat_tests}
use Rattle.std.proofs.lemmas.Option.{slice_get-map}
use Rattle.pm_base.specs.declared.names.Unit.{Unit}
use Rattle.pm_base.proofs.Booleans.{both, equal, first_passes, neither}
use Rattle.pm_topology.specs.declared.topology.Topology.{Topology}
use Rattle.pm_topology.specs.UnitMap.{TablePlaceLaws, mapped, place_of, remade, units_in}
use Rattle.pm_topology.specs.Units.{has_in, is_before, rises, same_unit}
use Rattle.pm_topology.proofs.UnitMapLaw.{same-sym}
use Rattle.pm_topology.proofs.UnitsLaw.{none_after, same-refl}
use Rattle.pm_base.specs.Places.{has_place}
use Rattle.pm_isolate.specs.Marks.{Marks, is_proc, proc_places, renewed, renewed_along, renewed_at}
use Rattle.pm_isolate.proofs.HistoryLemmas.{one}

-- ---- lists

-- lists with the same element at each place are the same
ext : {X : Type 0} (xs ys : List X) → ((k : ℕ) → slice_get xs k ≡ slice_get ys k) → xs ≡ ys
ext [] [] same = refl
ext {X} [] (y ∷ ys) same = let e : ◌≡◌ {A = Option X} None (Some y) = same 0 in absurd cc
ext {X} (x ∷ xs) [] same = let e : ◌≡◌ {A = Option X} (Some x) None = same 0 in absurd cc
ext {X} (x ∷ xs) (y ∷ ys) same =
    let e : Some x ≡ Some y = same 0 in
    let head : x ≡ y = cc in
    ap (λ z. z ∷ xs) head ∙ ap (λ zs. y ∷ zs) (ext xs ys (λ k. same (suc k)))

pub neither_place : (xs ys : List ℕ) (k : ℕ) → has_place (xs ++ ys) k ≡ false → (has_place xs k ≡ false) × (has_place ys k ≡ false)
neither_place [] ys k none = (refl, none)
neither_place (x ∷ xs) ys k none =
    let parts = neither (x == k) (has_place (xs ++ ys) k) none in
    let rest = neither_place xs ys k parts.1 in
    (ap (λ (b : Bool). b || has_place xs k) parts.0 ∙ rest.0, rest.1)

-- ---- what stands at a place

get_at : TablePlaceLaws Bool → (f : Unit → Bool → Bool) (marks : Marks) (place k : ℕ) → slice_get (renewed_at f marks place) k ≡ cond (place == k) (option_map (remade f) (slice_get marks k)) (slice_get marks k)
get_at laws f marks place k = by (slice_get marks place) refl (place == k) refl
  where
    by : (o : Option (Unit × Bool)) → slice_get marks place ≡ o → (b : Bool) → (place == k) ≡ b → slice_get (renewed f place o marks) k ≡ cond b (option_map (remade f) (slice_get marks k)) (slice_get marks k)
    by None at true is =
        let none : slice_get marks k ≡ None = ap (λ (j : ℕ). slice_get marks j) (sym (one place k is)) ∙ at in
        none ∙ sym (ap (option_map (remade f)) none)
    by None at false is = refl
    by (Some mark) at true is =
        let v : Bool = f mark.0 mark.1 in
        let here : slice_get marks k ≡ Some mark = ap (λ (j : ℕ). slice_get marks j) (sym (one place k is)) ∙ at in
        laws.set place v marks k
        ∙ ap (λ (b : Bool). cond b (option_map (λ (e : Unit × Bool). (e.0, v)) (slice_get marks k)) (slice_get marks k)) is
        ∙ ap (option_map (λ (e : Unit × Bool). (e.0, v))) here
        ∙ sym (ap (option_map (remade f)) here)
    by (Some mark) at false is =
        let v : Bool = f mark.0 mark.1 in
        laws.set place v marks k
        ∙ ap (λ (b : Bool). cond b (option_map (λ (e : Unit × Bool). (e.0, v)) (slice_get marks k)) (slice_get marks k)) is

module _ (laws : TablePlaceLaws Bool) (f : Unit → Bool → Bool) (twice : (u : Unit) (b : Bool) → f u (f u b) ≡ f u b) where
  made_twice : (o : Option (Unit × Bool)) → option_map (remade f) (option_map (remade f) o) ≡ option_map (remade f) o
  made_twice None = refl
  made_twice (Some e) = ap (λ (b : Bool). Some (e.0, b)) (twice e.0 e.1)

  get_along : (places : List ℕ) (marks : Marks) (k : ℕ) → slice_get (renewed_along f places marks) k ≡ cond (has_place places k) (option_map (remade f) (slice_get marks k)) (slice_get marks k)
  get_along [] marks k = refl
  get_along (j ∷ places) marks k =
      get_along places (renewed_at f marks j) k
      ∙ ap (λ (o : Option (Unit × Bool)). cond (has_place places k) (option_map (remade f) o) o) (get_at laws f marks j k)
      ∙ join (has_place places k) (j == k) (slice_get marks k)
    where
      join : (h b : Bool) (o : Option (Unit × Bool)) → cond h (option_map (remade f) (cond b (option_map (remade f) o) o)) (cond b (option_map (remade f) o) o) ≡ cond (b || h) (option_map (remade f) o) o
      join true true o = made_twice o
      join true false o = refl
      join false true o = refl
      join false false o = refl

  -- if all other marks would stay the same, all marks are found anew
  pub renewed_all : (places : List ℕ) (marks : Marks) → ((k : ℕ) (e : Unit × Bool) → slice_get marks k ≡ Some e → has_place places k ≡ false → f e.0 e.1 ≡ e.1) → renewed_along f places marks ≡ mapped f marks
  renewed_all places marks still = ext (renewed_along f places marks) (mapped f marks) (λ k. get_along places marks k ∙ by k (slice_get marks k) refl (has_place places k) refl ∙ sym (slice_get-map (remade f) marks k))
    where
      by : (k : ℕ) (o : Option (Unit × Bool)) → slice_get marks k ≡ o → (b : Bool) → has_place places k ≡ b → cond b (option_map (remade f) o) o ≡ option_map (remade f) o
      by k o at true is = refl
      by k None at false is = refl
      by k (Some e) at false is = ap (λ (b : Bool). Some (e.0, b)) (sym (still k e at is))

-- ---- the place of a unit

not_at : (units : List Unit) (a u : Unit) (k : ℕ) → has_in units a ≡ false → slice_get units k ≡ Some u → same_unit u a ≡ false
not_at [] a u k none at = cc
not_at (v ∷ units) a u zero none at =
    let same : v ≡ u = cc in
    subst (λ (w : Unit). same_unit w a ≡ false) same (neither (same_unit v a) (has_in units a) none).0
not_at (v ∷ units) a u (suc k) none at = not_at units a u k (neither (same_unit v a) (has_in units a) none).1 at

pub unit_there : (marks : Marks) (k : ℕ) (e : Unit × Bool) → slice_get marks k ≡ Some e → slice_get (units_in marks) k ≡ Some e.0
unit_there marks k e at = slice_get-map (λ (x : Unit × Bool). x.0) marks k ∙ ap (option_map (λ (x : Unit × Bool). x.0)) at

count_there : (marks : Marks) (k : ℕ) (e : Unit × Bool) → rises (units_in marks) ≡ true → slice_get marks k ≡ Some e → position_or_len (λ (x : Unit × Bool). same_unit x.0 e.0) marks ≡ k
count_there [] k e rising at = cc
count_there (x ∷ marks) zero e rising at =
    let same : x ≡ e = cc in
    ap (λ (b : Bool). cond (not b) (1 + position_or_len (λ (x : Unit × Bool). same_unit x.0 e.0) marks) 0)
    (ap (λ (y : Unit × Bool). same_unit y.0 e.0) same ∙ same-refl e.0)
count_there (x ∷ marks) (suc k) e rising at =
    let parts = both (list_all (is_before x.0) (units_in marks)) (rises (units_in marks)) rising in
    let next : 1 + k ≡ suc k = omega arith in
    let other : same_unit x.0 e.0 ≡ false = same-sym x.0 e.0 ∙ not_at (units_in marks) x.0 e.0 k (none_after x.0 (units_in marks) parts.0) (unit_there marks k e at) in
    ap (λ (b : Bool). cond (not b) (1 + position_or_len (λ (x : Unit × Bool). same_unit x.0 e.0) marks) 0) other
    ∙ ap (λ (j : ℕ). 1 + j) (count_there marks k e parts.1 at)
    ∙ next

within : {X : Type 0} (xs : List X) (k : ℕ) (x : X) → slice_get xs k ≡ Some x → k < length xs
within [] k x at = cc
within (y ∷ xs) zero x at = omega arith
within (y ∷ xs) (suc k) x at = let rest : k < length xs = within xs k x at in omega (arith, rest)

-- a unit among those that rise has its own place
pub place_there : (marks : Marks) (k : ℕ) (e : Unit × Bool) → rises (units_in marks) ≡ true → slice_get marks k ≡ Some e → place_of marks e.0 ≡ Some k
place_there marks k e rising at =
    let inside : k < length marks = within marks k e at in
    let less : nat_lt k (length marks) ≡ true = grind (arith, nat_tests) in
    ap (λ (j : ℕ). cond (nat_lt j (length marks)) (Some j) None) (count_there marks k e rising at)
    ∙ ap (λ (b : Bool). cond b (Some k) None) less

-- ---- the places of the processors

pub procs_there : (t : Topology) (n : ℕ) (units : List Unit) (k : ℕ) (u : Unit) → slice_get units k ≡ Some u → is_proc t u ≡ true → has_place (proc_places t n units) (n + k) ≡ true
procs_there t n [] k u at is = cc
procs_there t n (v ∷ units) zero u at is =
    let same : v ≡ u = cc in
    let here : (n == n + 0) ≡ true = equal n (n + 0) (omega arith) in
    ap (λ (b : Bool). has_place (cond b (n ∷ proc_places t (n + 1) units) (proc_places t (n + 1) units)) (n + 0)) (ap (is_proc t) same ∙ is)
    ∙ first_passes (n == n + 0) (has_place (proc_places t (n + 1) units) (n + 0)) here
procs_there t n (v ∷ units) (suc k) u at is =
    let next : n + 1 + k ≡ n + suc k = omega arith in
    by (is_proc t v) (subst (λ (j : ℕ). has_place (proc_places t (n + 1) units) j ≡ true) next (procs_there t (n + 1) units k u at is))
  where
    by : (b : Bool) → has_place (proc_places t (n + 1) units) (n + suc k) ≡ true → has_place (cond b (n ∷ proc_places t (n + 1) units) (proc_places t (n + 1) units)) (n + suc k) ≡ true
    by true there = later (n == n + suc k) (has_place (proc_places t (n + 1) units) (n + suc k)) there
      where
        later : (a b : Bool) → b ≡ true → (a || b) ≡ true
        later true b is = refl
        later false b is = is
    by false there = there
