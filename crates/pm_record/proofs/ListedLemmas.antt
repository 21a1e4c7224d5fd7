-- The marked places: each entry that lags stands at one of them.
use Rattle.std.proofs.Common.{◌≡◌, ℕ, ◌+◌, ◌<◌, ◌==◌, Bool, true, false, ◌||◌, if◌then◌else◌, Option, Some, None, List, [], ◌∷◌, drop, drop-cons, add-one, length, slice_get, refl, sym, ap, subst, ◌∙◌, ◌⊎◌, inl, inr, zero, suc, arith}
use Rattle.std.specs.Option.{option_map}
use Rattle.std.proofs.lemmas.Bool.{both_ways, cases_Bool, eqb-true}
use Rattle.std.proofs.lemmas.List.{length-map}
use Rattle.std.proofs.lemmas.Option.{same_Some, slice_get-map, slice_get_cases, slice_get_within, get_or_from_slice_get}
use Rattle.pm_base.proofs.Searches.{position-first}
use Rattle.pm_base.specs.declared.names.Unit.{Unit}
use Rattle.pm_topology.specs.UnitMap.{TablePlaceLaws, all_at, place_of, set_entry, units_in, with_value, with_value_at}
use Rattle.pm_topology.specs.Units.{UnitLaws, rises, same_unit}
use Rattle.pm_topology.proofs.UnitMapLaw.{set_nowhere}
use Rattle.pm_record.proofs.Below.{ChipLaws}
use Rattle.pm_record.specs.declared.kept.KeptValue.{KeptValue}
use Rattle.pm_base.specs.Places.{has_place}
use Rattle.pm_record.specs.Record.{Kept, idle, keep, kept_of, lags_in, mark, marked}
use Rattle.pm_record.specs.Marks.{LagsNotAt, LagsWithin, Marks, Remakes, StandsElsewhere, with_mark}
use Rattle.pm_record.proofs.MarkingLemmas.{marks_one}
use Rattle.pm_record.proofs.MarksLemmas.{mark_stays}
use Rattle.pm_record.proofs.RecordLemmas.{units_in-marked}
use Rattle.pm_record.proofs.EntryLemmas.{each_stays, kept_at, stands_of}

-- a list from a place on
pub drop_here : {X : Type 0} (xs : List X) (k : ℕ) (x : X) → slice_get xs k ≡ Some x → drop k xs ≡ x ∷ drop (k + 1) xs
drop_here xs k x here =
    rw add-one (drop-cons xs k x (slice_get_within xs k x here) ∙ ap (λ y. y ∷ drop (suc k) xs) (get_or_from_slice_get xs k x x here))

pub same_length : (one two : Kept) → units_in one ≡ units_in two → length one ≡ length two
same_length one two same = sym (length-map one (λ e. e.0)) ∙ (ap length same ∙ length-map two (λ e. e.0))

-- the unit of an entry stands at its place
pub unit_there : (kept : Kept) (k : ℕ) (e : Unit × KeptValue) → slice_get kept k ≡ Some e → slice_get (units_in kept) k ≡ Some e.0
unit_there kept k e here = slice_get-map (λ (e : Unit × KeptValue). e.0) kept k ∙ ap (option_map (λ (e : Unit × KeptValue). e.0)) here

-- ---- what isn't listed

no_mark : (lags has : Bool) → (lags ≡ true → has ≡ true) → has ≡ false → lags ≡ false
no_mark true has given none = absurd (both_ways has none (given refl))
no_mark false has given none = refl

pub lags_not : (kept : Kept) (places : List ℕ) (k : ℕ) → LagsWithin places kept → has_place places k ≡ false → k < length kept → LagsNotAt k kept
lags_not kept places k lags none within =
    elim ((slice_get_cases kept k).1) [
      | inl there ↦ record { entry = there.0; here = there.2; idle = no_mark there.0.1.lags (has_place places k) (lags k there.0 there.2) none }
      | inr past ↦ absurd (omega (arith, past.0))
    ]

-- at first nothing lags
pub none_listed : (units : List Unit) → LagsWithin [] (all_at idle units)
none_listed [] k e here lag = cc
none_listed (u ∷ units) zero e here lag =
    let same : (u, idle) ≡ e = cc in
    absurd (both_ways e.1.lags (ap (λ (e : Unit × KeptValue). e.1.lags) (sym same)) lag)
none_listed (u ∷ units) (suc k) e here lag = none_listed units k e here lag

-- ---- a unit is marked

then_listed : (old : Kept) (listed : List ℕ) (k : ℕ) (e : Unit × KeptValue) (made : Option (Unit × KeptValue)) (same : Bool) → LagsWithin listed old → e.1.lags ≡ true
    → (if same then made else slice_get old k) ≡ Some e → (same || has_place listed k) ≡ true
then_listed old listed k e made true lags lag found = refl
then_listed old listed k e made false lags lag found = lags k e found lag

module _ (places : TablePlaceLaws KeptValue) where
  pub lags_marked : (u : Unit) (old : Kept) (place : ℕ) (listed now : List ℕ) → rises (units_in old) ≡ true → place_of old u ≡ Some place → LagsWithin listed old
      → ((k : ℕ) → has_place now k ≡ ((place == k) || has_place listed k)) → LagsWithin now (with_mark u old)
  lags_marked u old place listed now rising at lags has k e here lag =
      let v : KeptValue = record (kept_of old u) { lags = true } in
      let made : Option (Unit × KeptValue) = option_map (λ e. (e.0, v)) (slice_get old k) in
      let by_place : with_value_at place v old ≡ with_mark u old = places.by_unit u v old place rising at in
      let found : (if place == k then made else slice_get old k) ≡ Some e = sym (places.set place v old k) ∙ (ap (λ (kept : Kept). slice_get kept k) by_place ∙ here) in
      has k ∙ then_listed old listed k e made (place == k) lags lag found

pub place_within : (entries : Kept) (u : Unit) (place : ℕ) → place_of entries u ≡ Some place → place < length entries
place_within entries u place at =
    let first = position-first (λ (e : Unit × KeptValue). same_unit e.0 u) entries place at in
    slice_get_within entries place first.element first.here

pub set_length : ChipLaws → (u : Unit) (v : KeptValue) (old : Kept) → length (with_value u v old) ≡ length old
set_length laws u v old = same_length (with_value u v old) old (laws.table.set_units u v old)

-- a unit that isn't there isn't marked
pub marks_nowhere : ChipLaws → (u : Unit) (old : Kept) → rises (units_in old) ≡ true → place_of old u ≡ None → Marks (u ∷ []) old old
marks_nowhere laws u old rising none =
    subst (Marks (u ∷ []) old) (sym (set_nowhere u (record (kept_of old u) { lags = true }) old rising none)) (marks_one laws u old rising)

-- ---- a value is kept

entry_lags : (u : Unit) (now : KeptValue) (e : Unit × KeptValue) → (same_unit e.0 u ≡ true → now.lags ≡ e.1.lags) → (set_entry u now e).1.lags ≡ e.1.lags
entry_lags u now e same = at (same_unit e.0 u) refl
  where
    at : (is : Bool) → same_unit e.0 u ≡ is → (if is then (e.0, now) else e).1.lags ≡ e.1.lags
    at true is = same is
    at false is = refl

lags_before : (u : Unit) (now : KeptValue) (old : Kept) → ((k : ℕ) (e : Unit × KeptValue) → slice_get old k ≡ Some e → same_unit e.0 u ≡ true → now.lags ≡ e.1.lags)
    → (k : ℕ) (e : Unit × KeptValue) → slice_get (with_value u now old) k ≡ Some e → e.1.lags ≡ true
    → (was : Unit × KeptValue) × (slice_get old k ≡ Some was) × (was.1.lags ≡ true)
lags_before u now [] same k e here lag = cc
lags_before u now (x ∷ old) same zero e here lag =
    let is : set_entry u now x ≡ e = same_Some (set_entry u now x) e here in
    (x, refl, sym (entry_lags u now x (same 0 x refl)) ∙ (ap (λ (e : Unit × KeptValue). e.1.lags) is ∙ lag))
lags_before u now (x ∷ old) same (suc k) e here lag = lags_before u now old (λ k e here. same (suc k) e here) k e here lag

pub lags_keep : UnitLaws → (u : Unit) (v : ℕ) (old : Kept) (listed : List ℕ) → rises (units_in old) ≡ true → LagsWithin listed old → LagsWithin listed (keep u v old)
lags_keep laws u v old listed rising lags k e here lag =
    let was =
    lags_before u (record (kept_of old u) { value = v }) old
    (λ k e here is. ap (lags_in old) (sym (laws.same e.0 u is)) ∙ ap (λ (k : KeptValue). k.lags) (kept_at laws old k e rising here))
    k e here lag
    in
    lags k was.0 was.1 was.2

-- ---- marks by the values

set_here : (place : ℕ) (v : KeptValue) (entries : Kept) (e : Unit × KeptValue) → slice_get entries place ≡ Some e → slice_get (with_value_at place v entries) place ≡ Some (e.0, v)
set_here place v [] e here = cc
set_here zero v (x ∷ entries) e here = ap (λ (e : Unit × KeptValue). Some (e.0, v)) (same_Some x e here)
set_here (suc place) v (x ∷ entries) e here = set_here place v entries e here

made_alike : (values : Unit → ℕ) (place : ℕ) (entries : Kept) (e : Unit × KeptValue) → slice_get entries place ≡ Some e → marked values (with_value_at place (mark values e.0 e.1) entries) ≡ marked values entries
made_alike values place [] e here = refl
made_alike values zero (x ∷ entries) e here =
    ap (λ (e : Unit × KeptValue). (x.0, mark values x.0 (mark values e.0 e.1)) ∷ marked values entries) (sym (same_Some x e here))
made_alike values (suc place) (x ∷ entries) e here = ap (λ (es : Kept). (x.0, mark values x.0 x.1) ∷ es) (made_alike values place entries e here)

-- the unit at a place is marked by its value
pub remakes_at : TablePlaceLaws KeptValue → (values : Unit → ℕ) (place : ℕ) (old : Kept) (e : Unit × KeptValue) → slice_get old place ≡ Some e → Remakes values place old (with_value_at place (mark values e.0 e.1) old)
remakes_at places values place old e here = record {
  alike = made_alike values place old e here;
  here = λ x found.
      let is : (e.0, mark values e.0 e.1) ≡ x = same_Some (e.0, mark values e.0 e.1) x (sym (set_here place (mark values e.0 e.1) old e here) ∙ found) in
      let P : Unit × KeptValue → Type 0 = λ x. mark values x.0 x.1 ≡ x.1 in
      subst P is refl;
  others = λ k differs.
      places.set place (mark values e.0 e.1) old k
      ∙ ap (λ b. if b then option_map (λ (x : Unit × KeptValue). (x.0, mark values e.0 e.1)) (slice_get old k) else slice_get old k) differs;
}

-- whether it lags then
pub lags_made : (values : Unit → ℕ) (place : ℕ) (old : Kept) (e x : Unit × KeptValue) (made : KeptValue) → slice_get old place ≡ Some e → slice_get (with_value_at place made old) place ≡ Some x → made.lags ≡ x.1.lags
lags_made values place old e x made here found =
    ap (λ (x : Unit × KeptValue). x.1.lags) (same_Some (e.0, made) x (sym (set_here place made old e here) ∙ found))

pub remakes_none : (values : Unit → ℕ) (place : ℕ) (old : Kept) → slice_get old place ≡ None → Remakes values place old old
remakes_none values place old none = record {
  alike = refl;
  here = λ x found. (let gone : None ≡ Some x = sym none ∙ found in cc);
  others = λ k differs. refl;
}

-- the places that are left: all others are right, and listed if they lag
pub record IsRemade (values : Unit → ℕ) (old now : Kept) (listed left : List ℕ) : Type 0 where
  pub alike : marked values now ≡ marked values old
  pub right : (k : ℕ) (e : Unit × KeptValue) → slice_get now k ≡ Some e → has_place left k ≡ false → mark values e.0 e.1 ≡ e.1
  pub lags : (k : ℕ) (e : Unit × KeptValue) → slice_get now k ≡ Some e → e.1.lags ≡ true → (has_place listed k ≡ true) ⊎ (has_place left k ≡ true)

pub remade_first : UnitLaws → (values : Unit → ℕ) (old : Kept) (listed left : List ℕ) → rises (units_in old) ≡ true → StandsElsewhere values old → LagsWithin left old → IsRemade values old old listed left
remade_first laws values old listed left rising stands lags = record {
  alike = refl;
  right = λ k e here none. mark_stays values e (no_mark e.1.lags (has_place left k) (lags k e here) none) (stands_of laws values old k e rising stands here);
  lags = λ k e here lag. inr (lags k e here lag);
}

pub remade_next : (values : Unit → ℕ) (old now new : Kept) (place : ℕ) (listed after left : List ℕ) → IsRemade values old now listed (place ∷ left)
    → Remakes values place now new
    → ((e : Unit × KeptValue) → slice_get new place ≡ Some e → e.1.lags ≡ true → has_place after place ≡ true)
    → ((k : ℕ) → has_place listed k ≡ true → has_place after k ≡ true)
    → IsRemade values old new after left
remade_next values old now new place listed after left so_far makes puts keeps = record {
  alike = makes.alike ∙ so_far.alike;
  right = λ k e here none. elim (cases_Bool (place == k)) [
    | inl same ↦ makes.here e (ap (slice_get new) (eqb-true place k same) ∙ here)
    | inr differs ↦ so_far.right k e (sym (makes.others k differs) ∙ here) (ap (λ b. b || has_place left k) differs ∙ none)
  ];
  lags = λ k e here lag. elim (cases_Bool (place == k)) [
    | inl same ↦ inl (ap (has_place after) (sym (eqb-true place k same)) ∙ puts e (ap (slice_get new) (eqb-true place k same) ∙ here) lag)
    | inr differs ↦ elim (so_far.lags k e (sym (makes.others k differs) ∙ here) lag) [
      | inl has ↦ inl (keeps k has)
      | inr later ↦ inr (ap (λ b. b || has_place left k) (sym differs) ∙ later)
    ]
  ];
}

-- the units stay
pub remade_units : ChipLaws → (values : Unit → ℕ) (old now : Kept) (listed left : List ℕ) → IsRemade values old now listed left → units_in now ≡ units_in old
remade_units laws values old now listed left made =
    sym (units_in-marked laws values now) ∙ (ap units_in made.alike ∙ units_in-marked laws values old)

pub remade_length : ChipLaws → (values : Unit → ℕ) (old now : Kept) (listed left : List ℕ) → IsRemade values old now listed left → length now ≡ length old
remade_length laws values old now listed left made =
    same_length now old (remade_units laws values old now listed left made)

pub remade_marked : (values : Unit → ℕ) (old now : Kept) (listed : List ℕ) → IsRemade values old now listed [] → now ≡ marked values old
remade_marked values old now listed done = each_stays values now (λ k e here. done.right k e here refl) ∙ done.alike

pub remade_lags : (values : Unit → ℕ) (old now : Kept) (listed : List ℕ) → IsRemade values old now listed [] → LagsWithin listed now
remade_lags values old now listed done k e here lag = elim (done.lags k e here lag) [
  | inl has ↦ has
  | inr none ↦ (let gone : false ≡ true = none in cc)
]
