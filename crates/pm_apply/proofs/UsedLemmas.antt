-- Whether a power node that is down in the book is used by the record: only by units that are marked.
use Rattle.std.proofs.Common.{◌≡◌, ℕ, ◌+◌, ◌<◌, ◌≤◌, ◌&&◌, Bool, true, false, Option, Some, None, [], ◌∷◌, length, slice_get, refl, sym, ap, ◌∙◌, inl, inr, zero, suc, arith}
use Rattle.std.specs.List.{list_any}
use Rattle.std.proofs.lemmas.Bool.{cases_lt, eqb-true, or_left, or_right}
use Rattle.std.proofs.lemmas.List.{length-map}
use Rattle.std.proofs.lemmas.Option.{same_Some, slice_get_cases, slice_get_within}
use Rattle.pm_base.specs.declared.names.Unit.{Unit}
use Rattle.pm_base.specs.declared.names.Unit.TheVariants.{Node, Line}
use Rattle.pm_topology.specs.declared.topology.PowerDef.{PowerDef}
use Rattle.pm_topology.specs.declared.topology.Topology.{Topology}
use Rattle.pm_topology.specs.Places.{parent_of}
use Rattle.pm_topology.specs.UnitMap.{units_in}
use Rattle.pm_topology.specs.Units.{needs_power, rises, units_of}
use Rattle.pm_state.specs.Fed.{IsFed}
use Rattle.pm_base.specs.Places.{is_place}
use Rattle.pm_record.specs.declared.kept.KeptValue.{KeptValue}
use Rattle.pm_record.specs.Marks.{LagsNotAt, StandsElsewhere}
use Rattle.pm_record.specs.Record.{Kept, kept_value}
use Rattle.pm_record.proofs.Below.{ChipLaws}
use Rattle.pm_record.proofs.EntryLemmas.{kept_at, stands_of}
use Rattle.pm_apply.specs.Plan.{is_used, uses}

pub is_place_of : (w : ℕ) (o : Option ℕ) → is_place w o ≡ true → o ≡ Some w
is_place_of w None is = cc
is_place_of w (Some v) is = ap Some (eqb-true v w is)

-- in values in which each node that needs power has it, no unit uses a power node that is down
not_used : (t : Topology) (values : Unit → ℕ) (w : ℕ) (power : PowerDef) → IsFed t values → slice_get t.powers w ≡ Some power → values (Node power.node) ≡ 0
    → (unit : Unit) → uses t w unit (values unit) ≡ false
not_used t values w power fed here down (Line line) = refl
not_used t values w power fed here down (Node node) = at (is_place w (parent_of t node)) (needs_power t (Node node) (values (Node node))) refl refl
  where
    at : (place needs : Bool) → is_place w (parent_of t node) ≡ place → needs_power t (Node node) (values (Node node)) ≡ needs → (place && needs) ≡ false
    at false needs is need = refl
    at true false is need = refl
    at true true is need =
        let up = fed.fed node w power (is_place_of w (parent_of t node) is) here need in
        absurd (omega (arith, up, down))

-- the units before this place of the record don't use the power node
abbrev pub NoneUses : Topology → ℕ → Kept → ℕ → Type 0
NoneUses t w kept end = (k : ℕ) (e : Unit × KeptValue) → k < end → slice_get kept k ≡ Some e → uses t w e.0 e.1.value ≡ false

pub none_first : (t : Topology) (w : ℕ) (kept : Kept) → NoneUses t w kept 0
none_first t w kept k e within here = absurd (omega (arith, within))

-- nor do those up to the next place, if none of them is marked
pub none_over : ChipLaws → (t : Topology) (values : Unit → ℕ) (w : ℕ) (power : PowerDef) (kept : Kept) → IsFed t values → slice_get t.powers w ≡ Some power → values (Node power.node) ≡ 0
    → units_in kept ≡ units_of t → StandsElsewhere values kept → (from end : ℕ) → NoneUses t w kept from → ((k : ℕ) → from ≤ k → k < end → LagsNotAt k kept) → NoneUses t w kept end
none_over laws t values w power kept fed there down are stands from end before idle k e within here =
    elim (cases_lt k from) [
      | inl early ↦ before k e early here
      | inr late ↦ (
          let found = idle k late within in
          let same : found.entry ≡ e = same_Some found.entry e (sym found.here ∙ here) in
          let unmarked = ap (λ (e : Unit × KeptValue). e.1.lags) (sym same) ∙ found.idle in
          let value = stands_of laws.units values kept k e (ap rises are ∙ (laws.units.are t).rising) stands here unmarked in
          ap (uses t w e.0) value ∙ not_used t values w power fed there down e.0)
    ]

-- nor does one more
pub none_next : (t : Topology) (w : ℕ) (kept : Kept) (at : ℕ) (used : Bool) → NoneUses t w kept at → ((e : Unit × KeptValue) → slice_get kept at ≡ Some e → used ≡ uses t w e.0 e.1.value) → used ≡ false
    → NoneUses t w kept (at + 1)
none_next t w kept at used before is unused k e within here =
    elim (cases_lt k at) [
      | inl early ↦ before k e early here
      | inr late ↦ (
          let same : k ≡ at = omega (arith, late, within) in
          sym (is e (ap (slice_get kept) (sym same) ∙ here)) ∙ unused)
    ]

none_passes : (q : Unit → Bool) (kept : Kept) → ((k : ℕ) (e : Unit × KeptValue) → slice_get kept k ≡ Some e → q e.0 ≡ false) → list_any q (units_in kept) ≡ false
none_passes q [] none = refl
none_passes q (e ∷ kept) none =
    let first = none 0 e refl in
    let later = none_passes q kept (λ k e here. none (suc k) e here) in
    cc

one_passes : (q : Unit → Bool) (kept : Kept) (k : ℕ) (e : Unit × KeptValue) → slice_get kept k ≡ Some e → q e.0 ≡ true → list_any q (units_in kept) ≡ true
one_passes q [] k e here passes = cc
one_passes q (x ∷ kept) zero e here passes =
    let same : x ≡ e = cc in
    or_left _ _ (ap (λ (x : Unit × KeptValue). q x.0) same ∙ passes)
one_passes q (x ∷ kept) (suc k) e here passes = or_right (q x.0) _ (one_passes q kept k e here passes)

module _ (laws : ChipLaws) (t : Topology) (w : ℕ) (kept : Kept) (are : units_in kept ≡ units_of t) where
  -- a unit has one value in the record
  use_is : (k : ℕ) (e : Unit × KeptValue) → slice_get kept k ≡ Some e → uses t w e.0 (kept_value kept e.0) ≡ uses t w e.0 e.1.value
  use_is k e here = ap (λ (x : KeptValue). uses t w e.0 x.value) (kept_at laws.units kept k e (ap rises are ∙ (laws.units.are t).rising) here)

  abbrev does : Unit → Bool
  does u = uses t w u (kept_value kept u)

  -- a power node that none of the units uses isn't used
  pub none_used : (end : ℕ) → length (units_of t) ≤ end → NoneUses t w kept end → is_used t kept w ≡ false
  none_used end all none =
      let long : length kept ≡ length (units_of t) = sym (length-map kept (λ e. e.0)) ∙ ap length are in
      ap (list_any does) (sym are)
      ∙ none_passes does kept (λ k e here. use_is k e here ∙ none k e (omega (arith, long, all, slice_get_within kept k e here)) here)

  -- and one that some unit uses is
  pub one_used : (k : ℕ) (e : Unit × KeptValue) → slice_get kept k ≡ Some e → uses t w e.0 e.1.value ≡ true → is_used t kept w ≡ true
  one_used k e here is =
      ap (list_any does) (sym are) ∙ one_passes does kept k e here (use_is k e here ∙ is)

-- there is an entry at each place below their number
pub entry_there : (kept : Kept) (k : ℕ) → k < length kept → (e : Unit × KeptValue) × (slice_get kept k ≡ Some e)
entry_there kept k within =
    elim ((slice_get_cases kept k).1) [
      | inl there ↦ (there.0, there.2)
      | inr past ↦ absurd (omega (arith, past.0, within))
    ]
