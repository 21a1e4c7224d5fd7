-- No power node lags where none of the places of the units that lag is that of a power node.
use Rattle.std.proofs.Common.{◌≡◌, ℕ, ◌+◌, ◌==◌, ◌||◌, Bool, true, false, if◌then◌else◌, Some, List, [], ◌∷◌, ◌++◌, take, slice_get, refl, sym, ap, ◌∙◌, inl, inr, suc}
use Rattle.std.specs.Prelude.{unwrap_or}
use Rattle.std.proofs.lemmas.Bool.{both_ways, eqb-true, or_cases}
use Rattle.std.proofs.lemmas.List.{take_more}
use Rattle.std.proofs.lemmas.List.Folds.{list_any-append}
use Rattle.std.proofs.lemmas.Option.{slice_get_within, get_or_from_slice_get}
use Rattle.pm_base.specs.declared.names.Unit.{Unit}
use Rattle.pm_base.specs.declared.names.Unit.TheVariants.{Node}
use Rattle.pm_topology.specs.declared.places.Kind.TheVariants.{Power}
use Rattle.pm_topology.specs.declared.topology.PowerDef.{PowerDef}
use Rattle.pm_topology.specs.declared.topology.Topology.{Topology}
use Rattle.pm_topology.specs.Places.{kind_of}
use Rattle.pm_topology.specs.UnitMap.{value_of}
use Rattle.pm_topology.specs.Units.{same_unit}
use Rattle.pm_topology.specs.WellFormed.{IsWellFormed}
use Rattle.pm_record.specs.declared.kept.KeptValue.{KeptValue}
use Rattle.pm_base.specs.Places.{has_place}
use Rattle.pm_record.specs.Kinds.{is_power, is_power_kind}
use Rattle.pm_record.specs.Record.{Kept, idle, lags_in}
use Rattle.pm_record.specs.Marks.{LagsWithin, NoPowerLags}
use Rattle.pm_record.proofs.Below.{ChipLaws}

pub power_kind : ChipLaws → (t : Topology) → IsWellFormed t → (w : ℕ) (p : PowerDef) → slice_get t.powers w ≡ Some p → kind_of t p.node ≡ Power w
power_kind laws t well w p here = sym (laws.kinds.alone t p.node (Power w) well (p, here, refl))

pub power_is_power : ChipLaws → (t : Topology) → IsWellFormed t → (w : ℕ) (p : PowerDef) → slice_get t.powers w ≡ Some p → is_power t (Node p.node) ≡ true
power_is_power laws t well w p here = ap is_power_kind (power_kind laws t well w p here)

-- the entry of a unit that lags
record LagsThere (kept : Kept) (unit : Unit) : Type 0 where
  place : ℕ
  entry : Unit × KeptValue
  here : slice_get kept place ≡ Some entry
  lags : entry.1.lags ≡ true
  same : same_unit entry.0 unit ≡ true

lags_there : (kept : Kept) (unit : Unit) → lags_in kept unit ≡ true → LagsThere kept unit
lags_there [] unit lags = let none : false ≡ true = lags in cc
lags_there (e ∷ kept) unit lags = at (same_unit e.0 unit) refl (λ lags. lags_there kept unit lags)
  where
    at : (same : Bool) → same_unit e.0 unit ≡ same → (lags_in kept unit ≡ true → LagsThere kept unit) → LagsThere (e ∷ kept) unit
    at true same later = record {
      place = 0;
      entry = e;
      here = refl;
      lags = ap (λ b. (unwrap_or (if b then Some e.1 else value_of kept unit) idle).lags) (sym same) ∙ lags;
      same = same;
    }
    at false same later =
        let found = later (ap (λ b. (unwrap_or (if b then Some e.1 else value_of kept unit) idle).lags) (sym same) ∙ lags) in
        record { place = suc found.place; entry = found.entry; here = found.here; lags = found.lags; same = found.same }

-- of the units at these places none is a power node
abbrev pub NonePower : Topology → Kept → List ℕ → Type 0
NonePower t kept places = (k : ℕ) (e : Unit × KeptValue) → has_place places k ≡ true → slice_get kept k ≡ Some e → is_power t e.0 ≡ false

pub no_power_lags : ChipLaws → (t : Topology) (kept : Kept) (places : List ℕ) → IsWellFormed t → LagsWithin places kept → NonePower t kept places → NoPowerLags t kept
no_power_lags laws t kept places well within none w p here = at (lags_in kept (Node p.node)) refl
  where
    at : (lags : Bool) → lags_in kept (Node p.node) ≡ lags → lags ≡ false
    at false is = refl
    at true is =
        let found = lags_there kept (Node p.node) is in
        let listed = within found.place found.entry found.here found.lags in
        let power : is_power t found.entry.0 ≡ true = ap (is_power t) (laws.units.same found.entry.0 (Node p.node) found.same) ∙ power_is_power laws t well w p here in
        absurd (both_ways (is_power t found.entry.0) (none found.place found.entry listed found.here) power)

pub none_first : (t : Topology) (kept : Kept) (places : List ℕ) → NonePower t kept (take 0 places)
none_first t kept places k e has here = let none : false ≡ true = has in cc

-- one more isn't one
pub none_next : (t : Topology) (kept : Kept) (places : List ℕ) (i place : ℕ) → slice_get places i ≡ Some place → NonePower t kept (take i places)
    → ((e : Unit × KeptValue) → slice_get kept place ≡ Some e → is_power t e.0 ≡ false) → NonePower t kept (take (i + 1) places)
none_next t kept places i place at none one k e has here =
    let more : take (i + 1) places ≡ take i places ++ place ∷ [] =
    take_more places i place (slice_get_within places i place at)
    ∙ ap (λ place. take i places ++ place ∷ []) (get_or_from_slice_get places i place place at)
    in
    let either = or_cases (has_place (take i places) k) (has_place (place ∷ []) k) (sym (list_any-append (λ p. p == k) (take i places) (place ∷ [])) ∙ (ap (λ places. has_place places k) (sym more) ∙ has)) in
    elim either [
      | inl early ↦ none k e early here
      | inr last ↦ (
          let same : place ≡ k = eqb-true place k (only (place == k) last) in
          one e (ap (slice_get kept) same ∙ here))
    ]
  where
    only : (b : Bool) → (b || false) ≡ true → b ≡ true
    only true is = refl
    only false is = cc
