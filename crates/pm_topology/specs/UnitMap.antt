-- A table of units: one value for each unit, in the order of units. Contracts see the list of its units with their values.
use Rattle.std.specs.Prelude.{◌≡◌, ◌++◌, ℕ, ◌+◌, ◌==◌, ◌&&◌, true, zero, suc, if◌then◌else◌, Option, Some, None, is_some, List, [], ◌∷◌, map, position, slice_get, take, drop}
use Rattle.std.specs.Option.{option_map}
use Rattle.pm_base.specs.declared.names.Unit.{Unit}
use Rattle.pm_base.specs.declared.names.Unit.TheVariants.{Node}
use Rattle.pm_topology.specs.Units.{same_unit, has_in, rises}

abbrev pub units_in : {T : Type 0} → List (Unit × T) → List Unit
units_in entries = map (λ e. e.0) entries

abbrev pub values_in : {T : Type 0} → List (Unit × T) → List T
values_in entries = map (λ e. e.1) entries

-- these units, each with the same value
abbrev pub all_at : {T : Type 0} → T → List Unit → List (Unit × T)
all_at value units = map (λ u. (u, value)) units

-- the value of a unit, where it is there
abbrev pub value_of : {T : Type 0} → List (Unit × T) → Unit → Option T
value_of [] unit = None
value_of (e ∷ entries) unit = if same_unit e.0 unit then Some e.1 else value_of entries unit

-- the place of a unit, where it is there
abbrev pub place_of : {T : Type 0} → List (Unit × T) → Unit → Option ℕ
place_of entries unit = position (λ e. same_unit e.0 unit) entries

-- of the nodes with numbers from 0 on, these are the places, as far as they are kept
abbrev pub AreNodePlaces : {T : Type 0} → List (Unit × T) → List (Option ℕ) → Type 0
AreNodePlaces entries places = (number place : ℕ) → slice_get places number ≡ Some (Some place)
    → place_of entries (Node (record { 0 = number })) ≡ Some place

-- the entries with this value at this unit; where it isn't there nothing changes
abbrev pub set_entry : {T : Type 0} → Unit → T → Unit × T → Unit × T
set_entry unit value e = if same_unit e.0 unit then (e.0, value) else e

abbrev pub with_value : {T : Type 0} → Unit → T → List (Unit × T) → List (Unit × T)
with_value unit value entries = map (set_entry unit value) entries

-- between two lists of entries the value of this unit was set, and all other entries are the same
pub record Sets {T : Type 0} (unit : Unit) (value : T) (old new : List (Unit × T)) : Type 0 where
  pub front : List (Unit × T)
  pub before : T
  pub back : List (Unit × T)
  pub was : old ≡ front ++ (unit, before) ∷ back
  pub is : new ≡ front ++ (unit, value) ∷ back
  pub found : value_of old unit ≡ Some before

-- the entries with this value at this place; past their end nothing changes
abbrev pub with_value_at : {T : Type 0} → ℕ → T → List (Unit × T) → List (Unit × T)
with_value_at place value [] = []
with_value_at zero value (e ∷ entries) = (e.0, value) ∷ entries
with_value_at (suc place) value (e ∷ entries) = e ∷ with_value_at place value entries

-- the entries with each value made from the unit and the value before
abbrev pub remade : {T U : Type 0} → (Unit → T → U) → Unit × T → Unit × U
remade f e = (e.0, f e.0 e.1)

abbrev pub mapped : {T U : Type 0} → (Unit → T → U) → List (Unit × T) → List (Unit × U)
mapped f entries = map (remade f) entries

-- ---- the laws

-- what every table of units holds: a value for exactly its units, also once all have the same value, one was set, or
-- each was made anew from the one before
pub record TableLaws (T : Type 0) : Type 0 where
  pub there : (entries : List (Unit × T)) (unit : Unit) → is_some (value_of entries unit) ≡ has_in (units_in entries) unit
  pub all : (value : T) (units : List Unit) (unit : Unit)
      → value_of (all_at value units) unit ≡ (if has_in units unit then Some value else None)
  pub set : (unit : Unit) (value : T) (entries : List (Unit × T)) (other : Unit)
      → value_of (with_value unit value entries) other
      ≡ (if same_unit unit other && is_some (value_of entries unit) then Some value else value_of entries other)
  pub made : (f : Unit → T → T) (entries : List (Unit × T)) (unit : Unit)
      → value_of (mapped f entries) unit ≡ option_map (f unit) (value_of entries unit)
  pub all_units : (value : T) (units : List Unit) → units_in (all_at value units) ≡ units
  pub set_units : (unit : Unit) (value : T) (entries : List (Unit × T))
      → units_in (with_value unit value entries) ≡ units_in entries
  pub made_units : (f : Unit → T → T) (entries : List (Unit × T)) → units_in (mapped f entries) ≡ units_in entries

-- in a table whose units rise, to set the value at the place of a unit is to set that of the unit
pub record TablePlaceLaws (T : Type 0) : Type 0 where
  pub set : (place : ℕ) (value : T) (entries : List (Unit × T)) (other : ℕ)
      → slice_get (with_value_at place value entries) other
      ≡ (if place == other then option_map (λ e. (e.0, value)) (slice_get entries other) else slice_get entries other)
  pub set_units : (place : ℕ) (value : T) (entries : List (Unit × T))
      → units_in (with_value_at place value entries) ≡ units_in entries
  pub by_unit : (unit : Unit) (value : T) (entries : List (Unit × T)) (place : ℕ)
      → rises (units_in entries) ≡ true
      → place_of entries unit ≡ Some place
      → with_value_at place value entries ≡ with_value unit value entries
  -- where each value is made anew, place by place: the entry that is next, and the table once it had its turn
  pub next : (f : Unit → T → T) (entries : List (Unit × T)) (place : ℕ)
      → slice_get (mapped f (take place entries) ++ drop place entries) place ≡ slice_get entries place
  pub made : (f : Unit → T → T) (entries : List (Unit × T)) (place : ℕ) (e : Unit × T)
      → slice_get entries place ≡ Some e
      → with_value_at place (f e.0 e.1) (mapped f (take place entries) ++ drop place entries)
      ≡ mapped f (take (place + 1) entries) ++ drop (place + 1) entries
