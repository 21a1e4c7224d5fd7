-- Which power nodes are up: those that are held, and those that something directly below needs.
use Rattle.std.specs.Prelude.{◌≡◌, ◌↔◌, ◌⊎◌, ℕ, ◌+◌, ◌<◌, ◌==◌, Bool, true, false, IsTrue, ◌&&◌, ◌||◌, Some, List, [], ◌∷◌, length, slice_get, unwrap_or}
use Rattle.std.specs.List.{list_any, zip}
use Rattle.pm_base.specs.Places.{is_place}
use Rattle.pm_topology.specs.declared.topology.PowerDef.{PowerDef}
use Rattle.pm_topology.specs.declared.topology.Topology.{Topology}
use Rattle.pm_topology.specs.WellFormed.{IsWellFormed}
use Rattle.pm_power.specs.declared.child.Child.{Child}

-- the power nodes of a chip, each after its parent, and its processors and slaves with their needs
pub record Needs : Type 0 where
  pub powers : List PowerDef
  pub children : List Child

-- whether a processor or slave directly below the power node at a place needs it
abbrev pub child_needs : List Child → ℕ → Bool
child_needs children w = list_any (λ c. (c.parent == w) && c.needs) children

-- whether one of these power nodes is directly below it, and up
abbrev pub power_needs : List PowerDef → List Bool → ℕ → Bool
power_needs powers ups w = list_any (λ e. is_place w e.0.parent && e.1) (zip powers ups)

-- whether each of these power nodes is up; the first of them stands at place w, and children stand later
abbrev pub ups_from : List Child → ℕ → List PowerDef → List Bool
ups_from children w [] = []
ups_from children w (p ∷ later) =
    let ups = ups_from children (w + 1) later in
    (p.held || (child_needs children w || power_needs later ups w)) ∷ ups

abbrev pub ups : Needs → List Bool
ups n = ups_from n.children 0 n.powers

-- whether the power node at a place is up
abbrev pub is_up : Needs → ℕ → Bool
is_up n w = unwrap_or (slice_get (ups n) w) false

-- the power node at a place is held
abbrev pub IsHeld : Needs → ℕ → Type 0
IsHeld n w = (p : PowerDef) × (slice_get n.powers w ≡ Some p) × (p.held ≡ true)

-- a processor or slave directly below it needs it
abbrev pub ChildNeeds : Needs → ℕ → Type 0
ChildNeeds n w = (k : ℕ) × (c : Child) × (slice_get n.children k ≡ Some c) × (c.parent ≡ w) × (c.needs ≡ true)

-- a power node directly below it is up, and so needs it
abbrev pub PowerNeeds : Needs → ℕ → Type 0
PowerNeeds n w = (v : ℕ) × (p : PowerDef) × (slice_get n.powers v ≡ Some p) × (p.parent ≡ Some w) × (is_up n v ≡ true)

-- each power node stands after its parent
abbrev pub AreAfterParents : List PowerDef → Type 0
AreAfterParents powers = (v w : ℕ) (p : PowerDef) → slice_get powers v ≡ Some p → p.parent ≡ Some w → w < v

-- what holds of the power nodes of every chip: each stands after its parent, and so each is up exactly where it is held
-- or something directly below needs it
pub record UpLaws : Type 0 where
  pub after : (t : Topology) → IsWellFormed t → AreAfterParents t.powers
  pub exactly : (n : Needs) (w : ℕ) → AreAfterParents n.powers → w < length n.powers
      → IsTrue (is_up n w) ↔ (IsHeld n w ⊎ (ChildNeeds n w ⊎ PowerNeeds n w))
