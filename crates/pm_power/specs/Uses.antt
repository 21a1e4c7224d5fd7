-- How many uses each power node has.
use Rattle.std.specs.Prelude.{◌≡◌, ℕ, zero, suc, ◌+◌, ◌-◌, ◌<◌, ◌≤◌, ◌^◌, ◌==◌, Bool, true, false, not, cond, nat_lt, ◌&&◌, ◌||◌, Option, Some, None, List, [], ◌∷◌, drop, sum_by, length, count_by, slice_get, slice_set, slice_index}
use Rattle.std.specs.List.{zip}
use Rattle.pm_topology.specs.declared.topology.PowerDef.{PowerDef}
use Rattle.pm_power.specs.declared.child.Child.{Child}
use Rattle.pm_base.specs.declared.names.NodeId.{NodeId}
use Rattle.pm_base.specs.Places.{is_place}
use Rattle.pm_power.specs.Forest.{AreAfterParents}
use Rattle.pm_power.specs.Needs.{set_child}
use Rattle.pm_cells.specs.Midway.{midway}

abbrev pub is_using_child : ℕ → Child → Bool
is_using_child w child = (child.parent == w) && child.needs

abbrev pub child_uses : List Child → ℕ → ℕ
child_uses children w = count_by (is_using_child w) children

abbrev pub power_uses : List PowerDef → List Bool → ℕ → ℕ
power_uses powers ups w = count_by (λ e. is_place w e.0.parent && e.1) (zip powers ups)

-- one where the count at place w still has to follow what is above or below it
abbrev pub pending : Bool → Option ℕ → ℕ → ℕ
pending b at w = cond (b && is_place w at) 1 0

-- each count is that of the children and power nodes that need its place, but for the one that still has to follow a need
-- that was set or taken back; and each power node is up where it is held or its count isn't 0
pub record AreCounted (children : List Child) (powers : List PowerDef) (counts : List ℕ) (ups : List Bool) (on : Bool) (at : Option ℕ) : Type 0 where
  pub places : length counts ≡ length powers
  pub up_places : length ups ≡ length powers
  pub right : (w : ℕ) → w < length powers
      → slice_index counts w + pending on at w ≡ child_uses children w + power_uses powers ups w + pending (not on) at w
  pub up : (w : ℕ) (p : PowerDef) → slice_get powers w ≡ Some p
      → slice_get ups w ≡ Some (p.held || nat_lt 0 (slice_index counts w))

pub record AreWithin (children : List Child) (powers : List PowerDef) : Type 0 where
  pub parents : (k : ℕ) (child : Child) → slice_get children k ≡ Some child → child.parent < length powers
  pub few : length children + length powers < 2 ^ 31

abbrev pub with_need : Bool → Child → Child
with_need on child = record child { needs = on }

abbrev pub counted_by : Bool → ℕ → List ℕ → List ℕ
counted_by true w counts = slice_set counts w (slice_index counts w + 1)
counted_by false w counts = slice_set counts w (slice_index counts w - 1)

abbrev pub parent_of : Option PowerDef → Option ℕ
parent_of None = None
parent_of (Some power) = power.parent

-- how many power nodes stand above, at most so many
abbrev pub chain : List PowerDef → ℕ → Option ℕ → ℕ
chain powers zero at = 0
chain powers (suc fuel) None = 0
chain powers (suc fuel) (Some w) = 1 + chain powers fuel (parent_of (slice_get powers w))

-- a parent stands earlier, so no more than the places up to this one
abbrev pub room : Option ℕ → ℕ
room None = 0
room (Some w) = suc w

-- the power nodes from this place up
abbrev pub levels : List PowerDef → Option ℕ → ℕ
levels powers at = chain powers (room at) at

-- a need that is set isn't the one before
abbrev pub changes : Bool → Bool → Bool
changes true on = not on
changes false on = on

-- how many counts may change if the need of a child is set: that of each power node above it, and none if the need stays
abbrev pub need_cost : List PowerDef → Bool → Child → ℕ
need_cost powers on c = cond (changes c.needs on) (levels powers (Some c.parent)) 0

-- those of the child at this place, and none past the last one
abbrev pub need_cost_at : List PowerDef → ℕ → Bool → List Child → ℕ
need_cost_at powers place on [] = 0
need_cost_at powers zero on (c ∷ later) = need_cost powers on c
need_cost_at powers (suc place) on (c ∷ later) = need_cost_at powers place on later

-- those of all children, if these needs are set in their order; those past the last need don't need their parents
abbrev pub needs_cost : List PowerDef → List Bool → List Child → ℕ
needs_cost powers needs [] = 0
needs_cost powers [] (c ∷ later) = need_cost powers false c + needs_cost powers [] later
needs_cost powers (need ∷ needs) (c ∷ later) = need_cost powers need c + needs_cost powers needs later

-- those of so many children from this place on
abbrev pub needs_cost_in : List PowerDef → ℕ → ℕ → List Bool → List Child → ℕ
needs_cost_in powers place count needs [] = 0
needs_cost_in powers (suc place) count needs (c ∷ later) = needs_cost_in powers place count needs later
needs_cost_in powers zero zero needs (c ∷ later) = 0
needs_cost_in powers zero (suc count) [] (c ∷ later) = need_cost powers false c + needs_cost_in powers zero count [] later
needs_cost_in powers zero (suc count) (need ∷ needs) (c ∷ later) = need_cost powers need c + needs_cost_in powers zero count needs later

-- the need of the child at a place was set, in no more steps than power nodes stand above it, and in none if it stays
pub record WasPut (k : ℕ) (on : Bool) (old new : List Child) (powers : List PowerDef) (before after : ℕ) : Type 0 where
  pub child : Child
  pub here : slice_get old k ≡ Some child
  pub put : new ≡ slice_set old k (with_need on child)
  pub cost : after ≤ before + need_cost powers on child

-- the counts with one more at a parent, where there is one
abbrev pub used_by : Option ℕ → List ℕ → List ℕ
used_by None counts = counts
used_by (Some w) counts = counted_by true w counts

-- where nothing but power nodes needs its parent: the uses that power nodes from place k on make are counted, each of those
-- is up where it is held or its count isn't 0, and none before it is up yet
pub record AreSettledFrom (k : ℕ) (powers : List PowerDef) (counts : List ℕ) (ups : List Bool) : Type 0 where
  pub places : length counts ≡ length powers
  pub up_places : length ups ≡ length powers
  pub right : (w : ℕ) → w < length powers → slice_index counts w ≡ power_uses powers ups w
  pub up : (w : ℕ) (p : PowerDef) → k ≤ w → slice_get powers w ≡ Some p
      → slice_get ups w ≡ Some (p.held || nat_lt 0 (slice_index counts w))
  pub down : (w : ℕ) → w < k → w < length powers → slice_get ups w ≡ Some false

-- what holds of every forest
pub record IsForest (children : List Child) (powers : List PowerDef) (counts : List ℕ) (ups : List Bool) : Type 0 where
  pub counted : AreCounted children powers counts ups true None
  pub within : AreWithin children powers
  pub after : AreAfterParents powers

-- the power nodes above the children of a number: each number stands once
abbrev pub levels_of : List PowerDef → NodeId → Child → ℕ
levels_of powers node child = cond (child.node.0 == node.0) (levels powers (Some child.parent)) 0

abbrev pub levels_above : List PowerDef → NodeId → List Child → ℕ
levels_above powers node children = sum_by (levels_of powers node) children

abbrev pub same : Child → Child
same child = child

pub record IsSetting (node : NodeId) (on : Bool) (powers : List PowerDef) (first : List Child) (start k : ℕ) (children : List Child) (counts : List ℕ) (ups : List Bool) (steps : ℕ) : Type 0 where
  pub changed : children ≡ midway (set_child node on) same k first
  pub forest : IsForest children powers counts ups
  pub cost : steps + sum_by (levels_of powers node) (drop k first) ≤ start + levels_above powers node first
