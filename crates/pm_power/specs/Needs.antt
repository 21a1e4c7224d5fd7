-- The needs of processors and slaves, and how one of them is set.
use Rattle.std.specs.Prelude.{ℕ, zero, suc, ◌==◌, Bool, false, Option, Some, None, List, [], ◌∷◌, ◌++◌, map, find, if◌then◌else◌}
use Rattle.std.specs.Option.{option_map}
use Rattle.pm_base.specs.declared.names.NodeId.{NodeId}
use Rattle.pm_topology.specs.declared.topology.Topology.{Topology}
use Rattle.pm_topology.specs.Places.{power_place}
use Rattle.pm_power.specs.declared.child.Child.{Child}
use Rattle.pm_power.specs.Forest.{Needs, is_up}

-- a processor or slave by its number, its parent's place, and whether it needs it
abbrev pub child : NodeId → ℕ → Bool → Child
child node parent needs = record { node = node; parent = parent; needs = needs }

-- the slaves and then the processors of a chip, where these nodes need their parents
abbrev pub children_of : Topology → (ℕ → Bool) → List Child
children_of t needs =
    map (λ s. child s.node s.parent (needs s.node.0)) t.slaves
    ++ map (λ p. child p.node p.parent (needs p.node.0)) t.procs

abbrev pub needs_of : Topology → (ℕ → Bool) → Needs
needs_of t needs = record { powers = t.powers; children = children_of t needs }

-- the child with the node's number, with this need
abbrev pub set_child : NodeId → Bool → Child → Child
set_child node on c = if c.node.0 == node.0 then child c.node c.parent on else c

abbrev pub set_need : NodeId → Bool → Needs → Needs
set_need node on n = record n { children = map (set_child node on) n.children }

-- the children with these needs, in their order; those past the last need don't need their parents
abbrev pub with_needs : List Bool → List Child → List Child
with_needs needs [] = []
with_needs [] (c ∷ later) = child c.node c.parent false ∷ with_needs [] later
with_needs (need ∷ needs) (c ∷ later) = child c.node c.parent need ∷ with_needs needs later

-- the children where so many of them, from this place on, have these needs, in their order; those of them past the last need
-- don't need their parents
abbrev pub with_needs_in : ℕ → ℕ → List Bool → List Child → List Child
with_needs_in place count needs [] = []
with_needs_in (suc place) count needs (c ∷ later) = c ∷ with_needs_in place count needs later
with_needs_in zero zero needs (c ∷ later) = c ∷ later
with_needs_in zero (suc count) [] (c ∷ later) = child c.node c.parent false ∷ with_needs_in zero count [] later
with_needs_in zero (suc count) (need ∷ needs) (c ∷ later) = child c.node c.parent need ∷ with_needs_in zero count needs later

-- the children where the one at this place has this need; past the last one nothing changes
abbrev pub with_need_at : ℕ → Bool → List Child → List Child
with_need_at place on [] = []
with_need_at zero on (c ∷ later) = child c.node c.parent on ∷ later
with_need_at (suc place) on (c ∷ later) = c ∷ with_need_at place on later

-- whether a processor or slave needs its parent; None for any other node
abbrev pub child_need : List Child → NodeId → Option Bool
child_need children node = option_map (λ c. c.needs) (find (λ c. c.node.0 == node.0) children)

-- whether a power node does, given its place: while it is up
abbrev pub power_need : Needs → Option ℕ → Bool
power_need n None = false
power_need n (Some w) = is_up n w

abbrev pub need_at : Needs → Option Bool → NodeId → Bool
need_at n (Some needs) node = needs
need_at n None node = power_need n (power_place n.powers node.0)

-- whether a node needs its parent
abbrev pub does_need : Needs → NodeId → Bool
does_need n node = need_at n (child_need n.children node) node
