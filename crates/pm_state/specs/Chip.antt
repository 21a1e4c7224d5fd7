-- The kinds of the nodes of a chip by number.
use Rattle.std.specs.Prelude.{◌≡◌, ℕ, List, slice_get, Some}
use Rattle.pm_topology.specs.declared.places.Kind.{Kind}
use Rattle.pm_topology.specs.declared.topology.Topology.{Topology}
use Rattle.pm_topology.specs.Places.{kind_of}

-- of the nodes with numbers from 0 on, these are the kinds, as far as they are kept
abbrev pub AreKinds : Topology → List Kind → Type 0
AreKinds t kinds = (number : ℕ) (kind : Kind) → slice_get kinds number ≡ Some kind → kind ≡ kind_of t (record { 0 = number })
