-- What is below a power node of a chip, at any depth: the places of its slaves and of its processors.
use Rattle.std.specs.Prelude.{◌≡◌, ℕ, ◌+◌, Bool, if◌then◌else◌, List, [], ◌∷◌, ◌++◌, Some, length, slice_get}
use Rattle.pm_topology.specs.declared.topology.Topology.{Topology}
use Rattle.pm_topology.specs.Places.{is_below}
use Rattle.pm_state.specs.declared.below.Below.{Below}

-- the places of those of these items that pass, in order, where the first item has place k
abbrev pub passing : {X : Type 0} → (X → Bool) → ℕ → List X → List ℕ
passing passes k [] = []
passing passes k (x ∷ xs) = (if passes x then k ∷ [] else []) ++ passing passes (k + 1) xs

-- the slaves that have the power node at place w above them
abbrev pub slaves_below : Topology → ℕ → List ℕ
slaves_below t w = passing (λ slave. is_below t w slave.node) 0 t.slaves

-- the processors that have it above them
abbrev pub procs_below : Topology → ℕ → List ℕ
procs_below t w = passing (λ proc. is_below t w proc.node) 0 t.procs

abbrev pub below_of : Topology → ℕ → Below
below_of t w = record { slaves = slaves_below t w; procs = procs_below t w }

-- for each power node of a chip, by its place, this is below it
pub record AreBelow (t : Topology) (all : List Below) : Type 0 where
  pub count : length all ≡ length t.powers
  pub each : (w : ℕ) (below : Below) → slice_get all w ≡ Some below → below ≡ below_of t w
