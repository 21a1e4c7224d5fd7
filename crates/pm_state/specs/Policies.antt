-- What each object of a run permits on the chip, compiled once.
use Rattle.std.specs.Prelude.{ℕ, max, List, [], ◌∷◌, length, map}
use Rattle.pm_object.specs.declared.object.Object.{Object}
use Rattle.pm_topology.specs.declared.topology.Topology.{Topology}
use Rattle.pm_grants.specs.Grants.{grants_of}
use Rattle.pm_state.specs.declared.policies.Policy.{Policy}
use Rattle.pm_state.specs.Pairs.{permitted_in}

-- what an object permits: by places, and pair by pair
abbrev pub policy_of : Topology → Object → Policy
policy_of t object = record { grants = grants_of object t; pairs = permitted_in object t }

abbrev pub policies_of : Topology → List Object → List Policy
policies_of t objects = map (policy_of t) objects

-- the most pairs of any of them
abbrev pub most_of : List Policy → ℕ
most_of [] = 0
most_of (policy ∷ policies) = max (length policy.pairs) (most_of policies)

-- for how many rows there is room: for those of each object of the run
abbrev pub most_pairs : Topology → List Object → ℕ
most_pairs t objects = most_of (policies_of t objects)
