-- The paths from a master as they are found, and the nodes that are beyond by them.
use Rattle.std.specs.Prelude.{◌≡◌, ℕ, ◌<◌, Bool, true, List, [], Option, Some, None, length}
use Rattle.pm_object.specs.declared.object.Object.{Object}
use Rattle.pm_topology.specs.declared.topology.Topology.{Topology}
use Rattle.pm_perms.specs.Several.{masters_of}
use Rattle.pm_reach.specs.declared.routes.Route.{Route}
use Rattle.pm_reach.specs.Paths.{AreLeast}
use Rattle.pm_laws.specs.Border.{node_beyond}
use Rattle.pm_laws.specs.ReachBorder.{unit_border}

-- these are the least paths from the master at a place, over the permissions of at least one of the objects; there
-- are none if it isn't configured
abbrev pub ArePaths : List Object → Topology → Option ℕ → List Route → Type 0
ArePaths objects t None routes = routes ≡ []
ArePaths objects t (Some from) routes = (from < length (masters_of objects)) × AreLeast objects t from routes

-- the number of a node is beyond by the permissions of these objects; this one says which number is which master
abbrev pub number_by : Object → List Object → Topology → Option ℕ → ℕ → Bool
number_by loaded objects t from number =
    node_beyond loaded t (unit_border objects t from (λ other. true)) (record { 0 = number })
