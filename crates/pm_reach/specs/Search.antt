-- What holds while the least paths are searched: from each path found, in their order, to each master, by its place.
use Rattle.std.specs.Prelude.{◌≡◌, ℕ, ◌+◌, ◌<◌, ◌⊎◌, ◌==◌, IsTrue, if◌then◌else◌, Option, Some, None, List, [], ◌∷◌, ◌++◌, length, slice_get, cond, zero, suc}
use Rattle.std.specs.List.{list_any}
use Rattle.std.specs.Option.{option_map}
use Rattle.pm_object.specs.declared.object.Object.{Object}
use Rattle.pm_topology.specs.declared.topology.Topology.{Topology}
use Rattle.pm_topology.specs.WellFormed.{AreDistinct, EachEntry}
use Rattle.pm_perms.specs.Several.{masters_of}
use Rattle.pm_reach.specs.declared.members.Why.{Why}
use Rattle.pm_reach.specs.declared.routes.Route.{Route}
use Rattle.pm_reach.specs.Leads.{lead}
use Rattle.pm_reach.specs.Paths.{IsPath, comes_before}

-- a path and one step more, to the master at a place, where it leads there and none of the paths found so far ends there
abbrev pub longer_if_new : List Object → Topology → List Route → Route → ℕ → Option Route
longer_if_new objects t routes from end =
    if list_any (λ (r : Route). r.end == end) routes then None
    else option_map (λ why. record { end = end; why = why; path = from.path ++ end ∷ [] }) (lead objects t from.end end)

-- a path has been found to the end of this one, that is this one or comes before it
pub record IsCovered (routes : List Route) (path : List ℕ) (end : ℕ) : Type 0 where
  pub at : ℕ
  pub route : Route
  pub is : slice_get routes at ≡ Some route
  pub ends : route.end ≡ end
  pub first : (path ≡ route.path) ⊎ IsTrue (comes_before route.path path)

-- how many of the first masters no path found ends at
abbrev pub unfound : List Route → ℕ → ℕ
unfound routes zero = 0
unfound routes (suc n) = unfound routes n + cond (list_any (λ r. r.end == n) routes) 0 1

-- the paths found so far, where the one at next was tried with the masters before this place, and those before it with
-- all
pub record IsSearch (objects : List Object) (t : Topology) (from : ℕ) (routes : List Route)
    (next place : ℕ) : Type 0 where
  pub paths : EachEntry routes (λ _ r. IsPath objects t from r.path r.end r.why)
  pub start : IsCovered routes (from ∷ []) from
  pub once : AreDistinct (λ r. r.end) routes
  pub rising : (j k : ℕ) (r s : Route)
      → slice_get routes j ≡ Some r
      → slice_get routes k ≡ Some s
      → j < k
      → IsTrue (comes_before r.path s.path)
  pub ahead : (p : Route) → slice_get routes next ≡ Some p → EachEntry routes (λ _ r. IsTrue (comes_before r.path (p.path ++ place ∷ [])))
  pub tried : (j : ℕ) (p : Route) (end : ℕ) (why : Why)
      → slice_get routes j ≡ Some p
      → lead objects t p.end end ≡ Some why
      → end < length (masters_of objects)
      → (j < next) ⊎ ((j ≡ next) × (end < place))
      → IsCovered routes (p.path ++ end ∷ []) end
  pub room : length routes + unfound routes (length (masters_of objects)) ≡ length (masters_of objects)
