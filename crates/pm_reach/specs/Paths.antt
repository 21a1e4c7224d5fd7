-- Paths from master to master, and the least of them. Masters stand for themselves by their places in the objects.
use Rattle.std.specs.Prelude.{◌≡◌, ℕ, ◌<◌, ◌⊎◌, Bool, false, ◌&&◌, ◌||◌, ◌==◌, nat_lt, IsTrue, Some, List, [], ◌∷◌, ◌++◌, length, slice_get}
use Rattle.pm_object.specs.declared.object.Object.{Object}
use Rattle.pm_topology.specs.declared.topology.Topology.{Topology}
use Rattle.pm_topology.specs.WellFormed.{AreDistinct, EachEntry, HasNumber}
use Rattle.pm_perms.specs.Several.{masters_of}
use Rattle.pm_reach.specs.declared.members.Why.{Why}
use Rattle.pm_reach.specs.declared.members.Why.TheVariants.{Myself}
use Rattle.pm_reach.specs.declared.routes.Route.{Route}
use Rattle.pm_reach.specs.Leads.{lead}

-- a list of masters is a path from the first of them to its end: each master leads to the next one. The reason is that
-- of the last step
pub data IsPath (objects : List Object) (t : Topology) (from : ℕ) : List ℕ → ℕ → Why → Type 0 where
  start : IsPath objects t from (from ∷ []) from Myself
  step : (path : List ℕ) (a b : ℕ) (before why : Why)
      → IsPath objects t from path a before
      → b < length (masters_of objects)
      → lead objects t a b ≡ Some why
      → IsPath objects t from (path ++ b ∷ []) b why

-- ---- their order

-- one list of places comes before another of the same length, compared from the front
abbrev pub is_lower : List ℕ → List ℕ → Bool
is_lower [] q = false
is_lower (a ∷ p) [] = false
is_lower (a ∷ p) (b ∷ q) = nat_lt a b || ((a == b) && is_lower p q)

-- one path comes before another: it is shorter, or as long and lower
abbrev pub comes_before : List ℕ → List ℕ → Bool
comes_before p q = nat_lt (length p) (length q) || ((length p == length q) && is_lower p q)

-- ---- the least of them

-- a least path: each other path from the same master to the same end comes after it
pub record IsLeast (objects : List Object) (t : Topology) (from : ℕ) (route : Route) : Type 0 where
  pub path : IsPath objects t from route.path route.end route.why
  pub least : (path : List ℕ) (why : Why)
      → IsPath objects t from path route.end why
      → (path ≡ route.path) ⊎ IsTrue (comes_before route.path path)

-- the least path to the end of each path from a master, each once, in the order of paths
pub record AreLeast (objects : List Object) (t : Topology) (from : ℕ) (routes : List Route) : Type 0 where
  pub least : EachEntry routes (λ _ route. IsLeast objects t from route)
  pub all : (path : List ℕ) (end : ℕ) (why : Why)
      → IsPath objects t from path end why
      → HasNumber (λ route. route.end) routes end
  pub once : AreDistinct (λ route. route.end) routes
  pub rising : (j k : ℕ) (r s : Route)
      → slice_get routes j ≡ Some r
      → slice_get routes k ≡ Some s
      → j < k
      → IsTrue (comes_before r.path s.path)
