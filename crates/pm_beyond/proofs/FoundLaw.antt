-- The found paths lead to the masters of the reach, and bring in its units.
use Rattle.std.proofs.Common.{◌≡◌, ℕ, ◌==◌, Bool, true, false, Option, Some, None, List, slice_get, is_some, refl, ap, sym, subst, ◌∙◌}
use Rattle.std.specs.List.{list_any}
use Rattle.std.proofs.lemmas.Bool.{eqb-true}
use Rattle.pm_base.specs.declared.names.Unit.{Unit}
use Rattle.pm_base.proofs.Booleans.{equal}
use Rattle.pm_base.proofs.Tests.{present_at, present_from}
use Rattle.pm_object.specs.declared.object.Object.{Object}
use Rattle.pm_topology.specs.declared.topology.Topology.{Topology}
use Rattle.pm_reach.specs.declared.members.MemberKind.{MemberKind}
use Rattle.pm_reach.specs.declared.routes.Route.{Route}
use Rattle.pm_reach.specs.Border.{Reaches}
use Rattle.pm_reach.specs.Brings.{brings}
use Rattle.pm_reach.specs.Reached.{ReachTests, is_brought_in, is_reached}
use Rattle.pm_laws.specs.ReachBorder.{brings_in, reaches}
use Rattle.pm_beyond.specs.Found.{ArePaths}

same_test : (a b : Bool) → (a ≡ true → b ≡ true) → (b ≡ true → a ≡ true) → a ≡ b
same_test true b there back = sym (there refl)
same_test false true there back = back refl
same_test false false there back = refl

-- a path ends at this place
abbrev ends_at : ℕ → Route → Bool
ends_at place route = route.end == place

-- the master at the path's end brings in the unit
abbrev brings_at : List Object → Topology → MemberKind → Unit → Route → Bool
brings_at objects t kind unit route = is_some (brings objects t kind unit route.end)

some_there : {X : Type 0} (o : Option X) → is_some o ≡ true → (x : X) × (o ≡ Some x)
some_there None e = cc
some_there (Some x) e = (x, refl)

module _ (tests : ReachTests) (objects : List Object) (t : Topology) (from : ℕ) (routes : List Route) (are : ArePaths objects t (Some from) routes) where
  abbrev Leads : ℕ → Type 0
  Leads place = Reaches objects t from place

  leads_there : (k : ℕ) (route : Route) → slice_get routes k ≡ Some route → Leads route.end
  leads_there k route here = (route.path, route.why, (are.1.least k route here).path)

  reached : (place : ℕ) → list_any (ends_at place) routes ≡ is_reached objects t from place
  reached place =
      same_test (list_any (ends_at place) routes) (is_reached objects t from place)
      (λ e. let found = present_at (ends_at place) routes e in
      (tests.masters objects t from place are.0).1 (subst Leads (eqb-true found.1.end place found.3) (leads_there found.0 found.1 found.2)))
      (λ e. let path = (tests.masters objects t from place are.0).0 e in
      let found = are.1.all path.0 place path.1 path.2 in
      present_from (ends_at place) routes found.0 found.1 found.2 (equal found.1.end place found.3))

  brought : (kind : MemberKind) (unit : Unit) → list_any (brings_at objects t kind unit) routes ≡ is_brought_in objects t from kind unit
  brought kind unit =
      same_test (list_any (brings_at objects t kind unit) routes) (is_brought_in objects t from kind unit)
      (λ e. let found = present_at (brings_at objects t kind unit) routes e in
      let why = some_there (brings objects t kind unit found.1.end) found.3 in
      (tests.units objects t from kind unit are.0).1 (found.1.end, why.0, leads_there found.0 found.1 found.2, why.1))
      (λ e. let within = (tests.units objects t from kind unit are.0).0 e in
      let path = within.2 in
      let found = are.1.all path.0 within.0 path.1 path.2 in
      let there : is_some (brings objects t kind unit within.0) ≡ true = ap is_some within.3 in
      present_from (brings_at objects t kind unit) routes found.0 found.1 found.2 (ap (λ a. is_some (brings objects t kind unit a)) found.3 ∙ there))

-- a path to the master at this place was found exactly if one leads there
pub reaches_by : ReachTests → (objects : List Object) (t : Topology) (from : Option ℕ) (routes : List Route) (place : ℕ) → ArePaths objects t from routes
    → list_any (ends_at place) routes ≡ reaches objects t from place
reaches_by tests objects t None routes place are = ap (list_any (ends_at place)) are
reaches_by tests objects t (Some from) routes place are = reached tests objects t from routes are place

-- a master at the end of a found path brings in the unit exactly if it is brought in
pub brings_by : ReachTests → (objects : List Object) (t : Topology) (from : Option ℕ) (routes : List Route) (kind : MemberKind) (unit : Unit) → ArePaths objects t from routes
    → list_any (brings_at objects t kind unit) routes ≡ brings_in objects t from kind unit
brings_by tests objects t None routes kind unit are = ap (list_any (brings_at objects t kind unit)) are
brings_by tests objects t (Some from) routes kind unit are = brought tests objects t from routes are kind unit
