-- What is within the reach of a master, as tests. A law says that they pass exactly where a path leads there.
use Rattle.std.specs.Prelude.{ℕ, Bool, ◌<◌, ◌&&◌, ◌||◌, ◌==◌, nat_lt, is_some, IsTrue, ◌↔◌, length, zero, suc, List}
use Rattle.std.specs.List.{list_any, range_with_len}
use Rattle.pm_base.specs.declared.names.Unit.{Unit}
use Rattle.pm_object.specs.declared.object.Object.{Object}
use Rattle.pm_topology.specs.declared.topology.Topology.{Topology}
use Rattle.pm_perms.specs.Several.{masters_of}
use Rattle.pm_reach.specs.declared.members.MemberKind.{MemberKind}
use Rattle.pm_reach.specs.Border.{Reaches, IsIn}
use Rattle.pm_reach.specs.Brings.{brings}
use Rattle.pm_reach.specs.Leads.{lead}

-- some master of the objects passes a test of its place
abbrev pub some_master : List Object → (ℕ → Bool) → Bool
some_master objects test = list_any test (range_with_len 0 (length (masters_of objects)))

-- at most this many steps lead from one master to another
abbrev pub is_reached_by : List Object → Topology → ℕ → ℕ → ℕ → Bool
is_reached_by objects t from zero b = b == from
is_reached_by objects t from (suc steps) b =
    is_reached_by objects t from steps b
    || (nat_lt b (length (masters_of objects))
    && some_master objects (λ a. is_reached_by objects t from steps a && is_some (lead objects t a b)))

-- a master is within reach: no master is farther than there are masters
abbrev pub is_reached : List Object → Topology → ℕ → ℕ → Bool
is_reached objects t from b = is_reached_by objects t from (length (masters_of objects)) b

-- a unit is within reach as a member of this kind: a master within reach brings it in
abbrev pub is_brought_in : List Object → Topology → ℕ → MemberKind → Unit → Bool
is_brought_in objects t from kind unit =
    some_master objects (λ a. is_reached objects t from a && is_some (brings objects t kind unit a))

-- from each master of objects the tests pass exactly for the masters at the ends of paths, and for what these bring in;
-- and some master passes a test exactly where one at a place of them does
pub record ReachTests : Type 0 where
  pub masters : (os : List Object) (t : Topology) (from b : ℕ) → from < length (masters_of os)
      → IsTrue (is_reached os t from b) ↔ Reaches os t from b
  pub units : (os : List Object) (t : Topology) (from : ℕ) (kind : MemberKind) (unit : Unit)
      → from < length (masters_of os)
      → IsTrue (is_brought_in os t from kind unit) ↔ IsIn os t from kind unit
  pub some : (os : List Object) (test : ℕ → Bool)
      → IsTrue (some_master os test) ↔ ((k : ℕ) × (k < length (masters_of os)) × IsTrue (test k))
