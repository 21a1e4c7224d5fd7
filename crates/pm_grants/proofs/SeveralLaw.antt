-- What one of several objects permits by places is what one of them permits by numbers.
use Rattle.std.proofs.Common.{◌≡◌, ℕ, ◌||◌, Bool, true, false, List, [], ◌∷◌, Option, Some, None, refl, ap, sym, ◌∙◌}
use Rattle.std.specs.List.{AllByRecursion as Each, list_any}
use Rattle.pm_base.proofs.Tests.{any-map}
use Rattle.pm_base.specs.declared.names.NodeId.{NodeId}
use Rattle.pm_object.specs.declared.object.Object.{Object}
use Rattle.pm_object.specs.declared.object.MasterRec.{MasterRec}
use Rattle.pm_topology.specs.declared.topology.Topology.{Topology}
use Rattle.pm_topology.specs.Places.{kind_of, line_place, slave_place}
use Rattle.pm_perms.specs.Permits.{may_configure, may_force, may_reset, may_shut, may_suspend, may_use, may_wake}
use Rattle.pm_perms.specs.Several.{masters_of, some_gives}
use Rattle.pm_grants.specs.declared.grants.Grants.{Grants}
use Rattle.pm_grants.specs.Grants.{grants_of, permits_configure, permits_force, permits_reset, permits_shut, permits_suspend, permits_use, permits_wake}
use Rattle.pm_grants.specs.Laws.{GrantLaws, at_place, at_places, master_place}
use Rattle.pm_grants.specs.Several.{HaveSamePlaces, SeveralGrantLaws, all_grants, some_permits}

or_none : (b : Bool) → (b || false) ≡ b
or_none true = refl
or_none false = refl

any_gives : (gives : Object → Bool) (objects : List Object) → some_gives gives objects ≡ list_any gives objects
any_gives gives [] = refl
any_gives gives (object ∷ []) = sym (or_none (gives object))
any_gives gives (object ∷ other ∷ objects) = ap (λ b. gives object || b) (any_gives gives (other ∷ objects))

-- none of them does what nobody does
none_does : (objects : List Object) → list_any (λ (object : Object). false) objects ≡ false
none_does [] = refl
none_does (object ∷ objects) = none_does objects

-- two tests that agree on each of the objects whose masters stand at these places
abbrev IsPlaced : List MasterRec → Object → Type 0
IsPlaced masters object = (node : NodeId) → master_place object.masters node ≡ master_place masters node

any_same : (masters : List MasterRec) (may test : Object → Bool) → ((object : Object) → IsPlaced masters object → may object ≡ test object)
    → (objects : List Object) → Each (IsPlaced masters) objects → list_any may objects ≡ list_any test objects
any_same masters may test same [] each = refl
any_same masters may test same (object ∷ objects) each =
    ap (λ b. b || list_any may objects) (same object each.0)
    ∙ ap (λ b. test object || b) (any_same masters may test same objects each.1)

module _ (t : Topology) where
  any_place : (permits : Grants → ℕ → Bool) (objects : List Object) (a : Option ℕ)
      → list_any (λ (object : Object). at_place (permits (grants_of object t)) a) objects ≡ at_place (λ m. some_permits (λ g. permits g m) (all_grants objects t)) a
  any_place permits objects None = none_does objects
  any_place permits objects (Some m) = sym (any-map (λ (g : Grants). permits g m) (λ (object : Object). grants_of object t) objects)

  any_places : (permits : Grants → ℕ → ℕ → Bool) (objects : List Object) (a b : Option ℕ)
      → list_any (λ (object : Object). at_places (permits (grants_of object t)) a b) objects ≡ at_places (λ m k. some_permits (λ g. permits g m k) (all_grants objects t)) a b
  any_places permits objects None b = none_does objects
  any_places permits objects (Some m) b = any_place (λ g. permits g m) objects b

  -- a permission of one master, of one and a place, and of two masters
  some_one : (may : Object → Bool) (permits : Grants → ℕ → Bool) (a : NodeId) → ((o : Object) → may o ≡ at_place (permits (grants_of o t)) (master_place o.masters a))
      → (os : List Object) → HaveSamePlaces os → some_gives may os ≡ at_place (λ m. some_permits (λ g. permits g m) (all_grants os t)) (master_place (masters_of os) a)
  some_one may permits a law os same =
      any_gives may os
      ∙ (any_same (masters_of os) may (λ o. at_place (permits (grants_of o t)) (master_place (masters_of os) a))
      (λ o is. law o ∙ ap (at_place (permits (grants_of o t))) (is a)) os same
      ∙ any_place permits os (master_place (masters_of os) a))

  some_place : (may : Object → Bool) (permits : Grants → ℕ → ℕ → Bool) (a : NodeId) (b : Option ℕ) → ((o : Object) → may o ≡ at_places (permits (grants_of o t)) (master_place o.masters a) b)
      → (os : List Object) → HaveSamePlaces os → some_gives may os ≡ at_places (λ m k. some_permits (λ g. permits g m k) (all_grants os t)) (master_place (masters_of os) a) b
  some_place may permits a b law os same =
      any_gives may os
      ∙ (any_same (masters_of os) may (λ o. at_places (permits (grants_of o t)) (master_place (masters_of os) a) b)
      (λ o is. law o ∙ ap (λ p. at_places (permits (grants_of o t)) p b) (is a)) os same
      ∙ any_places permits os (master_place (masters_of os) a) b)

  some_two : (may : Object → Bool) (permits : Grants → ℕ → ℕ → Bool) (a b : NodeId)
      → ((o : Object) → may o ≡ at_places (permits (grants_of o t)) (master_place o.masters a) (master_place o.masters b))
      → (os : List Object) → HaveSamePlaces os
      → some_gives may os ≡ at_places (λ m k. some_permits (λ g. permits g m k) (all_grants os t)) (master_place (masters_of os) a) (master_place (masters_of os) b)
  some_two may permits a b law os same =
      any_gives may os
      ∙ (any_same (masters_of os) may (λ o. at_places (permits (grants_of o t)) (master_place (masters_of os) a) (master_place (masters_of os) b))
      (λ o is. law o
      ∙ (ap (λ p. at_places (permits (grants_of o t)) p (master_place o.masters b)) (is a)
      ∙ ap (at_places (permits (grants_of o t)) (master_place (masters_of os) a)) (is b))) os same
      ∙ any_places permits os (master_place (masters_of os) a) (master_place (masters_of os) b))

pub several_laws : GrantLaws → SeveralGrantLaws
several_laws laws = record {
  use_ = λ os t master slave same. some_place t (λ o. may_use o t master slave) permits_use master (slave_place t.slaves slave.0) (λ o. laws.use_ o t master slave) os same;
  suspend = λ os t master other same. some_two t (λ o. may_suspend o t master other) permits_suspend master other (λ o. laws.suspend o t master other) os same;
  wake = λ os t master other same. some_two t (λ o. may_wake o t master other) permits_wake master other (λ o. laws.wake o t master other) os same;
  force = λ os t master node same.
      some_one t (λ o. may_force o t master node) (λ g m. permits_force g m (kind_of t node)) master (λ o. laws.force o t master node) os same;
  reset = λ os t master line same. some_place t (λ o. may_reset o t master line) permits_reset master (line_place t.lines line.0) (λ o. laws.reset o t master line) os same;
  shut = λ os t master subtype same. some_one t (λ o. may_shut o t master subtype) (λ g m. permits_shut g m subtype) master (λ o. laws.shut o t master subtype) os same;
  configure = λ os t master same. some_one t (λ o. may_configure o t master) permits_configure master (λ o. laws.configure o t master) os same;
}
