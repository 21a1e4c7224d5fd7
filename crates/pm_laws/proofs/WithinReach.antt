-- What is within the reach of a master by the tests, and what that makes beyond it.
use Rattle.std.proofs.Common.{◌≡◌, ℕ, ◌<◌, Bool, true, false, not, nat_lt, length, List, Option, Some, None, refl}
use Rattle.std.specs.Prelude.{⊤}
use Rattle.std.proofs.lemmas.Bool.{ltb-true, lt-ltb}
use Rattle.pm_laws.proofs.Common.{KindLaws, Object, Topology, Unit, brings_in, master_beyond, reaches}
use Rattle.pm_base.proofs.Booleans.{both, pair_of}
use Rattle.pm_perms.specs.Several.{masters_of}
use Rattle.pm_grants.specs.Laws.{GrantLaws}
use Rattle.pm_grants.specs.Several.{SeveralGrantLaws}
use Rattle.pm_reach.specs.declared.members.MemberKind.{MemberKind}
use Rattle.pm_reach.specs.Border.{IsClosedToMasters, IsClosedToUnits, IsClosedUpwards, Reaches, IsIn}
use Rattle.pm_reach.specs.Reached.{ReachTests}

-- what is known of every reach and of every chip
pub record ReachLaws : Type 0 where
  pub masters : IsClosedToMasters
  pub units : IsClosedToUnits
  pub parents : IsClosedUpwards
  pub tests : ReachTests
  pub kinds : KindLaws
  pub grants : GrantLaws
  pub several : SeveralGrantLaws

-- ---- tests

-- a test that implies another one fails if that one does
blocked : (a b : Bool) → (a ≡ true → b ≡ true) → not b ≡ true → not a ≡ true
blocked false b follows e = refl
blocked true b follows e = let is = follows refl in cc

-- ---- within

-- the place is that of a master
abbrev pub Starts : List Object → Option ℕ → Type 0
Starts objects None = ⊤
Starts objects (Some from) = from < length (masters_of objects)

-- a path leads from there to a master
abbrev pub Within : List Object → Topology → Option ℕ → ℕ → Type 0
Within objects t None k = ⊥
Within objects t (Some from) k = Reaches objects t from k

-- and the master there brings in a unit
abbrev pub UnitWithin : List Object → Topology → Option ℕ → MemberKind → Unit → Type 0
UnitWithin objects t None kind unit = ⊥
UnitWithin objects t (Some from) kind unit = IsIn objects t from kind unit

-- what leads from one master to another does so from every start
pub lead : (objects : List Object) (t : Topology) (from : Option ℕ) (m k : ℕ) → ((f : ℕ) → Reaches objects t f m → Reaches objects t f k) → Within objects t from m → Within objects t from k
lead objects t None m k leads within = within
lead objects t (Some f) m k leads within = leads f within

pub lead_in : (objects : List Object) (t : Topology) (from : Option ℕ) (m : ℕ) (kind : MemberKind) (unit : Unit) → ((f : ℕ) → Reaches objects t f m → IsIn objects t f kind unit) → Within objects t from m → UnitWithin objects t from kind unit
lead_in objects t None m kind unit leads within = within
lead_in objects t (Some f) m kind unit leads within = leads f within

pub lead_up : (objects : List Object) (t : Topology) (from : Option ℕ) (kind other : MemberKind) (unit above : Unit) → ((f : ℕ) → IsIn objects t f kind unit → IsIn objects t f other above) → UnitWithin objects t from kind unit → UnitWithin objects t from other above
lead_up objects t None kind other unit above leads within = within
lead_up objects t (Some f) kind other unit above leads within = leads f within

module _ (laws : ReachLaws) (objects : List Object) (t : Topology) where
  to_within : (from : Option ℕ) (k : ℕ) → Starts objects from → reaches objects t from k ≡ true → Within objects t from k
  to_within None k starts e = cc
  to_within (Some from) k starts e = (laws.tests.masters objects t from k starts).0 e

  from_within : (from : Option ℕ) (k : ℕ) → Starts objects from → Within objects t from k → reaches objects t from k ≡ true
  from_within None k starts e = absurd e
  from_within (Some from) k starts e = (laws.tests.masters objects t from k starts).1 e

  unit_to : (from : Option ℕ) (kind : MemberKind) (unit : Unit) → Starts objects from → brings_in objects t from kind unit ≡ true → UnitWithin objects t from kind unit
  unit_to None kind unit starts e = cc
  unit_to (Some from) kind unit starts e = (laws.tests.units objects t from kind unit starts).0 e

  unit_from : (from : Option ℕ) (kind : MemberKind) (unit : Unit) → Starts objects from → UnitWithin objects t from kind unit → brings_in objects t from kind unit ≡ true
  unit_from None kind unit starts e = absurd e
  unit_from (Some from) kind unit starts e = (laws.tests.units objects t from kind unit starts).1 e

  -- ---- one within brings another in

  module _ (from : Option ℕ) (starts : Starts objects from) where
    abbrev pub Beyond : ℕ → Type 0
    Beyond k = master_beyond objects t from k ≡ true

    beyond_by : (m : ℕ) → m < length (masters_of objects) → not (reaches objects t from m) ≡ true → Beyond m
    beyond_by m there e = pair_of (nat_lt m (length (masters_of objects))) _ (lt-ltb m (length (masters_of objects)) there) e

    pub beyond_parts : (k : ℕ) → Beyond k → (k < length (masters_of objects)) × (not (reaches objects t from k) ≡ true)
    beyond_parts k e =
        let parts = both (nat_lt k (length (masters_of objects))) (not (reaches objects t from k)) e in
        (ltb-true k (length (masters_of objects)) parts.0, parts.1)

    -- a master that leads to one beyond is beyond
    pub master_by : (m k : ℕ) → m < length (masters_of objects) → (Within objects t from m → Within objects t from k) → Beyond k → Beyond m
    master_by m k there leads beyond =
        beyond_by m there
        (blocked (reaches objects t from m) (reaches objects t from k)
        (λ e. from_within from k starts (leads (to_within from m starts e))) (beyond_parts k beyond).1)

    -- so is one that brings in a unit beyond
    pub master_by_unit : (m : ℕ) (kind : MemberKind) (unit : Unit) → m < length (masters_of objects)
        → (Within objects t from m → UnitWithin objects t from kind unit)
        → not (brings_in objects t from kind unit) ≡ true
        → Beyond m
    master_by_unit m kind unit there leads beyond =
        beyond_by m there
        (blocked (reaches objects t from m) (brings_in objects t from kind unit)
        (λ e. unit_from from kind unit starts (leads (to_within from m starts e))) beyond)

    -- and a unit by which another one is within
    pub unit_by : (kind other : MemberKind) (unit above : Unit)
        → (UnitWithin objects t from kind unit → UnitWithin objects t from other above)
        → not (brings_in objects t from other above) ≡ true
        → not (brings_in objects t from kind unit) ≡ true
    unit_by kind other unit above leads beyond =
        blocked (brings_in objects t from kind unit) (brings_in objects t from other above)
        (λ e. unit_from from other above starts (leads (unit_to from kind unit starts e))) beyond
