-- The border of a reach is closed.
use Rattle.std.proofs.Common.{◌≡◌, ℕ, ◌+◌, ◌<◌, ◌&&◌, ◌||◌, ◌==◌, Bool, true, false, not, zero, suc, List, [], ◌∷◌, length, slice_get, position, Option, Some, None, refl, ap, sym, ◌∙◌, arith, inl, inr}
use Rattle.std.specs.Prelude.{option_and_then}
use Rattle.std.specs.Option.{option_map}
use Rattle.std.specs.List.{All, AllByRecursion as Each, enumerate_from}
use Rattle.std.proofs.lemmas.List.Elements.{All-from_recursion}
use Rattle.std.proofs.lemmas.Option.{slice_get_within}
use Rattle.pm_base.specs.declared.names.LineId.{LineId}
use Rattle.pm_laws.proofs.Common.{AreObjects, Border, IsBeyond, IsClosed, IsClosedOver, IsObject, IsPairClosed, IsUserKnown, IsWellFormed, Kind, MasterRec, Node, NodeId, Object, Pair, Topology, border_of, border_over, brings_in, entry_beyond, kind_of, master_beyond, named_master, node_beyond, none_within, number_beyond, owner_at, configured_place, reset_beyond, unit_beyond, unit_border}
use Rattle.pm_base.specs.declared.names.Unit.TheVariants.{Line}
use Rattle.std.proofs.lemmas.Bool.{eqb-true}
use Rattle.pm_base.proofs.Booleans.{both, either, first_passes, later_passes, pair_of}
use Rattle.pm_base.proofs.Options.{holds_of}
use Rattle.pm_base.proofs.Searches.{position-first}
use Rattle.pm_base.proofs.Tests.{present_from}
use Rattle.pm_topology.specs.declared.places.Kind.TheVariants as kinds
use Rattle.pm_topology.specs.declared.topology.LineDef.{LineDef}
use Rattle.pm_topology.specs.declared.topology.PowerDef.{PowerDef}
use Rattle.pm_topology.specs.declared.topology.ProcDef.{ProcDef}
use Rattle.pm_topology.specs.declared.topology.SlaveDef.{SlaveDef}
use Rattle.pm_perms.specs.Owner.{has_processor, owner}
use Rattle.pm_perms.specs.Several.{some_may_force, some_may_reset, some_may_shut, some_may_use}
use Rattle.pm_grants.specs.declared.grants.Grants.{Grants}
use Rattle.pm_grants.specs.Grants.{force_mask, grants_of, is_within_mask, mask_at, mask_for, permits_configure, permits_force, permits_reset, permits_shut, permits_suspend, permits_use, permits_wake}
use Rattle.pm_grants.specs.Laws.{at_place, master_place}
use Rattle.pm_grants.specs.Several.{HaveSamePlaces, all_grants, some_permits}
use Rattle.pm_reach.specs.declared.members.MemberKind.{MemberKind}
use Rattle.pm_reach.specs.declared.members.MemberKind.TheVariants as members
use Rattle.pm_reach.specs.Border.{Reaches}
use Rattle.pm_reach.specs.Leads.{forces_above, forces_at, forces_proc, has_processor_at, node_at, targets}
use Rattle.pm_state.specs.Pairs.{pairs_of}
use Rattle.pm_state.specs.State.{Fixed, objects_of, usable_among}
use Rattle.pm_state.proofs.ObjectsLaw.{of_run, place_same}
use Rattle.pm_state.specs.Scope.{is_slave_under, is_under}
use Rattle.pm_topology.specs.Places.{is_below, line_place, slave_place}
use Rattle.pm_laws.proofs.NamedLaw.{named_beyond}
use Rattle.pm_laws.proofs.HiddenLemmas.{within_by}
use Rattle.pm_laws.proofs.OwnsLaw.{owner_owns}
use Rattle.pm_laws.proofs.PairsLaw.{IsPermitted, pairs_permitted, permitted_use}
use Rattle.pm_laws.proofs.Records.{IsOne, at_both, entry_of, entry_there, more_shut, one_permits, ones, own_at, placed, placed_in, shut_there, within_there, word_there}
use Rattle.pm_laws.proofs.WithinReach.{ReachLaws, Starts, beyond_parts, lead, lead_in, lead_up, master_by, master_by_unit, unit_by}

-- an element at a place is among the elements with their places
numbered : {X : Type 0} (k : ℕ) (xs : List X) (i at : ℕ) (x : X) → at ≡ k + i → slice_get xs i ≡ Some x → slice_get (enumerate_from k xs) i ≡ Some (at, x)
numbered k [] i at x is here = cc
numbered k (y ∷ ys) zero at x is here = let place : k ≡ at = omega (arith, is) in let same : y ≡ x = cc in cc
numbered k (y ∷ ys) (suc i) at x is here = numbered (k + 1) ys i at x (omega (arith, is)) here

-- the border of the reach from a place, with these numbers of nodes
abbrev pub edge : Object → List Object → Topology → Option ℕ → Border
edge object others t from = unit_border (object ∷ others) t from (number_beyond object others t from)

module _ (laws : ReachLaws) (object : Object) (others : List Object) (t : Topology) (formed : Each IsObject (object ∷ others)) (same : HaveSamePlaces (object ∷ others))
    (well : IsWellFormed t) (from : Option ℕ) (starts : Starts (object ∷ others) from) where
  abbrev objects : List Object
  objects = object ∷ others

  abbrev masters : ℕ
  masters = length object.masters

  abbrev number : ℕ → NodeId
  number m = node_at objects m

  -- one of the objects permits it
  abbrev may : (Grants → Bool) → Bool
  may permits = some_permits permits (all_grants objects t)

  abbrev border : Border
  border = edge object others t from

  abbrev One : Object → Type 0
  One = IsOne object others t

  each_one : Each One objects
  each_one = ones object others t objects (λ permits e. e) formed same

  -- a master to which one of them permits anything is at a place
  there_by : (m : ℕ) (permits : Grants → Bool) → ((o : Object) → permits (grants_of o t) ≡ true → m < length o.masters) → may permits ≡ true → m < masters
  there_by m permits stands e =
      let one = one_permits One t permits objects each_one e in
      placed_in object others t laws.grants one.0 one.1 m (stands one.0 one.2)

  within_one : (m : ℕ) (mask : Grants → ℕ) → may (λ g. is_within_mask g m (mask g)) ≡ true → m < masters
  within_one m mask e = there_by m (λ g. is_within_mask g m (mask g)) (λ o is. within_there o t m (mask (grants_of o t)) is) e

  -- ---- by places and by numbers

  at : (m : ℕ) → m < masters → master_place object.masters (number m) ≡ Some m
  at m there = placed object t laws.grants formed.0 m there

  slave_at : (s : ℕ) (slave : SlaveDef) → slice_get t.slaves s ≡ Some slave → slave_place t.slaves slave.node.0 ≡ Some s
  slave_at s slave is = own_at (λ (slave : SlaveDef). slave.node.0) t.slaves well.slaves_distinct s slave is

  line_at : (l : ℕ) (line : LineDef) → slice_get t.lines l ≡ Some line → line_place t.lines line.line.0 ≡ Some l
  line_at l line is = own_at (λ (line : LineDef). line.line.0) t.lines well.lines_distinct l line is

  may_use_at : (m s : ℕ) (slave : SlaveDef) → m < masters → slice_get t.slaves s ≡ Some slave → may (λ g. permits_use g m s) ≡ true → some_may_use objects t (number m) slave.node ≡ true
  may_use_at m s slave there is e =
      laws.several.use_ objects t (number m) slave.node same
      ∙ (at_both (λ m s. may (λ g. permits_use g m s)) (master_place object.masters (number m)) (slave_place t.slaves slave.node.0) m s (at m there) (slave_at s slave is) ∙ e)

  may_reset_at : (m l : ℕ) (line : LineDef) → slice_get t.lines l ≡ Some line → may (λ g. permits_reset g m l) ≡ true → some_may_reset objects t (number m) line.line ≡ true
  may_reset_at m l line is e =
      laws.several.reset objects t (number m) line.line same
      ∙ (at_both (λ m l. may (λ g. permits_reset g m l)) (master_place object.masters (number m)) (line_place t.lines line.line.0) m l
      (at m (within_one m (λ g. mask_at g.lines l) e)) (line_at l line is) ∙ e)

  may_force_at : (m : ℕ) (node : NodeId) (kind : Kind) → kind ≡ kind_of t node → may (λ g. permits_force g m kind) ≡ true → some_may_force objects t (number m) node ≡ true
  may_force_at m node kind is e =
      laws.several.force objects t (number m) node same
      ∙ (ap (at_place (λ m. may (λ g. permits_force g m (kind_of t node)))) (at m (within_one m (λ g. force_mask g kind) e))
      ∙ (ap (λ kind. may (λ g. permits_force g m kind)) (sym is) ∙ e))

  may_shut_at : (m subtype : ℕ) → m < masters → may (λ g. permits_shut g m subtype) ≡ some_may_shut objects t (number m) subtype
  may_shut_at m subtype there =
      sym (laws.several.shut objects t (number m) subtype same ∙ ap (at_place (λ m. may (λ g. permits_shut g m subtype))) (at m there))

  -- a power node above a node is forced, or the processor itself
  above_forced : (m w : ℕ) (node : NodeId) → may (λ g. permits_force g m (kinds.Power w)) ≡ true → is_below t w node ≡ true → forces_above objects t (number m) node ≡ true
  above_forced m w node e below =
      let one = one_permits One t (λ g. permits_force g m (kinds.Power w)) objects each_one e in
      let o : Object = one.0 in
      let entry = entry_of o t (λ (power : PowerDef). mask_for o.power power.node.0) t.powers m w one.2 in
      let power : PowerDef = entry.0 in
      let own : some_may_force objects t (number m) power.node ≡ true =
      may_force_at m power.node (kinds.Power w) (laws.kinds.alone t power.node (kinds.Power w) well (power, entry.1, refl)) e
      in
      present_from (λ (e : ℕ × PowerDef). forces_at objects t (number m) node e.0 e.1) (enumerate_from 0 t.powers) w (w, power)
      (numbered 0 t.powers w w power (omega arith) entry.1) (pair_of (is_below t w node) (some_may_force objects t (number m) power.node) below own)

  proc_forced : (m p : ℕ) (proc : ProcDef) (kind : Kind) → slice_get t.procs p ≡ Some proc → may (λ g. permits_force g m kind) ≡ true → is_under t kind p proc.node ≡ true → forces_proc objects t (number m) proc.node ≡ true
  proc_forced m p proc (kinds.Proc q) is e under =
      let here : p ≡ q = eqb-true p q under in
      first_passes (some_may_force objects t (number m) proc.node) (forces_above objects t (number m) proc.node)
      (may_force_at m proc.node (kinds.Proc p) (laws.kinds.alone t proc.node (kinds.Proc p) well (proc, is, refl))
      (ap (λ n. may (λ g. permits_force g m (kinds.Proc n))) here ∙ e))
  proc_forced m p proc (kinds.Power w) is e under =
      later_passes (some_may_force objects t (number m) proc.node) (forces_above objects t (number m) proc.node) (above_forced m w proc.node e under)
  proc_forced m p proc _ is e under = cc

  slave_forced : (m : ℕ) (node : NodeId) (kind : Kind) → may (λ g. permits_force g m kind) ≡ true → is_slave_under t kind node ≡ true → forces_above objects t (number m) node ≡ true
  slave_forced m node (kinds.Power w) e under = above_forced m w node e under
  slave_forced m node _ e under = cc

  -- ---- from master to master

  leads : (m k : ℕ) → m < masters
      → (k < masters → (f : ℕ) → Reaches objects t f m → Reaches objects t f k)
      → IsBeyond border k
      → IsBeyond border m
  leads m k there on beyond =
      let parts = beyond_parts laws objects t from starts k beyond in
      master_by laws objects t from starts m k there (lead objects t from m k (on parts.0)) beyond

  suspends : (m k : ℕ) → may (λ g. permits_suspend g m k) ≡ true → IsBeyond border k → IsBeyond border m
  suspends m k e beyond =
      let there : m < masters = there_by m (λ g. permits_suspend g m k) (λ o is. word_there o t (λ x. x.suspend) m k is) e in
      leads m k there
      (λ other f r. laws.masters.suspended objects t f m r k other
      (laws.several.suspend objects t (number m) (number k) same
      ∙ (at_both (λ m k. may (λ g. permits_suspend g m k)) (master_place object.masters (number m)) (master_place object.masters (number k)) m k (at m there) (at k other) ∙ e)))
      beyond

  wakes : (m k : ℕ) → may (λ g. permits_wake g m k) ≡ true → IsBeyond border k → IsBeyond border m
  wakes m k e beyond =
      let there : m < masters = there_by m (λ g. permits_wake g m k) (λ o is. word_there o t (λ x. x.wake) m k is) e in
      leads m k there
      (λ other f r. laws.masters.woken objects t f m r k other
      (laws.several.wake objects t (number m) (number k) same
      ∙ (at_both (λ m k. may (λ g. permits_wake g m k)) (master_place object.masters (number m)) (master_place object.masters (number k)) m k (at m there) (at k other) ∙ e)))
      beyond

  owner_is : (p k : ℕ) (proc : ProcDef) → slice_get t.procs p ≡ Some proc → owner_at object t p ≡ Some k → owner object t proc.node ≡ Some k
  owner_is p k proc is own = sym (ap (λ o. option_and_then (λ (proc : ProcDef). owner object t proc.node) o) is) ∙ own

  owned : (p k : ℕ) (proc : ProcDef) → slice_get t.procs p ≡ Some proc → owner_at object t p ≡ Some k → has_processor_at objects t k proc.node ≡ true
  owned p k proc is own = owner_owns object others t proc.node k (owner_is p k proc is own)

  forces : (m k p : ℕ) (proc : ProcDef) (kind : Kind) → slice_get t.procs p ≡ Some proc
      → may (λ g. permits_force g m kind) ≡ true → is_under t kind p proc.node ≡ true
      → owner_at object t p ≡ Some k → IsBeyond border k → IsBeyond border m
  forces m k p proc kind is e under own beyond =
      leads m k (within_one m (λ g. force_mask g kind) e)
      (λ there f r. laws.masters.forced objects t f m r k there p proc is (owned p k proc is own) (proc_forced m p proc kind is e under)) beyond

  clears : (m k s : ℕ) (slave : SlaveDef) (kind : Kind) → slice_get t.slaves s ≡ Some slave
      → may (λ g. permits_force g m kind) ≡ true → is_slave_under t kind slave.node ≡ true
      → may (λ g. permits_use g k s) ≡ true → IsBeyond border k → IsBeyond border m
  clears m k s slave kind is e under use_ beyond =
      leads m k (within_one m (λ g. force_mask g kind) e)
      (λ there f r. laws.masters.user objects t f m r k there s slave is (may_use_at k s slave there is use_) (slave_forced m slave.node kind e under)) beyond

  resets : (m k l : ℕ) (line : LineDef) → slice_get t.lines l ≡ Some line
      → may (λ g. permits_reset g m l) ≡ true
      → targets objects t line k ≡ true → IsBeyond border k → IsBeyond border m
  resets m k l line is e target beyond =
      leads m k (within_one m (λ g. mask_at g.lines l) e)
      (λ there f r. laws.masters.reset objects t f m r k there l line is target (may_reset_at m l line is e)) beyond

  -- some master beyond, if any is
  one_beyond : border.some ≡ true → (k : ℕ) × IsBeyond border k
  one_beyond e = let found = (laws.tests.some objects (master_beyond objects t from)).0 e in (found.0, found.2)

  -- who may shut down more than itself by one of them may do so by subtype 1 or 2
  more_by_one : (m subtype : ℕ) → (subtype == 0) ≡ false → may (λ g. permits_shut g m subtype) ≡ true
      → (may (λ g. permits_shut g m 1) || may (λ g. permits_shut g m 2)) ≡ true
  more_by_one m subtype more e =
      let one = one_permits One t (λ g. permits_shut g m subtype) objects each_one e in
      let o : Object = one.0 in
      let is : One o = one.1 in
      let first : Bool = may (λ g. permits_shut g m 1) in
      let later : Bool = may (λ g. permits_shut g m 2) in
      elim (either (permits_shut (grants_of o t) m 1) (permits_shut (grants_of o t) m 2) (more_shut o t m subtype more one.2)) [
        | inl domain ↦ first_passes first later (is.gives (λ g. permits_shut g m 1) domain)
        | inr system ↦ later_passes first later (is.gives (λ g. permits_shut g m 2) system)
      ]

  shuts : (m subtype : ℕ) → (subtype == 0) ≡ false → may (λ g. permits_shut g m subtype) ≡ true → border.some ≡ true → IsBeyond border m
  shuts m subtype more e some =
      let one = one_beyond some in
      let there : m < masters = there_by m (λ g. permits_shut g m subtype) (λ o is. shut_there o t m subtype more is) e in
      let both_ways : (may (λ g. permits_shut g m 1) || may (λ g. permits_shut g m 2)) ≡ (some_may_shut objects t (number m) 1 || some_may_shut objects t (number m) 2) =
      ap (λ b. b || may (λ g. permits_shut g m 2)) (may_shut_at m 1 there) ∙ ap (λ b. some_may_shut objects t (number m) 1 || b) (may_shut_at m 2 there)
      in
      leads m one.0 there (λ other f r. laws.masters.shut objects t f m r one.0 other (sym both_ways ∙ more_by_one m subtype more e)) one.1

  configures : (m : ℕ) → may (λ g. permits_configure g m) ≡ true → border.some ≡ true → IsBeyond border m
  configures m e some =
      let one = one_beyond some in
      let there : m < masters = within_one m (λ g. g.configure) e in
      leads m one.0 there
      (λ other f r. laws.masters.configured objects t f m r one.0 other
      (laws.several.configure objects t (number m) same ∙ (ap (at_place (λ m. may (λ g. permits_configure g m))) (at m there) ∙ e)))
      one.1

  -- ---- from masters to units

  -- an entry of a table that is beyond
  entry_is : (kind : MemberKind) (got : Option NodeId) (node : NodeId) → got ≡ Some node → entry_beyond objects t from kind got ≡ true
      → not (brings_in objects t from kind (Node node)) ≡ true
  entry_is kind got node is e = ap (entry_beyond objects t from kind) (sym is) ∙ e

  is_entry : (kind : MemberKind) (got : Option NodeId) (node : NodeId) → got ≡ Some node → not (brings_in objects t from kind (Node node)) ≡ true
      → entry_beyond objects t from kind got ≡ true
  is_entry kind got node is e = ap (entry_beyond objects t from kind) is ∙ e

  slave_node : (s : ℕ) (slave : SlaveDef) → slice_get t.slaves s ≡ Some slave → option_map (λ (slave : SlaveDef). slave.node) (slice_get t.slaves s) ≡ Some slave.node
  slave_node s slave is = ap (λ o. option_map (λ (slave : SlaveDef). slave.node) o) is

  power_node : (w : ℕ) (power : PowerDef) → slice_get t.powers w ≡ Some power → option_map (λ (power : PowerDef). power.node) (slice_get t.powers w) ≡ Some power.node
  power_node w power is = ap (λ o. option_map (λ (power : PowerDef). power.node) o) is

  power_beyond : (w : ℕ) (power : PowerDef) → slice_get t.powers w ≡ Some power → border.power w ≡ true → not (brings_in objects t from members.Power (Node power.node)) ≡ true
  power_beyond w power is e = entry_is members.Power _ power.node (power_node w power is) e

  power_kind : (w : ℕ) (power : PowerDef) → slice_get t.powers w ≡ Some power → kind_of t power.node ≡ kinds.Power w
  power_kind w power is = sym (laws.kinds.alone t power.node (kinds.Power w) well (power, is, refl))

  pair_closed : (o : Object) → One o → (pair : Pair) → IsPermitted o t pair → IsPairClosed border pair
  pair_closed o one pair permitted e =
      let slave = permitted.slave in
      let kind : kind_of t slave.node ≡ kinds.Slave pair.slave = sym (laws.kinds.alone t slave.node (kinds.Slave pair.slave) well (slave, permitted.there, refl)) in
      let there : pair.master < masters = placed_in object others t laws.grants o one pair.master (slice_get_within o.masters pair.master permitted.master permitted.configured) in
      let use_ = may_use_at pair.master pair.slave slave there permitted.there (one.gives (λ g. permits_use g pair.master pair.slave) (permitted_use o t pair permitted)) in
      master_by_unit laws objects t from starts pair.master members.Slave (Node slave.node) there
      (lead_in objects t from pair.master members.Slave (Node slave.node) (λ f r. laws.units.used objects t f pair.master r slave.node pair.slave kind use_))
      (entry_is members.Slave _ slave.node (slave_node pair.slave slave permitted.there) e)

  pairs_closed : (o : Object) → One o → (pairs : List Pair) → Each (IsPermitted o t) pairs → Each (IsPairClosed border) pairs
  pairs_closed o one [] each = tt
  pairs_closed o one (pair ∷ pairs) each = (pair_closed o one pair each.0, pairs_closed o one pairs each.1)

  line_is : (got : Option LineId) (line : LineId) → got ≡ Some line → reset_beyond objects t from got ≡ true
      → not (brings_in objects t from members.Line (Line line)) ≡ true
  line_is got line is e = ap (reset_beyond objects t from) (sym is) ∙ e

  -- a master beyond may use a slave
  abbrev uses : ℕ → ℕ → Bool
  uses s k = border.master k && may (λ g. permits_use g k s)

  -- so it is beyond whoever may use one that no master beyond may
  pair_known : (o : Object) → One o → (pair : Pair) → IsPermitted o t pair → IsUserKnown border pair
  pair_known o one pair permitted none =
      within_by (border.master pair.master) (border.used pair.slave)
      (λ beyond. (laws.tests.some objects (uses pair.slave)).1 (
        pair.master,
        (beyond_parts laws objects t from starts pair.master beyond).0,
        pair_of (border.master pair.master) (may (λ g. permits_use g pair.master pair.slave)) beyond
            (one.gives (λ g. permits_use g pair.master pair.slave) (permitted_use o t pair permitted)),
      )) none

  pairs_known : (o : Object) → One o → (pairs : List Pair) → Each (IsPermitted o t) pairs → Each (IsUserKnown border) pairs
  pairs_known o one [] each = tt
  pairs_known o one (pair ∷ pairs) each = (pair_known o one pair each.0, pairs_known o one pairs each.1)

  all_closed : (os : List Object) → Each One os → Each (λ (o : Object). All (IsPairClosed border) (pairs_of o t)) os
  all_closed [] each = tt
  all_closed (o ∷ os) each =
      (All-from_recursion (IsPairClosed border) (pairs_of o t) (pairs_closed o each.0 (pairs_of o t) (pairs_permitted o t)), all_closed os each.1)

  all_known : (os : List Object) → Each One os → Each (λ (o : Object). All (IsUserKnown border) (pairs_of o t)) os
  all_known [] each = tt
  all_known (o ∷ os) each =
      (All-from_recursion (IsUserKnown border) (pairs_of o t) (pairs_known o each.0 (pairs_of o t) (pairs_permitted o t)), all_known os each.1)

  used : (s : ℕ) → border.used s ≡ true → (k : ℕ) × IsBeyond border k × (may (λ g. permits_use g k s) ≡ true)
  used s e =
      let found = (laws.tests.some objects (uses s)).0 e in
      let parts = both (border.master found.0) (may (λ g. permits_use g found.0 s)) found.2 in
      (found.0, parts.0, parts.1)

  lines : (m l : ℕ) → may (λ g. permits_reset g m l) ≡ true → border.line l ≡ true → IsBeyond border m
  lines m l e beyond =
      let one = one_permits One t (λ g. permits_reset g m l) objects each_one e in
      let o : Object = one.0 in
      let entry = entry_of o t (λ (line : LineDef). mask_for o.reset line.line.0) t.lines m l one.2 in
      let line : LineDef = entry.0 in
      master_by_unit laws objects t from starts m members.Line (Line line.line)
      (within_one m (λ g. mask_at g.lines l) e)
      (lead_in objects t from m members.Line (Line line.line)
      (λ f r. laws.units.line objects t f m r line.line (may_reset_at m l line entry.1 e)))
      (line_is _ line.line (ap (λ o. option_map (λ (line : LineDef). line.line) o) entry.1) beyond)

  owner_within : (p m : ℕ) (proc : ProcDef) → slice_get t.procs p ≡ Some proc → owner_at object t p ≡ Some m → m < masters
  owner_within p m proc is own =
      let test : MasterRec → Bool = λ r. has_processor t r.node proc.node in
      let first = position-first test object.masters m (owner_is p m proc is own) in
      slice_get_within object.masters m first.element first.here

  -- ---- below a power node

  procs : (p m : ℕ) (proc : ProcDef) → slice_get t.procs p ≡ Some proc → border.power proc.parent ≡ true
      → owner_at object t p ≡ Some m → IsBeyond border m
  procs p m proc is e own =
      let entry = entry_there t.powers proc.parent (well.proc_parents p proc is) in
      let power = entry.0 in
      master_by_unit laws objects t from starts m members.Power (Node power.node) (owner_within p m proc is own)
      (lead_in objects t from m members.Power (Node power.node)
      (λ f r. laws.parents.proc objects t f m well r p proc power.node is (owned p m proc is own) (power_kind proc.parent power entry.1)))
      (power_beyond proc.parent power entry.1 e)

  slaves : (s : ℕ) (slave : SlaveDef) → slice_get t.slaves s ≡ Some slave → border.power slave.parent ≡ true → border.slave s ≡ true
  slaves s slave is e =
      let entry = entry_there t.powers slave.parent (well.slave_parents s slave is) in
      let power = entry.0 in
      is_entry members.Slave _ slave.node (slave_node s slave is)
      (unit_by laws objects t from starts members.Slave members.Power (Node slave.node) (Node power.node)
      (lead_up objects t from members.Slave members.Power (Node slave.node) (Node power.node)
      (λ f within. laws.parents.slave objects t f well s slave power.node is within (power_kind slave.parent power entry.1)))
      (power_beyond slave.parent power entry.1 e))

  powers : (w v : ℕ) (power : PowerDef) → slice_get t.powers w ≡ Some power → power.parent ≡ Some v
      → border.power v ≡ true → border.power w ≡ true
  powers w v power is up e =
      let lower : v < w = (let P : ℕ → Type 0 = λ u. u < w in holds_of P power.parent v up (well.power_parents w power is)) in
      let within = slice_get_within t.powers w power is in
      let entry = entry_there t.powers v (omega arith) in
      let above = entry.0 in
      is_entry members.Power _ power.node (power_node w power is)
      (unit_by laws objects t from starts members.Power members.Power (Node power.node) (Node above.node)
      (lead_up objects t from members.Power members.Power (Node power.node) (Node above.node)
      (λ f within. laws.parents.power objects t f well w v power above.node is up within (power_kind v above entry.1)))
      (power_beyond v above entry.1 e))

  -- ---- numbers of nodes

  abbrev plain : Border
  plain = unit_border objects t from (λ other. true)

  none_same : (place : Option ℕ) → none_within plain place ≡ none_within border place
  none_same None = refl
  none_same (Some m) = refl

  unit_same : (kind : Kind) → unit_beyond object t plain kind ≡ unit_beyond object t border kind
  unit_same (kinds.Proc p) = none_same (owner_at object t p)
  unit_same (kinds.Slave s) = refl
  unit_same (kinds.Power w) = refl
  unit_same kinds.Unknown = refl

  nodes : (node : NodeId) → border.node node.0 ≡ node_beyond object t border node
  nodes node =
      let place = position (λ (master : MasterRec). master.node == node.0) object.masters in
      ap (λ b. b && none_within plain place) (unit_same (kind_of t node)) ∙ ap (λ b. unit_beyond object t border (kind_of t node) && b) (none_same place)

  names : (node : NodeId) → border.node node.0 ≡ true → none_within border (named_master (record { object = object; topology = t; attached = [] }) node) ≡ true
  names node beyond = named_beyond laws.kinds object t well border node (sym (nodes node) ∙ beyond)

  pub edge_closed : IsClosedOver object others t border
  edge_closed = record {
    users = all_closed objects each_one;
    known = all_known objects each_one;
    used = used;
    slaves = slaves;
    procs = procs;
    powers = powers;
    nodes = nodes;
    names = names;
    suspends = suspends;
    wakes = wakes;
    forces = forces;
    clears = clears;
    resets = resets;
    lines = lines;
    shuts = shuts;
    configures = configures;
    some = λ m e. (laws.tests.some objects (master_beyond objects t from)).1 (m, (beyond_parts laws objects t from starts m e).0, e);
  }

-- ---- the reach of a master with a number

pub place_starts : (object : Object) (others : List Object) (m : NodeId) (got : Option ℕ) → configured_place object m ≡ got → Starts (object ∷ others) got
place_starts object others m None is = tt
place_starts object others m (Some k) is =
    let test : MasterRec → Bool = λ r. r.node == m.0 in
    let first = position-first test object.masters k is in
    slice_get_within object.masters k first.element first.here

pub reach_closed_over : ReachLaws → (object : Object) (others : List Object) (t : Topology) (m : NodeId) → Each IsObject (object ∷ others) → HaveSamePlaces (object ∷ others) → IsWellFormed t
    → IsClosedOver object others t (border_over object others t m)
reach_closed_over laws object others t m formed same well =
    edge_closed laws object others t formed same well (configured_place object m) (place_starts object others m (configured_place object m) refl)

-- a property at each place of a list holds of each element
each_from : {X : Type 0} (P : X → Type 0) (xs : List X) → ((k : ℕ) (x : X) → slice_get xs k ≡ Some x → P x) → Each P xs
each_from P [] all = tt
each_from P (x ∷ xs) all = (all 0 x refl, each_from P xs (λ k y is. all (suc k) y is))

-- a master's number has the same place in each object of the run
pub same_places : (fixed : Fixed) → HaveSamePlaces (objects_of fixed)
same_places fixed =
    each_from (λ (object : Object). (node : NodeId) → master_place object.masters node ≡ master_place fixed.object.masters node) (objects_of fixed)
    (λ k object is node. sym (place_same node.0 fixed.object.masters object.masters (of_run fixed k object is)))

pub reach_closed : ReachLaws → (fixed : Fixed) (m : NodeId) → AreObjects fixed → IsWellFormed fixed.topology → IsClosed fixed (border_of fixed m)
reach_closed laws fixed m formed well =
    reach_closed_over laws fixed.object (usable_among fixed.object fixed.attached) fixed.topology m formed (same_places fixed) well
