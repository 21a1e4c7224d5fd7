-- What is looked up by places is what the object's records give by numbers.
use Rattle.std.proofs.Common.{◌≡◌, ℕ, ◌==◌, ◌&&◌, ◌||◌, Bool, true, false, not, is_some, List, map, slice_get, position, unwrap_or, Option, Some, None, refl, ap, sym, subst, ◌∙◌, arith, inl, inr}
use Rattle.std.specs.Prelude.{find}
use Rattle.std.specs.Int.Bits.{and_zero_l}
use Rattle.std.specs.Option.{option_map, option_map_or}
use Rattle.std.proofs.lemmas.Bool.{cases_lt, eqb-true}
use Rattle.std.proofs.lemmas.Option.{get_or_from_slice_get, slice_get-map, slice_get_within}
use Rattle.pm_base.proofs.Booleans.{differs}
use Rattle.pm_base.proofs.ListLemmas.{find-None, find-Some}
use Rattle.pm_base.proofs.Searches.{position-first, position-none}
use Rattle.pm_base.proofs.Tests.{absent_from, present_from}
use Rattle.pm_base.specs.declared.names.LineId.{LineId}
use Rattle.pm_base.specs.declared.names.NodeId.{NodeId}
use Rattle.pm_object.specs.Grammar.{AreMasters, IsObject}
use Rattle.pm_object.specs.declared.object.MasterRec.{MasterRec}
use Rattle.pm_object.specs.declared.object.Object.{Object}
use Rattle.pm_object.specs.declared.object.Section.TheVariants.{Masters}
use Rattle.pm_object.specs.declared.object.SlaveRec.{SlaveRec}
use Rattle.pm_topology.specs.Places.{IsKind, KindLaws, kind_of, line_place, slave_place}
use Rattle.pm_topology.specs.Units.{has_line}
use Rattle.pm_topology.specs.declared.places.Kind.{Kind}
use Rattle.pm_topology.specs.declared.places.Kind.TheVariants as kinds
use Rattle.pm_topology.specs.declared.topology.LineDef.{LineDef}
use Rattle.pm_topology.specs.declared.topology.PowerDef.{PowerDef}
use Rattle.pm_topology.specs.declared.topology.ProcDef.{ProcDef}
use Rattle.pm_topology.specs.declared.topology.SlaveDef.{SlaveDef}
use Rattle.pm_topology.specs.declared.topology.Topology.{Topology}
use Rattle.pm_perms.specs.Permits.{can_be_forced, is_in, mask_has, master_record, may_reset, may_shut, may_suspend, may_use, may_use_by, may_wake, pair_mask, slave_record}
use Rattle.pm_grants.specs.declared.grants.Grants.{Grants}
use Rattle.pm_grants.specs.declared.grants.MasterMasks.{MasterMasks}
use Rattle.pm_grants.specs.Grants.{bit_of, grants_of, is_within_mask, mask_at, mask_for, master_masks, permits_force, permits_reset, permits_shut, permits_suspend, permits_use, permits_wake, suspend_mask, wake_mask}
use Rattle.pm_grants.specs.Laws.{GrantLaws, at_place, at_places, master_place}

-- ---- masks

no_mask : (bit : ℕ) → mask_has 0 bit ≡ false
no_mask bit = ap (λ (n : ℕ). not (n == 0)) (and_zero_l bit)

-- a mask that isn't there has nobody's bit
in_mask : (master : MasterRec) (mask : Option ℕ) → is_in (Some master) mask ≡ mask_has (unwrap_or mask 0) master.mask
in_mask master (Some mask) = refl
in_mask master None = sym (no_mask master.mask)

-- nobody is in no mask
none_within : (grants : Grants) (got : Option ℕ) → at_place (λ m. is_within_mask grants m 0) got ≡ false
none_within grants None = refl
none_within grants (Some m) = no_mask (bit_of grants m)

-- the mask at the place of a number is that of the number
mask_found : {X : Type 0} (number : X → ℕ) (f : ℕ → ℕ) (xs : List X) (n k : ℕ) (x : X) → slice_get xs k ≡ Some x → number x ≡ n
    → mask_at (map (λ x. f (number x)) xs) k ≡ f n
mask_found {X} number f xs n k x here is =
    let g : X → ℕ = λ x. f (number x) in
    ap (λ o. unwrap_or o 0) (slice_get-map g xs k ∙ ap (λ o. option_map g o) here) ∙ ap f is

-- ---- masters

module _ (o : Object) (t : Topology) where
  abbrev grants : Grants
  grants = grants_of o t

  -- what is compiled of the master at a place
  masks_here : (m : ℕ) (master : MasterRec) → slice_get o.masters m ≡ Some master → slice_get grants.masters m ≡ Some (master_masks master)
  masks_here m master is = slice_get-map master_masks o.masters m ∙ ap (λ got. option_map master_masks got) is

  bit_here : (m : ℕ) (master : MasterRec) → slice_get o.masters m ≡ Some master → bit_of grants m ≡ master.mask
  bit_here m master is = ap (λ got. option_map_or (λ (x : MasterMasks). x.bit) got 0) (masks_here m master is)

  -- a master in a mask, by its number and by its place
  caller_in : (node : NodeId) (mask : Option ℕ) (got : Option ℕ) → master_place o.masters node ≡ got
      → is_in (master_record o node) mask ≡ at_place (λ m. is_within_mask grants m (unwrap_or mask 0)) got
  caller_in node mask None is = ap (λ r. is_in r mask) (find-None (λ (r : MasterRec). r.node == node.0) o.masters is)
  caller_in node mask (Some m) is =
      let test : MasterRec → Bool = λ r. r.node == node.0 in
      let first = position-first test o.masters m is in
      let found : master_record o node ≡ Some first.element = find-Some test o.masters m is ∙ first.here in
      ap (λ r. is_in r mask) found
      ∙ (in_mask first.element mask ∙ ap (λ bit. mask_has (unwrap_or mask 0) bit) (sym (bit_here m first.element first.here)))

  -- the same where the mask is that of a unit, which stands at its place among these masks
  unit_in : (node : NodeId) (mask : Option ℕ) (masks : List ℕ) (got place : Option ℕ) → master_place o.masters node ≡ got
      → ((k : ℕ) → place ≡ Some k → mask_at masks k ≡ unwrap_or mask 0)
      → (is_some place && is_in (master_record o node) mask) ≡ at_places (λ m k. is_within_mask grants m (mask_at masks k)) got place
  unit_in node mask masks None None is at = refl
  unit_in node mask masks (Some m) None is at = refl
  unit_in node mask masks None (Some k) is at = caller_in node mask None is
  unit_in node mask masks (Some m) (Some k) is at =
      caller_in node mask (Some m) is ∙ ap (λ mask. is_within_mask grants m mask) (sym (at k refl))

  -- another master in the word of one
  other_in : (other : NodeId) (word : MasterRec → ℕ) (words : ℕ → ℕ) (node : NodeId) (got : Option ℕ) → master_place o.masters node ≡ got
      → ((m : ℕ) (master : MasterRec) → slice_get o.masters m ≡ Some master → words m ≡ word master)
      → is_in (master_record o other) (option_map word (master_record o node))
      ≡ at_places (λ m k. is_within_mask grants k (words m)) got (master_place o.masters other)
  other_in other word words node None is at =
      ap (λ r. is_in (master_record o other) (option_map word r)) (find-None (λ (r : MasterRec). r.node == node.0) o.masters is)
      ∙ (caller_in other None (master_place o.masters other) refl ∙ none_within grants (master_place o.masters other))
  other_in other word words node (Some m) is at =
      let test : MasterRec → Bool = λ r. r.node == node.0 in
      let first = position-first test o.masters m is in
      let found : master_record o node ≡ Some first.element = find-Some test o.masters m is ∙ first.here in
      ap (λ r. is_in (master_record o other) (option_map word r)) found
      ∙ (caller_in other (Some (word first.element)) (master_place o.masters other) refl
      ∙ ap (λ mask. at_place (λ k. is_within_mask grants k mask) (master_place o.masters other)) (sym (at m first.element first.here)))

  -- ---- each permission

  use_by : (master : Option MasterRec) (r : Option SlaveRec) → may_use_by master r ≡ is_in master (option_map (λ (r : SlaveRec). r.mask) r)
  use_by (Some master) (Some r) = refl
  use_by (Some master) None = refl
  use_by None r = refl

  -- the mask of the record of the slave with a number
  abbrev numbered_mask : ℕ → ℕ
  numbered_mask n = unwrap_or (option_map (λ (r : SlaveRec). r.mask) (find (λ (r : SlaveRec). r.node == n) o.slaves)) 0

  uses : (master slave : NodeId) → may_use o t master slave ≡ at_places (permits_use grants) (master_place o.masters master) (slave_place t.slaves slave.0)
  uses master slave =
      ap (λ b. is_some (slave_place t.slaves slave.0) && b) (use_by (master_record o master) (slave_record o slave))
      ∙ unit_in master (option_map (λ (r : SlaveRec). r.mask) (slave_record o slave)) grants.slaves (master_place o.masters master) (slave_place t.slaves slave.0) refl
      (λ k is. let first = position-first (λ (s : SlaveDef). s.node.0 == slave.0) t.slaves k is in
      mask_found (λ (s : SlaveDef). s.node.0) numbered_mask t.slaves slave.0 k first.element first.here (eqb-true first.element.node.0 slave.0 first.passes))

  suspends : (master other : NodeId)
      → may_suspend o t master other ≡ at_places (permits_suspend grants) (master_place o.masters master) (master_place o.masters other)
  suspends master other =
      other_in other (λ (r : MasterRec). r.suspend) (suspend_mask grants) master (master_place o.masters master) refl
      (λ m r is. ap (λ got. option_map_or (λ (x : MasterMasks). x.suspend) got 0) (masks_here m r is))

  wakes : (master other : NodeId)
      → may_wake o t master other ≡ at_places (permits_wake grants) (master_place o.masters master) (master_place o.masters other)
  wakes master other =
      other_in other (λ (r : MasterRec). r.wake) (wake_mask grants) master (master_place o.masters master) refl
      (λ m r is. ap (λ got. option_map_or (λ (x : MasterMasks). x.wake) got 0) (masks_here m r is))

  -- a node of a kind is forced by the record of its number
  forces_kind : (master node : NodeId) (kind : Kind) → IsKind t node kind
      → (can_be_forced kind && is_in (master_record o master) (pair_mask o.power node.0))
      ≡ at_place (λ m. permits_force grants m kind) (master_place o.masters master)
  forces_kind master node (kinds.Proc p) is =
      caller_in master (pair_mask o.power node.0) (master_place o.masters master) refl
      ∙ ap (λ mask. at_place (λ m. is_within_mask grants m mask) (master_place o.masters master))
      (sym (mask_found (λ (d : ProcDef). d.node.0) (mask_for o.power) t.procs node.0 p is.0 is.1 is.2))
  forces_kind master node (kinds.Power w) is =
      caller_in master (pair_mask o.power node.0) (master_place o.masters master) refl
      ∙ ap (λ mask. at_place (λ m. is_within_mask grants m mask) (master_place o.masters master))
      (sym (mask_found (λ (d : PowerDef). d.node.0) (mask_for o.power) t.powers node.0 w is.0 is.1 is.2))
  forces_kind master node (kinds.Slave s) is = sym (none_within grants (master_place o.masters master))
  forces_kind master node kinds.Unknown is = sym (none_within grants (master_place o.masters master))

  -- the chip has a line where it has a place
  line_by : (n : ℕ) (got : Option ℕ) → line_place t.lines n ≡ got → has_line n t.lines ≡ is_some got
  line_by n None is = absent_from (λ (l : LineDef). l.line.0 == n) t.lines (position-none (λ (l : LineDef). l.line.0 == n) t.lines is)
  line_by n (Some k) is =
      let test : LineDef → Bool = λ l. l.line.0 == n in
      let first = position-first test t.lines k is in
      present_from test t.lines k first.element first.here first.passes

  resets : (master : NodeId) (line : LineId)
      → may_reset o t master line ≡ at_places (permits_reset grants) (master_place o.masters master) (line_place t.lines line.0)
  resets master line =
      ap (λ b. b && is_in (master_record o master) (pair_mask o.reset line.0)) (line_by line.0 (line_place t.lines line.0) refl)
      ∙ unit_in master (pair_mask o.reset line.0) grants.lines (master_place o.masters master) (line_place t.lines line.0) refl
      (λ k is. let first = position-first (λ (l : LineDef). l.line.0 == line.0) t.lines k is in
      mask_found (λ (l : LineDef). l.line.0) (mask_for o.reset) t.lines line.0 k first.element first.here (eqb-true first.element.line.0 line.0 first.passes))

  -- ---- shutdown, by the subtype

  right_alone : (there more : Bool) → ((there && false) || more) ≡ more
  right_alone true more = refl
  right_alone false more = refl

  shuts_own : (node : NodeId) (got : Option ℕ) → master_place o.masters node ≡ got
      → may_shut o t node 0 ≡ at_place (λ m. permits_shut grants m 0) got
  shuts_own node None is =
      ap (λ r. is_some r && (0 == 0) || ((0 == 1) || (0 == 2)) && is_in r (pair_mask o.shutdown 0)) (find-None (λ (r : MasterRec). r.node == node.0) o.masters is)
  shuts_own node (Some m) is =
      let test : MasterRec → Bool = λ r. r.node == node.0 in
      let first = position-first test o.masters m is in
      let found : master_record o node ≡ Some first.element = find-Some test o.masters m is ∙ first.here in
      ap (λ r. is_some r && (0 == 0) || ((0 == 1) || (0 == 2)) && is_in r (pair_mask o.shutdown 0)) found
      ∙ sym (ap (λ got. is_some got) (masks_here m first.element first.here))

  shuts_one : (node : NodeId) → may_shut o t node 1 ≡ at_place (λ m. permits_shut grants m 1) (master_place o.masters node)
  shuts_one node =
      right_alone (is_some (master_record o node)) (is_in (master_record o node) (pair_mask o.shutdown 1))
      ∙ caller_in node (pair_mask o.shutdown 1) (master_place o.masters node) refl

  shuts_two : (node : NodeId) → may_shut o t node 2 ≡ at_place (λ m. permits_shut grants m 2) (master_place o.masters node)
  shuts_two node =
      right_alone (is_some (master_record o node)) (is_in (master_record o node) (pair_mask o.shutdown 2))
      ∙ caller_in node (pair_mask o.shutdown 2) (master_place o.masters node) refl

  shuts_other : (node : NodeId) (subtype : ℕ) → (subtype == 0) ≡ false → (subtype == 1) ≡ false → (subtype == 2) ≡ false
      → may_shut o t node subtype ≡ at_place (λ m. permits_shut grants m subtype) (master_place o.masters node)
  shuts_other node subtype zero_not one_not two_not =
      rw (zero_not, one_not, two_not) (right_alone (is_some (master_record o node)) false ∙ sym (none_within grants (master_place o.masters node)))

  abbrev ShutsBy : NodeId → ℕ → Type 0
  ShutsBy node subtype = may_shut o t node subtype ≡ at_place (λ m. permits_shut grants m subtype) (master_place o.masters node)

  shuts_by : (node : NodeId) (subtype : ℕ) (zero one two : Bool) → (subtype == 0) ≡ zero → (subtype == 1) ≡ one → (subtype == 2) ≡ two → ShutsBy node subtype
  shuts_by node subtype true one two e f g = subst (ShutsBy node) (sym (eqb-true subtype 0 e)) (shuts_own node (master_place o.masters node) refl)
  shuts_by node subtype false true two e f g = subst (ShutsBy node) (sym (eqb-true subtype 1 f)) (shuts_one node)
  shuts_by node subtype false false true e f g = subst (ShutsBy node) (sym (eqb-true subtype 2 g)) (shuts_two node)
  shuts_by node subtype false false false e f g = shuts_other node subtype e f g

-- ---- the place of a number

-- in a well-formed object the place of a number is that of the master that has it
pub own_place : (o : Object) (m : ℕ) (master : MasterRec) → IsObject o → slice_get o.masters m ≡ Some master
    → master_place o.masters (record { 0 = master.node }) ≡ Some m
own_place o m master formed is = at (position (λ (x : MasterRec). x.node == master.node) o.masters) refl
  where
    at : (got : Option ℕ) → position (λ (x : MasterRec). x.node == master.node) o.masters ≡ got → position (λ (x : MasterRec). x.node == master.node) o.masters ≡ Some m
    at None none = absurd (differs master.node master.node (position-none (λ (x : MasterRec). x.node == master.node) o.masters none m master is) refl)
    at (Some k) found =
        let p : MasterRec → Bool = λ x. x.node == master.node in
        let first = position-first p o.masters k found in
        elim (cases_lt k m) [
          | inl before ↦ (let masters : AreMasters o.masters = formed.sections Masters in
              let within = slice_get_within o.masters m master is in
              let apart = masters.apart k m master before within in
              let one = get_or_from_slice_get o.masters k first.element master first.here in
              let two = get_or_from_slice_get o.masters m master master is in
              absurd (apart.nodes (ap (λ (x : MasterRec). x.node) one ∙ (eqb-true first.element.node master.node first.passes ∙ ap (λ (x : MasterRec). x.node) (sym two)))))
          | inr past ↦ elim (cases_lt m k) [
            | inl later ↦ absurd (differs master.node master.node (first.least m master later is) refl)
            | inr least ↦ (let same : k ≡ m = omega arith in found ∙ ap (λ n. Some n) same)
          ]
        ]

pub grant_laws : KindLaws → GrantLaws
grant_laws kind_laws = record {
  use_ = uses;
  suspend = suspends;
  wake = wakes;
  force = λ o t master node. forces_kind o t master node (kind_of t node) (kind_laws.is t node);
  reset = resets;
  shut = λ o t master subtype. shuts_by o t master subtype (subtype == 0) (subtype == 1) (subtype == 2) refl refl refl;
  configure = λ o t master. caller_in o t master (Some o.base_mask) (master_place o.masters master) refl;
  places = own_place;
}
