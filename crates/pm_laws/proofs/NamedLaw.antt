-- A node that is beyond names a master beyond, or none.
use Rattle.std.proofs.Common.{◌≡◌, ℕ, ◌&&◌, ◌==◌, true, [], slice_get, position, Option, Some, None, refl, ap, sym, ◌∙◌}
use Rattle.std.specs.Prelude.{option_and_then}
use Rattle.std.specs.List.{list_any}
use Rattle.std.proofs.lemmas.Bool.{eqb-true}
use Rattle.pm_laws.proofs.Common.{Border, IsWellFormed, KindLaws, MasterRec, NodeId, Object, Topology, option_or, kind_of, named_master, node_beyond, none_within, owner_at, unit_beyond}
use Rattle.pm_base.proofs.Booleans.{both}
use Rattle.pm_base.proofs.Searches.{position-first}
use Rattle.pm_base.proofs.Tests.{present_at}
use Rattle.pm_topology.specs.declared.places.Kind.TheVariants.{Proc}
use Rattle.pm_topology.specs.declared.topology.MasterDef.{MasterDef}
use Rattle.pm_topology.specs.declared.topology.ProcDef.{ProcDef}
use Rattle.pm_perms.specs.Owner.{has_processor, owner}

module _ (kinds : KindLaws) (object : Object) (t : Topology) (well : IsWellFormed t) where
  number_is : (a b c : ℕ) → a ≡ b → (b == c) ≡ true → a ≡ c
  number_is a b c same is = same ∙ eqb-true b c is

  -- the owner of a processor of the chip, by its place
  owner_is : (node : NodeId) (k p : ℕ) (proc : ProcDef) → slice_get t.procs p ≡ Some proc → proc.node.0 ≡ node.0 → owner object t node ≡ Some k
      → owner_at object t p ≡ Some k
  owner_is node k p proc is same own =
      ap (λ o. option_and_then (λ (d : ProcDef). owner object t d.node) o) is
      ∙ (ap (λ (n : ℕ). owner object t (record { 0 = n })) same ∙ own)

  -- its kind
  kind_is : (node : NodeId) (p : ℕ) (proc : ProcDef) → slice_get t.procs p ≡ Some proc → proc.node.0 ≡ node.0 → kind_of t node ≡ Proc p
  kind_is node p proc is same = sym (kinds.alone t node (Proc p) well (proc, is, same))

  -- a node that a master has is a processor of the chip, and that master is its owner there
  owner_there : (node : NodeId) (k : ℕ) → owner object t node ≡ Some k
      → (p : ℕ) × (kind_of t node ≡ Proc p) × (owner_at object t p ≡ Some k)
  owner_there node k own =
      let first = position-first (λ (r : MasterRec). has_processor t r.node node) object.masters k own in
      let number : ℕ = first.element.node in
      let def = present_at (λ (d : MasterDef). (d.node.0 == number) && list_any (λ (p : NodeId). p.0 == node.0) d.procs) t.masters first.passes in
      let member = present_at (λ (p : NodeId). p.0 == node.0) def.1.procs
      (both (def.1.node.0 == number) (list_any (λ (p : NodeId). p.0 == node.0) def.1.procs) def.3).1
      in
      let proc = (well.members def.0 def.1 def.2).1 member.0 member.1 member.2 in
      let same : proc.1.node.0 ≡ node.0 = number_is proc.1.node.0 member.1.0 node.0 proc.3 member.3 in (
        proc.0,
        kind_is node proc.0 proc.1 proc.2 same,
        owner_is node k proc.0 proc.1 proc.2 same own,
      )

  module _ (border : Border) (node : NodeId) (beyond : node_beyond object t border node ≡ true) where
    abbrev place : Option ℕ
    place = position (λ (master : MasterRec). master.node == node.0) object.masters

    parts : (unit_beyond object t border (kind_of t node) ≡ true) × (none_within border place ≡ true)
    parts = both (unit_beyond object t border (kind_of t node)) (none_within border place) beyond

    owner_beyond : (got : Option ℕ) → owner object t node ≡ got → none_within border got ≡ true
    owner_beyond None own = refl
    owner_beyond (Some k) own =
        let there = owner_there node k own in
        ap (none_within border) (sym there.2) ∙ (ap (unit_beyond object t border) (sym there.1) ∙ parts.0)

    named_by : (first second : Option ℕ) → none_within border first ≡ true → none_within border second ≡ true → none_within border (option_or first second) ≡ true
    named_by None second is other = other
    named_by (Some m) second is other = is

    pub named_beyond : none_within border (named_master (record { object = object; topology = t; attached = [] }) node) ≡ true
    named_beyond = named_by place (owner object t node) parts.1 (owner_beyond (owner object t node) refl)
