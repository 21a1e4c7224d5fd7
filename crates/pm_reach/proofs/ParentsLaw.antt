-- The power node directly above what is within is within.
use Rattle.std.proofs.Common.{◌≡◌, ℕ, ◌<◌, ◌&&◌, ◌==◌, Bool, true, false, cond, zero, suc, Option, Some, None, List, length, slice_get, is_some, IfSome, inl, inr, refl, ap, sym, ◌∙◌, arith}
use Rattle.std.specs.List.{list_any}
use Rattle.std.specs.Prelude.{option_and_then}
use Rattle.std.specs.Option.{option_map}
use Rattle.std.proofs.lemmas.Bool.{eqb-true}
use Rattle.pm_base.specs.declared.names.NodeId.{NodeId}
use Rattle.pm_base.specs.declared.names.Unit.TheVariants.{Node}
use Rattle.pm_base.proofs.Booleans.{both, either, equal, pair_of, first_passes, later_passes}
use Rattle.pm_base.proofs.Options.{holds_of}
use Rattle.pm_base.proofs.Tests.{present_at, present_from}
use Rattle.pm_object.specs.declared.object.Object.{Object}
use Rattle.pm_topology.specs.declared.topology.PowerDef.{PowerDef}
use Rattle.pm_topology.specs.declared.topology.ProcDef.{ProcDef}
use Rattle.pm_topology.specs.declared.topology.SlaveDef.{SlaveDef}
use Rattle.pm_topology.specs.declared.topology.Topology.{Topology}
use Rattle.pm_topology.specs.declared.places.Kind.TheVariants as kinds
use Rattle.pm_topology.specs.Places.{KindLaws, is_below, kind_of, parent_at, parent_of, power_parent, upwards}
use Rattle.pm_topology.specs.WellFormed.{EachEntry, IsWellFormed}
use Rattle.pm_reach.specs.declared.members.MemberKind.TheVariants as members
use Rattle.pm_reach.specs.declared.members.Why.{Why}
use Rattle.pm_reach.specs.declared.members.Why.TheVariants.{Above}
use Rattle.pm_reach.specs.Leads.{has_processor_at}
use Rattle.pm_reach.specs.Brings.{brings_as_power, brings_power, brings_slave, is_above_proc, is_above_slave}
use Rattle.pm_reach.specs.Border.{Reaches, IsIn}
use Rattle.pm_reach.proofs.BorderLaw.{to_power_above_proc, to_power_above_slave, yes}

-- ---- the way up

-- the way up from a place meets the power node at w
abbrev meets : List PowerDef → ℕ → ℕ → Option ℕ → Bool
meets powers w left from = list_any (λ v. v == w) (upwards left powers from)

-- the parent of each power node stands earlier
abbrev StandEarlier : List PowerDef → Type 0
StandEarlier powers = EachEntry powers (λ k p. IfSome p.parent (λ w. w < k))

entry_of_parent : (powers : List PowerDef) (v u : ℕ) (got : Option PowerDef)
    → slice_get powers v ≡ got
    → option_and_then (λ (p : PowerDef). p.parent) got ≡ Some u
    → (p : PowerDef) × (slice_get powers v ≡ Some p) × (p.parent ≡ Some u)
entry_of_parent powers v u None is e = cc
entry_of_parent powers v u (Some p) is e = (p, is, e)

parent_earlier : (powers : List PowerDef) (v u : ℕ) → StandEarlier powers → power_parent powers v ≡ Some u → u < v
parent_earlier powers v u earlier e =
    let found = entry_of_parent powers v u (slice_get powers v) refl e in
    let P : ℕ → Type 0 = λ w. w < v in
    holds_of P found.0.parent u found.2 (earlier v found.0 found.1)

meets_nothing : (powers : List PowerDef) (w left : ℕ) → meets powers w left None ≡ false
meets_nothing powers w zero = refl
meets_nothing powers w (suc left) = refl

meets_first : (powers : List PowerDef) (w left : ℕ) → 0 < left → meets powers w left (Some w) ≡ true
meets_first powers w zero some = absurd (omega arith)
meets_first powers w (suc left) some = first_passes (w == w) _ (equal w w refl)

-- whoever meets a power node meets the one above it
meets_parent : (powers : List PowerDef) (w v : ℕ) → StandEarlier powers → power_parent powers w ≡ Some v
    → (left from : ℕ) → from < left
    → meets powers w left (Some from) ≡ true
    → meets powers v left (Some from) ≡ true
meets_parent powers w v earlier is zero from room e = absurd (omega arith)
meets_parent powers w v earlier is (suc left) from room e =
    elim (either (from == w) _ e) [
      | inl same ↦ (let parent : power_parent powers from ≡ Some v = ap (power_parent powers) (eqb-true from w same) ∙ is in
          let lower = parent_earlier powers from v earlier parent in
          later_passes (from == v) _ (ap (meets powers v left) parent ∙ meets_first powers v left (omega arith)))
      | inr later ↦ later_passes (from == v) _ (higher (power_parent powers from) refl later (meets_parent powers w v earlier is left))
    ]
  where
    higher : (up : Option ℕ)
        → power_parent powers from ≡ up
        → meets powers w left up ≡ true
        → ((u : ℕ) → u < left → meets powers w left (Some u) ≡ true → meets powers v left (Some u) ≡ true)
        → meets powers v left (power_parent powers from) ≡ true
    higher None at e next = let none = meets_nothing powers w left in cc
    higher (Some u) at e next =
        let lower = parent_earlier powers from u earlier at in
        ap (meets powers v left) at ∙ next u (omega arith) e

module _ (laws : KindLaws) (t : Topology) (well : IsWellFormed t) where
  -- ---- a node and the power node directly above it

  parent_of_proc : (k : ℕ) (p : ProcDef) → slice_get t.procs k ≡ Some p → parent_of t p.node ≡ Some p.parent
  parent_of_proc k p is =
      let kind : kinds.Proc k ≡ kind_of t p.node = laws.alone t p.node (kinds.Proc k) well (p, is, refl) in
      ap (parent_at t) (sym kind) ∙ ap (λ o. option_map (λ (p : ProcDef). p.parent) o) is

  parent_of_slave : (k : ℕ) (s : SlaveDef) → slice_get t.slaves k ≡ Some s → parent_of t s.node ≡ Some s.parent
  parent_of_slave k s is =
      let kind : kinds.Slave k ≡ kind_of t s.node = laws.alone t s.node (kinds.Slave k) well (s, is, refl) in
      ap (parent_at t) (sym kind) ∙ ap (λ o. option_map (λ (s : SlaveDef). s.parent) o) is

  below_parent : (n : NodeId) (w : ℕ) → parent_of t n ≡ Some w → w < length t.powers → is_below t w n ≡ true
  below_parent n w parent within =
      ap (meets t.powers w (length t.powers)) parent ∙ meets_first t.powers w (length t.powers) (omega arith)

  below_higher : (n : NodeId) (from w v : ℕ) → parent_of t n ≡ Some from → from < length t.powers
      → power_parent t.powers w ≡ Some v
      → is_below t w n ≡ true
      → is_below t v n ≡ true
  below_higher n from w v parent within is below =
      ap (meets t.powers v (length t.powers)) parent
      ∙ meets_parent t.powers w v well.power_parents is (length t.powers) from within
      (sym (ap (meets t.powers w (length t.powers)) parent) ∙ below)

  -- ---- what a master brings in

  higher_proc : (objects : List Object) (a w v : ℕ) → power_parent t.powers w ≡ Some v → is_above_proc objects t a w ≡ true → is_above_proc objects t a v ≡ true
  higher_proc objects a w v is e =
      let at_w : ProcDef → Bool = λ p. has_processor_at objects t a p.node && is_below t w p.node in
      let at_v : ProcDef → Bool = λ p. has_processor_at objects t a p.node && is_below t v p.node in
      let found = present_at at_w t.procs e in
      let p = found.1 in
      let parts = both (has_processor_at objects t a p.node) (is_below t w p.node) found.3 in
      let below = below_higher p.node p.parent w v (parent_of_proc found.0 p found.2) (well.proc_parents found.0 p found.2) is parts.1 in
      present_from at_v t.procs found.0 p found.2 (pair_of (has_processor_at objects t a p.node) _ parts.0 below)

  higher_slave : (objects : List Object) (a w v : ℕ) → power_parent t.powers w ≡ Some v → is_above_slave objects t a w ≡ true → is_above_slave objects t a v ≡ true
  higher_slave objects a w v is e =
      let at_w : SlaveDef → Bool = λ s. is_some (brings_slave objects t a s.node) && is_below t w s.node in
      let at_v : SlaveDef → Bool = λ s. is_some (brings_slave objects t a s.node) && is_below t v s.node in
      let found = present_at at_w t.slaves e in
      let s = found.1 in
      let parts = both (is_some (brings_slave objects t a s.node)) (is_below t w s.node) found.3 in
      let below = below_higher s.node s.parent w v (parent_of_slave found.0 s found.2) (well.slave_parents found.0 s found.2) is parts.1 in
      present_from at_v t.slaves found.0 s found.2 (pair_of (is_some (brings_slave objects t a s.node)) _ parts.0 below)

  higher_power : (objects : List Object) (a w v : ℕ) → power_parent t.powers w ≡ Some v → brings_power objects t a w ≡ true → brings_power objects t a v ≡ true
  higher_power objects a w v is e =
      elim (either (is_above_proc objects t a w) (is_above_slave objects t a w) e) [
        | inl proc ↦ first_passes (is_above_proc objects t a v) _ (higher_proc objects a w v is proc)
        | inr slave ↦ later_passes (is_above_proc objects t a v) _ (higher_slave objects a w v is slave)
      ]

-- ---- within

brought : (b : Bool) (why : Why) → cond b (Some Above) None ≡ Some why → b ≡ true
brought true why e = refl
brought false why e = cc

module _ (laws : KindLaws) where
  pub to_parent_of_proc : (objects : List Object) (t : Topology) (from a : ℕ) → IsWellFormed t → Reaches objects t from a
      → (k : ℕ) (p : ProcDef) (n : NodeId) → slice_get t.procs k ≡ Some p
      → has_processor_at objects t a p.node ≡ true
      → kind_of t n ≡ kinds.Power p.parent
      → IsIn objects t from members.Power (Node n)
  to_parent_of_proc objects t from a well r k p n is own kind =
      to_power_above_proc objects t from a r n p.parent kind k p is own
      (below_parent laws t well p.node p.parent (parent_of_proc laws t well k p is) (well.proc_parents k p is))

  pub to_parent_of_slave : (objects : List Object) (t : Topology) (from : ℕ) → IsWellFormed t
      → (k : ℕ) (s : SlaveDef) (n : NodeId) → slice_get t.slaves k ≡ Some s
      → IsIn objects t from members.Slave (Node s.node)
      → kind_of t n ≡ kinds.Power s.parent
      → IsIn objects t from members.Power (Node n)
  to_parent_of_slave objects t from well k s n is within kind =
      let slave : kinds.Slave k ≡ kind_of t s.node = laws.alone t s.node (kinds.Slave k) well (s, is, refl) in
      to_power_above_slave objects t from n s.parent kind k s k is (sym slave) within
      (below_parent laws t well s.node s.parent (parent_of_slave laws t well k s is) (well.slave_parents k s is))

  pub to_parent_of_power : (objects : List Object) (t : Topology) (from : ℕ) → IsWellFormed t
      → (w v : ℕ) (power : PowerDef) (n : NodeId) → slice_get t.powers w ≡ Some power
      → power.parent ≡ Some v
      → IsIn objects t from members.Power (Node power.node)
      → kind_of t n ≡ kinds.Power v
      → IsIn objects t from members.Power (Node n)
  to_parent_of_power objects t from well w v power n is up within kind =
      let a = within.0 in
      let own : kinds.Power w ≡ kind_of t power.node = laws.alone t power.node (kinds.Power w) well (power, is, refl) in
      let parent : power_parent t.powers w ≡ Some v = ap (λ o. option_and_then (λ (p : PowerDef). p.parent) o) is ∙ up in
      let old : brings_power objects t a w ≡ true =
      brought (brings_power objects t a w) within.1 (ap (brings_as_power objects t a) own ∙ within.3)
      in
      (a, Above, within.2, ap (brings_as_power objects t a) kind ∙ yes (brings_power objects t a v) Above (higher_power laws t well objects a w v parent old))
