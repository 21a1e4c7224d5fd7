-- The units of a chip: each node that has a place in its lists is one, and a power node is known by its number.
use Rattle.std.proofs.Common.{◌≡◌, ℕ, ◌<◌, ◌==◌, Bool, true, false, Some, List, [], ◌∷◌, length, refl, ap, sym, ◌∙◌, arith, inl, inr}
use Rattle.std.specs.Prelude.{slice_get, option_and_then}
use Rattle.std.specs.List.{list_any}
use Rattle.std.specs.Option.{option_map}
use Rattle.std.proofs.lemmas.Bool.{eq-eqb, or_left, or_right, or_cases, or_parts}
use Rattle.std.proofs.lemmas.Option.{slice_get_within, slice_get_cases}
use Rattle.pm_base.proofs.Options.{holds_of}
use Rattle.pm_base.proofs.Tests.{present_from}
use Rattle.pm_base.specs.declared.names.NodeId.{NodeId}
use Rattle.pm_base.specs.declared.names.Unit.{Unit}
use Rattle.pm_base.specs.declared.names.Unit.TheVariants.{Node, Line}
use Rattle.pm_topology.specs.declared.topology.Topology.{Topology}
use Rattle.pm_topology.specs.declared.topology.PowerDef.{PowerDef}
use Rattle.pm_topology.specs.declared.topology.ProcDef.{ProcDef}
use Rattle.pm_topology.specs.declared.topology.SlaveDef.{SlaveDef}
use Rattle.pm_topology.specs.declared.places.Kind.{Kind}
use Rattle.pm_topology.specs.declared.places.Kind.TheVariants.{Proc, Slave, Power, Unknown}
use Rattle.pm_topology.specs.Places.{kind_of, parent_of, parent_at, IsKind}
use Rattle.pm_topology.specs.WellFormed.{IsWellFormed}
use Rattle.pm_topology.specs.Units.{has_unit, kind_needs_power, needs_power, same_unit}
use Rattle.pm_topology.specs.FirstFault.{has_power, has_proc}
use Rattle.pm_topology.specs.Units.{units_of}
use Rattle.pm_record.proofs.Below.{ChipLaws}
use Rattle.pm_record.proofs.KindsLemmas.{power_kind}
use Rattle.pm_record.specs.Kinds.{is_power, is_power_kind}

-- ---- the units

-- the unit is in the list of the chip's units
abbrev pub is_listed : Topology → Unit → Bool
is_listed t unit = list_any (λ u. same_unit u unit) (units_of t)

-- exactly the units of the chip are
pub listed-is : ChipLaws → (t : Topology) (unit : Unit) → is_listed t unit ≡ has_unit t unit
listed-is laws t unit = laws.units.found t unit

-- where a power node stands, and that the unit is that one
pub record IsPowerAt (t : Topology) (unit : Unit) (w : ℕ) (p : PowerDef) : Type 0 where
  pub here : slice_get t.powers w ≡ Some p
  pub is : unit ≡ Node p.node

pub same_node : (a b : NodeId) → a.0 ≡ b.0 → a ≡ b
same_node a b e = let node : ℕ → NodeId = λ n. record { 0 = n } in ap node e

module _ (laws : ChipLaws) (t : Topology) where
  -- a node that has a kind is a unit
  is_known : (node : NodeId) (kind : Kind) → IsKind t node kind → (kind ≡ Unknown → ⊥) → has_unit t (Node node) ≡ true
  is_known node (Slave k) is known =
      or_right (has_power node.0 t.powers) _ (or_right (has_proc node.0 t.procs) _ (present_from (λ (s : SlaveDef). s.node.0 == node.0) t.slaves k is.0 is.1 (eq-eqb is.0.node.0 node.0 is.2)))
  is_known node (Proc k) is known =
      or_right (has_power node.0 t.powers) _ (or_left _ _ (present_from (λ (p : ProcDef). p.node.0 == node.0) t.procs k is.0 is.1 (eq-eqb is.0.node.0 node.0 is.2)))
  is_known node (Power k) is known =
      or_left _ _ (present_from (λ (p : PowerDef). p.node.0 == node.0) t.powers k is.0 is.1 (eq-eqb is.0.node.0 node.0 is.2))
  is_known node Unknown is known = absurd (known refl)

  -- a node with a power node above it is a unit
  pub listed_below : (node : NodeId) (w : ℕ) → parent_of t node ≡ Some w → is_listed t (Node node) ≡ true
  listed_below node w above =
      listed-is laws t (Node node) ∙ is_known node (kind_of t node) (laws.kinds.is t node) (λ unknown. let none = ap (parent_at t) unknown in cc)

  entry_at : {X : Type 0} (xs : List X) (k : ℕ) → k < length xs → (x : X) × (slice_get xs k ≡ Some x)
  entry_at xs k within =
      elim ((slice_get_cases xs k).1) [
        | inl there ↦ (there.0, there.2)
        | inr past ↦ absurd (omega (arith, past.0))
      ]

  -- the parent of a power node stands earlier
  pub stands_earlier : IsWellFormed t → (w : ℕ) (p : PowerDef) (u : ℕ) → slice_get t.powers w ≡ Some p → p.parent ≡ Some u → u < w
  stands_earlier well w p u here above = holds_of (λ u. u < w) p.parent u above (well.power_parents w p here)

  parent_within : IsWellFormed t → (node : NodeId) (kind : Kind) (w : ℕ) → IsKind t node kind → parent_at t kind ≡ Some w → w < length t.powers
  parent_within well node (Proc k) w is above =
      let within = well.proc_parents k is.0 is.1 in
      let same = ap (option_map (λ (p : ProcDef). p.parent)) is.1 in
      let at : is.0.parent ≡ w = cc in
      omega arith
  parent_within well node (Slave k) w is above =
      let within = well.slave_parents k is.0 is.1 in
      let same = ap (option_map (λ (s : SlaveDef). s.parent)) is.1 in
      let at : is.0.parent ≡ w = cc in
      omega arith
  parent_within well node (Power k) w is above =
      let within = slice_get_within t.powers k is.0 is.1 in
      let same = ap (option_and_then (λ (p : PowerDef). p.parent)) is.1 in
      let at : is.0.parent ≡ Some w = cc in
      let earlier = stands_earlier well k is.0 w is.1 at in
      omega arith
  parent_within well node Unknown w is above = cc

  -- the power node above a node is there
  pub power_above : IsWellFormed t → (node : NodeId) (w : ℕ) → parent_of t node ≡ Some w → (p : PowerDef) × (slice_get t.powers w ≡ Some p)
  power_above well node w above =
      entry_at t.powers w (parent_within well node (kind_of t node) w (laws.kinds.is t node) above)

  -- ---- power nodes

  pub parent_of_power : IsWellFormed t → (w : ℕ) (p : PowerDef) → slice_get t.powers w ≡ Some p → parent_of t p.node ≡ p.parent
  parent_of_power well w p here =
      ap (parent_at t) (power_kind laws t well w p here) ∙ ap (option_and_then (λ (p : PowerDef). p.parent)) here

  pub power_needs : IsWellFormed t → (w : ℕ) (p : PowerDef) (value : ℕ) → slice_get t.powers w ≡ Some p → needs_power t (Node p.node) value ≡ (value == 1)
  power_needs well w p value here = ap (λ kind. kind_needs_power t kind value) (power_kind laws t well w p here)

  pub power_is_listed : IsWellFormed t → (w : ℕ) (p : PowerDef) → slice_get t.powers w ≡ Some p → is_listed t (Node p.node) ≡ true
  power_is_listed well w p here =
      listed-is laws t (Node p.node) ∙ is_known p.node (Power w) (p, here, refl) (λ unknown. cc)

  power_at : (node : NodeId) (kind : Kind) → IsKind t node kind → is_power_kind kind ≡ true → (w : ℕ) × (p : PowerDef) × IsPowerAt t (Node node) w p
  power_at node (Power w) is power = (w, is.0, record { here = is.1; is = ap Node (sym (same_node is.0.node node is.2)) })
  power_at node (Proc k) is power = cc
  power_at node (Slave k) is power = cc
  power_at node Unknown is power = cc

  pub power_place_of : (unit : Unit) → is_power t unit ≡ true → (w : ℕ) × (p : PowerDef) × IsPowerAt t unit w p
  power_place_of (Node node) power = power_at node (kind_of t node) (laws.kinds.is t node) power
  power_place_of (Line line) power = cc

-- a unit of a list that has none that passes doesn't pass
pub passes_none : ChipLaws → (p : Unit → Bool) (units : List Unit) (unit : Unit) → list_any p units ≡ false → list_any (λ u. same_unit u unit) units ≡ true → p unit ≡ false
passes_none laws p [] unit none has = cc
passes_none laws p (u ∷ units) unit none has =
    let parts = or_parts (p u) (list_any p units) none in
    elim (or_cases (same_unit u unit) (list_any (λ u. same_unit u unit) units) has) [
      | inl same ↦ ap p (sym (laws.units.same u unit same)) ∙ parts.0
      | inr later ↦ passes_none laws p units unit parts.1 later
    ]

-- and of a list that has one that passes, that one is among them
pub passes_one : ChipLaws → (p : Unit → Bool) (units : List Unit) → list_any p units ≡ true → (unit : Unit) × (p unit ≡ true) × (list_any (λ u. same_unit u unit) units ≡ true)
passes_one laws p [] some = cc
passes_one laws p (u ∷ units) some =
    elim (or_cases (p u) (list_any p units) some) [
      | inl passes ↦ (u, passes, or_left _ _ (laws.units.itself u))
      | inr later ↦ let found = passes_one laws p units later in (found.0, found.1, or_right (same_unit u found.0) _ found.2)
    ]
