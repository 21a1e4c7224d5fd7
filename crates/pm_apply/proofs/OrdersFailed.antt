-- Commands that failed, on a unit or somewhere above it; and units that wait for a power node that is down in the record.
use Rattle.std.proofs.Common.{◌≡◌, ℕ, ◌==◌, true, false, Option, Some, None, List, [], ◌∷◌, ◌++◌, refl, ap, sym, ◌∙◌, append_assoc}
use Rattle.std.specs.Prelude.{slice_get}
use Rattle.std.specs.Option.{option_map_or}
use Rattle.std.proofs.lemmas.Bool.{not-false, eqb-true}
use Rattle.pm_topology.specs.Units.{needs_power}
use Rattle.pm_base.specs.declared.names.NodeId.{NodeId}
use Rattle.pm_base.specs.declared.names.Unit.{Unit}
use Rattle.pm_base.specs.declared.names.Unit.TheVariants.{Node}
use Rattle.pm_topology.specs.declared.topology.Topology.{Topology}
use Rattle.pm_topology.specs.declared.topology.PowerDef.{PowerDef}
use Rattle.pm_topology.specs.Places.{parent_of, power_parent, IsAtOrAbove, higher}
use Rattle.pm_topology.specs.WellFormed.{IsWellFormed}
use Rattle.pm_core.specs.declared.outbox.Done.{Done}
use Rattle.pm_state.specs.Fed.{IsFed}
use Rattle.pm_record.proofs.Below.{ChipLaws}
use Rattle.pm_record.specs.Record.{Kept, kept_value}
use Rattle.pm_apply.specs.Plan.{is_fed, power_value}
use Rattle.pm_apply.specs.Order.{FailedOn}
use Rattle.pm_apply.proofs.OrdersUnits.{power_above}

-- ---- failed commands

-- what failed has failed when more was done
pub failed_before : (front more : List Done) (unit : Unit) → FailedOn front unit → FailedOn (front ++ more) unit
failed_before front more unit f = record {
  front = f.front;
  back = f.back ++ more;
  d = f.d;
  is = ap (λ done. done ++ more) f.is ∙ append_assoc f.front (f.d ∷ f.back) more;
  on = f.on;
  failed = f.failed;
}

pub failed_last : (front : List Done) (d : Done) (unit : Unit) → d.command.unit ≡ unit → d.ok ≡ false → FailedOn (front ++ d ∷ []) unit
failed_last front d unit on failed = record { front = front; back = []; d = d; is = refl; on = on; failed = failed }

-- a command failed on the power node at a place or on one above it
pub record FailsAtOrAbove (t : Topology) (done : List Done) (v : ℕ) : Type 0 where
  pub u : ℕ
  pub power : PowerDef
  pub is : slice_get t.powers u ≡ Some power
  pub above : IsAtOrAbove t.powers u v
  pub failed : FailedOn done (Node power.node)

pub fails_before : (t : Topology) (front more : List Done) (v : ℕ) → FailsAtOrAbove t front v → FailsAtOrAbove t (front ++ more) v
fails_before t front more v f = record { u = f.u; power = f.power; is = f.is; above = f.above; failed = failed_before front more (Node f.power.node) f.failed }

-- what is above the parent is above
pub fails_higher : (t : Topology) (done : List Done) (v u : ℕ) → power_parent t.powers v ≡ Some u → FailsAtOrAbove t done u → FailsAtOrAbove t done v
fails_higher t done v u parent f = record { u = f.u; power = f.power; is = f.is; above = higher v u parent f.above; failed = f.failed }

-- ---- units that wait

module _ (t : Topology) (values : Unit → ℕ) where
  -- the power node above a node is down in the record and up by these values
  pub record Waits (kept : Kept) (node : NodeId) : Type 0 where
    pub u : ℕ
    pub power : PowerDef
    pub above : parent_of t node ≡ Some u
    pub is : slice_get t.powers u ≡ Some power
    pub value : values (Node power.node) ≡ 1
    pub down : kept_value kept (Node power.node) ≡ 0

  parent_down : (kept : Kept) (parent : Option ℕ) → is_fed t kept parent ≡ false → (u : ℕ) × (parent ≡ Some u) × (power_value t kept u ≡ 0)
  parent_down kept None unfed = cc
  parent_down kept (Some u) unfed = (u, refl, eqb-true (power_value t kept u) 0 (not-false (power_value t kept u == 0) unfed))

  -- so it is where a node that needs power for its value has none by the record
  pub waits_for : ChipLaws → IsWellFormed t → IsFed t values → (kept : Kept) (node : NodeId)
      → needs_power t (Node node) (values (Node node)) ≡ true → is_fed t kept (parent_of t node) ≡ false → Waits kept node
  waits_for laws well fed kept node needs unfed =
      let down = parent_down kept (parent_of t node) unfed in
      let found = power_above laws t well node down.0 down.1 in
      let same : power_value t kept down.0 ≡ kept_value kept (Node found.0.node) = ap (λ got. option_map_or (λ (p : PowerDef). kept_value kept (Node p.node)) got 0) found.1 in
      record {
        u = down.0;
        power = found.0;
        above = down.1;
        is = found.1;
        value = fed.fed node down.0 found.0 down.1 found.1 needs;
        down = sym same ∙ down.2;
      }
