-- Whether values meet a book's requirements depends on those of the chip's units alone.
use Rattle.std.proofs.Common.{◌≡◌, ℕ, ◌==◌, true, Some, refl, sym, ◌∙◌, ap, subst, inl, inr}
use Rattle.std.specs.Prelude.{slice_get}
use Rattle.std.proofs.lemmas.Bool.{eq-eqb}
use Rattle.pm_base.proofs.Booleans.{first_passes, later_passes}
use Rattle.pm_base.proofs.Tests.{present_from}
use Rattle.pm_base.specs.declared.names.NodeId.{NodeId}
use Rattle.pm_base.specs.declared.names.Unit.{Unit}
use Rattle.pm_base.specs.declared.names.Unit.TheVariants.{Node, Line}
use Rattle.pm_topology.specs.declared.topology.Topology.{Topology}
use Rattle.pm_topology.specs.declared.topology.PowerDef.{PowerDef}
use Rattle.pm_topology.specs.declared.topology.ProcDef.{ProcDef}
use Rattle.pm_topology.specs.declared.topology.SlaveDef.{SlaveDef}
use Rattle.pm_topology.specs.declared.places.Kind.{Kind}
use Rattle.pm_topology.specs.declared.places.Kind.TheVariants.{Proc, Slave, Power, Unknown}
use Rattle.pm_topology.specs.FirstFault.{has_power, has_proc, has_slave}
use Rattle.pm_topology.specs.Places.{IsKind, KindLaws, kind_of, parent_at}
use Rattle.pm_topology.specs.Units.{has_unit}
use Rattle.pm_state.specs.Choice.{StandsMet}
use Rattle.pm_state.specs.Fed.{IsNeeded}
use Rattle.pm_topology.specs.Units.{needs_power, parent_of_unit}
use Rattle.pm_rows.specs.Wanted.{wanted_of}
use Rattle.pm_state.specs.Sound.{MeetsRequirements}
use Rattle.pm_state.specs.State.{State}

-- ---- what stands in a table of the chip is one of its units

slave_at : (t : Topology) (node : NodeId) (k : ℕ) (slave : SlaveDef) → slice_get t.slaves k ≡ Some slave → slave.node.0 ≡ node.0 → has_unit t (Node node) ≡ true
slave_at t node k slave here is =
    later_passes (has_power node.0 t.powers) _ (later_passes (has_proc node.0 t.procs) (has_slave node.0 t.slaves) (present_from (λ (s : SlaveDef). s.node.0 == node.0) t.slaves k slave here (eq-eqb slave.node.0 node.0 is)))

proc_at : (t : Topology) (node : NodeId) (k : ℕ) (proc : ProcDef) → slice_get t.procs k ≡ Some proc → proc.node.0 ≡ node.0 → has_unit t (Node node) ≡ true
proc_at t node k proc here is =
    later_passes (has_power node.0 t.powers) _ (first_passes (has_proc node.0 t.procs) (has_slave node.0 t.slaves) (present_from (λ (p : ProcDef). p.node.0 == node.0) t.procs k proc here (eq-eqb proc.node.0 node.0 is)))

power_at : (t : Topology) (node : NodeId) (k : ℕ) (power : PowerDef) → slice_get t.powers k ≡ Some power → power.node.0 ≡ node.0 → has_unit t (Node node) ≡ true
power_at t node k power here is =
    first_passes (has_power node.0 t.powers) _ (present_from (λ (p : PowerDef). p.node.0 == node.0) t.powers k power here (eq-eqb power.node.0 node.0 is))

known_kind : (t : Topology) (node : NodeId) (w : ℕ) (kind : Kind) → IsKind t node kind → parent_at t kind ≡ Some w → has_unit t (Node node) ≡ true
known_kind t node w (Proc k) is above = proc_at t node k is.0 is.1 is.2
known_kind t node w (Slave k) is above = slave_at t node k is.0 is.1 is.2
known_kind t node w (Power k) is above = power_at t node k is.0 is.1 is.2
known_kind t node w Unknown is above = cc

-- what stands below a power node is a unit of the chip
below_is_unit : KindLaws → (t : Topology) (u : Unit) (w : ℕ) → parent_of_unit t u ≡ Some w → has_unit t u ≡ true
below_is_unit kinds t (Node node) w above = known_kind t node w (kind_of t node) (kinds.is t node) above
below_is_unit kinds t (Line line) w above = cc

-- ---- the law

needed_by : KindLaws → (t : Topology) (values others : Unit → ℕ) (w : ℕ) → ((u : Unit) → has_unit t u ≡ true → values u ≡ others u) → IsNeeded t values w → IsNeeded t others w
needed_by kinds t values others w same needed =
    (needed.0, needed.1, ap (needs_power t needed.0) (sym (same needed.0 (below_is_unit kinds t needed.0 w needed.1))) ∙ needed.2)

pub met_by : KindLaws → (book : State) (values others : Unit → ℕ) → ((u : Unit) → has_unit book.fixed.topology u ≡ true → values u ≡ others u) → MeetsRequirements book values → MeetsRequirements book others
met_by kinds book values others same met = record {
  slaves = λ s slave here.
      let is = same (Node slave.node) (slave_at book.fixed.topology slave.node s slave here refl) in
      subst (λ (k : ℕ). StandsMet (wanted_of s book.now.core.rows) slave.states k) is (met.slaves s slave here);
  processors = λ p proc here.
      let is = same (Node proc.node) (proc_at book.fixed.topology proc.node p proc here refl) in
      let law = met.processors p proc here in (λ one. law.0 (is ∙ one), λ reason. sym is ∙ law.1 reason);
  domains = λ w power here.
      let is = same (Node power.node) (power_at book.fixed.topology power.node w power here refl) in
      let law = met.domains w power here in (
        λ up. elim (law.0 (is ∙ up)) [ inl held ↦ inl held | inr needed ↦ inr (needed_by kinds book.fixed.topology values others w same needed) ],
        λ reason. sym is ∙ law.1 (elim reason [ inl held ↦ inl held | inr needed ↦ inr (needed_by kinds book.fixed.topology others values w (λ u there. sym (same u there)) needed) ]),
      );
}
