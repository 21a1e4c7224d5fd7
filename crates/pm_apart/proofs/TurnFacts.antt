-- The command of a turn: unless it is a pulse, it sets a unit to the book's value if the record has another one.
use Rattle.std.proofs.Common.{◌≡◌, ◌≢◌, ℕ, ◌==◌, Bool, true, false, not, ◌||◌, Option, Some, None, refl, ap, sym, ◌∙◌, arith}
use Rattle.std.specs.Prelude.{slice_get}
use Rattle.std.proofs.lemmas.Bool.{eqb-true, eqb-false, not-true}
use Rattle.pm_base.proofs.Booleans.{both}
use Rattle.pm_base.specs.declared.names.Command.{Command}
use Rattle.pm_base.specs.declared.names.LineId.{LineId}
use Rattle.pm_base.specs.declared.names.NodeId.{NodeId}
use Rattle.pm_base.specs.declared.names.Unit.{Unit}
use Rattle.pm_base.specs.declared.names.Unit.TheVariants.{Node, Line}
use Rattle.pm_topology.specs.declared.topology.PowerDef.{PowerDef}
use Rattle.pm_topology.specs.declared.topology.Topology.{Topology}
use Rattle.pm_topology.specs.Units.{needs_power, parent_of_unit}
use Rattle.pm_core.specs.declared.outbox.Done.{Done}
use Rattle.pm_apply.specs.declared.turns.Turn.TheVariants.{PowerOn, Pulse, Apply, PowerOff}
use Rattle.pm_record.specs.Kinds.{is_power}
use Rattle.pm_apply.specs.Plan.{command, due, is_fed, is_used, power_off, power_on, where_due}
use Rattle.pm_record.specs.Record.{Kept, kept_value}

-- a command that succeeded, and took a unit from one value to another
abbrev pub command_to : Unit → ℕ → ℕ → Done
command_to unit from value = record { command = command unit value; from = from; ok = true }

due_where : (b : Bool) (c d : Command) → where_due b c ≡ Some d → (b ≡ true) × (d ≡ c)
due_where true c d is = (refl, cc)
due_where false c d is = cc

apart : (from to a b : ℕ) → from ≡ a → to ≡ b → (a ≡ b → ⊥) → from ≢ to
apart from to a b was is differs same = differs (sym was ∙ (same ∙ is))

module _ (t : Topology) (values : Unit → ℕ) (kept : Kept) where
  -- the unit is set to the book's value, if the record has another one
  pub record Sets (x : Unit) (c : Command) : Type 0 where
    pub is : c ≡ command x (values x)
    pub differs : kept_value kept x ≢ values x

  switch : (node : NodeId) (from to : ℕ) (c : Command) → kept_value kept (Node node) ≡ from → values (Node node) ≡ to → (from ≡ to → ⊥)
      → c ≡ command (Node node) to → Sets (Node node) c
  switch node from to c was now differs is = record {
    is = is ∙ ap (command (Node node)) (sym now);
    differs = apart (kept_value kept (Node node)) (values (Node node)) from to was now differs;
  }

  on_at : (c : Command) (got : Option PowerDef) → power_on t values kept got ≡ Some c → (p : PowerDef) × Sets (Node p.node) c
  on_at c None is = cc
  on_at c (Some p) is =
      let passed = due_where _ (command (Node p.node) 1) c is in
      let up = both (values (Node p.node) == 1) _ passed.0 in
      let down = both (kept_value kept (Node p.node) == 0) (is_fed t kept p.parent) up.1 in
      (p, switch p.node 0 1 c (eqb-true (kept_value kept (Node p.node)) 0 down.0) (eqb-true (values (Node p.node)) 1 up.0) (λ same. absurd (omega arith)) passed.1)

  off_at : (w : ℕ) (c : Command) (got : Option PowerDef) → power_off t values kept w got ≡ Some c → (p : PowerDef) × Sets (Node p.node) c
  off_at w c None is = cc
  off_at w c (Some p) is =
      let passed = due_where _ (command (Node p.node) 0) c is in
      let down = both (values (Node p.node) == 0) _ passed.0 in
      let up = both (kept_value kept (Node p.node) == 1) (not (is_used t kept w)) down.1 in
      (p, switch p.node 1 0 c (eqb-true (kept_value kept (Node p.node)) 1 up.0) (eqb-true (values (Node p.node)) 0 down.0) (λ same. absurd (omega arith)) passed.1)

  -- a power node goes up or down
  pub raises : (w : ℕ) (c : Command) → due t values kept (PowerOn w) ≡ Some c → (p : PowerDef) × Sets (Node p.node) c
  raises w c is = on_at c (slice_get t.powers w) is

  pub lowers : (w : ℕ) (c : Command) → due t values kept (PowerOff w) ≡ Some c → (p : PowerDef) × Sets (Node p.node) c
  lowers w c is = off_at w c (slice_get t.powers w) is

  -- another unit takes its value
  pub settles : (unit : Unit) (c : Command) → due t values kept (Apply unit) ≡ Some c → Sets unit c
  settles unit c is =
      let passed = due_where _ (command unit (values unit)) c is in
      let other = both (not (is_power t unit)) _ passed.0 in
      let differs = both (not (kept_value kept unit == values unit)) (not (needs_power t unit (values unit)) || is_fed t kept (parent_of_unit t unit)) other.1 in
      record {
        is = passed.1;
        differs = eqb-false (kept_value kept unit) (values unit) (not-true (kept_value kept unit == values unit) differs.0);
      }

  -- a reset line is pulsed
  pub pulses : (line : LineId) (c : Command) → due t values kept (Pulse line) ≡ Some c → c ≡ command (Line line) 1
  pulses line c is = (due_where (not (kept_value kept (Line line) == 1)) (command (Line line) 1) c is).1
