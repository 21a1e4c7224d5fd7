-- When a turn has a command, which one, and why a turn has none.
use Rattle.std.proofs.Common.{◌≡◌, ◌≢◌, ℕ, ◌==◌, Bool, true, false, not, ◌&&◌, ◌||◌, Option, Some, None, refl, ap, sym, ◌∙◌}
use Rattle.std.specs.Prelude.{slice_get}
use Rattle.std.proofs.lemmas.Bool.{and_parts, eqb-true, eq-eqb, ne_eqb, not-true, not_from_false, not-false}
use Rattle.pm_topology.specs.Units.{needs_power, parent_of_unit}
use Rattle.pm_base.specs.declared.names.LineId.{LineId}
use Rattle.pm_base.specs.declared.names.Unit.{Unit}
use Rattle.pm_base.specs.declared.names.Unit.TheVariants.{Node, Line}
use Rattle.pm_base.specs.declared.names.Command.{Command}
use Rattle.pm_topology.specs.declared.topology.Topology.{Topology}
use Rattle.pm_topology.specs.declared.topology.PowerDef.{PowerDef}
use Rattle.pm_apply.specs.declared.turns.Turn.TheVariants.{PowerOn, Pulse, Apply, PowerOff}
use Rattle.pm_record.specs.Record.{Kept, kept_value}
use Rattle.pm_record.specs.Kinds.{is_power}
use Rattle.pm_apply.specs.Plan.{due, power_on, power_off, where_due, command, is_fed, is_used}

-- ---- tests

due_where : (b : Bool) (c d : Command) → where_due b c ≡ Some d → (b ≡ true) × (d ≡ c)
due_where true c d is = (refl, cc)
due_where false c d is = cc

due_nowhere : (b : Bool) (c : Command) → where_due b c ≡ None → b ≡ false
due_nowhere true c is = cc
due_nowhere false c is = refl

-- of three tests, of which the first two pass and not all do, the third fails
third_fails : (a b c : Bool) → (a && (b && c)) ≡ false → a ≡ true → b ≡ true → c ≡ false
third_fails true true c is first second = is
third_fails false b c is first second = cc
third_fails true false c is first second = cc

-- a condition that passes, and what it asks for
asked : (a b : Bool) → (not a || b) ≡ true → a ≡ true → b ≡ true
asked true b is asks = is
asked false b is asks = cc

-- a condition that fails was asked, and isn't met
not_met : (a b : Bool) → (not a || b) ≡ false → (a ≡ true) × (b ≡ false)
not_met true b is = (refl, is)
not_met false b is = cc

module _ (t : Topology) (values : Unit → ℕ) (kept : Kept) where
  -- ---- a power node goes up

  pub record Raises (w : ℕ) (c : Command) : Type 0 where
    pub power : PowerDef
    pub here : slice_get t.powers w ≡ Some power
    pub value : values (Node power.node) ≡ 1
    pub kept_value : kept_value kept (Node power.node) ≡ 0
    pub fed : is_fed t kept power.parent ≡ true
    pub is : c ≡ command (Node power.node) 1

  raises_at : (w : ℕ) (c : Command) (got : Option PowerDef) → slice_get t.powers w ≡ got → power_on t values kept got ≡ Some c → Raises w c
  raises_at w c None here is = cc
  raises_at w c (Some p) here is =
      let passed = due_where _ (command (Node p.node) 1) c is in
      let value = and_parts (values (Node p.node) == 1) _ passed.0 in
      let rest = and_parts (kept_value kept (Node p.node) == 0) (is_fed t kept p.parent) value.1 in
      record {
        power = p;
        here = here;
        value = eqb-true (values (Node p.node)) 1 value.0;
        kept_value = eqb-true (kept_value kept (Node p.node)) 0 rest.0;
        fed = rest.1;
        is = passed.1;
      }

  pub raises : (w : ℕ) (c : Command) → due t values kept (PowerOn w) ≡ Some c → Raises w c
  raises w c is = raises_at w c (slice_get t.powers w) refl is

  -- where it should go up and doesn't, its parent is down in the record
  pub starves : (w : ℕ) (p : PowerDef) → slice_get t.powers w ≡ Some p → due t values kept (PowerOn w) ≡ None
      → values (Node p.node) ≡ 1 → kept_value kept (Node p.node) ≡ 0 → is_fed t kept p.parent ≡ false
  starves w p here none value kept_is =
      let stays : power_on t values kept (Some p) ≡ None = ap (power_on t values kept) (sym here) ∙ none in
      third_fails (values (Node p.node) == 1) (kept_value kept (Node p.node) == 0) (is_fed t kept p.parent)
      (due_nowhere _ (command (Node p.node) 1) stays)
      (eq-eqb (values (Node p.node)) 1 value) (eq-eqb (kept_value kept (Node p.node)) 0 kept_is)

  -- ---- a reset line is pulsed

  pub pulses : (line : LineId) (c : Command) → due t values kept (Pulse line) ≡ Some c → c ≡ command (Line line) 1
  pulses line c is = (due_where (not (kept_value kept (Line line) == 1)) (command (Line line) 1) c is).1

  -- ---- another unit takes its value

  pub record Settles (unit : Unit) (c : Command) : Type 0 where
    pub other : is_power t unit ≡ false
    pub differs : (kept_value kept unit == values unit) ≡ false
    pub fed : needs_power t unit (values unit) ≡ true → is_fed t kept (parent_of_unit t unit) ≡ true
    pub is : c ≡ command unit (values unit)

  pub settles : (unit : Unit) (c : Command) → due t values kept (Apply unit) ≡ Some c → Settles unit c
  settles unit c is =
      let passed = due_where _ (command unit (values unit)) c is in
      let other = and_parts (not (is_power t unit)) _ passed.0 in
      let differs = and_parts (not (kept_value kept unit == values unit)) (not (needs_power t unit (values unit)) || is_fed t kept (parent_of_unit t unit)) other.1 in
      record {
        other = not-true (is_power t unit) other.0;
        differs = not-true (kept_value kept unit == values unit) differs.0;
        fed = asked (needs_power t unit (values unit)) (is_fed t kept (parent_of_unit t unit)) differs.1;
        is = passed.1;
      }

  -- where it should and doesn't, it needs power for that, and its parent is down in the record
  pub waits : (unit : Unit) → due t values kept (Apply unit) ≡ None → is_power t unit ≡ false → kept_value kept unit ≢ values unit
      → (needs_power t unit (values unit) ≡ true) × (is_fed t kept (parent_of_unit t unit) ≡ false)
  waits unit none other differs =
      not_met (needs_power t unit (values unit)) (is_fed t kept (parent_of_unit t unit))
      (third_fails (not (is_power t unit)) (not (kept_value kept unit == values unit)) _
      (due_nowhere _ (command unit (values unit)) none)
      (not_from_false (is_power t unit) other)
      (not_from_false (kept_value kept unit == values unit) (ne_eqb (kept_value kept unit) (values unit) differs)))

  -- ---- a power node goes down

  pub record Lowers (w : ℕ) (c : Command) : Type 0 where
    pub power : PowerDef
    pub here : slice_get t.powers w ≡ Some power
    pub value : values (Node power.node) ≡ 0
    pub unused : is_used t kept w ≡ false
    pub is : c ≡ command (Node power.node) 0

  lowers_at : (w : ℕ) (c : Command) (got : Option PowerDef) → slice_get t.powers w ≡ got → power_off t values kept w got ≡ Some c → Lowers w c
  lowers_at w c None here is = cc
  lowers_at w c (Some p) here is =
      let passed = due_where _ (command (Node p.node) 0) c is in
      let value = and_parts (values (Node p.node) == 0) _ passed.0 in
      let rest = and_parts (kept_value kept (Node p.node) == 1) (not (is_used t kept w)) value.1 in
      record {
        power = p;
        here = here;
        value = eqb-true (values (Node p.node)) 0 value.0;
        unused = not-true (is_used t kept w) rest.1;
        is = passed.1;
      }

  pub lowers : (w : ℕ) (c : Command) → due t values kept (PowerOff w) ≡ Some c → Lowers w c
  lowers w c is = lowers_at w c (slice_get t.powers w) refl is

  -- where it should go down and doesn't, a unit directly below needs power by the record
  pub stays_used : (w : ℕ) (p : PowerDef) → slice_get t.powers w ≡ Some p → due t values kept (PowerOff w) ≡ None
      → values (Node p.node) ≡ 0 → kept_value kept (Node p.node) ≡ 1 → is_used t kept w ≡ true
  stays_used w p here none value kept_is =
      let stays : power_off t values kept w (Some p) ≡ None = ap (power_off t values kept w) (sym here) ∙ none in
      not-false (is_used t kept w)
      (third_fails (values (Node p.node) == 0) (kept_value kept (Node p.node) == 1) (not (is_used t kept w))
      (due_nowhere _ (command (Node p.node) 0) stays)
      (eq-eqb (values (Node p.node)) 0 value) (eq-eqb (kept_value kept (Node p.node)) 1 kept_is))
