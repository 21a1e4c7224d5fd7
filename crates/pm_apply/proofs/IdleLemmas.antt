-- Turns of units that have the book's value: none has a command.
use Rattle.std.proofs.Common.{◌≡◌, ℕ, ◌==◌, Bool, true, false, not, ◌&&◌, ◌||◌, if◌then◌else◌, Option, Some, None, List, [], ◌∷◌, ◌++◌, slice_get, refl, sym, ap, subst, ◌∙◌, arith}
use Rattle.std.proofs.lemmas.Bool.{both_ways, or_left, eq-eqb}
use Rattle.std.proofs.lemmas.Bool.Decides.{nat_tests}
use Rattle.pm_base.specs.declared.names.LineId.{LineId}
use Rattle.pm_base.specs.declared.names.Unit.{Unit}
use Rattle.pm_base.specs.declared.names.Unit.TheVariants.{Node, Line}
use Rattle.pm_topology.specs.declared.topology.Topology.{Topology}
use Rattle.pm_topology.specs.declared.topology.PowerDef.{PowerDef}
use Rattle.pm_topology.specs.UnitMap.{units_in}
use Rattle.pm_topology.specs.Units.{has_in, needs_power, parent_of_unit, same_unit}
use Rattle.pm_record.proofs.Below.{ChipLaws}
use Rattle.pm_apply.specs.declared.turns.Turn.{Turn}
use Rattle.pm_apply.specs.declared.turns.Turn.TheVariants.{PowerOn, Pulse, Apply, PowerOff}
use Rattle.pm_apply.specs.Left.{HaveNone}
use Rattle.pm_record.specs.Record.{Kept, kept_value, lags_in}
use Rattle.pm_record.specs.Kinds.{is_power}
use Rattle.pm_apply.specs.Plan.{command, due, is_fed, is_used, power_off, power_on, pulse_turn, where_due, with_pulse}
use Rattle.pm_record.specs.Marks.{pulsed}
use Rattle.pm_apply.specs.Visits.{IsIdle, IsIdleTurn, IsReady}

-- ---- one turn

-- no power node that has the book's value goes up or down, and no unit that has it is commanded
no_rise : (n m : ℕ) (fed : Bool) → n ≡ m → ((m == 1) && ((n == 0) && fed)) ≡ false
no_rise n m fed same = grind (arith, nat_tests)

no_fall : (n m : ℕ) (used : Bool) → n ≡ m → ((m == 0) && ((n == 1) && used)) ≡ false
no_fall n m used same = grind (arith, nat_tests)

-- one that doesn't lag has the book's value, and one that lags doesn't go up from another value than 0
off : (a b c : Bool) → b ≡ false → (a && (b && c)) ≡ false
off true false c is = refl
off false false c is = refl
off a true c is = cc

pub no_rise_held : (lags : Bool) (n m : ℕ) (fed : Bool) → (lags && (n == 0)) ≡ false → (lags ≡ false → n ≡ m) → ((m == 1) && ((n == 0) && fed)) ≡ false
no_rise_held true n m fed none same = off (m == 1) (n == 0) fed none
no_rise_held false n m fed none same = no_rise n m fed (same refl)

-- nor down from another than 1
pub no_fall_held : (lags : Bool) (n m : ℕ) (used : Bool) → (lags && (n == 1)) ≡ false → (lags ≡ false → n ≡ m) → ((m == 0) && ((n == 1) && used)) ≡ false
no_fall_held true n m used none same = off (m == 0) (n == 1) used none
no_fall_held false n m used none same = no_fall n m used (same refl)

no_change : (a same b : Bool) → same ≡ true → (a && (not same && b)) ≡ false
no_change true true b is = refl
no_change false true b is = refl
no_change a false b is = cc

module _ (t : Topology) (values : Unit → ℕ) (kept : Kept) where
  idle_on : (power : Option PowerDef) → ((p : PowerDef) → power ≡ Some p → kept_value kept (Node p.node) ≡ values (Node p.node)) → power_on t values kept power ≡ None
  idle_on None same = refl
  idle_on (Some p) same = ap (λ b. where_due b (command (Node p.node) 1)) (no_rise (kept_value kept (Node p.node)) (values (Node p.node)) (is_fed t kept p.parent) (same p refl))

  idle_off : (w : ℕ) (power : Option PowerDef) → ((p : PowerDef) → power ≡ Some p → kept_value kept (Node p.node) ≡ values (Node p.node)) → power_off t values kept w power ≡ None
  idle_off w None same = refl
  idle_off w (Some p) same = ap (λ b. where_due b (command (Node p.node) 0)) (no_fall (kept_value kept (Node p.node)) (values (Node p.node)) (not (is_used t kept w)) (same p refl))

  idle_apply : (unit : Unit) → kept_value kept unit ≡ values unit → due t values kept (Apply unit) ≡ None
  idle_apply unit same =
      ap (λ b. where_due b (command unit (values unit)))
      (no_change (not (is_power t unit)) (kept_value kept unit == values unit) (not (needs_power t unit (values unit)) || is_fed t kept (parent_of_unit t unit)) (eq-eqb (kept_value kept unit) (values unit) same))

  module _ (laws : ChipLaws) (pulse : Option LineId) (ready : IsReady values pulse kept) where
    -- a unit that doesn't lag has the book's value
    stands : (unit : Unit) → IsIdle kept unit → kept_value kept unit ≡ values unit
    stands unit idle = ready.stands unit idle.known idle.idle

    -- it isn't pulsed either
    unpulsed_by : (line : LineId) (unit : Unit) (same : Bool) → pulse ≡ Some line → has_in (units_in kept) unit ≡ true → lags_in kept unit ≡ false
        → same_unit (Line line) unit ≡ same → (if same then Pulse line ∷ [] else []) ≡ []
    unpulsed_by line unit false is has idle same = refl
    unpulsed_by line unit true is has idle same =
        absurd (both_ways (lags_in kept unit) idle (ready.line unit (ap (λ pulse. has_in (pulsed pulse) unit) is ∙ or_left _ _ same) has))

    unpulsed : (found : Option LineId) (unit : Unit) → pulse ≡ found → has_in (units_in kept) unit ≡ true → lags_in kept unit ≡ false → pulse_turn found unit ≡ []
    unpulsed None unit is has idle = refl
    unpulsed (Some line) unit is has idle = unpulsed_by line unit (same_unit (Line line) unit) is has idle refl

    -- its turn has no command, and it isn't pulsed
    pub idle_none : (turn : Turn) → IsIdleTurn t kept turn → HaveNone t values kept (with_pulse pulse turn)
    idle_none (PowerOn w) idle = (idle_on (slice_get t.powers w) (λ p here. stands (Node p.node) (idle p here)), tt)
    idle_none (Pulse line) idle = absurd idle
    idle_none (Apply unit) idle =
        let P : List Turn → Type 0 = λ before. HaveNone t values kept (before ++ Apply unit ∷ []) in
        subst P (sym (unpulsed pulse unit refl idle.known idle.idle)) (idle_apply unit (stands unit idle), tt)
    idle_none (PowerOff w) idle = (idle_off w (slice_get t.powers w) (λ p here. stands (Node p.node) (idle p here)), tt)
