-- Nothing is used without power, and no domain goes down under its users, at every point of a step and whatever fails.
use Rattle.std.proofs.Common.{◌≡◌, ◌≢◌, ℕ, ◌==◌, Bool, true, false, ◌&&◌, cond, Option, Some, List, [], ◌∷◌, ◌++◌, refl, ap, sym, ◌∙◌, arith, inl, inr}
use Rattle.std.specs.Prelude.{slice_get}
use Rattle.std.specs.List.{list_all, list_any}
use Rattle.std.specs.Option.{option_map_or}
use Rattle.std.proofs.lemmas.Bool.{and_cases, not-true, eqb-false, eq-eqb, both_ways}
use Rattle.pm_base.proofs.Booleans.{both}
use Rattle.pm_base.specs.declared.names.LineId.{LineId}
use Rattle.pm_base.specs.declared.names.Unit.{Unit}
use Rattle.pm_base.specs.declared.names.Unit.TheVariants.{Node, Line}
use Rattle.pm_base.specs.declared.names.Command.{Command}
use Rattle.pm_topology.specs.declared.topology.Topology.{Topology}
use Rattle.pm_topology.specs.declared.topology.PowerDef.{PowerDef}
use Rattle.pm_topology.specs.declared.places.Kind.TheVariants.{Power}
use Rattle.pm_topology.specs.Places.{parent_of, kind_of}
use Rattle.pm_topology.specs.WellFormed.{IsWellFormed}
use Rattle.pm_device.specs.Act.{Act, Order, Rig, Fit, value_by, values_after}
use Rattle.pm_topology.specs.UnitMap.{units_in}
use Rattle.pm_topology.specs.Units.{needs_power, parent_of_unit, same_unit}
use Rattle.pm_core.specs.declared.outbox.Done.{Done}
use Rattle.pm_topology.specs.Units.{units_of}
use Rattle.pm_record.proofs.Below.{ChipLaws}
use Rattle.pm_apply.specs.declared.turns.Turn.{Turn}
use Rattle.pm_apply.specs.declared.turns.Turn.TheVariants.{PowerOn, Pulse, Apply, PowerOff}
use Rattle.pm_base.specs.Places.{is_place}
use Rattle.pm_record.specs.Record.{IsRecordOf, Kept, kept_value, after_answer}
use Rattle.pm_record.specs.Kinds.{is_power}
use Rattle.pm_apply.specs.Plan.{command, plan, due, is_fed, power_value}
use Rattle.pm_apply.specs.Order.{IsOrderly, IsOrdered}
use Rattle.pm_apply.specs.Part.{order_of, orders_of}
use Rattle.pm_apply.proofs.PlanLemmas.{Along, along_plan}
use Rattle.pm_apply.proofs.RecordLaw.{is_turn_of, plan_is_on}
use Rattle.pm_record.proofs.RecordLemmas.{has_cell_of, kept_after, units_in-after_answer}
use Rattle.pm_apply.proofs.RecordLemmas.{are_on}
use Rattle.pm_record.proofs.KindsLemmas.{power_kind, power_is_power}
use Rattle.pm_apply.proofs.OrdersUnits.{listed_below, parent_of_power, power_needs, passes_none}
use Rattle.pm_apply.proofs.OrdersDue.{Raises, raises, pulses, Settles, settles, Lowers, lowers}

-- ---- acts behind acts, and values that are the same

orderly-same : (t : Topology) (f g : Unit → ℕ) (c : Command) → ((x : Unit) → f x ≡ g x) → IsOrderly t f c → IsOrderly t g c
orderly-same t f g c same orderly = record {
  fed = λ node w power on above here needs zero. orderly.fed node w power on above here needs (same (Node power.node) ∙ zero);
  unused = λ node w power here on zero above.
      ap (needs_power t (Node node)) (sym (same (Node node))) ∙ orderly.unused node w power here on zero above;
}

pub ordered-same : (t : Topology) (f g : Unit → ℕ) (acts : List Act) → ((x : Unit) → f x ≡ g x) → IsOrdered t f acts → IsOrdered t g acts
ordered-same t f g [] same all = tt
ordered-same t f g (Order c ok ∷ acts) same all = (
  orderly-same t f g c same all.0,
  ordered-same t (value_by (Order c ok) f) (value_by (Order c ok) g) acts (λ x. ap (cond (ok && same_unit c.unit x) c.value) (same x)) all.1,
)
ordered-same t f g (Rig node broken ∷ acts) same all = ordered-same t f g acts same all
ordered-same t f g (Fit chip ∷ acts) same all = all

pub ordered-append : (t : Topology) (values : Unit → ℕ) (first second : List Act) → IsOrdered t values first → IsOrdered t (values_after first values) second → IsOrdered t values (first ++ second)
ordered-append t values [] second one two = two
ordered-append t values (Order c ok ∷ first) second one two = (one.0, ordered-append t (value_by (Order c ok) values) first second one.1 two)
ordered-append t values (Rig node broken ∷ first) second one two = ordered-append t values first second one two
ordered-append t values (Fit chip ∷ first) second one two = one

-- commands each of which is in its place by the record before it, where the units stand as the record says
along_ordered : ChipLaws → (t : Topology) (units : List Unit) (done : List Done) (kept : Kept) (values : Unit → ℕ)
    → units_in kept ≡ units
    → are_on units done ≡ true
    → ((x : Unit) → kept_value kept x ≡ values x)
    → Along (λ kept d. IsOrderly t (kept_value kept) d.command) kept done
    → IsOrdered t values (orders_of done)
along_ordered laws t units [] kept values is on same along = tt
along_ordered laws t units (d ∷ done) kept values is on same along =
    let parts = both (list_any (λ u. same_unit u d.command.unit) units) (are_on units done) on in
    let has = has_cell_of units kept d.command.unit is parts.0 in (
      orderly-same t (kept_value kept) values d.command same along.0,
      along_ordered laws t units done (after_answer d.command d.ok kept) (value_by (order_of d) values) (units_in-after_answer laws d.command d.ok kept ∙ is) parts.1
          (λ x. sym (kept_after laws d.command d.ok kept x has) ∙ ap (cond (d.ok && same_unit d.command.unit x) d.command.value) (same x))
          along.1,
    )

module _ (laws : ChipLaws) (t : Topology) (values : Unit → ℕ) (well : IsWellFormed t) where
  -- where the record has power above, the power node there isn't 0 in it
  fed_value : (kept : Kept) (parent : Option ℕ) (w : ℕ) (power : PowerDef)
      → is_fed t kept parent ≡ true → parent ≡ Some w → slice_get t.powers w ≡ Some power → kept_value kept (Node power.node) ≢ 0
  fed_value kept parent w power fed above here zero =
      let at : is_fed t kept (Some w) ≡ true = ap (is_fed t kept) (sym above) ∙ fed in
      let up : (power_value t kept w == 0) ≡ false = not-true (power_value t kept w == 0) at in
      let same : power_value t kept w ≡ kept_value kept (Node power.node) = ap (λ got. option_map_or (λ (p : PowerDef). kept_value kept (Node p.node)) got 0) here in
      eqb-false (power_value t kept w) 0 up (same ∙ zero)

  raise_orderly : (w : ℕ) (kept : Kept) (c : Command) (ok : Bool) → Raises t values kept w c → IsOrderly t (kept_value kept) c
  raise_orderly w kept c ok r = record {
    fed = λ node v power on above here needs.
        let unit : c.unit ≡ Node r.power.node = ap (λ (c : Command). c.unit) r.is in
        let same : r.power.node ≡ node = cc in
        let at : r.power.parent ≡ Some v = sym (parent_of_power laws t well w r.power r.here) ∙ ap (parent_of t) same ∙ above in
        fed_value kept r.power.parent v power r.fed at here;
    unused = λ node v power here on zero above.
        let value : c.value ≡ 1 = ap (λ (c : Command). c.value) r.is in
        absurd (omega arith);
  }

  -- a reset line has no power node above it, and is none
  pulse_orderly : (line : LineId) (kept : Kept) (c : Command) → c ≡ command (Line line) 1 → IsOrderly t (kept_value kept) c
  pulse_orderly line kept c is = record {
    fed = λ node v power on above here needs.
        let clash : Line line ≡ Node node = sym (ap (λ (c : Command). c.unit) is) ∙ on in
        cc;
    unused = λ node v power here on zero above.
        let clash : Line line ≡ Node power.node = sym (ap (λ (c : Command). c.unit) is) ∙ on in
        cc;
  }

  settle_orderly : (unit : Unit) (kept : Kept) (c : Command) (ok : Bool) → Settles t values kept unit c → IsOrderly t (kept_value kept) c
  settle_orderly unit kept c ok s = record {
    fed = λ node v power on above here needs.
        let same : unit ≡ Node node = sym (ap (λ (c : Command). c.unit) s.is) ∙ on in
        let value : c.value ≡ values unit = ap (λ (c : Command). c.value) s.is in
        let asks : needs_power t unit (values unit) ≡ true = ap (λ u. needs_power t u (values unit)) same ∙ ap (needs_power t (Node node)) (sym value) ∙ needs in
        let at : parent_of_unit t unit ≡ Some v = ap (parent_of_unit t) same ∙ above in
        fed_value kept (parent_of_unit t unit) v power (s.fed asks) at here;
    unused = λ node v power here on zero above.
        let same : unit ≡ Node power.node = sym (ap (λ (c : Command). c.unit) s.is) ∙ on in
        let is : is_power t unit ≡ true = ap (is_power t) same ∙ power_is_power laws t well v power here in
        absurd (both_ways (is_power t unit) s.other is);
  }

  lower_orderly : (w : ℕ) (kept : Kept) (c : Command) (ok : Bool) → Lowers t values kept w c → IsOrderly t (kept_value kept) c
  lower_orderly w kept c ok l = record {
    fed = λ node v power on above here needs.
        let unit : c.unit ≡ Node l.power.node = ap (λ (c : Command). c.unit) l.is in
        let value : c.value ≡ 0 = ap (λ (c : Command). c.value) l.is in
        let none : needs_power t (Node l.power.node) 0 ≡ false = power_needs laws t well w l.power 0 l.here in
        let some : needs_power t (Node l.power.node) 0 ≡ true = ap (λ u. needs_power t u 0) (sym unit ∙ on) ∙ ap (needs_power t (Node node)) (sym value) ∙ needs in
        absurd (both_ways (needs_power t (Node l.power.node) 0) none some);
    unused = λ node v power here on zero above.
        let unit : c.unit ≡ Node l.power.node = ap (λ (c : Command). c.unit) l.is in
        let node_is : l.power.node ≡ power.node = cc in
        let kinds : Power w ≡ Power v = sym (power_kind laws t well w l.power l.here) ∙ ap (kind_of t) node_is ∙ power_kind laws t well v power here in
        let place : v ≡ w = cc in
        let fails = passes_none laws (λ u. is_place w (parent_of_unit t u) && needs_power t u (kept_value kept u)) (units_of t) (Node node) l.unused (listed_below laws t node v above) in
        let below : is_place w (parent_of t node) ≡ true = ap (is_place w) above ∙ eq-eqb v w place in
        elim (and_cases (is_place w (parent_of t node)) (needs_power t (Node node) (kept_value kept (Node node))) fails) [
          | inl off ↦ absurd (both_ways (is_place w (parent_of t node)) off below)
          | inr idle ↦ idle
        ];
  }

  orderly : (turn : Turn) (kept : Kept) (c : Command) (ok : Bool) → is_turn_of t turn ≡ true → due t values kept turn ≡ Some c → IsOrderly t (kept_value kept) c
  orderly (PowerOn w) kept c ok of is = raise_orderly w kept c ok (raises t values kept w c is)
  orderly (Pulse line) kept c ok of is = pulse_orderly line kept c (pulses t values kept line c is)
  orderly (Apply unit) kept c ok of is = settle_orderly unit kept c ok (settles t values kept unit c is)
  orderly (PowerOff w) kept c ok of is = lower_orderly w kept c ok (lowers t values kept w c is)

  -- for any record and any answers
  pub ordered : (turns : List Turn) (kept : Kept) (answers : List Bool)
      → list_all (is_turn_of t) turns ≡ true → IsRecordOf t kept
      → IsOrdered t (kept_value kept) (orders_of (plan t values turns kept answers).done)
  ordered turns kept answers of record_of =
      along_ordered laws t (units_of t) (plan t values turns kept answers).done kept (kept_value kept) record_of.units (plan_is_on laws t values well turns kept answers of) (λ x. refl)
      (along_plan t values (λ kept d. IsOrderly t (kept_value kept) d.command) (is_turn_of t) orderly turns kept answers of)
