-- A record in which no unit lags: none of the turns of a step is taken.
use Rattle.std.proofs.Common.{◌≡◌, ℕ, ◌-◌, ◌<◌, ◌≤◌, length, arith, Bool, true, false, if◌then◌else◌, Option, Some, [], ◌∷◌, slice_get, refl, sym, ap, ◌∙◌, inl, inr, suc}
use Rattle.std.specs.Prelude.{unwrap_or}
use Rattle.std.proofs.lemmas.Bool.{cases_lt}
use Rattle.std.proofs.lemmas.List.{length-map}
use Rattle.pm_base.specs.declared.names.Unit.{Unit}
use Rattle.pm_base.specs.declared.names.Unit.TheVariants.{Node}
use Rattle.pm_topology.specs.declared.topology.PowerDef.{PowerDef}
use Rattle.pm_topology.specs.declared.topology.Topology.{Topology}
use Rattle.pm_topology.specs.WellFormed.{IsWellFormed}
use Rattle.pm_topology.specs.UnitMap.{units_in, value_of}
use Rattle.pm_topology.specs.Units.{has_in, same_unit, units_of}
use Rattle.pm_record.specs.declared.kept.KeptValue.{KeptValue}
use Rattle.pm_apply.specs.declared.turns.Turn.TheVariants.{PowerOn, PowerOff}
use Rattle.pm_apply.specs.Plan.{unit_turns}
use Rattle.pm_record.specs.Record.{Kept, idle, lags_in}
use Rattle.pm_apply.specs.Visits.{IsIdle, IsIdleAt}
use Rattle.pm_record.proofs.Below.{ChipLaws}
use Rattle.pm_apply.proofs.OrdersUnits.{power_is_listed}
use Rattle.pm_apply.proofs.TurnsLemmas.{length-unit_turns, turn_down, turn_up}
use Rattle.pm_apply.proofs.VisitsLemmas.{idle_at}
use Rattle.pm_record.proofs.UnmarkedLemmas.{NoneLags}

lags_either : (first : Bool) (kept : KeptValue) (found : Option KeptValue) → kept.lags ≡ false → (unwrap_or found idle).lags ≡ false → (unwrap_or (if first then Some kept else found) idle).lags ≡ false
lags_either true kept found here later = here
lags_either false kept found here later = later

-- so no unit does
lags_nowhere : (kept : Kept) → NoneLags kept → (unit : Unit) → lags_in kept unit ≡ false
lags_nowhere [] none unit = refl
lags_nowhere (e ∷ kept) none unit =
    let first = none 0 (omega arith) in
    let same : first.entry ≡ e = cc in
    lags_either (same_unit e.0 unit) e.1 (value_of kept unit) (ap (λ (e : Unit × KeptValue). e.1.lags) (sym same) ∙ first.idle)
    (lags_nowhere kept (λ k within. let at = none (suc k) (omega (arith, within)) in record { entry = at.entry; here = at.here; idle = at.idle }) unit)

module _ (laws : ChipLaws) (t : Topology) (kept : Kept) (well : IsWellFormed t) (units : units_in kept ≡ units_of t) (none : NoneLags kept) where
  power_rests : (w : ℕ) (p : PowerDef) → slice_get t.powers w ≡ Some p → IsIdle kept (Node p.node)
  power_rests w p here = record {
    known = ap (λ us. has_in us (Node p.node)) units ∙ power_is_listed laws t well w p here;
    idle = lags_nowhere kept none (Node p.node);
  }

  -- a turn behind those in which power nodes go up
  rests_later : (k : ℕ) → length t.powers ≤ k → k < length (unit_turns t) → IsIdleAt t kept k
  rests_later k past within =
      let count : length kept ≡ length (units_of t) = sym (length-map kept (λ e. e.0)) ∙ ap length units in
      let i = k - length t.powers in
      elim (cases_lt i (length kept)) [
        | inl at ↦ idle_at laws.units t kept k (length t.powers) units refl past (none i at)
        | inr down ↦ (
            let w = length t.powers - 1 - (i - length (units_of t)) in
            record {
              turn = PowerOff w;
              here = turn_down t k (i - length (units_of t)) w (omega (arith, past, down, count)) (omega (arith, past, down, count, within, length-unit_turns t));
              idle = λ p here. power_rests w p here;
            })
      ]

  -- none of the turns is taken
  pub all_rest : (k : ℕ) → k < length (unit_turns t) → IsIdleAt t kept k
  all_rest k within =
      elim (cases_lt k (length t.powers)) [
        | inl up ↦ record { turn = PowerOn k; here = turn_up t k up; idle = λ p here. power_rests k p here }
        | inr past ↦ rests_later k past within
      ]
