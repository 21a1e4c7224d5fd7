-- The record at first, and the marks of a record.
use Rattle.std.proofs.Common.{◌≡◌, ℕ, ◌==◌, Bool, true, false, not, cond, Option, Some, None, refl, sym, ap, ◌∙◌, arith}
use Rattle.std.specs.Prelude.{is_some, unwrap_or}
use Rattle.std.specs.Option.{option_map}
use Rattle.std.proofs.lemmas.Bool.{eq-eqb}
use Rattle.pm_base.specs.declared.names.Unit.{Unit}
use Rattle.pm_base.specs.declared.names.Unit.TheVariants.{Node}
use Rattle.pm_topology.specs.declared.topology.Topology.{Topology}
use Rattle.pm_topology.specs.Units.{has_in, units_of}
use Rattle.pm_topology.specs.UnitMap.{units_in, value_of}
use Rattle.pm_record.proofs.Below.{ChipLaws}
use Rattle.pm_record.specs.declared.kept.KeptValue.{KeptValue}
use Rattle.pm_record.specs.Record.{Kept, IsRecordOf, IsAtZero, at_zero, idle, kept_of, kept_value, lags_in, mark, marked}
use Rattle.pm_record.specs.Marks.{StandsAt}

-- ---- at first

first_of : ChipLaws → (t : Topology) (unit : Unit) → kept_of (at_zero t) unit ≡ idle
first_of laws t unit = ap (λ (found : Option KeptValue). unwrap_or found idle) (laws.table.all idle (units_of t) unit) ∙ at (has_in (units_of t) unit)
  where
    at : (has : Bool) → unwrap_or (cond has (Some idle) None) idle ≡ idle
    at true = refl
    at false = refl

pub first_values : ChipLaws → (t : Topology) (unit : Unit) → kept_value (at_zero t) unit ≡ 0
first_values laws t unit = ap (λ (kept : KeptValue). kept.value) (first_of laws t unit)

pub first_is_at_zero : ChipLaws → (t : Topology) → IsAtZero (at_zero t)
first_is_at_zero laws t = record {
  values = first_values laws t;
  marks = λ unit. ap (λ (kept : KeptValue). kept.lags) (first_of laws t unit);
}

pub first_is_record : ChipLaws → (t : Topology) → IsRecordOf t (at_zero t)
first_is_record laws t = record {
  units = laws.table.all_units idle (units_of t);
  up_or_down = λ w power here. let zero = first_values laws t (Node power.node) in omega arith;
}

-- ---- the marks

-- a unit lags exactly where its value isn't this one
pub lags_in-marked : ChipLaws → (values : Unit → ℕ) (kept : Kept) (unit : Unit) → has_in (units_in kept) unit ≡ true → lags_in (marked values kept) unit ≡ not (kept_value kept unit == values unit)
lags_in-marked laws values kept unit has =
    ap (λ (found : Option KeptValue). (unwrap_or found idle).lags) (laws.table.made (mark values) kept unit)
    ∙ at (value_of kept unit) (laws.table.there kept unit ∙ has)
  where
    at : (found : Option KeptValue) → is_some found ≡ true → (unwrap_or (option_map (mark values unit) found) idle).lags ≡ not ((unwrap_or found idle).value == values unit)
    at None is = cc
    at (Some kept) is = refl

-- ---- marks that are right already

-- the mark of an entry that doesn't lag and has this value stays
pub mark_stays : (values : Unit → ℕ) (e : Unit × KeptValue) → e.1.lags ≡ false → StandsAt values e → mark values e.0 e.1 ≡ e.1
mark_stays values e idle stands =
    let kept_as : Bool → KeptValue = λ b. record e.1 { lags = b } in
    ap kept_as (ap not (eq-eqb e.1.value (values e.0) (stands idle)) ∙ sym idle)
