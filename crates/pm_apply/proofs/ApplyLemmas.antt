-- The command of a unit by its entry in the record.
use Rattle.std.proofs.Common.{◌≡◌, ℕ, ◌==◌, Bool, true, false, not, ◌&&◌, ◌||◌, None, Some, slice_get, sym, ap, ◌∙◌}
use Rattle.std.specs.Option.{option_map}
use Rattle.std.proofs.lemmas.Option.{same_Some, slice_get-map}
use Rattle.pm_base.specs.declared.names.Command.{Command}
use Rattle.pm_base.specs.declared.names.Unit.{Unit}
use Rattle.pm_topology.specs.declared.topology.Topology.{Topology}
use Rattle.pm_topology.specs.UnitMap.{units_in}
use Rattle.pm_topology.specs.Units.{needs_power, parent_of_unit, rises, units_of}
use Rattle.pm_record.specs.declared.kept.KeptValue.{KeptValue}
use Rattle.pm_record.specs.Kinds.{is_power}
use Rattle.pm_apply.specs.Plan.{apply, command, is_fed, where_due}
use Rattle.pm_record.specs.Record.{Kept, kept_of, kept_value}
use Rattle.pm_record.proofs.Below.{ChipLaws}
use Rattle.pm_record.proofs.EntryLemmas.{kept_at}

-- the command of a unit that takes its value is on that unit
pub apply_unit : (t : Topology) (values : Unit → ℕ) (kept : Kept) (unit : Unit) (c : Command) → apply t values kept unit ≡ Some c → c.unit ≡ unit
apply_unit t values kept unit c is =
    at (not (is_power t unit) && (not (kept_value kept unit == values unit) && (not (needs_power t unit (values unit)) || is_fed t kept (parent_of_unit t unit)))) is
  where
    at : (b : Bool) → where_due b (command unit (values unit)) ≡ Some c → c.unit ≡ unit
    at true is = ap (λ (c : Command). c.unit) (sym (same_Some (command unit (values unit)) c is))
    at false is = cc

module _ (laws : ChipLaws) (t : Topology) (values : Unit → ℕ) (kept : Kept) (units : units_in kept ≡ units_of t)
    (place : ℕ) (unit : Unit) (there : slice_get (units_in kept) place ≡ Some unit) where
  unit_at : slice_get (units_in kept) place ≡ option_map (λ (e : Unit × KeptValue). e.0) (slice_get kept place)
  unit_at = slice_get-map (λ (e : Unit × KeptValue). e.0) kept place

  -- there is an entry
  pub no_entry : slice_get kept place ≡ None → ⊥
  no_entry none =
      let gone : None ≡ Some unit = ap (option_map (λ (e : Unit × KeptValue). e.0)) (sym none) ∙ (sym unit_at ∙ there) in
      cc

  module _ (e : Unit × KeptValue) (here : slice_get kept place ≡ Some e) where
    entry_is : kept_of kept unit ≡ e.1
    entry_is =
        let same : e.0 ≡ unit = same_Some e.0 unit (ap (option_map (λ (e : Unit × KeptValue). e.0)) (sym here) ∙ (sym unit_at ∙ there)) in
        ap (kept_of kept) (sym same) ∙ kept_at laws.units kept place e (ap rises units ∙ (laws.units.are t).rising) here

    -- its command is by that
    pub apply_is : where_due (not (is_power t unit) && (not (e.1.value == values unit) && (not (needs_power t unit (values unit)) || is_fed t kept (parent_of_unit t unit)))) (command unit (values unit)) ≡ apply t values kept unit
    apply_is =
        ap (λ (k : KeptValue). where_due (not (is_power t unit) && (not (k.value == values unit) && (not (needs_power t unit (values unit)) || is_fed t kept (parent_of_unit t unit)))) (command unit (values unit))) (sym entry_is)
