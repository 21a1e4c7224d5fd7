-- The record of kept values after a command that succeeded, and after marks.
use Rattle.std.proofs.Common.{◌≡◌, ℕ, true, false, ◌&&◌, cond, Option, Some, None, refl, ap, ◌∙◌}
use Rattle.std.specs.Prelude.{is_some, unwrap_or}
use Rattle.std.specs.Option.{option_map}
use Rattle.pm_base.specs.declared.names.Unit.{Unit}
use Rattle.pm_topology.specs.UnitMap.{TableLaws, units_in, value_of}
use Rattle.pm_topology.specs.Units.{UnitLaws, has_in, same_unit}
use Rattle.pm_record.specs.declared.kept.KeptValue.{KeptValue}
use Rattle.pm_record.specs.Record.{Kept, idle, keep, kept_of, kept_value, mark, marked}

-- what is known of the units of a chip, and of a record as a table of them
pub record ChipLaws : Type 0 where
  pub units : UnitLaws
  pub table : TableLaws KeptValue

-- ---- a command that succeeded

abbrev now : Unit → ℕ → Kept → KeptValue
now u v kept = record (kept_of kept u) { value = v }

-- the units of the record stay
pub units_stay : ChipLaws → (u : Unit) (v : ℕ) (kept : Kept) (x : Unit) → has_in (units_in kept) x ≡ true → has_in (units_in (keep u v kept)) x ≡ true
units_stay laws u v kept x has = ap (λ units. has_in units x) (laws.table.set_units u (now u v kept) kept) ∙ has

-- another unit keeps its value
pub other_kept : ChipLaws → (u : Unit) (v : ℕ) (kept : Kept) (x : Unit) → same_unit u x ≡ false → kept_value (keep u v kept) x ≡ kept_value kept x
other_kept laws u v kept x other =
    ap (λ (found : Option KeptValue). (unwrap_or found idle).value) (laws.table.set u (now u v kept) kept x)
    ∙ ap (λ same. (unwrap_or (cond (same && is_some (value_of kept u)) (Some (now u v kept)) (value_of kept x)) idle).value) other

-- its own one has the new value
pub own_kept : ChipLaws → (u : Unit) (v : ℕ) (kept : Kept) → has_in (units_in kept) u ≡ true → kept_value (keep u v kept) u ≡ v
own_kept laws u v kept has =
    ap (λ (found : Option KeptValue). (unwrap_or found idle).value) (laws.table.set u (now u v kept) kept u)
    ∙ (ap (λ same. (unwrap_or (cond (same && is_some (value_of kept u)) (Some (now u v kept)) (value_of kept u)) idle).value) (laws.units.itself u)
    ∙ ap (λ there. (unwrap_or (cond there (Some (now u v kept)) (value_of kept u)) idle).value) (laws.table.there kept u ∙ has))

-- ---- marks

pub marked_kept : ChipLaws → (values : Unit → ℕ) (kept : Kept) (x : Unit) → kept_value (marked values kept) x ≡ kept_value kept x
marked_kept laws values kept x =
    ap (λ (found : Option KeptValue). (unwrap_or found idle).value) (laws.table.made (mark values) kept x) ∙ at (value_of kept x)
  where
    at : (found : Option KeptValue) → (unwrap_or (option_map (mark values x) found) idle).value ≡ (unwrap_or found idle).value
    at None = refl
    at (Some kept) = refl
