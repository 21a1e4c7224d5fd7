-- The record after a unit took a value, and after some commands: the values of the device follow it.
use Rattle.std.proofs.Common.{◌≡◌, ℕ, Bool, true, false, ◌&&◌, cond, if◌then◌else◌, Option, Some, None, List, refl, ap, sym, ◌∙◌, ◌⊎◌, inl, inr}
use Rattle.std.specs.Prelude.{is_some, unwrap_or}
use Rattle.std.specs.Option.{option_map}
use Rattle.pm_base.specs.declared.names.Unit.{Unit}
use Rattle.pm_base.specs.declared.names.Command.{Command}
use Rattle.pm_topology.specs.UnitMap.{units_in, value_of}
use Rattle.pm_topology.specs.Units.{has_in, same_unit}
use Rattle.pm_record.proofs.Below.{ChipLaws}
use Rattle.pm_record.specs.declared.kept.KeptValue.{KeptValue}
use Rattle.pm_record.specs.Record.{lags_in, Kept, idle, keep, kept_of, kept_value, mark, marked, after_answer}

-- ---- the device took a value for a unit

-- what is kept of a unit once this was kept of it, given whether the record has it
taken_at : (same has : Bool) (now : KeptValue) (before : Option KeptValue) → has ≡ true
    → (unwrap_or (cond (same && has) (Some now) before) idle).value ≡ cond same now.value (unwrap_or before idle).value
taken_at true true now before is = refl
taken_at false has now before is = refl
taken_at true false now before is = cc

-- its value is that one where it is this unit, and else as before
pub kept_value-keep : ChipLaws → (u : Unit) (v : ℕ) (kept : Kept) (x : Unit)
    → has_in (units_in kept) u ≡ true
    → kept_value (keep u v kept) x ≡ cond (same_unit u x) v (kept_value kept x)
kept_value-keep laws u v kept x has =
    let now : KeptValue = record (kept_of kept u) { value = v } in
    ap (λ (found : Option KeptValue). (unwrap_or found idle).value) (laws.table.set u now kept x)
    ∙ taken_at (same_unit u x) (is_some (value_of kept u)) now (value_of kept x) (laws.table.there kept u ∙ has)

kept_same : ChipLaws → (u : Unit) (v : ℕ) (kept : Kept) → has_in (units_in kept) u ≡ true → kept_value (keep u v kept) u ≡ v
kept_same laws u v kept has =
    kept_value-keep laws u v kept u has ∙ ap (λ same. cond same v (kept_value kept u)) (laws.units.itself u)

kept_other : ChipLaws → (u : Unit) (v : ℕ) (kept : Kept) (x : Unit) → same_unit u x ≡ false → kept_value (keep u v kept) x ≡ kept_value kept x
kept_other laws u v kept x other =
    let now : KeptValue = record (kept_of kept u) { value = v } in
    ap (λ (found : Option KeptValue). (unwrap_or found idle).value) (laws.table.set u now kept x)
    ∙ ap (λ same. (unwrap_or (cond (same && is_some (value_of kept u)) (Some now) (value_of kept x)) idle).value) other

-- ---- the units of the record stay

pub units_in-after_answer : ChipLaws → (c : Command) (ok : Bool) (kept : Kept) → units_in (after_answer c ok kept) ≡ units_in kept
units_in-after_answer laws c true kept = laws.table.set_units c.unit (record (kept_of kept c.unit) { value = c.value }) kept
units_in-after_answer laws c false kept = refl

pub has_cell_of : (units : List Unit) (kept : Kept) (x : Unit)
    → units_in kept ≡ units → has_in units x ≡ true → has_in (units_in kept) x ≡ true
has_cell_of units kept x is has = ap (λ units. has_in units x) is ∙ has

-- ---- the device follows

-- the value of a unit after a command with its answer: the value by the record after it
pub kept_after : ChipLaws → (c : Command) (ok : Bool) (kept : Kept) (x : Unit)
    → has_in (units_in kept) c.unit ≡ true
    → cond (ok && same_unit c.unit x) c.value (kept_value kept x) ≡ kept_value (after_answer c ok kept) x
kept_after laws c true kept x has = sym (kept_value-keep laws c.unit c.value kept x has)
kept_after laws c false kept x has = refl

-- ---- marks

pub kept_value-marked : ChipLaws → (values : Unit → ℕ) (kept : Kept) (x : Unit) → kept_value (marked values kept) x ≡ kept_value kept x
kept_value-marked laws values kept x =
    ap (λ (found : Option KeptValue). (unwrap_or found idle).value) (laws.table.made (mark values) kept x) ∙ at (value_of kept x)
  where
    at : (found : Option KeptValue) → (unwrap_or (option_map (mark values x) found) idle).value ≡ (unwrap_or found idle).value
    at None = refl
    at (Some kept) = refl

pub units_in-marked : ChipLaws → (values : Unit → ℕ) (kept : Kept) → units_in (marked values kept) ≡ units_in kept
units_in-marked laws values kept = laws.table.made_units (mark values) kept

-- ---- one command

kept_either : ChipLaws → (c : Command) (ok : Bool) (kept : Kept) (x : Unit) (same : Bool)
    → has_in (units_in kept) c.unit ≡ true
    → same_unit c.unit x ≡ same
    → (kept_value (after_answer c ok kept) x ≡ kept_value kept x) ⊎ ((c.unit ≡ x) × (ok ≡ true) × (kept_value (after_answer c ok kept) x ≡ c.value))
kept_either laws c false kept x same has is = inl refl
kept_either laws c true kept x false has is = inl (kept_other laws c.unit c.value kept x is)
kept_either laws c true kept x true has is = inr (laws.units.same c.unit x is, refl, kept_value-keep laws c.unit c.value kept x has ∙ ap (λ b. cond b c.value (kept_value kept x)) is)

-- a command changes the record of no unit, or that of its own where it was carried out
pub kept_by : ChipLaws → (c : Command) (ok : Bool) (kept : Kept) (x : Unit)
    → has_in (units_in kept) c.unit ≡ true
    → (kept_value (after_answer c ok kept) x ≡ kept_value kept x) ⊎ ((c.unit ≡ x) × (ok ≡ true) × (kept_value (after_answer c ok kept) x ≡ c.value))
kept_by laws c ok kept x has = kept_either laws c ok kept x (same_unit c.unit x) has refl

kept_apart : ChipLaws → (c : Command) (ok : Bool) (kept : Kept) (x : Unit) (same : Bool)
    → (c.unit ≡ x → ⊥) → same_unit c.unit x ≡ same → kept_value (after_answer c ok kept) x ≡ kept_value kept x
kept_apart laws c false kept x same apart is = refl
kept_apart laws c true kept x true apart is = absurd (apart (laws.units.same c.unit x is))
kept_apart laws c true kept x false apart is = kept_other laws c.unit c.value kept x is

-- the record of another unit stays
pub kept_stays : ChipLaws → (c : Command) (ok : Bool) (kept : Kept) (x : Unit) → (c.unit ≡ x → ⊥) → kept_value (after_answer c ok kept) x ≡ kept_value kept x
kept_stays laws c ok kept x apart = kept_apart laws c ok kept x (same_unit c.unit x) apart refl

-- a command after which its unit isn't at its value has failed
pub was_refused : ChipLaws → (c : Command) (ok : Bool) (kept : Kept) → has_in (units_in kept) c.unit ≡ true → (kept_value (after_answer c ok kept) c.unit ≡ c.value → ⊥) → ok ≡ false
was_refused laws c true kept has off = absurd (off (kept_same laws c.unit c.value kept has))
was_refused laws c false kept has off = refl

-- ---- marks stay

lags_in-keep : ChipLaws → (u : Unit) (v : ℕ) (kept : Kept) (x : Unit) → lags_in (keep u v kept) x ≡ lags_in kept x
lags_in-keep laws u v kept x =
    let now : KeptValue = record (kept_of kept u) { value = v } in
    ap (λ (found : Option KeptValue). (unwrap_or found idle).lags) (laws.table.set u now kept x) ∙ at (same_unit u x) (is_some (value_of kept u)) refl
  where
    at : (same has : Bool) → same_unit u x ≡ same → (unwrap_or (if same && has then Some (record (kept_of kept u) { value = v }) else value_of kept x) idle).lags ≡ lags_in kept x
    at true true is = ap (lags_in kept) (laws.units.same u x is)
    at true false is = refl
    at false has is = refl

pub lags_in-after_answer : ChipLaws → (c : Command) (ok : Bool) (kept : Kept) (x : Unit) → lags_in (after_answer c ok kept) x ≡ lags_in kept x
lags_in-after_answer laws c true kept x = lags_in-keep laws c.unit c.value kept x
lags_in-after_answer laws c false kept x = refl

pub kept_gone : ChipLaws → (c : Command) (kept : Kept) (x : Unit) → has_in (units_in kept) c.unit ≡ false → kept_value (keep c.unit c.value kept) x ≡ kept_value kept x
kept_gone laws c kept x gone =
    let now : KeptValue = record (kept_of kept c.unit) { value = c.value } in
    ap (λ (found : Option KeptValue). (unwrap_or found idle).value) (laws.table.set c.unit now kept x)
    ∙ at (same_unit c.unit x) (is_some (value_of kept c.unit)) (laws.table.there kept c.unit ∙ gone)
  where
    at : (same has : Bool) → has ≡ false → (unwrap_or (if same && has then Some (record (kept_of kept c.unit) { value = c.value }) else value_of kept x) idle).value ≡ kept_value kept x
    at true true is = cc
    at true false is = refl
    at false has is = refl
