-- The record after some commands: the values of the device follow it.
use Rattle.std.proofs.Common.{◌≡◌, Bool, true, List, [], ◌∷◌, refl, ◌∙◌}
use Rattle.std.specs.List.{list_any, list_all}
use Rattle.pm_base.specs.declared.names.Unit.{Unit}
use Rattle.pm_base.proofs.Booleans.{both}
use Rattle.pm_topology.specs.UnitMap.{units_in}
use Rattle.pm_topology.specs.Units.{same_unit}
use Rattle.pm_device.specs.Act.{value_by, values_after}
use Rattle.pm_device.specs.Chains.{values_after-same}
use Rattle.pm_core.specs.declared.outbox.Done.{Done}
use Rattle.pm_record.specs.Record.{Kept, after_answer, kept_value}
use Rattle.pm_record.proofs.Below.{ChipLaws}
use Rattle.pm_record.proofs.RecordLemmas.{has_cell_of, kept_after, units_in-after_answer}
use Rattle.pm_apply.specs.Part.{order_of, orders_of}

-- the record once these commands were done
abbrev pub recorded : Kept → List Done → Kept
recorded kept [] = kept
recorded kept (d ∷ done) = recorded (after_answer d.command d.ok kept) done

-- each of these commands is on one of these units
abbrev pub are_on : List Unit → List Done → Bool
are_on units done = list_all (λ (d : Done). list_any (λ u. same_unit u d.command.unit) units) done

-- the values after some commands are those of the record after them
pub values_after-recorded : ChipLaws → (units : List Unit) (done : List Done) (kept : Kept)
    → units_in kept ≡ units
    → are_on units done ≡ true
    → (x : Unit) → values_after (orders_of done) (kept_value kept) x ≡ kept_value (recorded kept done) x
values_after-recorded laws units [] kept is on x = refl
values_after-recorded laws units (d ∷ done) kept is on x =
    let parts = both (list_any (λ u. same_unit u d.command.unit) units) (are_on units done) on in
    let has = has_cell_of units kept d.command.unit is parts.0 in
    values_after-same (orders_of done) (value_by (order_of d) (kept_value kept)) (kept_value (after_answer d.command d.ok kept)) (λ x. kept_after laws d.command d.ok kept x has) x
    ∙ values_after-recorded laws units done (after_answer d.command d.ok kept) (units_in-after_answer laws d.command d.ok kept ∙ is) parts.1 x
