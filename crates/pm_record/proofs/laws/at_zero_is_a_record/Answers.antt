use Rattle.pm_record.proofs.Below.{ChipLaws}
use Rattle.pm_record.proofs.MarksLemmas.{first_is_at_zero, first_is_record, first_values}
use Rattle.pm_record.proofs.laws.at_zero_is_a_record.Goals as goal

pub returns : goal.returns
returns c =
    let laws : ChipLaws = record { units = c.units_stand_in_order.ensures; kinds = c.kinds_are_exact.ensures; table = c.unit_maps.ensures } in
    record { «record» = first_is_record laws; values = first_values laws; idle = first_is_at_zero laws }
