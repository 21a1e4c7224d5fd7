use Rattle.pm_record.proofs.Below.{ChipLaws}
use Rattle.pm_apply.proofs.StepLaw.{part_explained, part_follows, part_known, part_marks, part_ordered, part_record, part_used}
use Rattle.pm_apply.proofs.laws.each_part_is_safe.Goals as goal

pub returns : goal.returns
returns c =
    let laws : ChipLaws = record { units = c.units_stand_in_order.ensures; kinds = c.kinds_are_exact.ensures; table = c.unit_maps.ensures } in
    record {
      ordered = part_ordered laws;
      explained = λ kept answers book outputs well record_of. part_explained laws kept answers book outputs well record_of (c.values_are_fed.ensures book well);
      known = part_known laws;
      «record» = part_record laws;
      values = part_follows laws;
      marks = part_marks laws;
      used = part_used;
    }
