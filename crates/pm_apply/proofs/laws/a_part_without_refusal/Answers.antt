use Rattle.pm_record.proofs.Below.{ChipLaws}
use Rattle.pm_apply.proofs.StepLaw.{part_agreed, part_answered, part_reaches, part_succeeds, part_unrefused, unrefused_succeed}
use Rattle.pm_apply.proofs.laws.a_part_without_refusal.Goals as goal

pub returns : goal.returns
returns c =
    let laws : ChipLaws = record { units = c.units_stand_in_order.ensures; kinds = c.kinds_are_exact.ensures; table = c.unit_maps.ensures } in
    record {
      same = part_unrefused;
      agreed = part_agreed;
      succeeds = part_succeeds;
      unrefused = unrefused_succeed;
      reaches = λ kept answers book outputs well record_of none. part_reaches kept answers book outputs laws well (c.values_are_fed.ensures book well) record_of (unrefused_succeed _ none);
      answered = λ kept answers book outputs before well record_of. part_answered kept answers book outputs laws well (c.values_are_fed.ensures book well) record_of before;
    }
