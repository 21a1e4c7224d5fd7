use Rattle.pm_values.proofs.Below.{ValueLaws}
use Rattle.pm_values.proofs.FedLaw.{values_fed}
use Rattle.pm_values.proofs.MetLaw.{unit_stands}
use Rattle.pm_values.proofs.NeededLaw.{book_meets}
use Rattle.pm_values.proofs.laws.values_meet.Goals as goal

pub returns : goal.returns
returns c =
    let laws : ValueLaws = record {
      wanted = c.rows_stay_sound.ensures.wanted;
      kinds = c.kinds_are_exact.ensures;
      choice = c.first_state_meets.ensures;
      ups = c.up_where_needed.ensures;
    } in
    record { met = book_meets laws; stands = unit_stands laws; fed = values_fed laws }
