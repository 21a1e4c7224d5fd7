use Rattle.pm_apart.proofs.LinesLaw.{closing_apart, commands_apart, run_apart, steps_apart}
use Rattle.pm_apart.proofs.PartsLaw.{PartLaws}
use Rattle.pm_apart.proofs.RecordFacts.{ChipLaws}
use Rattle.pm_apart.proofs.RunsLaw.{ReachLaws}
use Rattle.pm_apart.proofs.laws.lines_stay_apart.Goals as goal

pub returns : goal.returns
returns c =
    let chip : ChipLaws = record { units = c.units_stand_in_order.ensures; table = c.unit_maps.ensures } in
    let part : PartLaws = record {
      chip = chip;
      known = c.each_part_is_safe.ensures.known;
      is_record = c.each_part_is_safe.ensures.record;
      values = c.each_part_is_safe.ensures.values;
      succeeds = c.a_part_without_refusal.ensures.succeeds;
      reaches = c.a_part_without_refusal.ensures.reaches;
    } in
    let laws : ReachLaws = record {
      beside = c.reach_keeps_apart.ensures.beside;
      closed = c.reach_is_closed.ensures.closed;
      values = c.values_agree.ensures.values;
      modes = c.values_agree.ensures.modes;
      load = c.books_of_a_run.ensures.load;
      keeps = c.books_of_a_run.ensures.step;
      zero = c.at_zero_is_a_record.ensures.record;
      part = part;
    } in
    record {
      commands = commands_apart laws;
      closing = closing_apart laws;
      steps = λ setup events cut object chip board other m unit beyond. steps_apart laws setup m events unit object chip beyond board other cut;
      run = λ setup events object chip board other m unit beyond. run_apart laws setup m events unit object chip beyond board other;
    }
