use Rattle.pm_laws.proofs.laws.laws_below.Goals as goal

pub returns : goal.returns
returns c = record {
  kinds = c.kinds_are_exact.ensures;
  armed = c.shifts_leave_others.ensures.armed;
  owned = c.members_are_owned.ensures;
  hold = c.shifts_leave_others.ensures.hold;
  units = c.units_stand_in_order.ensures;
}
