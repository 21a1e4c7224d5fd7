use Rattle.pm_drive.proofs.DroveLaw.{drove}
use Rattle.pm_drive.proofs.laws.driven_follows.Goals as goal

pub returns : goal.returns
returns g c = λ setup events answers cut old new well idle given.
    drove g.D.Device setup well
    (record {
      ordered = c.each_part_is_safe.ensures.ordered;
      explained = c.each_part_is_safe.ensures.explained;
      known = c.each_part_is_safe.ensures.known;
      is_record = c.each_part_is_safe.ensures.record;
      values = c.each_part_is_safe.ensures.values;
      same = c.a_part_without_refusal.ensures.same;
      reaches = c.a_part_without_refusal.ensures.reaches;
      answered = c.a_part_without_refusal.ensures.answered;
      unrefused = c.a_part_without_refusal.ensures.unrefused;
      join = c.orders_join.ensures.append;
      alike = c.orders_join.ensures.alike;
      refused = c.acts_append.ensures.refusals;
      harmless = c.acts_append.ensures.harmless;
      kinds = c.kinds_are_exact.ensures;
      after = c.acts_append.ensures.values;
    })
    (c.books_of_a_run.ensures.load setup well) (λ event book is. c.books_of_a_run.ensures.step setup event book well is)
    (c.at_zero_is_a_record.ensures.record setup.topology)
    (c.at_zero_is_a_record.ensures.values setup.topology)
    c.chain_shows.ensures c.none_is_refused.ensures.still c.none_is_refused.ensures.whole events answers cut old new idle given
