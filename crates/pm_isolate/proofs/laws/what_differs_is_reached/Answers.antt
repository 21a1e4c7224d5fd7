use Rattle.pm_isolate.proofs.WithinLaw.{ReachLaws, all_within, differs_within, same_beyond}
use Rattle.pm_isolate.proofs.laws.what_differs_is_reached.Goals as goal

pub returns : goal.returns
returns c =
    let laws : ReachLaws = record {
      closed = c.reach_is_closed.ensures.closed;
      exact = c.reach_is_closed.ensures.exact;
      values = c.values_agree.ensures.values;
      modes = c.values_agree.ensures.modes;
      alike = c.reach_keeps_apart.ensures.alike;
      books = c.books_of_a_run.ensures.all;
      kinds = c.kinds_are_exact.ensures;
      units = c.units_stand_in_order.ensures;
    } in
    record { beyond = same_beyond laws; one = differs_within laws; all = all_within laws }
