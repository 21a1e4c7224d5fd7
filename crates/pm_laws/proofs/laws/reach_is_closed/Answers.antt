use Rattle.pm_laws.proofs.ReachBorderLaw.{reach_closed, reach_closed_over}
use Rattle.pm_laws.proofs.ReachExact.{all_beyond, caller_within, reach_exact}
use Rattle.pm_laws.proofs.WithinReach.{ReachLaws}
use Rattle.pm_laws.proofs.laws.reach_is_closed.Goals as goal

pub returns : goal.returns
returns c =
    let laws : ReachLaws = record {
      masters = c.masters_within.ensures;
      units = c.units_within.ensures;
      parents = c.parents_within.ensures;
      tests = c.reach_is_decided.ensures;
      kinds = c.kinds_are_exact.ensures;
      grants = c.grants_are_permissions.ensures;
      several = c.some_grants_are_permissions.ensures;
    } in
    record { closed = reach_closed laws; closed_over = reach_closed_over laws; exact = reach_exact laws; unconfigured = all_beyond; own = caller_within laws }
