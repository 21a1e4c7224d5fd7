use Rattle.std.proofs.Common.{subst, arith}
use Rattle.pm_record.specs.Record.{Kept}
use Rattle.pm_record.specs.Marks.{LagsNotAt}
use Rattle.pm_record.proofs.ListedLemmas.{lags_not}
use Rattle.pm_record.proofs.kept.Kept.next_marked.Goals as goal

pub returns-clause-idle : goal.returns-clause-idle
returns-clause-idle c =
    λ k after before.
    let P : Kept → Type 0 = λ kept. LagsNotAt k kept in
    subst P c.self.view_is
    (lags_not c.self.inside.values c.self.inside.marked.items k c.self.invariant.marks.lags (c.next.ensures.none k after before) (omega (arith, before, c.next.ensures.end, c.self.invariant.marks.room)))
