use Rattle.std.proofs.Common.{◌≡◌, subst, sym, true}
use Rattle.pm_state.specs.State.{State}
use Rattle.pm_state.specs.Values.{value}
use Rattle.pm_apply.specs.Carried.{AreMarked}
use Rattle.pm_record.specs.Record.{IsRecordOf}
use Rattle.pm_engine.specs.Progress.{IsOver}
use Rattle.pm_engine.proofs.engine.Engine.next.Goals as goal

-- the book stays, so the record, the marks and the clocks do
pub invariant_of-self : goal.invariant_of-self
invariant_of-self c =
    let old = c.self.inside in
    let P : State → Type 0 = λ book. IsRecordOf book.fixed.topology old.kept × (old.follows ≡ true → AreMarked book.fixed.topology (λ u. value u book) old.kept)
    × IsOver book old.clocks.tree
    in
    subst P (sym c.next.ensures.book) c.self.invariant
