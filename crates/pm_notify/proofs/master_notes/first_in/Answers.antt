use Rattle.std.proofs.Common.{◌≡◌, ◌∙◌, Some, None, sym, add-one}
use Rattle.pm_notify.specs.MasterNotes.{first_waiting_at}
use Rattle.pm_notify.proofs.TakeLemmas.{first_found, none_found}
use Rattle.pm_notify.proofs.master_notes.first_in.Goals as goal

pub returns-in-Some-clause-first : goal.returns-in-Some-clause-first
returns-in-Some-clause-first c =
    let found : first_waiting_at c.args.notes.now c.loop-place.place ≡ Some c.in-Some.waiting = sym c.first_waiting_at.ensures ∙ c.in-Some.is in
    sym (first_found c.args.notes.now c.loop-place.place c.in-Some.waiting found) ∙ c.loop-place.invariant

pub loop-place-preserved : goal.loop-place-preserved
loop-place-preserved c =
    let none : first_waiting_at c.args.notes.now c.loop-place.place ≡ None = sym c.first_waiting_at.ensures ∙ c.in_default.is in
    rw add-one (sym (none_found c.args.notes.now c.loop-place.place none) ∙ c.loop-place.invariant)
