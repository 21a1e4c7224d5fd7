use Rattle.std.proofs.Common.{◌≡◌, ◌<◌, length, ap, ◌∙◌, arith}
use Rattle.std.specs.Prelude.{slice_set}
use Rattle.pm_notify.specs.MasterNotes.{forgotten}
use Rattle.pm_notify.specs.Notify.{asks_of, without_notes}
use Rattle.pm_notify.proofs.AskLemmas.{changed, none_cleared}
use Rattle.pm_notify.proofs.notify.Notify.clear.Goals as goal

pub invariant_of-self : goal.invariant_of-self
invariant_of-self c =
    let notes = c.self.inside.notes.items in
    let within : c.args.m < length notes = omega (arith, c.len.ensures, c.if-m-len.true) in
    let is : slice_set notes c.args.m c.clear.new.self ≡ without_notes c.args.m notes =
    changed notes c.args.m c.index_mut.result.now forgotten c.clear.new.self within c.index_mut.ensures.value c.clear.ensures
    in
    λ quiet k o event. ap (asks_of k o event) is ∙ none_cleared c.notifiers_are_kept.ensures c.args.m notes (c.self.invariant quiet) k o event

pub returns-then-m-len : goal.returns-then-m-len
returns-then-m-len c =
    let notes = c.self.inside.notes.items in
    let within : c.args.m < length notes = omega (arith, c.len.ensures, c.if-m-len.true) in
    changed notes c.args.m c.index_mut.result.now forgotten c.clear.new.self within c.index_mut.ensures.value c.clear.ensures
    ∙ ap (without_notes c.args.m) c.self.view_is
