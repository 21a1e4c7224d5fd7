use Rattle.std.proofs.Common.{◌≡◌, ◌<◌, length, ap, ◌∙◌, arith}
use Rattle.std.specs.Prelude.{slice_set}
use Rattle.pm_notify.specs.MasterNotes.{without_note}
use Rattle.pm_notify.specs.Notify.{asks_of, dropped}
use Rattle.pm_notify.proofs.AskLemmas.{changed}
use Rattle.pm_notify.proofs.notify.Notify.drop_note.Goals as goal

pub invariant_of-self : goal.invariant_of-self
invariant_of-self c =
    let notes = c.self.inside.notes.items in
    let within : c.args.m < length notes = omega (arith, c.len.ensures, c.if-m-len.true) in
    let is : slice_set notes c.args.m c.drop_note.new.self ≡ dropped c.args.m c.args.n c.args.note notes =
    changed notes c.args.m c.index_mut.result.now (without_note c.args.n c.args.note) c.drop_note.new.self within c.index_mut.ensures.value c.drop_note.ensures
    in
    λ quiet k o event. ap (asks_of k o event) is ∙ (c.notifiers_are_kept.ensures.takes c.args.m c.args.n c.args.note notes k o event ∙ c.self.invariant quiet k o event)

pub returns-then-m-len : goal.returns-then-m-len
returns-then-m-len c =
    let notes = c.self.inside.notes.items in
    let within : c.args.m < length notes = omega (arith, c.len.ensures, c.if-m-len.true) in
    changed notes c.args.m c.index_mut.result.now (without_note c.args.n c.args.note) c.drop_note.new.self within c.index_mut.ensures.value c.drop_note.ensures
    ∙ ap (dropped c.args.m c.args.n c.args.note) c.self.view_is
