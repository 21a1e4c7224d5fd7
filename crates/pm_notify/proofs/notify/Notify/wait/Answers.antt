use Rattle.std.proofs.Common.{◌≡◌, ◌<◌, length, ap, ◌∙◌, arith}
use Rattle.std.specs.Prelude.{slice_set}
use Rattle.pm_notify.specs.MasterNotes.{with_note}
use Rattle.pm_notify.specs.Notify.{asks_of, noted}
use Rattle.pm_notify.proofs.AskLemmas.{changed}
use Rattle.pm_notify.proofs.notify.Notify.wait.Goals as goal

pub invariant_of-self : goal.invariant_of-self
invariant_of-self c =
    let notes = c.self.inside.notes.items in
    let within : c.args.m < length notes = omega (arith, c.len.ensures, c.if-m-len.true) in
    let is : slice_set notes c.args.m c.wait.new.self ≡ noted c.args.m c.args.n c.args.note notes =
    changed notes c.args.m c.index_mut.result.now (with_note c.args.n c.args.note) c.wait.new.self within c.index_mut.ensures.value c.wait.ensures
    in
    λ quiet k o event. ap (asks_of k o event) is ∙ (c.notifiers_are_kept.ensures.waits c.args.m c.args.n c.args.note notes k o event ∙ c.self.invariant quiet k o event)

pub returns-then-m-len : goal.returns-then-m-len
returns-then-m-len c =
    let notes = c.self.inside.notes.items in
    let within : c.args.m < length notes = omega (arith, c.len.ensures, c.if-m-len.true) in
    changed notes c.args.m c.index_mut.result.now (with_note c.args.n c.args.note) c.wait.new.self within c.index_mut.ensures.value c.wait.ensures
    ∙ ap (noted c.args.m c.args.n c.args.note) c.self.view_is
