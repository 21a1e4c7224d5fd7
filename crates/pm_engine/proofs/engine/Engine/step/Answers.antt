use Rattle.std.proofs.Common.{◌≡◌, List, Option, refl, sym, ap, subst, ◌∙◌}
use Rattle.pm_base.specs.declared.events.Event.{Event}
use Rattle.pm_base.specs.declared.names.NodeId.{NodeId}
use Rattle.pm_base.specs.declared.names.Unit.{Unit}
use Rattle.pm_state.specs.State.{State}
use Rattle.pm_state.specs.Units.{moved}
use Rattle.pm_state.specs.Values.{value}
use Rattle.pm_core.specs.declared.outbox.Outbox.{Outbox}
use Rattle.pm_core.specs.Outbox.{Holds, Outputs, outputs_in}
use Rattle.pm_core.specs.Step.{outputs}
use Rattle.pm_apply.specs.Carried.{DifferencesAreMarked}
use Rattle.pm_apply.specs.Part.{Part, answers_in, part_in, part_of}
use Rattle.pm_clock_tree.specs.declared.calls.ClockCall.{ClockCall}
use Rattle.pm_clock_tree.specs.Followed.{after_step}
use Rattle.pm_clock_tree.specs.Tree.{Tree}
use Rattle.pm_clocks.specs.Clocked.{made, tree_after, view_of}
use Rattle.pm_drive.specs.Clocks.{clocked_part}
use Rattle.pm_trace.specs.Step.{notices_in, notices_of}
use Rattle.pm_engine.specs.Progress.{Progress, Follow, HasGoneOn}
use Rattle.pm_engine.proofs.NoticesLemmas.{made_alike}
use Rattle.pm_engine.proofs.NoticesLemmas.{notices_are}
use Rattle.pm_engine.proofs.engine.Engine.step.Goals as goal

pub follow-requires-clause-marked : goal.follow-requires-clause-marked
follow-requires-clause-marked g c = λ follows.
    let old : State = c.self.inside.runner.book in
    let new : State = c.step.new.self.book in
    let P : List Unit → Type 0 = λ units. DifferencesAreMarked new.fixed.topology (λ u. value u new) units c.self.inside.kept in
    subst P (ap (moved (λ u. value u old)) c.step.ensures.book ∙ sym c.step.ensures.out.moved)
    (c.marks_suffice.ensures old new c.self.inside.kept c.step.ensures.fixed (c.self.invariant.1 follows))

pub returns-clause-notices : goal.returns-clause-notices
returns-clause-notices g c =
    let told : Outputs = outputs c.args.event.now c.self.inside.runner.book in
    let followed : notices_in c.follow.new.runner.outbox ≡ notices_of told =
    notices_are told c.step.new.self.outbox c.follow.new.runner.outbox c.step.ensures.out c.follow.ensures.starts c.follow.ensures.late c.follow.ensures.callbacks
    in
    let P : Progress → Type 0 = λ progress. notices_in c.answer.new.runner.outbox ≡ notices_of (outputs c.args.event.now progress.book) in
    subst P c.self.view_is (ap notices_in c.answer.ensures.follow.out ∙ followed)

-- an outbox that holds outputs has these
outputs_held : (outputs : Outputs) (out : Outbox) → Holds outputs out → outputs_in out ≡ outputs
outputs_held outputs out holds = rw (holds.moved, holds.pulse, holds.starts, holds.late, holds.callbacks, holds.answer) refl

pub returns-clause-goes : goal.returns-clause-goes
returns-clause-goes g c =
    let old = c.self.inside in
    let event : Event = c.args.event.now in
    let kept = c.follow.new.kept in
    let mid : Outbox = c.follow.new.runner.outbox in
    let out : Outbox = c.answer.new.runner.outbox in
    let here : State = c.follow.new.runner.book in
    let book : State = c.answer.new.runner.book in
    let tree : Tree = old.clocks.tree in
    let told : Outputs = outputs event old.runner.book in
    let follow : Follow event here mid out old.clocks c.answer.new.clocks = c.answer.ensures.follow in
    let stays : book ≡ here = c.answer.ensures.book in
    let is : part_in kept mid ≡ part_of old.kept (answers_in mid) here told =
    c.follow.ensures.part
    ∙ ap (part_of old.kept (answers_in mid) c.step.new.self.book) (outputs_held told c.step.new.self.outbox c.step.ensures.out)
    ∙ ap (λ (b : State). part_of old.kept (answers_in mid) b told) (sym c.follow.ensures.book)
    in
    let P : Progress → Type 0 = λ progress. HasGoneOn event progress (record { book = book; kept = kept; outbox = out; boxes = c.answer.new.runner.boxes; clocks = c.answer.new.clocks }) in
    subst P c.self.view_is (record {
      part =
          ap (part_in kept) follow.out
          ∙ ap (clocked_part event here tree) is
          ∙ ap (λ (o : Outbox). clocked_part event here tree (part_of old.kept (answers_in o) here told)) (sym follow.out)
          ∙ ap (λ (b : State). clocked_part event b tree (part_of old.kept (answers_in out) b told)) (sym stays);
      clocks =
          follow.clocks
          ∙ ap (λ (call : Option (NodeId × ClockCall)). record old.clocks { tree = after_step (view_of here) call tree })
          (ap (λ (p : Part). made event p.answer) is ∙ made_alike event _ told.answer)
          ∙ ap (λ (b : State). record old.clocks { tree = tree_after event told.answer b tree }) (sym stays);
    })
