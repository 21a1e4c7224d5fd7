use Rattle.std.proofs.Common.{◌≡◌, List, [], drop, map, flat_map, refl, sym, ◌∙◌, ap, arith}
use Rattle.std.proofs.lemmas.List.{drop_all}
use Rattle.std.proofs.lemmas.Option.{slice_get-get_or}
use Rattle.pm_notify.specs.declared.notes.Waiting.{Waiting}
use Rattle.pm_notify.specs.MasterNotes.{asks_about}
use Rattle.pm_notify.specs.Notify.{notes_for}
use Rattle.pm_tell.specs.Callbacks.{noticed_by}
use Rattle.pm_state.specs.State.{State}
use Rattle.pm_state.specs.Talk.{Talk, talked, wait_of}
use Rattle.pm_tell.proofs.OtherNotesLaw.{noticed_alike, waits_ask}
use Rattle.pm_tell.proofs.TalkLemmas.{each_step, map_flat}
use Rattle.pm_tell.proofs.keeping.keep_notices.Goals as goal

pub loop-notice-init : goal.loop-notice-init
loop-notice-init c = record { alike = λ node event. refl; whole = refl }

pub loop-notice-preserved : goal.loop-notice-preserved
loop-notice-preserved c =
    let k = c.args.k in
    let notes = notes_for k c.args.tables.now.now.talk.notes in
    let book = c.loop-notice.tables in
    let next = c.keep_notice.new.tables in
    let here = noticed_by (notes_for k book.now.talk.notes) _ in
    let change : Waiting → List Talk = λ notice. map (wait_of k) (noticed_by notes notice) in
    record {
      alike = λ node event.
          ap (λ (b : State). asks_about node event (notes_for k b.now.talk.notes)) c.keep_notice.ensures
          ∙ (waits_ask c.notifiers_are_kept.ensures k k here book.now.talk node event ∙ c.loop-notice.invariant.alike node event);
      whole = each_step change c.args.notices.now c.loop-notice.notice-index _ book next
          (slice_get-get_or c.args.notices.now c.loop-notice.notice-index _ c.loop-notice-test.true)
          (c.keep_notice.ensures ∙ ap (λ ws. talked (map (wait_of k) ws) book) (noticed_alike (notes_for k book.now.talk.notes) notes _ c.loop-notice.invariant.alike))
          ∙ c.loop-notice.invariant.whole;
    }

pub returns : goal.returns
returns c =
    let k = c.args.k in
    let notes = notes_for k c.args.tables.now.now.talk.notes in
    let change : Waiting → List Talk = λ notice. map (wait_of k) (noticed_by notes notice) in
    let notices = c.args.notices.now in
    let none : drop c.loop-notice.notice-index notices ≡ [] = drop_all c.loop-notice.notice-index notices (omega (arith, c.loop-notice-test.false)) in
    sym (ap (λ left. talked (flat_map change left) c.loop-notice.tables) none)
    ∙ (c.loop-notice.invariant.whole ∙ ap (λ changes. talked changes c.args.tables.now) (sym (map_flat (wait_of k) (noticed_by notes) notices)))
