use Rattle.std.proofs.Common.{◌≡◌, ◌++◌, length, sym, ◌∙◌, ap, subst}
use Rattle.pm_base.specs.BoundedList.{Bounded}
use Rattle.pm_tell.specs.declared.callbacks.Callback.{Callback}
use Rattle.pm_values.specs.Caches.{AreKept}
use Rattle.pm_tell.specs.Callbacks.{callbacks, late_replies, note_changes}
use Rattle.pm_tell.specs.Served.{kept_of, says_in}
use Rattle.pm_state.specs.Sound.{AreNotes}
use Rattle.pm_state.specs.State.{State}
use Rattle.pm_tell.specs.declared.telling.Telling.{Telling}
use Rattle.pm_tell.specs.Telling.{notes_after, tellings, news_in, opening_in}
use Rattle.pm_state.specs.Talk.{talked}
use Rattle.pm_values.specs.Along.{mode_logged, modes_of}
use Rattle.pm_values.proofs.CachesLaw.{kept_talked}
use Rattle.pm_state.proofs.MasterNotesLaw.{talk_notes}
use Rattle.pm_tell.proofs.TalkLemmas.{then_told}
use Rattle.pm_tell.proofs.TellLemmas.{callbacks_told, kept_told, note_changes_told}
use Rattle.pm_tell.proofs.talk.tell.Goals as goal

pub tell_masters-requires-clause-kept : goal.tell_masters-requires-clause-kept
tell_masters-requires-clause-kept c =
    let P : State → Type 0 = λ b. AreKept b c.args.caches.now in
    subst P (sym c.open_step.ensures.book) (kept_talked (opening_in c.open_step.new.telling (says_in c.args.served.now) c.args.count c.args.tables.now) c.args.tables.now c.args.caches.now c.requires.may.kept)

pub tell_masters-requires-clause-notes : goal.tell_masters-requires-clause-notes
tell_masters-requires-clause-notes c =
    let old = c.args.tables.now in
    let P : State → Type 0 = λ b. AreNotes b.fixed.topology (length b.fixed.object.masters) b.now.talk.notes in
    subst P (sym c.open_step.ensures.book) (talk_notes c.notes_stand_in_order.ensures old.fixed.topology (length old.fixed.object.masters) (opening_in c.open_step.new.telling (says_in c.args.served.now) c.args.count old) old.now.talk c.requires.may.notes)

-- if no processor moved, the modes are those before the step
pub tell_masters-requires-clause-modes : goal.tell_masters-requires-clause-modes
tell_masters-requires-clause-modes c = λ still.
    let news = c.open_step.ensures.news in
    let fresh = c.requires.fresh (sym (ap (λ (t : Telling). t.moved) news) ∙ still) in
    ap (λ (t : Telling). t.modes.items) news ∙ (fresh.modes ∙ sym (ap modes_of c.open_step.ensures.book))

pub returns : goal.returns
returns c =
    let old = c.args.tables.now in
    let telling = c.open_step.new.telling in
    let news = news_in telling in
    let was = mode_logged telling.modes.items in
    let served = c.args.served.now in
    let first = opening_in telling (says_in served) c.args.count old in
    let opened : c.open_step.new.tables ≡ talked first old = c.open_step.ensures.book in
    let told : c.tell_masters.new.tables ≡ talked (note_changes news was (notes_after first old) old) c.open_step.new.tables =
    c.tell_masters.ensures.book
    ∙ (ap (λ (b : State). talked (note_changes news was b.now.talk.notes b) c.open_step.new.tables) opened
    ∙ ap (λ ms. talked ms c.open_step.new.tables) (note_changes_told news was (notes_after first old) first old 0 old.fixed.object.masters))
    in
    let both = then_told first (note_changes news was (notes_after first old) old) old c.open_step.new.tables c.tell_masters.new.tables opened told in
    let kept : c.keep_own.new.tables ≡ talked (kept_of served old) c.tell_masters.new.tables =
    c.keep_own.ensures
    ∙ (ap (λ (b : State). talked (kept_of served b) c.tell_masters.new.tables) both
    ∙ ap (λ ks. talked ks c.tell_masters.new.tables) (kept_told served (first ++ note_changes news was (notes_after first old) old) old))
    in
    let book : c.keep_own.new.tables ≡ talked (tellings news was first served old) old =
    then_told first (note_changes news was (notes_after first old) old ++ kept_of served old) old c.open_step.new.tables c.keep_own.new.tables opened
    (then_told (note_changes news was (notes_after first old) old) (kept_of served old) c.open_step.new.tables c.tell_masters.new.tables c.keep_own.new.tables told kept)
    in
    let before = c.args.callbacks.now in
    let put : _ → Bounded Callback = λ cs. record before { items = before.items ++ cs } in
    let all = tellings news was first served old in
    let late = c.args.late.now in
    record {
      news = c.open_step.ensures.news;
      book = book;
      late = c.tell_late.ensures ∙ ap (λ es. record late { items = late.items ++ late_replies es c.keep_own.new.tables }) c.ended.ensures;
      callbacks = c.tell_masters.ensures.callbacks
          ∙ (ap (λ (b : State). put (callbacks news was b.now.talk.notes b)) opened
          ∙ (ap put (callbacks_told news was (notes_after first old) first old 0 old.fixed.object.masters)
          ∙ (ap put (sym (callbacks_told news was (notes_after first old) all old 0 old.fixed.object.masters))
          ∙ ap (λ (b : State). put (callbacks news was (notes_after first old) b)) (sym book))));
    }
