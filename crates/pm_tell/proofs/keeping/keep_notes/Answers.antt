use Rattle.std.proofs.Common.{◌≡◌, map, flat_map, sym, ◌∙◌, ap}
use Rattle.pm_notify.specs.Notify.{notes_for}
use Rattle.pm_tell.specs.Callbacks.{acknowledged_to, noticed_by}
use Rattle.pm_state.specs.State.{State}
use Rattle.pm_state.specs.Talk.{talked, wait_of}
use Rattle.pm_tell.proofs.OtherNotesLaw.{notices_alike, waits_ask}
use Rattle.pm_tell.proofs.TalkLemmas.{map_append, then_told}
use Rattle.pm_tell.proofs.keeping.keep_notes.Goals as goal

pub returns : goal.returns
returns c =
    let k = c.args.k in
    let old = c.args.tables.now in
    let telling = c.args.telling.now in
    let mid = c.keep_ended.new.tables in
    let notes = notes_for k old.now.talk.notes in
    let acks = flat_map (acknowledged_to k) telling.ended.items in
    let notices = flat_map (noticed_by notes) telling.notices.items in
    let first : mid ≡ talked (map (wait_of k) acks) old =
    c.keep_ended.ensures ∙ ap (λ es. talked (map (wait_of k) (flat_map (acknowledged_to k) es)) old) c.ended.ensures
    in
    let later : c.keep_notices.new.tables ≡ talked (map (wait_of k) notices) mid =
    c.keep_notices.ensures
    ∙ (ap (λ ns. talked (map (wait_of k) (flat_map (noticed_by (notes_for k mid.now.talk.notes)) ns)) mid) c.notices.ensures
    ∙ (ap (λ (b : State). talked (map (wait_of k) (flat_map (noticed_by (notes_for k b.now.talk.notes)) telling.notices.items)) mid) first
    ∙ ap (λ ws. talked (map (wait_of k) ws) mid)
    (notices_alike (notes_for k (talked (map (wait_of k) acks) old).now.talk.notes) notes telling.notices.items (waits_ask c.notifiers_are_kept.ensures k k acks old.now.talk))))
    in
    then_told (map (wait_of k) acks) (map (wait_of k) notices) old mid c.keep_notices.new.tables first later
    ∙ ap (λ changes. talked changes old) (sym (map_append (wait_of k) acks notices))
