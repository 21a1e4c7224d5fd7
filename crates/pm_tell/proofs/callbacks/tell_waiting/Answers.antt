use Rattle.std.proofs.Common.{◌≡◌, ◌++◌, ◌∷◌, [], Some, length, length-append, map, sym, ◌∙◌, ap, append_assoc, arith}
use Rattle.std.specs.Prelude.{option_to_list, slice_get}
use Rattle.pm_base.specs.BoundedList.{Bounded}
use Rattle.pm_notify.specs.declared.notes.Waiting.{Waiting}
use Rattle.pm_notify.specs.MasterNotes.{waiting_in}
use Rattle.pm_notify.specs.Notify.{notes_for}
use Rattle.pm_tell.specs.declared.callbacks.Callback.{Callback}
use Rattle.pm_tell.specs.Callbacks.{callback_of}
use Rattle.pm_state.specs.State.{State}
use Rattle.pm_state.specs.Talk.{take_of, talked}
use Rattle.pm_tell.proofs.TellLemmas.{callback_alike, left_step, take_step}
use Rattle.pm_tell.proofs.callbacks.tell_waiting.Goals as goal

pub notes-preserved : goal.notes-preserved
notes-preserved c =
    let laws = c.takes_drain_the_slots.ensures in
    let k = c.args.k in
    let master = c.args.master in
    let start = c.args.tables.now in
    let book = c.notes.tables in
    let next = c.take_note.new.self in
    let w = c.in-Some.waiting in
    let call : Waiting → Callback = callback_of master start in
    let first : slice_get (waiting_in (notes_for k book.now.talk.notes)) 0 ≡ Some w = sym c.take_note.ensures.first ∙ c.in-Some.is in
    let is : next ≡ talked (take_of k w ∷ []) book = c.take_note.ensures.rest ∙ ap (λ o. talked (map (take_of k) (option_to_list o)) book) c.in-Some.is in
    let left = left_step laws k book next w c.take_note.ensures.order first is in
    let rest = waiting_in (notes_for k next.now.talk.notes) in
    let fixed : next.fixed ≡ start.fixed = ap (λ (b : State). b.fixed) is ∙ c.notes.invariant.fixed in
    let core : next.now.core ≡ start.now.core = ap (λ (b : State). b.now.core) is ∙ c.notes.invariant.core in
    let put : c.push.new.self.items ≡ c.notes.callbacks.items ++ call w ∷ [] =
    ap (λ (s : Bounded Callback). s.items) c.push.ensures
    ∙ ap (λ x. c.notes.callbacks.items ++ x ∷ []) (c.callback_of.ensures ∙ callback_alike master next start w fixed core)
    in
    record {
      fixed = fixed;
      core = core;
      room = ap (λ (s : Bounded Callback). s.room) c.push.ensures ∙ c.notes.invariant.room;
      few = omega (arith, ap length left, ap length put, length-append c.notes.callbacks.items (call w ∷ []), ap (λ (s : Bounded Callback). s.room) c.push.ensures, c.notes.invariant.few);
      book = take_step laws k book next w c.take_note.ensures.order first is ∙ c.notes.invariant.book;
      callbacks = ap (λ xs. xs ++ map call rest) put
          ∙ (append_assoc c.notes.callbacks.items (call w ∷ []) (map call rest)
          ∙ (ap (λ ws. c.notes.callbacks.items ++ map call ws) (sym left) ∙ c.notes.invariant.callbacks));
    }
