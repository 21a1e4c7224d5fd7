use Rattle.std.proofs.Common.{◌≡◌, ◌++◌, [], map, append-nil, subst, sym, ◌∙◌, ap}
use Rattle.std.specs.Prelude.{flat_map}
use Rattle.pm_notify.specs.Notify.{NoneAsks, notes_for}
use Rattle.pm_tell.specs.Callbacks.{callback_of, noticed_by}
use Rattle.pm_tell.proofs.QuietLaw.{none_noticed}
use Rattle.pm_tell.proofs.callbacks.tell_notices.Goals as goal

-- no master has asked to be told of anything
pub returns-then-not-may_ask : goal.returns-then-not-may_ask
returns-then-not-may_ask c =
    let book = c.args.tables.now in
    let put = c.args.callbacks.now in
    let none : flat_map (noticed_by (notes_for c.args.k book.now.talk.notes)) c.args.notices.now ≡ [] =
    none_noticed book.now.talk.notes (subst NoneAsks c.notify.ensures (c.may_ask.ensures c.if-not-may_ask.true)) c.args.k c.args.notices.now
    in
    let kept : put.items ≡ put.items ++ map (callback_of c.args.master book) (flat_map (noticed_by (notes_for c.args.k book.now.talk.notes)) c.args.notices.now) =
    sym (append-nil put.items) ∙ ap (λ ws. put.items ++ map (callback_of c.args.master book) ws) (sym none)
    in
    record { callbacks = ap (λ items. record put { items = items }) kept }
