use Rattle.std.proofs.Common.{◌++◌, map, flat_map, ◌∙◌, ap}
use Rattle.pm_notify.specs.declared.notes.Waiting.{Waiting}
use Rattle.pm_notify.specs.Notify.{notes_for}
use Rattle.pm_tell.specs.declared.callbacks.Callback.{Callback}
use Rattle.pm_tell.specs.Callbacks.{acknowledged_to, asks_to, callback_of, noticed_by}
use Rattle.pm_tell.proofs.TalkLemmas.{map_append}
use Rattle.pm_tell.proofs.TellLemmas.{three_put}
use Rattle.pm_tell.proofs.callbacks.tell_news.Goals as goal

pub returns : goal.returns
returns c =
    let k = c.args.k in
    let master = c.args.master in
    let book = c.args.tables.now in
    let telling = c.args.telling.now in
    let before = c.args.callbacks.now in
    let call : Waiting → Callback = callback_of master book in
    let acks = flat_map (acknowledged_to k) telling.ended.items in
    let notices = flat_map (noticed_by (notes_for k book.now.talk.notes)) telling.notices.items in
    three_put before c.tell_asked.new.callbacks c.tell_ended.new.callbacks c.tell_notices.new.callbacks (asks_to k master telling.asks) (map call acks) (map call notices) (map call (acks ++ notices))
    (c.tell_asked.ensures.callbacks ∙ ap (λ a. record before { items = before.items ++ asks_to k master a }) c.asks.ensures)
    (c.tell_ended.ensures.callbacks
    ∙ ap (λ es. record c.tell_asked.new.callbacks { items = c.tell_asked.new.callbacks.items ++ map call (flat_map (acknowledged_to k) es) }) c.ended.ensures)
    (c.tell_notices.ensures.callbacks
    ∙ ap (λ ns. record c.tell_ended.new.callbacks { items = c.tell_ended.new.callbacks.items ++ map call (flat_map (noticed_by (notes_for k book.now.talk.notes)) ns) }) c.notices.ensures)
    (map_append call acks notices)
