use Rattle.std.proofs.Common.{◌≡◌, ◌++◌, List, map, sym, ◌∙◌, ap, append_assoc, subst, arith}
use Rattle.pm_base.specs.BoundedList.{Bounded}
use Rattle.pm_base.specs.declared.names.Mode.TheVariants.{Asleep}
use Rattle.pm_notify.specs.Notify.{notes_for}
use Rattle.pm_procs.specs.Modes.{same_mode}
use Rattle.pm_tell.specs.declared.callbacks.Callback.{Callback}
use Rattle.pm_values.specs.Caches.{AreKept}
use Rattle.pm_tell.specs.Callbacks.{asks_to, callback_of, notes_to, told_if}
use Rattle.pm_state.specs.State.{State}
use Rattle.pm_state.specs.Talk.{take_of, talked}
use Rattle.pm_values.specs.Along.{mode_logged}
use Rattle.pm_tell.specs.Telling.{news_in}
use Rattle.pm_values.proofs.CachesLaw.{kept_talked}
use Rattle.pm_tell.proofs.OtherNotesLaw.{notes_alike, takes_ask}
use Rattle.pm_tell.proofs.TellLemmas.{callbacks_same, length-callbacks}
use Rattle.pm_tell.proofs.callbacks.tell_awake.Goals as goal

pub tell_news-requires-clause-kept : goal.tell_news-requires-clause-kept
tell_news-requires-clause-kept c =
    let P : State → Type 0 = λ b. AreKept b c.args.caches.now in
    let woken = told_if (same_mode c.mode.result Asleep) (notes_for c.args.k c.args.tables.now.now.talk.notes) in
    subst P (sym c.tell_woken.ensures.book) (kept_talked (map (take_of c.args.k) woken) c.args.tables.now c.args.caches.now c.requires.kept)

pub tell_news-requires-clause-room : goal.tell_news-requires-clause-room
tell_news-requires-clause-room c =
    let notes = notes_for c.args.k c.args.tables.now.now.talk.notes in
    let woken = same_mode c.mode.result Asleep in
    let room = ap (λ (s : Bounded Callback). s.room) c.tell_woken.ensures.callbacks in
    let items = ap (λ (s : Bounded Callback). s.items) c.tell_woken.ensures.callbacks in
    let few = length-callbacks woken notes (callback_of c.args.master c.args.tables.now) c.args.callbacks.now.items c.tell_woken.new.callbacks.items items in
    omega (arith, room, few, c.requires.room)

pub returns-clause-book : goal.returns-clause-book
returns-clause-book c =
    let notes = notes_for c.args.k c.args.tables.now.now.talk.notes in
    c.tell_woken.ensures.book ∙ ap (λ was. talked (map (take_of c.args.k) (told_if (same_mode was Asleep) notes)) c.args.tables.now) c.mode.ensures

pub returns-clause-callbacks : goal.returns-clause-callbacks
returns-clause-callbacks c =
    let k = c.args.k in
    let master = c.args.master in
    let old = c.args.tables.now in
    let news = news_in c.args.telling.now in
    let notes = notes_for k old.now.talk.notes in
    let was = mode_logged c.args.telling.now.modes.items k in
    let woken = told_if (same_mode was Asleep) notes in
    let before = c.args.callbacks.now in
    let changes = map (take_of k) woken in
    let first = map (callback_of master old) woken in
    let asked = asks_to k master c.args.telling.now.asks in
    let due = notes_to news k notes in
    let mid = c.tell_woken.new.tables in
    let book : mid ≡ talked changes old = c.tell_woken.ensures.book ∙ ap (λ w. talked (map (take_of k) (told_if (same_mode w Asleep) notes)) old) c.mode.ensures in
    let called_back : c.tell_woken.new.callbacks ≡ record before { items = before.items ++ first } =
    c.tell_woken.ensures.callbacks ∙ ap (λ w. record before { items = before.items ++ map (callback_of master old) (told_if (same_mode w Asleep) notes) }) c.mode.ensures
    in
    let told : List Callback → Bounded Callback = λ cs. record before { items = (before.items ++ first) ++ (asked ++ cs) } in
    c.tell_news.ensures
    ∙ (ap (λ (s : Bounded Callback). record s { items = s.items ++ (asked ++ map (callback_of master mid) (notes_to news k (notes_for k mid.now.talk.notes))) }) called_back
    ∙ (ap (λ (b : State). told (map (callback_of master b) (notes_to news k (notes_for k b.now.talk.notes)))) book
    ∙ (ap told (callbacks_same master changes old (notes_to news k (notes_for k (talked changes old).now.talk.notes)))
    ∙ (ap (λ ns. told (map (callback_of master old) ns)) (notes_alike news k (notes_for k (talked changes old).now.talk.notes) notes (takes_ask c.notifiers_are_kept.ensures k k woken old.now.talk))
    ∙ ap (λ cs. record before { items = cs }) (append_assoc before.items first (asked ++ map (callback_of master old) due))))))
