use Rattle.std.proofs.Common.{◌≡◌, ◌<◌, ◌≤◌, ◌+◌, ◌*◌, ◌++◌, ℕ, [], length, length-append, append-nil, refl, sym, ◌∙◌, ap, arith, inl, inr}
use Rattle.std.proofs.lemmas.List.{length-map}
use Rattle.std.proofs.lemmas.Option.{slice_get_cases}
use Rattle.pm_base.specs.BoundedList.{Bounded}
use Rattle.pm_object.specs.declared.object.Object.{Object}
use Rattle.pm_notify.specs.Laws.{TakeLaws}
use Rattle.pm_notify.specs.MasterNotes.{MasterNotes, waiting_in}
use Rattle.pm_notify.specs.Notify.{notes_for}
use Rattle.pm_topology.specs.Units.{UnitLaws}
use Rattle.pm_tell.specs.declared.callbacks.Callback.{Callback}
use Rattle.pm_tell.specs.Callbacks.{called_back, callbacks, note_changes, note_changes_at, callbacks_to_one}
use Rattle.pm_state.specs.Members.{mode_of_master}
use Rattle.pm_state.specs.Units.{unit_count}
use Rattle.pm_state.specs.Sound.{HasNotes}
use Rattle.pm_state.specs.State.{Fixed, State}
use Rattle.pm_state.specs.Talk.{talked}
use Rattle.pm_values.specs.Along.{mode_logged}
use Rattle.pm_tell.specs.Telling.{news_in}
use Rattle.pm_state.specs.Nodes.{master_node}
use Rattle.pm_tell.proofs.OtherNotesLaw.{changes_leave_others}
use Rattle.pm_tell.proofs.QuietLaw.{no_calls, no_changes}
use Rattle.pm_tell.proofs.TellLemmas.{called_same, callbacks_step, few_called, note_changes_step, mode_same, part_fits}
use Rattle.pm_tell.proofs.callbacks.tell_masters.Goals as goal

-- what waits for one master is no more than three notes about each unit
waits_few : TakeLaws → UnitLaws → (start : State) (now : MasterNotes) (k : ℕ) → k < length start.fixed.object.masters → HasNotes start → now ≡ notes_for k start.now.talk.notes
    → length (waiting_in now) ≤ 3 * unit_count start.fixed.topology
waits_few takes laws start now k within has here =
    let units = ap length (has.units k within) in
    let few = takes.few k start.now.talk.notes in
    let count = laws.few start.fixed.topology in
    omega (arith, ap (λ (m : MasterNotes). length (waiting_in m)) here, units, few, count, length-map (notes_for k start.now.talk.notes) (λ e. e.0))

-- no master wakes, and there is nothing else to tell
pub returns-then-not-one_wakes-clause-book : goal.returns-then-not-one_wakes-clause-book
returns-then-not-one_wakes-clause-book c =
    let book = c.args.tables.now in
    let telling = c.args.telling.now in
    let was = mode_logged telling.modes.items in
    let none : note_changes (news_in telling) was book.now.talk.notes book ≡ [] =
    no_changes (news_in telling) book.now.talk.notes (c.has_no_news.ensures c.if-has_no_news.true) was book (c.one_wakes.ensures c.if-not-one_wakes.true)
    in
    ap (λ changes. talked changes book) (sym none)

pub returns-then-not-one_wakes-clause-callbacks : goal.returns-then-not-one_wakes-clause-callbacks
returns-then-not-one_wakes-clause-callbacks c =
    let book = c.args.tables.now in
    let telling = c.args.telling.now in
    let was = mode_logged telling.modes.items in
    let put = c.args.callbacks.now in
    let none : callbacks (news_in telling) was book.now.talk.notes book ≡ [] =
    no_calls (news_in telling) book.now.talk.notes (c.has_no_news.ensures c.if-has_no_news.true) was book (c.one_wakes.ensures c.if-not-one_wakes.true)
    in
    ap (λ items. record put { items = items }) (sym (append-nil put.items) ∙ ap (λ calls. put.items ++ calls) (sym none))

pub tell_master-requires-clause-room : goal.tell_master-requires-clause-room
tell_master-requires-clause-room c =
    let start = c.args.tables.now in
    let k = c.loop-k.k in
    let one = callbacks_to_one (unit_count start.fixed.topology) (length start.fixed.object.masters) in
    let within : k < length start.fixed.object.masters = omega (arith, c.masters-k-end.ensures, c.loop-k-test.true) in
    let here : notes_for k c.loop-k.tables.now.talk.notes ≡ notes_for k start.now.talk.notes = c.loop-k.invariant.others k (omega arith) in
    let few = waits_few c.takes_drain_the_slots.ensures c.units_stand_in_order.ensures start (notes_for k c.loop-k.tables.now.talk.notes) k within c.requires.notes here in
    let fits : k * one + one ≤ length start.fixed.object.masters * one = part_fits k (length start.fixed.object.masters) one within in
    let room : length c.loop-k.callbacks.items + (length (waiting_in (notes_for k c.loop-k.tables.now.talk.notes)) + (1 + (length c.args.telling.now.ended.items + length c.args.telling.now.notices.items))) ≤ c.loop-k.callbacks.room =
    omega (arith, few, fits, c.loop-k.invariant.room, c.loop-k.invariant.few, c.requires.ended, c.requires.notices, c.requires.room)
    in
    room

pub loop-k-preserved : goal.loop-k-preserved
loop-k-preserved c =
    let start = c.args.tables.now in
    let masters = start.fixed.object.masters in
    let notes = start.now.talk.notes in
    let news = news_in c.args.telling.now in
    let was = mode_logged c.args.telling.now.modes.items in
    let k = c.loop-k.k in
    let book = c.loop-k.tables in
    let next = c.tell_master.new.tables in
    let fixed = c.loop-k.invariant.fixed in
    let core = c.loop-k.invariant.core in
    let here : notes_for k book.now.talk.notes ≡ notes_for k notes = c.loop-k.invariant.others k (omega arith) in
    let mode : mode_of_master book.fixed book.now.core k ≡ mode_of_master start.fixed start.now.core k = mode_same book start k fixed core in
    let mode_is = mode_of_master start.fixed start.now.core k in
    let told : next ≡ talked (note_changes_at news k (was k) mode_is (notes_for k notes)) book =
    c.tell_master.ensures.book
    ∙ (ap (λ m. talked (note_changes_at news k (was k) m (notes_for k book.now.talk.notes)) book) mode
    ∙ ap (λ m. talked (note_changes_at news k (was k) mode_is m) book) here)
    in
    let master : c.master_node-master.result ≡ master_node masters k =
    c.master_node-master.ensures
    ∙ (ap (λ ms. master_node ms k) (c.as_slice.ensures ∙ ap (λ (o : Object). o.masters) c.object.ensures)
    ∙ ap (λ (f : Fixed). master_node f.object.masters k) fixed)
    in
    let called : c.tell_master.new.callbacks.items ≡ c.loop-k.callbacks.items ++ called_back news k (master_node masters k) (was k) mode_is (notes_for k notes) start =
    ap (λ (s : Bounded Callback). s.items) c.tell_master.ensures.callbacks
    ∙ (ap (λ m. c.loop-k.callbacks.items ++ called_back news k c.master_node-master.result (was k) m (notes_for k book.now.talk.notes) book) mode
    ∙ (ap (λ m. c.loop-k.callbacks.items ++ called_back news k c.master_node-master.result (was k) mode_is m book) here
    ∙ (ap (λ cs. c.loop-k.callbacks.items ++ cs) (called_same news k c.master_node-master.result (was k) mode_is (notes_for k notes) book start fixed core)
    ∙ ap (λ n. c.loop-k.callbacks.items ++ called_back news k n (was k) mode_is (notes_for k notes) start) master)))
    in
    let within : k < length masters = omega (arith, c.masters-k-end.ensures, c.loop-k-test.true) in
    let waits = waits_few c.takes_drain_the_slots.ensures c.units_stand_in_order.ensures start (notes_for k notes) k within c.requires.notes refl in
    let few = few_called news k (master_node masters k) (was k) mode_is (notes_for k notes) start in
    let counted = ap length called ∙ length-append c.loop-k.callbacks.items (called_back news k (master_node masters k) (was k) mode_is (notes_for k notes) start) in
    elim ((slice_get_cases masters k).1) [
      | inl found ↦ record {
        fixed = ap (λ (b : State). b.fixed) told ∙ fixed;
        core = ap (λ (b : State). b.now.core) told ∙ core;
        others = λ j later.
            ap (λ (b : State). notes_for j b.now.talk.notes) told
            ∙ (changes_leave_others c.others_keep_their_notes.ensures news k j (was k) mode_is (notes_for k notes) book.now.talk (λ same. omega (arith, same, later))
            ∙ c.loop-k.invariant.others j (omega (arith, later)));
        room = ap (λ (s : Bounded Callback). s.room) c.tell_master.ensures.callbacks ∙ c.loop-k.invariant.room;
        few = omega (arith, counted, few, waits, c.loop-k.invariant.few, c.requires.ended, c.requires.notices);
        book = note_changes_step news was notes start book next k found.0 masters found.2 told ∙ c.loop-k.invariant.book;
        callbacks = callbacks_step news was notes start k found.0 masters c.loop-k.callbacks.items c.tell_master.new.callbacks.items _ found.2 called c.loop-k.invariant.callbacks;
      }
      | inr past ↦ absurd (omega (arith, past.0, within))
    ]
