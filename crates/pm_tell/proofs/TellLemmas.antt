-- What each master is told, and how much that is.
use Rattle.std.proofs.Common.{◌≡◌, ℕ, ◌+◌, ◌*◌, ◌<◌, ◌≤◌, ◌==◌, Bool, true, false, if◌then◌else◌, List, [], ◌∷◌, ◌++◌, length, length-append, drop, slice_get, map, Option, Some, None, refl, sym, ◌∙◌, ap, subst, arith, append_assoc, zero, suc}
use Rattle.std.specs.Prelude.{flat_map}
use Rattle.std.specs.Option.{option_map_or}
use Rattle.std.proofs.lemmas.List.{length-map}
use Rattle.pm_base.proofs.ListLemmas.{drop_found}
use Rattle.pm_base.specs.BoundedList.{Bounded}
use Rattle.pm_base.specs.declared.names.Mode.{Mode}
use Rattle.pm_base.specs.declared.names.NodeId.{NodeId}
use Rattle.pm_ipi.specs.Calls.{ack_of, node_of}
use Rattle.pm_ipi.specs.declared.calls.AckKind.{AckKind}
use Rattle.pm_ipi.specs.declared.calls.AckKind.TheVariants.{No, Blocking, NonBlocking}
use Rattle.pm_notify.specs.declared.notes.Waiting.{Waiting}
use Rattle.pm_notify.specs.Laws.{TakeLaws}
use Rattle.pm_notify.specs.MasterNotes.{MasterNotes, waiting_in}
use Rattle.pm_notify.specs.Notify.{IsInOrder, dropped, notes_for, taken_out, waiting_for}
use Rattle.pm_object.specs.declared.object.MasterRec.{MasterRec}
use Rattle.pm_procs.specs.Modes.{is_awake}
use Rattle.pm_values.specs.declared.caches.Caches.{Caches}
use Rattle.pm_tell.specs.declared.ended.Ended.{Ended}
use Rattle.pm_calls.specs.declared.verdict.Asked.{Asked}
use Rattle.pm_tell.specs.declared.callbacks.Callback.{Callback}
use Rattle.pm_tell.specs.declared.served.Served.{Served}
use Rattle.pm_values.specs.Caches.{AreKept}
use Rattle.pm_tell.specs.Callbacks.{News, acknowledged_by, acknowledged_to, asks_to, callback_of, callbacks_from, called_back, init_suspend, is_wanted, note_changes_at, note_changes_from, noticed_by, notes_to, told_at_wake, told_if, told_to, wakes}
use Rattle.pm_state.specs.Members.{mode_of_master}
use Rattle.pm_state.specs.State.{CoreHalf, Fixed, State}
use Rattle.pm_tell.specs.Served.{kept_at, kept_of, own_note}
use Rattle.pm_state.specs.Talk.{Talk, take_of, talked}
use Rattle.pm_state.specs.Values.{master_place}
use Rattle.pm_calls.specs.Verdict.{response_of}
use Rattle.pm_state.specs.Nodes.{master_node}
use Rattle.pm_tell.proofs.TalkLemmas.{talked_append}

-- ---- what waits is told

none_first : {X : Type 0} (xs : List X) → slice_get xs 0 ≡ None → xs ≡ []
none_first [] is = refl
none_first (x ∷ xs) is = cc

pub none_waits : (k : ℕ) (notes : List MasterNotes) → slice_get (waiting_in (notes_for k notes)) 0 ≡ None → waiting_in (notes_for k notes) ≡ []
none_waits k notes is = none_first (waiting_in (notes_for k notes)) is

pub take_first : TakeLaws → (k : ℕ) (notes : List MasterNotes) (w : Waiting) → IsInOrder k notes → slice_get (waiting_in (notes_for k notes)) 0 ≡ Some w
    → waiting_in (notes_for k notes) ≡ w ∷ waiting_in (notes_for k (dropped k w.node w.note notes))
take_first laws k notes w order first =
    let rest : waiting_for k (dropped k w.node w.note notes) ≡ drop 1 (waiting_for k notes) =
    ap (λ o. waiting_for k (taken_out k o notes)) (sym first) ∙ laws.next k notes order
    in
    drop_found (waiting_in (notes_for k notes)) 0 w first ∙ ap (λ ws. w ∷ ws) (sym rest)

-- one note is taken out, and those that are left
pub take_step : TakeLaws → (k : ℕ) (book next : State) (w : Waiting) → IsInOrder k book.now.talk.notes → slice_get (waiting_in (notes_for k book.now.talk.notes)) 0 ≡ Some w → next ≡ talked (take_of k w ∷ []) book
    → talked (map (take_of k) (waiting_in (notes_for k next.now.talk.notes))) next ≡ talked (map (take_of k) (waiting_in (notes_for k book.now.talk.notes))) book
take_step laws k book next w order first is =
    ap (λ (b : State). talked (map (take_of k) (waiting_in (notes_for k b.now.talk.notes))) b) is
    ∙ ap (λ ws. talked (map (take_of k) ws) book) (sym (take_first laws k book.now.talk.notes w order first))

pub left_step : TakeLaws → (k : ℕ) (book next : State) (w : Waiting) → IsInOrder k book.now.talk.notes → slice_get (waiting_in (notes_for k book.now.talk.notes)) 0 ≡ Some w → next ≡ talked (take_of k w ∷ []) book
    → waiting_in (notes_for k book.now.talk.notes) ≡ w ∷ waiting_in (notes_for k next.now.talk.notes)
left_step laws k book next w order first is =
    take_first laws k book.now.talk.notes w order first ∙ ap (λ (b : State). w ∷ waiting_in (notes_for k b.now.talk.notes)) (sym is)

-- ---- what is kept of the values

pub kept_same : (a b : State) (caches : Caches) → a.fixed ≡ b.fixed → a.now.core ≡ b.now.core → AreKept b caches → AreKept a caches
kept_same a b caches fixed core kept =
    let with : Fixed → CoreHalf → State = λ f c. record b { fixed = f; now = record b.now { core = c } } in
    let P : Fixed → Type 0 = λ f. AreKept (with f b.now.core) caches in
    let Q : CoreHalf → Type 0 = λ c. AreKept (with a.fixed c) caches in
    let given : AreKept (with a.fixed a.now.core) caches = subst Q (sym core) (subst P (sym fixed) kept) in
    record {
      kinds = given.kinds;
      states = given.states;
      needs = given.needs;
      runs = given.runs;
      used = given.used;
      power = given.power;
      values = given.values;
    }

-- the mode of a master follows from what is fixed and from the core half
pub mode_same : (a b : State) (k : ℕ) → a.fixed ≡ b.fixed → a.now.core ≡ b.now.core → mode_of_master a.fixed a.now.core k ≡ mode_of_master b.fixed b.now.core k
mode_same a b k fixed core =
    ap (λ (f : Fixed). mode_of_master f a.now.core k) fixed ∙ ap (λ (c : CoreHalf). mode_of_master b.fixed c k) core

-- and so does what it is told
pub called_same : (news : News) (k : ℕ) (master : NodeId) (was is : Mode) (notes : MasterNotes) (a b : State) → a.fixed ≡ b.fixed → a.now.core ≡ b.now.core → called_back news k master was is notes a ≡ called_back news k master was is notes b
called_same news k master was is notes a b fixed core =
    let with : Fixed → CoreHalf → State = λ f c. record b { fixed = f; now = record b.now { core = c } } in
    ap (λ (f : Fixed). called_back news k master was is notes (with f a.now.core)) fixed
    ∙ ap (λ (c : CoreHalf). called_back news k master was is notes (with b.fixed c)) core

-- ---- master by master

pub note_changes_step : (news : News) (was : ℕ → Mode) (notes : List MasterNotes) (after book next : State) (k : ℕ) (x : MasterRec) (masters : List MasterRec) → slice_get masters k ≡ Some x → next ≡ talked (note_changes_at news k (was k) (mode_of_master after.fixed after.now.core k) (notes_for k notes)) book
    → talked (note_changes_from news was notes after (k + 1) (drop (k + 1) masters)) next ≡ talked (note_changes_from news was notes after k (drop k masters)) book
note_changes_step news was notes after book next k x masters at is =
    let here = note_changes_at news k (was k) (mode_of_master after.fixed after.now.core k) (notes_for k notes) in
    let rest = note_changes_from news was notes after (k + 1) (drop (k + 1) masters) in
    ap (talked rest) is
    ∙ (sym (talked_append here rest book)
    ∙ ap (λ xs. talked (note_changes_from news was notes after k xs) book) (sym (drop_found masters k x at)))

pub node_found : (masters : List MasterRec) (k : ℕ) (x : MasterRec) → slice_get masters k ≡ Some x → master_node masters k ≡ record { 0 = x.node }
node_found masters k x at = ap (λ o. option_map_or (λ (master : MasterRec). record { 0 = master.node }) o (record { 0 = 0 })) at

pub callbacks_step : (news : News) (was : ℕ → Mode) (notes : List MasterNotes) (after : State) (k : ℕ) (x : MasterRec) (masters : List MasterRec) (items new whole : List Callback) → slice_get masters k ≡ Some x
    → new ≡ items ++ called_back news k (master_node masters k) (was k) (mode_of_master after.fixed after.now.core k) (notes_for k notes) after
    → items ++ callbacks_from news was notes after k (drop k masters) ≡ whole
    → new ++ callbacks_from news was notes after (k + 1) (drop (k + 1) masters) ≡ whole
callbacks_step news was notes after k x masters items new whole at is before =
    let is_mode = mode_of_master after.fixed after.now.core k in
    let here = called_back news k (record { 0 = x.node }) (was k) is_mode (notes_for k notes) after in
    let rest = callbacks_from news was notes after (k + 1) (drop (k + 1) masters) in
    ap (λ xs. xs ++ rest) (is ∙ ap (λ n. items ++ called_back news k n (was k) is_mode (notes_for k notes) after) (node_found masters k x at))
    ∙ (append_assoc items here rest
    ∙ (ap (λ xs. items ++ callbacks_from news was notes after k xs) (sym (drop_found masters k x at)) ∙ before))

-- ---- how much one master is told at most

few_if : {X : Type 0} (b : Bool) (x : X) → length (if b then x ∷ [] else []) ≤ 1
few_if true x = omega arith
few_if false x = omega arith

few_by : (ack : AckKind) (ended : Ended) → length (acknowledged_by ack ended) ≤ 1
few_by No ended = omega arith
few_by Blocking ended = omega arith
few_by NonBlocking ended = omega arith

few_to : (mine : Bool) (ended : Ended) → length (if mine then acknowledged_by ended.request.ack ended else []) ≤ 1
few_to true ended = few_by ended.request.ack ended
few_to false ended = omega arith

few_flat : {X Y : Type 0} (parts : X → List Y) → ((x : X) → length (parts x) ≤ 1) → (xs : List X) → length (flat_map parts xs) ≤ length xs
few_flat parts each [] = omega arith
few_flat parts each (x ∷ xs) =
    let later : length (flat_map parts xs) ≤ length xs = few_flat parts each xs in
    omega (arith, later, each x, length-append (parts x) (flat_map parts xs))

few_notes : (news : News) (k : ℕ) (notes : MasterNotes) → length (notes_to news k notes) ≤ length news.ended + length news.notices
few_notes news k notes =
    let acks = few_flat (acknowledged_to k) (λ e. few_to (e.request.by == k) e) news.ended in
    let notices = few_flat (noticed_by notes) (λ n. few_if (is_wanted notes n n.note) n) news.notices in
    omega (arith, acks, notices, length-append (flat_map (acknowledged_to k) news.ended) (flat_map (noticed_by notes) news.notices))

few_asks : (k : ℕ) (master : NodeId) (asked : Option Asked) → length (asks_to k master asked) ≤ 1
few_asks k master None = omega arith
few_asks k master (Some asked) = few_if (asked.target == k) (init_suspend master asked)

pub few_if_woken : (woken : Bool) (notes : MasterNotes) → length (told_if woken notes) ≤ length (waiting_in notes)
few_if_woken true notes = omega arith
few_if_woken false notes = omega arith

few_told : (news : News) (k : ℕ) (master : NodeId) (was is : Mode) (notes : MasterNotes) (after : State) → length (told_to news k master was is notes after) ≤ length (waiting_in notes) + (1 + (length news.ended + length news.notices))
few_told news k master was is notes after =
    let late = map (callback_of master after) (told_at_wake was is notes) in
    let asked = asks_to k master news.asked in
    let due = map (callback_of master after) (notes_to news k notes) in
    omega (
      arith,
      length-append late (asked ++ due),
      length-append asked due,
      length-map (told_at_wake was is notes) (callback_of master after),
      length-map (notes_to news k notes) (callback_of master after),
      few_if_woken (wakes was is) notes,
      few_asks k master news.asked,
      few_notes news k notes,
    )

few_called_if : (awake : Bool) (told : List Callback) → length (if awake then told else []) ≤ length told
few_called_if true told = omega arith
few_called_if false told = omega arith

pub few_called : (news : News) (k : ℕ) (master : NodeId) (was is : Mode) (notes : MasterNotes) (after : State) → length (called_back news k master was is notes after) ≤ length (waiting_in notes) + (1 + (length news.ended + length news.notices))
few_called news k master was is notes after =
    let some = few_called_if (is_awake is) (told_to news k master was is notes after) in
    let few = few_told news k master was is notes after in
    omega (arith, some, few)

-- one master's part, and those of the masters before it, are no more than all
pub part_fits : (k n c : ℕ) → k < n → k * c + c ≤ n * c
part_fits k zero c below = omega (arith, below)
part_fits zero (suc n) c below = omega arith
part_fits (suc k) (suc n) c below = let rest : k * c + c ≤ n * c = part_fits k n c (omega (arith, below)) in omega (arith, rest)

-- ---- what is told before doesn't change what is told after it but by the notes

pub note_changes_told : (news : News) (was : ℕ → Mode) (notes : List MasterNotes) (changes : List Talk) (book : State) (k : ℕ) (masters : List MasterRec) → note_changes_from news was notes (talked changes book) k masters ≡ note_changes_from news was notes book k masters
note_changes_told news was notes changes book k [] = refl
note_changes_told news was notes changes book k (x ∷ masters) =
    ap (λ later. note_changes_at news k (was k) (mode_of_master book.fixed book.now.core k) (notes_for k notes) ++ later) (note_changes_told news was notes changes book (k + 1) masters)

pub callbacks_same : (master : NodeId) (changes : List Talk) (book : State) (due : List Waiting) → map (callback_of master (talked changes book)) due ≡ map (callback_of master book) due
callbacks_same master changes book [] = refl
callbacks_same master changes book (w ∷ due) = ap (λ later. callback_of master book w ∷ later) (callbacks_same master changes book due)

pub callbacks_told : (news : News) (was : ℕ → Mode) (notes : List MasterNotes) (changes : List Talk) (book : State) (k : ℕ) (masters : List MasterRec) → callbacks_from news was notes (talked changes book) k masters ≡ callbacks_from news was notes book k masters
callbacks_told news was notes changes book k [] = refl
callbacks_told news was notes changes book k (x ∷ masters) =
    let node : NodeId = record { 0 = x.node } in
    let is = mode_of_master book.fixed book.now.core k in
    ap (λ here. here ++ callbacks_from news was notes (talked changes book) (k + 1) masters) (called_same news k node (was k) is (notes_for k notes) (talked changes book) book refl refl)
    ∙ ap (λ later. called_back news k node (was k) is (notes_for k notes) book ++ later) (callbacks_told news was notes changes book (k + 1) masters)

kept_at_told : (place : Option ℕ) (due : List Waiting) (changes : List Talk) (book : State) → kept_at place due (talked changes book) ≡ kept_at place due book
kept_at_told None due changes book = refl
kept_at_told (Some m) due changes book = refl

pub kept_told : (served : Option Served) (changes : List Talk) (book : State) → kept_of served (talked changes book) ≡ kept_of served book
kept_told None changes book = refl
kept_told (Some served) changes book =
    kept_at_told (master_place served.master book) (own_note (response_of served.verdict) (ack_of served.call) (node_of served.call)) changes book

-- the callbacks grow by no more than what waits
pub length-callbacks : (woken : Bool) (notes : MasterNotes) (call : Waiting → Callback) (items new : List Callback) → new ≡ items ++ map call (told_if woken notes) → length new ≤ length items + length (waiting_in notes)
length-callbacks woken notes call items new is =
    let few = few_if_woken woken notes in
    omega (arith, few, ap length is, length-append items (map call (told_if woken notes)), length-map (told_if woken notes) call)

-- what is put in by three functions
pub three_put : (before first second third : Bounded Callback) (a b c whole : List Callback) → first ≡ record before { items = before.items ++ a } → second ≡ record first { items = first.items ++ b } → third ≡ record second { items = second.items ++ c } → whole ≡ b ++ c
    → third ≡ record before { items = before.items ++ (a ++ whole) }
three_put before first second third a b c whole one two three is =
    three
    ∙ (ap (λ (s : Bounded Callback). record s { items = s.items ++ c }) two
    ∙ (ap (λ (s : Bounded Callback). record s { items = (s.items ++ b) ++ c }) one
    ∙ (ap (λ xs. record before { items = xs }) (append_assoc (before.items ++ a) b c ∙ append_assoc before.items a (b ++ c))
    ∙ ap (λ xs. record before { items = before.items ++ (a ++ xs) }) (sym is))))

-- a callback follows from what is fixed and from the core half
pub callback_alike : (master : NodeId) (a b : State) (w : Waiting) → a.fixed ≡ b.fixed → a.now.core ≡ b.now.core → callback_of master a w ≡ callback_of master b w
callback_alike master a b w fixed core =
    let with : Fixed → CoreHalf → State = λ f c. record b { fixed = f; now = record b.now { core = c } } in
    ap (λ (f : Fixed). callback_of master (with f a.now.core) w) fixed ∙ ap (λ (c : CoreHalf). callback_of master (with b.fixed c) w) core
