-- What masters are told in a step: late replies, callbacks, and notes that wait for those that are asleep.
use Rattle.std.specs.Prelude.{ℕ, ◌≡◌, ◌+◌, ◌==◌, ◌&&◌, Bool, false, List, [], ◌∷◌, ◌++◌, flat_map, length, map, Option, Some, None, if◌then◌else◌, ◌*◌}
use Rattle.pm_base.specs.declared.names.Mode.{Mode}
use Rattle.pm_base.specs.declared.names.Mode.TheVariants.{Off, Active, Asleep, Suspending}
use Rattle.pm_base.specs.declared.names.NodeId.{NodeId}
use Rattle.pm_object.specs.declared.object.MasterRec.{MasterRec}
use Rattle.pm_ipi.specs.Callbacks as ipi
use Rattle.pm_ipi.specs.declared.calls.AckKind.{AckKind}
use Rattle.pm_ipi.specs.declared.calls.AckKind.TheVariants.{No, Blocking, NonBlocking}
use Rattle.pm_notify.specs.declared.notes.NodeEvent.{NodeEvent}
use Rattle.pm_notify.specs.declared.notes.NodeEvent.TheVariants as event
use Rattle.pm_notify.specs.declared.notes.Note.{Note}
use Rattle.pm_notify.specs.declared.notes.Note.TheVariants.{Ack, Change, ZeroUsers}
use Rattle.pm_notify.specs.declared.notes.Waiting.{Waiting}
use Rattle.pm_notify.specs.MasterNotes.{MasterNotes, asks_about, waiting_in}
use Rattle.pm_notify.specs.Notes.{event_number}
use Rattle.pm_notify.specs.Notify.{notes_for}
use Rattle.pm_procs.specs.Modes.{is_awake, same_mode}
use Rattle.pm_tell.specs.declared.callbacks.Callback.{Callback}
use Rattle.pm_tell.specs.declared.late.Late.{Late}
use Rattle.pm_calls.specs.declared.verdict.Asked.{Asked}
use Rattle.pm_tell.specs.declared.ended.Ended.{Ended}
use Rattle.pm_state.specs.Members.{mode_of_master}
use Rattle.pm_state.specs.State.{State}
use Rattle.pm_state.specs.Talk.{Talk, take_of, wait_of}
use Rattle.pm_state.specs.Values.{point}
use Rattle.pm_state.specs.Nodes.{master_node}
use Rattle.pm_state.specs.Units.{unit_count}
use Rattle.pm_values.specs.Notifications.{notice_count}

-- the late reply for a request that ended, where the master that asked wants one: to that master, whatever its mode
abbrev pub late_by : AckKind → NodeId → ℕ → List Late
late_by No master status = []
late_by Blocking master status = record { master = master; status = status } ∷ []
late_by NonBlocking master status = []

abbrev pub late_of : State → Ended → List Late
late_of after ended = late_by ended.request.ack (master_node after.fixed.object.masters ended.request.by) ended.status

-- the late replies, in object order of the targets
abbrev pub late_replies : List Ended → State → List Late
late_replies ended after = flat_map (late_of after) ended

-- ---- what there is to tell

-- the notes of the master at place k in a book
abbrev pub notes_of_master : ℕ → State → MasterNotes
notes_of_master k book = notes_for k book.now.talk.notes

-- what a step has to tell: which master is asked to suspend, which requests ended, and what happened to nodes
pub record News : Type 0 where
  pub asked : Option Asked
  pub ended : List Ended
  pub notices : List Waiting

-- the acknowledgement of a request that ended, where the master that asked wants one: a note about the node of the
-- request
abbrev pub acknowledged_by : AckKind → Ended → List Waiting
acknowledged_by No ended = []
acknowledged_by Blocking ended = []
acknowledged_by NonBlocking ended = record { node = ended.request.node; note = Ack ended.status } ∷ []

-- the acknowledgement of an ended request to the master at place k, if that asked
abbrev pub acknowledged_to : ℕ → Ended → List Waiting
acknowledged_to k ended = if ended.request.by == k then acknowledged_by ended.request.ack ended else []

-- a master whose notes these are has asked to be told this of a node
abbrev pub is_wanted : MasterNotes → Waiting → Note → Bool
is_wanted notes notice (Ack status) = false
is_wanted notes notice Change = asks_about notice.node event.Change notes
is_wanted notes notice ZeroUsers = asks_about notice.node event.ZeroUsers notes

abbrev pub noticed_by : MasterNotes → Waiting → List Waiting
noticed_by notes notice = if is_wanted notes notice notice.note then notice ∷ [] else []

-- the new notes to the master at place k, whose notes these are: how its requests ended, in object order of the
-- targets, and then what happened to nodes of which it asked to be told
abbrev pub notes_to : News → ℕ → MasterNotes → List Waiting
notes_to news k notes = flat_map (acknowledged_to k) news.ended ++ flat_map (noticed_by notes) news.notices

-- nothing to tell
abbrev pub no_news : News
no_news = record { asked = None; ended = []; notices = [] }

-- nothing to tell to masters with these notes: none is asked to suspend, no request ended, and none has asked to be
-- told of what happened to nodes
pub record IsQuiet (news : News) (notes : List MasterNotes) : Type 0 where
  pub asked : news.asked ≡ None
  pub ended : news.ended ≡ []
  pub notices : (k : ℕ) → flat_map (noticed_by (notes_for k notes)) news.notices ≡ []

-- ---- the callbacks

-- INIT_SUSPEND_CB (UG1200, callback 30): a master is asked to suspend since another one requests it
abbrev pub init_suspend : NodeId → Asked → Callback
init_suspend master asked =
    record {
      master = master;
      id = ipi.init_suspend;
      args = ipi.reason_master ∷ asked.latency ∷ asked.state ∷ asked.timeout ∷ [];
    }

-- the callback that asks the master at place k
abbrev pub asks_to : ℕ → NodeId → Option Asked → List Callback
asks_to k master None = []
asks_to k master (Some asked) = if asked.target == k then init_suspend master asked ∷ [] else []

-- ACKNOWLEDGE_CB (UG1200, callback 31): the node, the status, and the operating point of the node
abbrev pub acknowledgement : NodeId → NodeId → ℕ → ℕ → Callback
acknowledgement master node status now =
    record { master = master; id = ipi.acknowledge; args = node.0 ∷ status ∷ now ∷ 0 ∷ [] }

-- NOTIFY_CB (UG1200, callback 32): the node, the event, and the operating point of the node
abbrev pub notification : NodeId → NodeId → NodeEvent → ℕ → Callback
notification master node event now =
    record { master = master; id = ipi.notify; args = node.0 ∷ event_number event ∷ now ∷ 0 ∷ [] }

-- a note as a callback, with the operating point of its node
abbrev pub callback_by : NodeId → NodeId → ℕ → Note → Callback
callback_by master node now (Ack status) = acknowledgement master node status now
callback_by master node now Change = notification master node event.Change now
callback_by master node now ZeroUsers = notification master node event.ZeroUsers now

-- the callback of what waits, in the book after the step
abbrev pub callback_of : NodeId → State → Waiting → Callback
callback_of master after waiting = callback_by master waiting.node (point waiting.node after) waiting.note

-- ---- one master

-- a master that was in one mode before the step and is in another after it wakes in it: it was asleep, and is active or
-- suspending
abbrev pub wakes : (was is : Mode) → Bool
wakes was is = same_mode was Asleep && is_awake is

-- all that waits in these notes is told to a master that wakes
abbrev pub told_if : (woken : Bool) → MasterNotes → List Waiting
told_if woken notes = if woken then waiting_in notes else []

abbrev pub told_at_wake : (was is : Mode) → MasterNotes → List Waiting
told_at_wake was is notes = told_if (wakes was is) notes

-- what the master at place k is told, whose notes these are: what waited, that it is asked to suspend, and the notes
-- to it
abbrev pub told_to : News → ℕ → NodeId → (was is : Mode) → MasterNotes → State → List Callback
told_to news k master was is notes after =
    map (callback_of master after) (told_at_wake was is notes)
    ++ (asks_to k master news.asked ++ map (callback_of master after) (notes_to news k notes))

-- only a master that is active or suspending after the step is told
abbrev pub called_back : News → ℕ → NodeId → (was is : Mode) → MasterNotes → State → List Callback
called_back news k master was is notes after = if is_awake is then told_to news k master was is notes after else []

-- what this does to its notes: what waited is taken out by a master that wakes, the notes to one that is asleep wait,
-- and those to one that is off are lost
abbrev pub note_changes_at : News → ℕ → (was is : Mode) → MasterNotes → List Talk
note_changes_at news k was Off notes = []
note_changes_at news k was Active notes = map (take_of k) (told_at_wake was Active notes)
note_changes_at news k was Asleep notes = map (wait_of k) (notes_to news k notes)
note_changes_at news k was Suspending notes = map (take_of k) (told_at_wake was Suspending notes)

-- ---- all masters

-- the callbacks to these masters, in object order, by the modes before the step and by their notes; the first of them
-- has place k
abbrev pub callbacks_from : News → (ℕ → Mode) → List MasterNotes → State → ℕ → List MasterRec → List Callback
callbacks_from news was notes after k [] = []
callbacks_from news was notes after k (master ∷ masters) =
    called_back news k (record { 0 = master.node }) (was k) (mode_of_master after.fixed after.now.core k)
    (notes_for k notes) after
    ++ callbacks_from news was notes after (k + 1) masters

-- what becomes of their notes
abbrev pub note_changes_from : News → (ℕ → Mode) → List MasterNotes → State → ℕ → List MasterRec → List Talk
note_changes_from news was notes after k [] = []
note_changes_from news was notes after k (master ∷ masters) =
    note_changes_at news k (was k) (mode_of_master after.fixed after.now.core k) (notes_for k notes)
    ++ note_changes_from news was notes after (k + 1) masters

-- the callbacks of a step, by the modes of the masters before it, by the notes that they find, and by the book after it
abbrev pub callbacks : News → (ℕ → Mode) → List MasterNotes → State → List Callback
callbacks news was notes after = callbacks_from news was notes after 0 after.fixed.object.masters

-- what becomes of those notes
abbrev pub note_changes : News → (ℕ → Mode) → List MasterNotes → State → List Talk
note_changes news was notes after = note_changes_from news was notes after 0 after.fixed.object.masters

-- how many callbacks one master gets in a step at most: what waits about each unit, in three slots; that it is asked
-- to suspend; how each request ended; and what happened to each node
abbrev pub callbacks_to_one : (units masters : ℕ) → ℕ
callbacks_to_one units masters = 3 * units + (1 + (masters + notice_count units))

-- how many callbacks a step makes at most
abbrev pub callback_count : (units masters : ℕ) → ℕ
callback_count units masters = masters * callbacks_to_one units masters

-- how many callbacks a step of this book makes at most
abbrev pub callbacks_at_most : State → ℕ
callbacks_at_most book = callback_count (unit_count book.fixed.topology) (length book.fixed.object.masters)
