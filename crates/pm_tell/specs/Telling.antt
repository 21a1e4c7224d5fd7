-- The log of a step for telling the masters of it: their modes before it, the changes of their modes along it, and the
-- news.
use Rattle.std.specs.Prelude.{ℕ, ◌<◌, ◌≤◌, ◌≡◌, false, List, [], length, None, Option, ◌++◌}
use Rattle.pm_topology.specs.declared.topology.Topology.{Topology}
use Rattle.pm_topology.specs.Units.{units_of}
use Rattle.pm_calls.specs.declared.verdict.Say.{Say}
use Rattle.pm_calls.specs.Verdict.{aborted_by, asked_by}
use Rattle.pm_tell.specs.declared.telling.Telling.{Telling}
use Rattle.pm_values.specs.declared.turns.Turns.{Turns}
use Rattle.pm_values.specs.Along as along
use Rattle.pm_values.specs.Along.{mode_logged, modes_of, trail_from, turns_logged}
use Rattle.pm_tell.specs.Callbacks.{News, note_changes, wakes}
use Rattle.pm_values.specs.Notifications.{notice_count}
use Rattle.pm_state.specs.Members.{mode_of_master}
use Rattle.pm_state.specs.State.{State}
use Rattle.pm_state.specs.Talk.{Talk, talks}
use Rattle.pm_tell.specs.Ended.{ended_from}
use Rattle.pm_tell.specs.Opening.{forgets_from, talk_of}
use Rattle.pm_base.specs.declared.names.Mode.{Mode}
use Rattle.pm_notify.specs.MasterNotes.{MasterNotes}
use Rattle.pm_tell.specs.declared.served.Served.{Served}
use Rattle.pm_tell.specs.Served.{kept_of}

-- what became of the mode of the master at place m along the step
abbrev pub turns_in : Telling → ℕ → Turns
turns_in telling m = turns_logged m telling.along.turns

-- the mode of the master at place m before the step
abbrev pub mode_before : Telling → ℕ → Mode
mode_before telling = mode_logged telling.modes.items

-- the log with the news of a step: the master that is asked to suspend by a message, and the requests that end in the
-- book after the stages
abbrev pub with_news : Option Say → Option ℕ → State → Telling → Telling
with_news says count after telling = record telling {
  asks = asked_by says;
  ended = record telling.ended {
    items = ended_from (turns_in telling) (aborted_by says) count 0 after.now.talk.pending;
  };
}

-- the log with no news but the events of nodes
abbrev pub without_news : Telling → Telling
without_news telling = record telling { asks = None; ended = record telling.ended { items = [] } }

-- what is logged of a step before its first stage in this book: the modes are its own, and what is logged along the step
-- begins with it
pub record IsFresh (book : State) (telling : Telling) : Type 0 where
  pub modes : telling.modes.items ≡ modes_of book
  pub along : telling.along ≡ trail_from book

-- what there is to tell
abbrev pub news_in : Telling → News
news_in telling = record { asked = telling.asks; ended = telling.ended.items; notices = telling.notices.items }

-- no master wakes from the modes before the step to those of this book
abbrev pub NoneWakes : Telling → State → Type 0
NoneWakes telling book =
    (m : ℕ) → m < length book.fixed.object.masters
    → wakes (mode_before telling m) (mode_of_master book.fixed book.now.core m) ≡ false

-- what is done before any master is told, in the book after the stages
abbrev pub opening_in : Telling → Option Say → Option ℕ → State → List Talk
opening_in telling says count after =
    talk_of says (forgets_from (turns_in telling) 0 after.fixed.object.masters) count telling.ended.items

-- room for the modes of so many masters, for what is logged of them and of the processors, for the end of a request to
-- each, and for what happens to the units of a chip
pub record HasPlaces (t : Topology) (masters : ℕ) (telling : Telling) : Type 0 where
  pub modes : length telling.modes.items ≡ masters
  pub along : along.HasPlaces masters (length t.procs) telling.along
  pub ended : masters ≤ telling.ended.room
  pub notices : notice_count (length (units_of t)) ≤ telling.notices.room

-- the notes that the masters find after what is done first
abbrev pub notes_after : List Talk → State → List MasterNotes
notes_after first book = (talks first book.now.talk).notes

-- all that is told in the book after the stages: what is done first, what telling the masters makes of their notes,
-- and last of all what is kept for the sender of a message
abbrev pub tellings : News → (ℕ → Mode) → List Talk → Option Served → State → List Talk
tellings news was first served after =
    first ++ (note_changes news was (notes_after first after) after ++ kept_of served after)
