-- The changes of what the masters are told. They come after the stages of a step, and leave the core half as it is.
use Rattle.std.specs.Prelude.{ℕ, Bool, List, [], ◌∷◌}
use Rattle.pm_base.specs.declared.names.NodeId.{NodeId}
use Rattle.pm_notify.specs.declared.notes.NodeEvent.{NodeEvent}
use Rattle.pm_notify.specs.declared.notes.Note.{Note}
use Rattle.pm_notify.specs.declared.notes.Waiting.{Waiting}
use Rattle.pm_notify.specs.Notify.{all_forgotten, dropped, none_asked, noted, registered, without_notes}
use Rattle.pm_procs.specs.declared.pending.Pending.{Pending}
use Rattle.pm_procs.specs.Pending.{asked, ended, all_ended, all_lowered}
use Rattle.pm_state.specs.State.{TalkHalf, State}

pub data Talk : Type 0 where
  -- the master at place m is asked to suspend
  Ask : (m : ℕ) (request : Pending) → Talk
  -- so many units of time pass for each request
  Lower : (count : ℕ) → Talk
  -- the request to the master at place m ends
  End : (m : ℕ) → Talk
  -- the notifiers of the master at place m are gone, and so is what waits for it
  Forget : (m : ℕ) → Talk
  -- the notifier of the master at place m for an event of a node is on or off
  Notify : (m : ℕ) (node : NodeId) (event : NodeEvent) (on : Bool) → Talk
  -- a note that waited for the master at place m is taken out
  Take : (m : ℕ) (node : NodeId) (note : Note) → Talk
  -- a note waits for the master at place m
  Wait : (m : ℕ) (node : NodeId) (note : Note) → Talk
  -- no request is pending any more on any master, no master has asked to be told of anything, and nothing waits
  Renew : Talk
  -- no master has asked to be told of anything any more; what waits stays
  Unwatch : Talk

abbrev pub apply_talk : Talk → TalkHalf → TalkHalf
apply_talk (Ask m request) talk = record talk { pending = asked m request talk.pending }
apply_talk (Lower count) talk = record talk { pending = all_lowered count talk.pending }
apply_talk (End m) talk = record talk { pending = ended m talk.pending }
apply_talk (Forget m) talk = record talk { notes = without_notes m talk.notes }
apply_talk (Notify m node event on) talk = record talk { notes = registered m node event on talk.notes }
apply_talk (Take m node note) talk = record talk { notes = dropped m node note talk.notes }
apply_talk (Wait m node note) talk = record talk { notes = noted m node note talk.notes }
apply_talk Unwatch talk = record talk { notes = none_asked talk.notes }
apply_talk Renew talk = record talk { pending = all_ended talk.pending; notes = all_forgotten talk.notes }

-- one change after another
abbrev pub talks : List Talk → TalkHalf → TalkHalf
talks [] talk = talk
talks (change ∷ changes) talk = talks changes (apply_talk change talk)

-- the book after these changes
abbrev pub talked : List Talk → State → State
talked changes book = record book { now = record book.now { talk = talks changes book.now.talk } }

-- a note that waited for the master at place m was told to it
abbrev pub take_of : ℕ → Waiting → Talk
take_of m waiting = Take m waiting.node waiting.note

-- a note waits for it
abbrev pub wait_of : ℕ → Waiting → Talk
wait_of m waiting = Wait m waiting.node waiting.note
