use Rattle.std.proofs.Common.{◌≡◌, ◌+◌, ◌++◌, ◌≤◌, length, map}
use Rattle.pm_notify.specs.MasterNotes.{waiting_in}
use Rattle.pm_notify.specs.Notify.{notes_for}
use Rattle.pm_tell.specs.Callbacks.{callback_of}
use Rattle.pm_state.specs.Talk.{take_of, talked}
use Rattle.pm_tell.proofs.callbacks.tell_waiting.Given as goal

-- the notes that wait yet make the whole with those that were told
abbrev pub invariant-notes : goal.invariant-notes
invariant-notes l = record {
  fixed : l.tables.fixed ≡ l.fn.tables.fixed;
  core : l.tables.now.core ≡ l.fn.tables.now.core;
  room : l.callbacks.room ≡ l.fn.callbacks.room;
  few : length l.callbacks.items + length (waiting_in (notes_for l.k l.tables.now.talk.notes)) ≤ l.callbacks.room;
  book : talked (map (take_of l.k) (waiting_in (notes_for l.k l.tables.now.talk.notes))) l.tables
      ≡ talked (map (take_of l.k) (waiting_in (notes_for l.k l.fn.tables.now.talk.notes))) l.fn.tables;
  callbacks : l.callbacks.items ++ map (callback_of l.master l.fn.tables) (waiting_in (notes_for l.k l.tables.now.talk.notes))
      ≡ l.fn.callbacks.items ++ map (callback_of l.master l.fn.tables) (waiting_in (notes_for l.k l.fn.tables.now.talk.notes));
}

abbrev pub decreases-notes : goal.decreases-notes
decreases-notes l = length (waiting_in (notes_for l.k l.tables.now.talk.notes))
