use Rattle.std.proofs.Common.{◌≡◌, ℕ, ◌+◌, ◌*◌, ◌++◌, ◌≤◌, length, drop}
use Rattle.pm_notify.specs.Notify.{notes_for}
use Rattle.pm_tell.specs.Callbacks.{callbacks, callbacks_from, note_changes, note_changes_from, callbacks_to_one}
use Rattle.pm_state.specs.Units.{unit_count}
use Rattle.pm_state.specs.Talk.{talked}
use Rattle.pm_values.specs.Along.{mode_logged}
use Rattle.pm_tell.specs.Telling.{news_in}
use Rattle.pm_tell.proofs.callbacks.tell_masters.Given as goal

-- what the masters that are left are told makes the whole with what was told, and their notes are as they were found
abbrev pub invariant-loop-k : goal.invariant-loop-k
invariant-loop-k l = record {
  fixed : l.tables.fixed ≡ l.fn.tables.fixed;
  core : l.tables.now.core ≡ l.fn.tables.now.core;
  others : (j : ℕ) → l.k ≤ j → notes_for j l.tables.now.talk.notes ≡ notes_for j l.fn.tables.now.talk.notes;
  room : l.callbacks.room ≡ l.fn.callbacks.room;
  few : length l.callbacks.items ≤ length l.fn.callbacks.items + l.k * callbacks_to_one (unit_count l.fn.tables.fixed.topology) (length l.fn.tables.fixed.object.masters);
  book : talked (note_changes_from (news_in l.telling) (mode_logged l.telling.modes.items) l.fn.tables.now.talk.notes l.fn.tables l.k (drop l.k l.fn.tables.fixed.object.masters)) l.tables
      ≡ talked (note_changes (news_in l.telling) (mode_logged l.telling.modes.items) l.fn.tables.now.talk.notes l.fn.tables) l.fn.tables;
  callbacks : l.callbacks.items ++ callbacks_from (news_in l.telling) (mode_logged l.telling.modes.items) l.fn.tables.now.talk.notes l.fn.tables l.k (drop l.k l.fn.tables.fixed.object.masters)
      ≡ l.fn.callbacks.items ++ callbacks (news_in l.telling) (mode_logged l.telling.modes.items) l.fn.tables.now.talk.notes l.fn.tables;
}
