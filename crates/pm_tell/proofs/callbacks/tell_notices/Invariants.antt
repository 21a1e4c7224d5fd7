use Rattle.std.proofs.Common.{◌≡◌, ◌+◌, ◌++◌, ◌≤◌, length, drop, flat_map, map}
use Rattle.pm_notify.specs.Notify.{notes_for}
use Rattle.pm_tell.specs.Callbacks.{callback_of, noticed_by}
use Rattle.pm_tell.proofs.callbacks.tell_notices.Given as goal

-- the notifications that are left make the whole with those that are put in
abbrev pub invariant-loop-notice : goal.invariant-loop-notice
invariant-loop-notice l = record {
  room : l.callbacks.room ≡ l.fn.callbacks.room;
  few : length l.callbacks.items ≤ length l.fn.callbacks.items + l.notice-index;
  whole : l.callbacks.items ++ map (callback_of l.master l.tables) (flat_map (noticed_by (notes_for l.k l.tables.now.talk.notes)) (drop l.notice-index l.notices))
      ≡ l.fn.callbacks.items ++ map (callback_of l.master l.tables) (flat_map (noticed_by (notes_for l.k l.tables.now.talk.notes)) l.notices);
}
