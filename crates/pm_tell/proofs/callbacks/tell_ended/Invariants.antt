use Rattle.std.proofs.Common.{◌≡◌, ◌+◌, ◌++◌, ◌≤◌, length, drop, flat_map, map}
use Rattle.pm_tell.specs.Callbacks.{acknowledged_to, callback_of}
use Rattle.pm_tell.proofs.callbacks.tell_ended.Given as goal

-- the acknowledgements that are left make the whole with those that are put in
abbrev pub invariant-loop-end : goal.invariant-loop-end
invariant-loop-end l = record {
  room : l.callbacks.room ≡ l.fn.callbacks.room;
  few : length l.callbacks.items ≤ length l.fn.callbacks.items + l.end-index;
  whole : l.callbacks.items ++ map (callback_of l.master l.tables) (flat_map (acknowledged_to l.k) (drop l.end-index l.ended))
      ≡ l.fn.callbacks.items ++ map (callback_of l.master l.tables) (flat_map (acknowledged_to l.k) l.ended);
}
