-- The callbacks to masters beyond a border that tell only of nodes beyond.
use Rattle.std.specs.Prelude.{Bool, not, ◌&&◌, ◌||◌, ◌==◌, List, filter, slice_index}
use Rattle.pm_ipi.specs.Callbacks.{init_suspend}
use Rattle.pm_object.specs.declared.object.Object.{Object}
use Rattle.pm_tell.specs.declared.callbacks.Callback.{Callback}
use Rattle.pm_laws.specs.Border.{Border}
use Rattle.pm_laws.specs.Hidden.{is_within}
use Rattle.pm_laws.specs.ReachBorder.{configured_place}

-- a callback is to a master beyond, and asks it to suspend or is about a node beyond, which is its first word
abbrev pub is_callback_beyond : Object → Border → Callback → Bool
is_callback_beyond object border call =
    not (is_within border (configured_place object call.master)) && ((call.id == init_suspend) || border.node (slice_index call.args 0))

-- the callbacks among these that are beyond
abbrev pub callbacks_beyond : Object → Border → List Callback → List Callback
callbacks_beyond object border calls = filter (is_callback_beyond object border) calls
