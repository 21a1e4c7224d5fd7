-- The visible part of what masters are told, and of the requests to suspend that are made and that end.
use Rattle.std.specs.Prelude.{◌≡◌, Bool, ◌&&◌, List, [], filter, Option, Some, None, if◌then◌else◌}
use Rattle.pm_notify.specs.declared.notes.Waiting.{Waiting}
use Rattle.pm_tell.specs.declared.ended.Ended.{Ended}
use Rattle.pm_calls.specs.declared.verdict.Asked.{Asked}
use Rattle.pm_state.specs.Talk.{Talk, Ask, Lower, End, Forget, Notify, Take, Wait, Renew, Unwatch}
use Rattle.pm_laws.specs.Border.{Border}

-- a request and its end are seen if the asked master is beyond. A tick, a restart of everything and another object in
-- force are seen if some master is beyond. The notifiers of a master are seen if it is beyond, and a note of it that
-- waits or is taken out if the node is beyond too
abbrev pub seen_talk : Border → Talk → Bool
seen_talk border (Ask m request) = border.master m
seen_talk border (Lower count) = border.some
seen_talk border (End m) = border.master m
seen_talk border (Forget m) = border.master m
seen_talk border (Notify m node event on) = border.master m
seen_talk border (Take m node note) = border.master m && border.node node.0
seen_talk border (Wait m node note) = border.master m && border.node node.0
seen_talk border Renew = border.some
seen_talk border Unwatch = border.some

-- the changes among these that are seen
abbrev pub talk_part : Border → List Talk → List Talk
talk_part border changes = filter (seen_talk border) changes

-- none of these changes is seen
abbrev pub IsTalkUnseen : Border → List Talk → Type 0
IsTalkUnseen border changes = talk_part border changes ≡ []

-- the request, if it is to a master beyond
abbrev pub asks_beyond : Border → Option Asked → Option Asked
asks_beyond border None = None
asks_beyond border (Some asked) = if border.master asked.target then Some asked else None

-- a note is about a node beyond
abbrev pub is_about_beyond : Border → Waiting → Bool
is_about_beyond border waiting = border.node waiting.node.0

-- the notes among these that are about nodes beyond
abbrev pub notes_beyond : Border → List Waiting → List Waiting
notes_beyond border notes = filter (is_about_beyond border) notes

-- the ends among these of requests to masters beyond
abbrev pub ends_beyond : Border → List Ended → List Ended
ends_beyond border ended = filter (λ (e : Ended). border.master e.target) ended
