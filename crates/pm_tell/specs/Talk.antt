-- The conditions under which the masters are told of a step, and the effect of telling them.
use Rattle.std.specs.Prelude.{ℕ, ◌≡◌, ◌+◌, ◌≤◌, ◌++◌, length, Option}
use Rattle.pm_base.specs.BoundedList.{Bounded}
use Rattle.pm_state.specs.Sound.{HasNotes}
use Rattle.pm_state.specs.State.{State}
use Rattle.pm_state.specs.Talk.{talked}
use Rattle.pm_state.specs.Units.{unit_count}
use Rattle.pm_values.specs.Caches.{AreKept}
use Rattle.pm_values.specs.declared.caches.Caches.{Caches}
use Rattle.pm_values.specs.Notifications.{notice_count}
use Rattle.pm_tell.specs.Callbacks.{callbacks, callbacks_at_most, late_replies}
use Rattle.pm_tell.specs.declared.callbacks.Callback.{Callback}
use Rattle.pm_tell.specs.declared.late.Late.{Late}
use Rattle.pm_tell.specs.declared.served.Served.{Served}
use Rattle.pm_tell.specs.declared.telling.Telling.{Telling}
use Rattle.pm_tell.specs.Served.{says_in}
use Rattle.pm_tell.specs.Telling.{HasPlaces, mode_before, news_in, notes_after, opening_in, tellings, with_news}

-- the masters of a book may be told of a step: the caches are those of the book, each master has notes and a place for the
-- request that is pending on it, and there is room for the log of the step, with two notices about each unit at most, for
-- a late reply about each request, and for the callbacks
pub record MayTell (book : State) (caches : Caches) (telling : Telling) (late : Bounded Late)
    (callbacks : Bounded Callback) : Type 0 where
  pub kept : AreKept book caches
  pub notes : HasNotes book
  pub each : length book.now.talk.pending ≡ length book.fixed.object.masters
  pub places : HasPlaces book.fixed.topology (length book.fixed.object.masters) telling
  pub few : length telling.notices.items ≤ notice_count (unit_count book.fixed.topology)
  pub replies : length late.items + length book.fixed.object.masters ≤ late.room
  pub calls : length callbacks.items + callbacks_at_most book ≤ callbacks.room

-- the masters of a book are told of a step: its news is logged, the new book has all that is told, and the late replies
-- and the callbacks of the step come behind the earlier ones
pub record TellsMasters (served : Option Served) (count : Option ℕ) (old new : State) (telling telling' : Telling)
    (replies replies' : Bounded Late) (calls calls' : Bounded Callback) : Type 0 where
  pub news : telling' ≡ with_news (says_in served) count old telling
  pub book : new
      ≡ talked (tellings (news_in telling') (mode_before telling') (opening_in telling' (says_in served) count old)
      served old) old
  pub late : replies' ≡ record replies { items = replies.items ++ late_replies telling'.ended.items new }
  pub callbacks : calls' ≡ record calls {
    items = calls.items ++ callbacks (news_in telling') (mode_before telling')
        (notes_after (opening_in telling' (says_in served) count old) old) new;
  }
