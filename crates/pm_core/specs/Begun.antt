-- What is kept and logged beside the tables of a book, at its load.
use Rattle.std.specs.Prelude.{◌≡◌, ◌≤◌, length}
use Rattle.pm_topology.specs.Units.{units_of}
use Rattle.pm_topology.specs.UnitMap.{all_at}
use Rattle.pm_state.specs.State.{State}
use Rattle.pm_tell.specs.declared.telling.Telling.{Telling}
use Rattle.pm_values.specs.declared.caches.Caches.{Caches}
use Rattle.pm_values.specs.Along.{trail_at_load}
use Rattle.pm_values.specs.Caches.{HasPlaces}
use Rattle.pm_values.specs.Notifications.{notice_count}

-- nothing is found of the values yet, and there is room for what a step logs
pub record IsBegun (book : State) (caches : Caches) (telling : Telling) : Type 0 where
  pub places : HasPlaces book.fixed.topology caches
  pub zeros : caches.values ≡ all_at 0 (units_of book.fixed.topology)
  pub modes : length telling.modes.items ≡ length book.fixed.object.masters
  pub along : telling.along ≡ trail_at_load (length book.fixed.object.masters) (length book.fixed.topology.procs)
  pub ended : length book.fixed.object.masters ≤ telling.ended.room
  pub notices : notice_count (length caches.values) ≤ telling.notices.room
