use Rattle.std.proofs.Common.{◌≡◌, ◌++◌, true, false, List, ◌∙◌, sym, ap}
use Rattle.pm_base.specs.BoundedList.{Bounded}
use Rattle.pm_base.specs.declared.names.Unit.{Unit}
use Rattle.pm_values.specs.declared.caches.UnitKind.{UnitKind}
use Rattle.pm_values.specs.Caches.{freed_by, moved_by, noticed_by, starts_by, value_by}
use Rattle.pm_values.proofs.caches.Caches.log_all.Goals as goal

pub log_changes-requires-clause-room : goal.log_changes-requires-clause-room
log_changes-requires-clause-room c =
    let room = c.requires.room in
    record {
      places = record {
        kinds = c.wake_all.ensures.items ∙ room.places.kinds;
        states = room.places.states;
        needs = room.places.needs;
        runs = room.places.runs;
        used = room.places.used;
        powers = room.places.powers;
        children = room.places.children;
        units = room.places.units;
      };
      room = room.room;
      none = room.none;
      procs = room.procs;
      few = room.few;
    }

pub log_changes-requires-clause-chosen : goal.log_changes-requires-clause-chosen
log_changes-requires-clause-chosen c = record {
  states = c.requires.chosen.states;
  needs = c.requires.chosen.needs;
  runs = c.requires.chosen.runs;
  power = c.requires.chosen.power;
}

-- no unit rests
pub log_changes-requires-clause-settled : goal.log_changes-requires-clause-settled
log_changes-requires-clause-settled c = λ k kind at is.
    let no : false ≡ true = sym (c.wake_all.ensures.awake k) ∙ is in
    (cc, cc)

pub returns-clause-found : goal.returns-clause-found
returns-clause-found c =
    let book = c.args.tables.now in
    let old = c.args.self.now in
    let found = c.log_changes.ensures.found in
    let same = c.wake_all.ensures.items in
    let moved_to : List UnitKind → Bounded Unit = λ ks. record c.args.moved.now { items = c.args.moved.now.items ++ moved_by (value_by book.fixed book.now.core) ks old.values } in
    record {
      moved = found.moved ∙ ap moved_to same;
      starts = found.starts ∙ ap (λ ks. record c.args.starts.now { items = starts_by c.args.along.now.downs book.now.core.procs ks old.values }) same;
      notices = found.notices ∙ ap (λ ks. record c.args.notices.now { items = noticed_by (value_by book.fixed book.now.core) (freed_by old.used.items book.now.core.rows) ks old.values }) same;
      few = found.few;
    }
