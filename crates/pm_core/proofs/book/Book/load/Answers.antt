use Rattle.std.proofs.Common.{◌≡◌, ◌≤◌, ◌++◌, Result, Ok, length, refl, sym, ◌∙◌, ap, subst, arith}
use Rattle.std.specs.Prelude.{IfOk}
use Rattle.std.proofs.lemmas.List.{length-map}
use Rattle.pm_base.specs.declared.names.Unit.{Unit}
use Rattle.pm_notify.specs.declared.notes.Waiting.{Waiting}
use Rattle.pm_topology.specs.Units.{units_of, entry_count}
use Rattle.pm_topology.specs.WellFormed.{IsWellFormed}
use Rattle.pm_values.specs.declared.caches.Caches.{Caches}
use Rattle.pm_values.specs.Caches.{moved_by, value_by}
use Rattle.pm_base.specs.BoundedList.{Bounded}
use Rattle.pm_state.specs.Changes.{HasPlaces, Written}
use Rattle.pm_state.specs.Sound.{IsSound}
use Rattle.pm_state.specs.State.{State}
use Rattle.pm_tell.specs.declared.telling.Telling.{Telling}
use Rattle.pm_values.specs.declared.starts.Start.{Start}
use Rattle.pm_values.proofs.AlongLaw.{load_places}
use Rattle.pm_values.proofs.CachesLaw.{moves_are}
use Rattle.pm_step.proofs.StepLaw.{load_starts}
use Rattle.pm_core.specs.Begun.{IsBegun}
use Rattle.pm_core.proofs.book.Book.load.Goals as goal

-- what was made over the tables, where it could be had with them
begun : {E : Type 0} (first tables : State) (kept : (Caches × Telling) × Written) (made : Result ((Caches × Telling) × Written) E) → (tables ≡ first) × (made ≡ Ok kept)
    → IfOk made (λ (k : (Caches × Telling) × Written). IsBegun first k.0.0 k.0.1) → IsBegun tables kept.0.0 kept.0.1
begun first tables kept made both holds =
    let Made : Result ((Caches × Telling) × Written) _ → Type 0 = λ r. IfOk r (λ (k : (Caches × Telling) × Written). IsBegun first k.0.0 k.0.1) in
    let Over : State → Type 0 = λ b. IsBegun b kept.0.0 kept.0.1 in
    subst Over (sym both.0) (subst Made both.1 holds)

placed : {E : Type 0} (first tables : State) (kept : (Caches × Telling) × Written) (made : Result ((Caches × Telling) × Written) E) → (tables ≡ first) × (made ≡ Ok kept)
    → IfOk made (λ (k : (Caches × Telling) × Written). HasPlaces first.fixed k.1) → HasPlaces tables.fixed kept.1
placed first tables kept made both holds =
    let Made : Result ((Caches × Telling) × Written) _ → Type 0 = λ r. IfOk r (λ (k : (Caches × Telling) × Written). HasPlaces first.fixed k.1) in
    let Over : State → Type 0 = λ b. HasPlaces b.fixed kept.1 in
    subst Over (sym both.0) (subst Made both.1 holds)

pub update-requires : goal.update-requires
update-requires c =
    let book = c.in_ok-tables-2.tables in
    let caches = c.in_ok-tables-2.kept.0.0 in
    let made = begun c.in_ok-tables.tables book c.in_ok-tables-2.kept c.kept_of-kept.result c.in_ok-tables-2.ensures c.kept_of-kept.ensures.begun in
    let is = c.in_ok-tables-2.ensures.0 ∙ c.in_ok-tables.ensures.book in
    let zeros : length caches.values ≡ length (units_of book.fixed.topology) = ap length made.zeros ∙ length-map (units_of book.fixed.topology) (λ u. (u, 0)) in
    let topology : length (units_of book.fixed.topology) ≡ length (units_of c.args.topology) = ap (λ (b : State). length (units_of b.fixed.topology)) is in
    let procs : length book.fixed.topology.procs ≡ length c.args.topology.procs = ap (λ (b : State). length b.fixed.topology.procs) is in
    let few : length (units_of c.args.topology) ≤ entry_count c.args.topology = c.units_stand_in_order.ensures.few c.args.topology in
    let none = ap length c.clear.ensures.empty.moved in
    record {
      places = made.places;
      room = omega (arith, zeros, topology, few, none, c.requires.room.moved, c.clear.ensures.room.moved);
      none = c.clear.ensures.empty.starts;
      procs = omega (arith, procs, c.requires.room.starts, c.clear.ensures.room.starts);
      few = made.notices;
    }

pub begin-requires : goal.begin-requires
begin-requires c =
    let book = c.in_ok-tables-2.tables in
    let made = begun c.in_ok-tables.tables book c.in_ok-tables-2.kept c.kept_of-kept.result c.in_ok-tables-2.ensures c.kept_of-kept.ensures.begun in
    let zeros : length c.in_ok-tables-2.kept.0.0.values ≡ length (units_of book.fixed.topology) =
    ap length made.zeros ∙ length-map (units_of book.fixed.topology) (λ u. (u, 0))
    in
    record {
      places = record {
        modes = made.modes;
        along = load_places _ _ _ _ c.in_ok-tables-2.kept.0.1.along made.along refl refl;
        ended = made.ended;
        notices = omega (arith, zeros, made.notices, ap (λ (l : Bounded Waiting). l.room) c.update.ensures.found.notices);
      };
    }

pub invariant_of-result : goal.invariant_of-result
invariant_of-result c =
    let is = c.in_ok-tables-2.ensures.0 ∙ c.in_ok-tables.ensures.book in
    let P : State → Type 0 = λ b. IsWellFormed b.fixed.topology in (
      record {
        formed = subst P (sym is) c.requires.formed;
        sound = subst IsSound (sym c.in_ok-tables-2.ensures.0) c.in_ok-tables.ensures.sound;
      },
      c.update.ensures.kept,
      c.begin.ensures.places,
      c.begin.ensures.fresh,
      placed c.in_ok-tables.tables c.in_ok-tables-2.tables c.in_ok-tables-2.kept c.kept_of-kept.result c.in_ok-tables-2.ensures c.kept_of-kept.ensures.places,
    )

pub returns-clause-met : goal.returns-clause-met
returns-clause-met c =
    let P : State → Type 0 = λ b. IsWellFormed b.fixed.topology in
    c.values_meet.ensures.met c.in_ok-tables-2.tables
    (subst P (sym (c.in_ok-tables-2.ensures.0 ∙ c.in_ok-tables.ensures.book)) c.requires.formed)
    (subst IsSound (sym c.in_ok-tables-2.ensures.0) c.in_ok-tables.ensures.sound)

pub returns-clause-out : goal.returns-clause-out
returns-clause-out c =
    let book = c.in_ok-tables-2.tables in
    let caches = c.in_ok-tables-2.kept.0.0 in
    let made = begun c.in_ok-tables.tables book c.in_ok-tables-2.kept c.kept_of-kept.result c.in_ok-tables-2.ensures c.kept_of-kept.ensures.begun in
    record {
      moved = ap (λ (s : Bounded Unit). s.items) c.update.ensures.found.moved ∙ (
          ap (λ xs. xs ++ moved_by (value_by book.fixed book.now.core) caches.kinds.items caches.values) c.clear.ensures.empty.moved
          ∙ moves_are book (λ _. 0) caches.kinds.items caches.values made.places.kinds made.zeros);
      starts = ap (λ (s : Bounded Start). s.items) c.update.ensures.found.starts
          ∙ load_starts book _ _ c.in_ok-tables-2.kept.0.1.along caches.kinds.items caches.values made.along made.places.kinds made.zeros;
      pulse = c.clear.ensures.empty.pulse;
      late = c.clear.ensures.empty.late;
      callbacks = c.clear.ensures.empty.callbacks;
      answer = c.clear.ensures.empty.answer;
      done = c.clear.ensures.empty.done;
    }
