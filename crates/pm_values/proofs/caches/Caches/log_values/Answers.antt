use Rattle.std.specs.Prelude.{slice_get}
use Rattle.std.proofs.Common.{◌≡◌, ℕ, ◌≤◌, ◌++◌, Bool, length, List, refl, sym, subst, ◌∙◌, ap, arith}
use Rattle.pm_base.specs.declared.names.Unit.{Unit}
use Rattle.pm_values.specs.declared.caches.UnitKind.{UnitKind}
use Rattle.pm_power.specs.Forest.{ups}
use Rattle.pm_notify.specs.declared.notes.Waiting.{Waiting}
use Rattle.pm_values.specs.declared.starts.Start.{Start}
use Rattle.pm_values.specs.Caches.{freed_by, is_settled, moved_by, noticed_by, revalued, starts_by, unit_value, value_by}
use Rattle.pm_values.specs.Found.{Found, RestAsFound, moves_found, notices_found, starts_found, value_found}
use Rattle.pm_values.specs.Kinds.{rests_at}
use Rattle.pm_base.specs.BoundedList.{Bounded}
use Rattle.pm_state.specs.Values.{placed, chosen}
use Rattle.pm_values.proofs.CachesLaw.{valued_is, unit_value_is}
use Rattle.pm_values.proofs.MovesLemmas.{moved_by-same}
use Rattle.pm_values.proofs.NoticesLaw.{noticed_by-same}
use Rattle.pm_values.proofs.StartsLaw.{starts_few}
use Rattle.pm_values.proofs.caches.Caches.log_values.Goals as goal

pub log_units-requires-clause-starts : goal.log_units-requires-clause-starts
log_units-requires-clause-starts c =
    let t = c.args.tables.now.fixed.topology in
    let procs = c.args.tables.now.now.core.procs in
    let none = ap length c.requires.room.none in
    let downs = c.args.along.now.downs in
    let few : length (starts_by downs procs c.as_slice.result.now c.args.self.now.values) ≤ length t.procs =
    starts_few c.units_stand_in_order.ensures c.kinds_are_exact.ensures t downs procs c.as_slice.result.now c.args.self.now.values
    (c.as_slice.ensures ∙ c.requires.room.places.kinds)
    in
    let same = ap (λ (f : Found). length (starts_found f c.as_slice.result.now c.args.self.now.values)) c.of-found.ensures in
    omega (arith, none, few, same, c.requires.room.procs)

pub log_units-requires-clause-marks : goal.log_units-requires-clause-marks
log_units-requires-clause-marks c = c.awake.ensures.places ∙ ap length (sym c.as_slice.ensures)

pub log_units-requires-clause-settled : goal.log_units-requires-clause-settled
log_units-requires-clause-settled c =
    let book = c.args.tables.now in
    let old = c.args.self.now in
    let Rest : Found → Type 0 = λ f. RestAsFound f c.awake.result.now c.as_slice.result.now old.values in
    subst Rest (sym c.of-found.ensures)
    (λ k kind at is.
    let entry = slice_get old.values k in
    let same = unit_value_is book.fixed book.now.core c.deref.result.now book.now.core.procs c.ups.result.now book.now.core.lines
    (c.deref.ensures.value ∙ c.requires.chosen.states) refl (c.ups.ensures ∙ ap ups c.requires.chosen.power) refl kind in
    let still = c.requires.settled k kind (ap (λ (ks : List UnitKind). slice_get ks k) (sym c.as_slice.ensures) ∙ at)
    (ap (λ (awake : List Bool). rests_at awake k) (sym c.awake.ensures.awake) ∙ is) in (
      still.0,
      ap (λ v. is_settled v (freed_by c.deref-2.result.now book.now.core.rows kind) entry) same
          ∙ (ap (λ (us : List Bool). is_settled (value_by book.fixed book.now.core kind) (freed_by us book.now.core.rows kind) entry) c.deref-2.ensures.value
          ∙ still.1),
    ))

pub returns-clause-written : goal.returns-clause-written
returns-clause-written c =
    let book = c.args.tables.now in
    record {
      kinds = refl;
      states = refl;
      needs = refl;
      runs = refl;
      used = refl;
      power = refl;
      values = c.log_units.ensures.values
          ∙ (ap (λ (f : Found). revalued (value_found f) c.as_slice.result.now c.args.self.now.values) c.of-found.ensures
          ∙ valued_is book c.deref.result.now book.now.core.procs c.ups.result.now book.now.core.lines c.as_slice.result.now c.args.self.now.values
          (c.deref.ensures.value ∙ c.requires.chosen.states) refl (c.ups.ensures ∙ ap ups c.requires.chosen.power) refl
          c.requires.room.places.units (c.as_slice.ensures ∙ c.requires.room.places.kinds));
    }

pub returns-clause-found : goal.returns-clause-found
returns-clause-found c =
    let book = c.args.tables.now in
    let old = c.args.self.now in
    let new_by : List ℕ → UnitKind → ℕ = λ states. unit_value states book.now.core.procs c.ups.result.now book.now.core.lines in
    let is : (states : List ℕ) → states ≡ placed (chosen book.now.core) 0 book.fixed.topology.slaves → (kind : UnitKind) → new_by states kind ≡ value_by book.fixed book.now.core kind =
    λ states are. unit_value_is book.fixed book.now.core states book.now.core.procs c.ups.result.now book.now.core.lines are refl (c.ups.ensures ∙ ap ups c.requires.chosen.power) refl
    in
    let moved_to : List Unit → Bounded Unit = λ items. record c.args.moved.now { items = c.args.moved.now.items ++ items } in
    let started_to : List Start → Bounded Start = λ items. record c.args.starts.now { items = items } in
    let noticed_to : List Waiting → Bounded Waiting = λ items. record c.args.notices.now { items = items } in
    let freed : UnitKind → Bool = freed_by old.used.items book.now.core.rows in
    record {
      moved = c.log_units.ensures.moved
          ∙ (ap (λ (f : Found). moved_to (moves_found f c.as_slice.result.now old.values)) c.of-found.ensures
          ∙ (ap (λ ks. moved_to (moved_by (new_by c.deref.result.now) ks old.values)) c.as_slice.ensures
          ∙ ap moved_to (moved_by-same (new_by c.deref.result.now) (value_by book.fixed book.now.core) (is c.deref.result.now (c.deref.ensures.value ∙ c.requires.chosen.states)) old.kinds.items old.values)));
      starts = c.log_units.ensures.starts
          ∙ (ap (λ (f : Found). started_to (c.args.starts.now.items ++ starts_found f c.as_slice.result.now old.values)) c.of-found.ensures
          ∙ (ap (λ ss. started_to (ss ++ starts_by c.args.along.now.downs book.now.core.procs c.as_slice.result.now old.values)) c.requires.room.none
          ∙ ap (λ ks. started_to (starts_by c.args.along.now.downs book.now.core.procs ks old.values)) c.as_slice.ensures));
      notices = c.log_units.ensures.notices
          ∙ (ap (λ (s : Bounded Waiting). record s { items = s.items ++ notices_found c.of-found.result c.as_slice.result.now old.values }) c.clear.ensures
          ∙ (ap (λ (f : Found). noticed_to (notices_found f c.as_slice.result.now old.values)) c.of-found.ensures
          ∙ (ap (λ us. noticed_to (noticed_by (new_by c.deref.result.now) (freed_by us book.now.core.rows) c.as_slice.result.now old.values)) c.deref-2.ensures.value
          ∙ (ap (λ ks. noticed_to (noticed_by (new_by c.deref.result.now) freed ks old.values)) c.as_slice.ensures
          ∙ ap noticed_to (noticed_by-same (new_by c.deref.result.now) (value_by book.fixed book.now.core) freed (is c.deref.result.now (c.deref.ensures.value ∙ c.requires.chosen.states)) old.kinds.items old.values)))));
      few =
          let empty : length c.clear.new.self.items ≡ 0 = ap (λ (s : Bounded Waiting). length s.items) c.clear.ensures in
          omega (arith, empty, c.log_units.ensures.few);
    }
