use Rattle.std.proofs.Common.{◌≡◌, ℕ, Bool, ◌+◌, ◌<◌, ◌≤◌, ◌++◌, List, length, take, drop, get_or, slice_get, Some, sym, ◌∙◌, ap, subst, arith}
use Rattle.std.proofs.lemmas.List.{length-append, length-drop}
use Rattle.std.proofs.lemmas.Option.{slice_get-get_or}
use Rattle.std.proofs.lemmas.Grind.{drop_more_same}
use Rattle.pm_base.specs.declared.names.Unit.{Unit}
use Rattle.pm_values.specs.declared.caches.UnitKind.{UnitKind}
use Rattle.pm_values.specs.declared.caches.UnitKind.TheVariants.{Entry}
use Rattle.pm_topology.specs.declared.places.Kind.TheVariants.{Proc}
use Rattle.pm_topology.specs.UnitMap.{with_value_at}
use Rattle.pm_values.specs.Caches.{revalued, moved_at, moved_by, noticed_at, noticed_by, starts_by}
use Rattle.pm_values.specs.Found.{freed_found, value_found}
use Rattle.pm_base.specs.BoundedList.{Bounded}
use Rattle.pm_values.proofs.MovesLemmas.{length-written, length-moved_at, values_step, moves_step, left_written}
use Rattle.pm_values.proofs.NoticesLaw.{noticed_step}
use Rattle.pm_values.proofs.StartsLaw.{starts_fit, starts_step}
use Rattle.pm_values.proofs.UnderWay.{IsUnderWay, passed}
use Rattle.pm_values.specs.declared.starts.Start.{Start}
use Rattle.pm_notify.specs.declared.notes.Waiting.{Waiting}
use Rattle.pm_values.proofs.moves.log_units.Goals as goal

pub log_kind-requires-clause-starts : goal.log_kind-requires-clause-starts
log_kind-requires-clause-starts c =
    let kinds = c.args.kinds.now in
    let k = c.loop-k.k in
    let kind : UnitKind = get_or kinds k (Entry (Proc 0)) in
    let at : slice_get kinds k ≡ Some kind = slice_get-get_or kinds k (Entry (Proc 0)) c.loop-k-test.true in
    let procs = c.args.found.now.procs in
    let downs = c.args.found.now.downs in
    let all : List Start = starts_by downs procs kinds c.args.values.now in
    let both : length (c.args.starts.now.items ++ all) ≡ length c.args.starts.now.items + length all = length-append c.args.starts.now.items all in
    let fits : length (c.args.starts.now.items ++ all) ≤ c.loop-k.starts.room = omega (arith, c.requires.starts, c.loop-k.invariant.free) in
    let within : k < length c.loop-k.values = omega (arith, c.loop-k-test.true, c.loop-k.invariant.places) in
    starts_fit downs procs kinds k kind c.loop-k.values c.loop-k.starts.items _ c.loop-k.starts.room at within c.loop-k.invariant.started fits

-- the walk goes on behind the unit at a place, and passes over units that rest
pub loop-k-preserved : goal.loop-k-preserved
loop-k-preserved c =
    let kinds = c.args.kinds.now in
    let k = c.loop-k.k in
    let kind : UnitKind = get_or kinds k (Entry (Proc 0)) in
    let new : UnitKind → ℕ = value_found c.args.found.now in
    let at : slice_get kinds k ≡ Some kind = slice_get-get_or kinds k (Entry (Proc 0)) c.loop-k-test.true in
    let freed : UnitKind → Bool = freed_found c.args.found.now in
    let written : c.log_kind.new.values ≡ with_value_at k (new kind) c.loop-k.values = c.log_kind.ensures.values in
    let moved : c.log_kind.new.moved.items ≡ c.loop-k.moved.items ++ moved_at (new kind) (slice_get c.loop-k.values k) =
    ap (λ (s : Bounded Unit). s.items) c.log_kind.ensures.moved
    in
    let found : c.log_kind.new.notices.items ≡ c.loop-k.notices.items ++ noticed_at (new kind) (freed kind) (slice_get c.loop-k.values k) =
    ap (λ (s : Bounded Waiting). s.items) c.log_kind.ensures.notices
    in
    let within : k < length c.loop-k.values = omega (arith, c.loop-k-test.true, c.loop-k.invariant.places) in
    let noticed : c.log_kind.new.notices.items ++ noticed_by new freed (drop (k + 1) kinds) (drop (k + 1) c.loop-k.values) ≡ c.args.notices.now.items ++ noticed_by new freed kinds c.args.values.now =
    noticed_step new freed kinds k kind c.loop-k.values c.loop-k.notices.items c.log_kind.new.notices.items _ at within found c.loop-k.invariant.noticed
    in
    let Noticed : List (Unit × ℕ) → Type 0 = λ es. c.log_kind.new.notices.items ++ noticed_by new freed (drop (k + 1) kinds) es ≡ c.args.notices.now.items ++ noticed_by new freed kinds c.args.values.now in
    let places : length c.log_kind.new.values ≡ length c.loop-k.values = ap length written ∙ length-written k (new kind) c.loop-k.values in
    let room : c.log_kind.new.moved.room ≡ c.loop-k.moved.room = ap (λ (s : Bounded Unit). s.room) c.log_kind.ensures.moved in
    let more : length c.log_kind.new.moved.items ≤ length c.loop-k.moved.items + 1 = length-moved_at (new kind) _ c.loop-k.moved.items c.log_kind.new.moved.items moved in
    let Values : List (Unit × ℕ) → Type 0 = λ es. take (k + 1) es ++ revalued new (drop (k + 1) kinds) (drop (k + 1) es) ≡ revalued new kinds c.args.values.now in
    let Moved : List (Unit × ℕ) → Type 0 = λ es. c.log_kind.new.moved.items ++ moved_by new (drop (k + 1) kinds) (drop (k + 1) es) ≡ c.args.moved.now.items ++ moved_by new kinds c.args.values.now in
    let Items : List Unit → Type 0 = λ items. items ++ moved_by new (drop (k + 1) kinds) (drop (k + 1) (with_value_at k (new kind) c.loop-k.values)) ≡ c.args.moved.now.items ++ moved_by new kinds c.args.values.now in
    let procs = c.args.found.now.procs in
    let downs = c.args.found.now.downs in
    let started : c.log_kind.new.starts.items ++ starts_by downs procs (drop (k + 1) kinds) (drop (k + 1) c.loop-k.values) ≡ c.args.starts.now.items ++ starts_by downs procs kinds c.args.values.now =
    starts_step downs procs kinds k kind c.loop-k.values c.loop-k.starts.items c.log_kind.new.starts.items _ at within
    (ap (λ (s : Bounded Start). s.items) c.log_kind.ensures.starts) c.loop-k.invariant.started
    in
    let Started : List (Unit × ℕ) → Type 0 = λ es. c.log_kind.new.starts.items ++ starts_by downs procs (drop (k + 1) kinds) es ≡ c.args.starts.now.items ++ starts_by downs procs kinds c.args.values.now in
    let one : IsUnderWay new freed downs procs kinds c.args.values.now c.args.moved.now c.args.starts.now c.args.notices.now (k + 1) c.log_kind.new.values c.log_kind.new.moved c.log_kind.new.starts c.log_kind.new.notices =
    record {
      most = omega (arith, c.loop-k-test.true);
      places = places ∙ c.loop-k.invariant.places;
      ahead = ap (drop (k + 1)) written
          ∙ (left_written k (new kind) c.loop-k.values ∙ drop_more_same c.loop-k.values c.args.values.now k c.loop-k.invariant.ahead);
      room = room ∙ c.loop-k.invariant.room;
      count = omega (arith, room, more, c.loop-k.invariant.count, length-drop k kinds, length-drop (k + 1) kinds, c.loop-k-test.true);
      written = subst Values (sym written) (values_step new kinds k kind c.loop-k.values _ at within c.loop-k.invariant.written);
      moves = subst Moved (sym written) (subst Items (sym moved) (moves_step new kinds k kind c.loop-k.values c.loop-k.moved.items _ at within c.loop-k.invariant.moves));
      free = ap (λ (s : Bounded Start). s.room) c.log_kind.ensures.starts ∙ c.loop-k.invariant.free;
      started = subst Started (sym (ap (drop (k + 1)) written ∙ left_written k (new kind) c.loop-k.values)) started;
      told = ap (λ (s : Bounded Waiting). s.room) c.log_kind.ensures.notices ∙ c.loop-k.invariant.told;
      few = omega (arith, c.log_kind.ensures.few, c.loop-k.invariant.few);
      noticed = subst Noticed (sym (ap (drop (k + 1)) written ∙ left_written k (new kind) c.loop-k.values)) noticed;
    }
    in
    passed new freed downs procs kinds c.args.values.now c.args.moved.now c.args.starts.now c.args.notices.now
    c.log_kind.new.values c.log_kind.new.moved c.log_kind.new.starts c.log_kind.new.notices (k + 1) c.past-k.result (omega (arith, c.past-k.ensures.more)) (omega (arith, c.past-k.ensures.most, c.requires.marks))
    (λ j kind from to at. c.requires.settled j kind at (c.past-k.ensures.all j (omega (arith, from)) to))
    one
