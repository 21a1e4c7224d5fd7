-- The walk over the units, which passes over those that rest.
use Rattle.std.proofs.Common.{◌≡◌, ℕ, ◌+◌, ◌-◌, ◌*◌, ◌<◌, ◌≤◌, ◌++◌, Bool, true, List, [], length, take, drop, get_or, slice_get, append-nil, Some, refl, zero, suc, arith, ap, sym, ◌∙◌, subst}
use Rattle.std.proofs.lemmas.Grind.{drop_more_same}
use Rattle.std.proofs.lemmas.List.{length-drop}
use Rattle.std.proofs.lemmas.Option.{slice_get-get_or}
use Rattle.pm_base.specs.BoundedList.{Bounded}
use Rattle.pm_base.specs.declared.names.Unit.{Unit}
use Rattle.pm_notify.specs.declared.notes.Waiting.{Waiting}
use Rattle.pm_procs.specs.declared.procs.Proc.{Proc as Processor}
use Rattle.pm_topology.specs.declared.places.Kind.TheVariants.{Proc}
use Rattle.pm_topology.specs.UnitMap.{with_value_at}
use Rattle.pm_values.specs.declared.caches.UnitKind.{UnitKind}
use Rattle.pm_values.specs.declared.caches.UnitKind.TheVariants.{Entry}
use Rattle.pm_values.specs.declared.starts.Start.{Start}
use Rattle.pm_values.specs.Caches.{is_settled, moved_at, moved_by, noticed_at, noticed_by, revalued, started_at, starts_by}
use Rattle.pm_values.proofs.MovesLemmas.{moves_step, values_step}
use Rattle.pm_values.proofs.NoticesLaw.{noticed_step}
use Rattle.pm_values.proofs.SettledLaw.{same_ahead, settles}
use Rattle.pm_values.proofs.StartsLaw.{starts_step}

module _ (new : UnitKind → ℕ) (freed : UnitKind → Bool) (downs : List Bool) (procs : List Processor) (kinds : List UnitKind)
    (before : List (Unit × ℕ)) (moved_before : Bounded Unit) (starts_before : Bounded Start) (notices_before : Bounded Waiting)
  where
    -- the values before place k are written, and the values, the units that moved, the starts and what happened so far
    -- make the whole with what is left
    pub record IsUnderWay (k : ℕ) (values : List (Unit × ℕ)) (moved : Bounded Unit) (starts : Bounded Start) (notices : Bounded Waiting) : Type 0 where
      pub most : k ≤ length kinds
      pub places : length values ≡ length kinds
      pub ahead : drop k values ≡ drop k before
      pub room : moved.room ≡ moved_before.room
      pub count : length moved.items + length (drop k kinds) ≤ moved.room
      pub written : take k values ++ revalued new (drop k kinds) (drop k values) ≡ revalued new kinds before
      pub moves : moved.items ++ moved_by new (drop k kinds) (drop k values) ≡ moved_before.items ++ moved_by new kinds before
      pub free : starts.room ≡ starts_before.room
      pub started : starts.items ++ starts_by downs procs (drop k kinds) (drop k values) ≡ starts_before.items ++ starts_by downs procs kinds before
      pub told : notices.room ≡ notices_before.room
      pub few : length notices.items ≤ length notices_before.items + 2 * k
      pub noticed : notices.items ++ noticed_by new freed (drop k kinds) (drop k values) ≡ notices_before.items ++ noticed_by new freed kinds before

    module _ (values : List (Unit × ℕ)) (moved : Bounded Unit) (starts : Bounded Start) (notices : Bounded Waiting) where
      -- a unit that rests is passed over
      pass_one : (k : ℕ) (kind : UnitKind) → slice_get kinds k ≡ Some kind → k < length kinds → started_at downs procs kind (slice_get before k) ≡ [] → is_settled (new kind) (freed kind) (slice_get before k) ≡ true
          → IsUnderWay k values moved starts notices → IsUnderWay (k + 1) values moved starts notices
      pass_one k kind at inside calm is way =
          let own : is_settled (new kind) (freed kind) (slice_get values k) ≡ true = ap (is_settled (new kind) (freed kind)) (same_ahead values before k way.ahead) ∙ is in
          let nothing = settles k (new kind) (freed kind) values (slice_get values k) refl own in
          let none : started_at downs procs kind (slice_get values k) ≡ [] = ap (started_at downs procs kind) (same_ahead values before k way.ahead) ∙ calm in
          let within : k < length values = omega (arith, inside, way.places) in
          let Values : List (Unit × ℕ) → Type 0 = λ es. take (k + 1) es ++ revalued new (drop (k + 1) kinds) (drop (k + 1) es) ≡ revalued new kinds before in
          let Moved : List (Unit × ℕ) → Type 0 = λ es. moved.items ++ moved_by new (drop (k + 1) kinds) (drop (k + 1) es) ≡ moved_before.items ++ moved_by new kinds before in
          let Items : List Unit → Type 0 = λ items. items ++ moved_by new (drop (k + 1) kinds) (drop (k + 1) (with_value_at k (new kind) values)) ≡ moved_before.items ++ moved_by new kinds before in
          let same_moved : moved.items ++ moved_at (new kind) (slice_get values k) ≡ moved.items = ap (λ us. moved.items ++ us) nothing.moved ∙ append-nil moved.items in
          let same_started : starts.items ≡ starts.items ++ started_at downs procs kind (slice_get values k) =
          sym (ap (λ ss. starts.items ++ ss) none ∙ append-nil starts.items)
          in
          let same_noticed : notices.items ≡ notices.items ++ noticed_at (new kind) (freed kind) (slice_get values k) =
          sym (ap (λ ws. notices.items ++ ws) nothing.noticed ∙ append-nil notices.items)
          in
          record {
            most = omega (arith, inside);
            places = way.places;
            ahead = drop_more_same values before k way.ahead;
            room = way.room;
            count = omega (arith, way.count, length-drop k kinds, length-drop (k + 1) kinds, inside);
            written = subst Values nothing.values (values_step new kinds k kind values _ at within way.written);
            moves = subst Moved nothing.values (subst Items same_moved (moves_step new kinds k kind values moved.items _ at within way.moves));
            free = way.free;
            started = starts_step downs procs kinds k kind values starts.items starts.items _ at within same_started way.started;
            told = way.told;
            few = omega (arith, way.few);
            noticed = noticed_step new freed kinds k kind values notices.items notices.items _ at within same_noticed way.noticed;
          }

      -- so many units that rest are passed over
      pass_more : (n k : ℕ) → k + n ≤ length kinds
          → ((j : ℕ) (kind : UnitKind) → k ≤ j → j < k + n → slice_get kinds j ≡ Some kind → (started_at downs procs kind (slice_get before j) ≡ []) × (is_settled (new kind) (freed kind) (slice_get before j) ≡ true))
          → IsUnderWay k values moved starts notices → IsUnderWay (k + n) values moved starts notices
      pass_more zero k most settled way =
          let P : ℕ → Type 0 = λ j. IsUnderWay j values moved starts notices in
          let same : k ≡ k + 0 = omega arith in
          subst P same way
      pass_more (suc n) k most settled way =
          let P : ℕ → Type 0 = λ j. IsUnderWay j values moved starts notices in
          let next : (k + n) + 1 ≡ k + suc n = omega arith in
          let inside : k + n < length kinds = omega (arith, most) in
          let kind : UnitKind = get_or kinds (k + n) (Entry (Proc 0)) in
          let at : slice_get kinds (k + n) ≡ Some kind = slice_get-get_or kinds (k + n) (Entry (Proc 0)) inside in
          let still = settled (k + n) kind (omega arith) (omega arith) at in
          subst P next (pass_one (k + n) kind at inside still.0 still.1
          (pass_more n k (omega (arith, most)) (λ j kind from to at. settled j kind from (omega (arith, to)) at) way))

      -- up to the place where the walk goes on
      pub passed : (k past : ℕ) → k ≤ past → past ≤ length kinds
          → ((j : ℕ) (kind : UnitKind) → k ≤ j → j < past → slice_get kinds j ≡ Some kind → (started_at downs procs kind (slice_get before j) ≡ []) × (is_settled (new kind) (freed kind) (slice_get before j) ≡ true))
          → IsUnderWay k values moved starts notices → IsUnderWay past values moved starts notices
      passed k past more most settled way =
          let P : ℕ → Type 0 = λ j. IsUnderWay j values moved starts notices in
          let same : k + (past - k) ≡ past = omega (arith, more) in
          subst P same (pass_more (past - k) k (omega (arith, more, most)) (λ j kind from to at. settled j kind from (omega (arith, more, to)) at) way)
