-- What happened to nodes, as it was logged by their kinds and by what was kept of the values, is what happened between two books.
use Rattle.std.proofs.Common.{◌≡◌, ℕ, ◌+◌, ◌<◌, ◌==◌, ◌&&◌, Bool, false, not, List, [], ◌∷◌, ◌++◌, length, map, drop, slice_get, unwrap_or, Some, refl, arith, ap, sym, ◌∙◌, append_assoc, inl, inr}
use Rattle.std.specs.Prelude.{flat_map, option_map}
use Rattle.std.proofs.lemmas.Option.{slice_get_cases}
use Rattle.pm_base.proofs.ListLemmas.{drop_found}
use Rattle.pm_base.specs.declared.names.NodeId.{NodeId}
use Rattle.pm_base.specs.declared.names.Unit.{Unit}
use Rattle.pm_base.specs.declared.names.Unit.TheVariants.{Node, Line}
use Rattle.pm_notify.specs.declared.notes.Waiting.{Waiting}
use Rattle.pm_topology.specs.declared.places.Kind.{Kind}
use Rattle.pm_topology.specs.declared.places.Kind.TheVariants.{Proc, Slave, Power, Unknown}
use Rattle.pm_topology.specs.Places.{IsKind, KindLaws, kind_of}
use Rattle.pm_values.specs.Caches.{freed_by, kind_of_unit, noticed_at, noticed_by, use_of, used_kept, value_by}
use Rattle.pm_values.specs.declared.caches.UnitKind.{UnitKind}
use Rattle.pm_values.specs.Notifications.{happened, notes_about, notifications, used, used_at}
use Rattle.pm_state.specs.State.{Fixed, State}
use Rattle.pm_state.specs.Units.{units}
use Rattle.pm_state.specs.Values.{placed, value}
use Rattle.pm_values.proofs.CachesLaw.{value_by_is}
use Rattle.pm_state.proofs.PlacedLemmas.{slice_get-placed}

-- ---- the turn of the loop at place k

noticed_left : (new : UnitKind → ℕ) (freed : UnitKind → Bool) (kinds : List UnitKind) (k : ℕ) (kind : UnitKind) (es : List (Unit × ℕ)) → slice_get kinds k ≡ Some kind → k < length es
    → noticed_by new freed (drop k kinds) (drop k es) ≡ noticed_at (new kind) (freed kind) (slice_get es k) ++ noticed_by new freed (drop (k + 1) kinds) (drop (k + 1) es)
noticed_left new freed kinds k kind es at within =
    elim ((slice_get_cases es k).1) [
      | inl here ↦
          ap (λ ks. noticed_by new freed ks (drop k es)) (drop_found kinds k kind at)
          ∙ (ap (noticed_by new freed (kind ∷ drop (k + 1) kinds)) (drop_found es k here.0 here.2)
          ∙ ap (λ o. noticed_at (new kind) (freed kind) o ++ noticed_by new freed (drop (k + 1) kinds) (drop (k + 1) es)) (sym here.2))
      | inr past ↦ absurd (omega (arith, past.0))
    ]

pub noticed_step : (new : UnitKind → ℕ) (freed : UnitKind → Bool) (kinds : List UnitKind) (k : ℕ) (kind : UnitKind) (es : List (Unit × ℕ)) (items now whole : List Waiting) → slice_get kinds k ≡ Some kind → k < length es
    → now ≡ items ++ noticed_at (new kind) (freed kind) (slice_get es k) → items ++ noticed_by new freed (drop k kinds) (drop k es) ≡ whole → now ++ noticed_by new freed (drop (k + 1) kinds) (drop (k + 1) es) ≡ whole
noticed_step new freed kinds k kind es items now whole at within is before =
    let here : List Waiting = noticed_at (new kind) (freed kind) (slice_get es k) in
    let later : List Waiting = noticed_by new freed (drop (k + 1) kinds) (drop (k + 1) es) in
    ap (λ xs. xs ++ later) is
    ∙ (append_assoc items here later ∙ (ap (λ xs. items ++ xs) (sym (noticed_left new freed kinds k kind es at within)) ∙ before))

-- ---- all of a table

pub noticed_by-same : (f g : UnitKind → ℕ) (freed : UnitKind → Bool) → ((kind : UnitKind) → f kind ≡ g kind) → (kinds : List UnitKind) (es : List (Unit × ℕ)) → noticed_by f freed kinds es ≡ noticed_by g freed kinds es
noticed_by-same f g freed same [] es = refl
noticed_by-same f g freed same (kind ∷ kinds) [] = refl
noticed_by-same f g freed same (kind ∷ kinds) (e ∷ es) =
    ap (λ n. noticed_at n (freed kind) (Some e) ++ noticed_by f freed kinds es) (same kind)
    ∙ ap (λ xs. noticed_at (g kind) (freed kind) (Some e) ++ xs) (noticed_by-same f g freed same kinds es)

-- a slave was used as it is kept
used_node : (book : State) (node : NodeId) (kind : Kind) → IsKind book.fixed.topology node kind → used_kept (placed (use_of book.now.core) 0 book.fixed.topology.slaves) kind ≡ used_at kind book.now.core.rows
used_node book node (Slave s) is =
    ap (λ o. unwrap_or o false)
    (slice_get-placed (use_of book.now.core) 0 book.fixed.topology.slaves s s (omega arith) ∙ ap (option_map (use_of book.now.core s)) is.1)
used_node book node (Proc p) is = refl
used_node book node (Power w) is = refl
used_node book node Unknown is = refl

freed_unit : KindLaws → (before after : State) (unit : Unit) → before.fixed ≡ after.fixed
    → freed_by (placed (use_of before.now.core) 0 before.fixed.topology.slaves) after.now.core.rows (kind_of_unit before.fixed.topology unit)
    ≡ (used unit before && not (used unit after))
freed_unit laws before after (Node node) fixed =
    let kind : Kind = kind_of before.fixed.topology node in
    ap (λ b. b && not (used_at kind after.now.core.rows)) (used_node before node kind (laws.is before.fixed.topology node))
    ∙ ap (λ (f : Fixed). used_at kind before.now.core.rows && not (used_at (kind_of f.topology node) after.now.core.rows)) fixed
freed_unit laws before after (Line line) fixed = refl

pub noticed_all : (new : UnitKind → ℕ) (freed : UnitKind → Bool) (kind_in : Unit → UnitKind) (before now : Unit → ℕ) (gone : Unit → Bool) → ((u : Unit) → new (kind_in u) ≡ now u) → ((u : Unit) → freed (kind_in u) ≡ gone u) → (us : List Unit)
    → noticed_by new freed (map kind_in us) (map (λ u. (u, before u)) us) ≡ flat_map (λ u. notes_about (not (before u == now u)) (gone u) u) us
noticed_all new freed kind_in before now gone are lost [] = refl
noticed_all new freed kind_in before now gone are lost (u ∷ us) =
    ap (λ n. notes_about (not (before u == n)) (freed (kind_in u)) u ++ noticed_by new freed (map kind_in us) (map (λ u. (u, before u)) us)) (are u)
    ∙ (ap (λ b. notes_about (not (before u == now u)) b u ++ noticed_by new freed (map kind_in us) (map (λ u. (u, before u)) us)) (lost u)
    ∙ ap (λ xs. notes_about (not (before u == now u)) (gone u) u ++ xs) (noticed_all new freed kind_in before now gone are lost us))

-- what was logged is what happened from the book before to this one, which has the same chip
pub notices_are : KindLaws → (before after : State) (kinds : List UnitKind) (used : List Bool) (values : List (Unit × ℕ)) → before.fixed ≡ after.fixed → kinds ≡ map (kind_of_unit before.fixed.topology) (units before) → used ≡ placed (use_of before.now.core) 0 before.fixed.topology.slaves → values ≡ map (λ u. (u, value u before)) (units before)
    → noticed_by (value_by after.fixed after.now.core) (freed_by used after.now.core.rows) kinds values ≡ notifications before after
notices_are laws before after kinds used_before values fixed kinds_are used_are values_are =
    let new : UnitKind → ℕ = value_by after.fixed after.now.core in
    let freed : UnitKind → Bool = freed_by (placed (use_of before.now.core) 0 before.fixed.topology.slaves) after.now.core.rows in
    let kind_in : Unit → UnitKind = kind_of_unit before.fixed.topology in
    ap (λ us. noticed_by new (freed_by us after.now.core.rows) kinds values) used_are
    ∙ (ap (λ ks. noticed_by new freed ks values) kinds_are
    ∙ (ap (noticed_by new freed (map kind_in (units before))) values_are
    ∙ (noticed_all new freed kind_in (λ u. value u before) (λ u. value u after) (λ u. used u before && not (used u after))
    (λ u. ap (λ (f : Fixed). new (kind_of_unit f.topology u)) fixed ∙ value_by_is after u)
    (λ u. freed_unit laws before after u fixed) (units before)
    ∙ ap (λ (f : Fixed). flat_map (happened before after) (units (record before { fixed = f }))) fixed)))
