-- Where what is kept rests nothing moves, nothing starts, and nothing happened to any node.
use Rattle.std.proofs.Common.{◌≡◌, ℕ, ◌<◌, ◌==◌, ◌&&◌, ◌||◌, Bool, true, false, not, if◌then◌else◌, List, [], ◌∷◌, ◌++◌, length, map, slice_get, None, Some, refl, arith, ap, cond, sym, subst, ◌∙◌, inl, inr}
use Rattle.std.specs.Prelude.{Option, filter, flat_map, option_map, unwrap_or}
use Rattle.std.proofs.lemmas.Bool.{eq-eqb}
use Rattle.std.proofs.lemmas.List.{append-nil}
use Rattle.std.proofs.lemmas.Option.{slice_get_cases}
use Rattle.pm_base.specs.BoundedList.{Bounded}
use Rattle.pm_base.specs.declared.names.Mode.{Mode}
use Rattle.pm_base.specs.declared.names.Mode.TheVariants.{Off, Active, Asleep, Suspending}
use Rattle.pm_base.specs.declared.names.NodeId.{NodeId}
use Rattle.pm_base.specs.declared.names.Unit.{Unit}
use Rattle.pm_base.specs.declared.names.Unit.TheVariants.{Node, Line}
use Rattle.pm_notify.specs.declared.notes.Note.TheVariants.{Change, ZeroUsers}
use Rattle.pm_notify.specs.declared.notes.Waiting.{Waiting}
use Rattle.pm_procs.specs.Modes.{is_awake, same_mode}
use Rattle.pm_procs.specs.Procs.{mode_at, proc_at}
use Rattle.pm_topology.specs.declared.places.Kind.{Kind}
use Rattle.pm_topology.specs.declared.places.Kind.TheVariants.{Proc, Slave, Power, Unknown}
use Rattle.pm_topology.specs.declared.topology.SlaveDef.{SlaveDef}
use Rattle.pm_topology.specs.declared.topology.Topology.{Topology}
use Rattle.pm_topology.specs.Places.{IsKind, KindLaws, kind_of}
use Rattle.pm_state.specs.State.{CoreHalf, State}
use Rattle.pm_state.specs.Units.{moved, units}
use Rattle.pm_state.specs.Values.{value}
use Rattle.pm_state.proofs.PlacedLemmas.{slice_get-placed}
use Rattle.pm_values.specs.declared.caches.Caches.{Caches}
use Rattle.pm_values.specs.declared.caches.UnitKind.{UnitKind}
use Rattle.pm_values.specs.declared.caches.UnitKind.TheVariants.{Entry, Reset}
use Rattle.pm_values.specs.declared.starts.Start.{Start}
use Rattle.pm_values.specs.Along.{Trail, down_logged}
use Rattle.pm_values.specs.Caches.{AreKept, Finds, freed_by, kind_of_unit, moved_by, noticed_by, starts_by, use_of, used_kept, value_by, valued}
use Rattle.pm_values.specs.Notifications.{happened, is_used, log_if, notes_about, used}
use Rattle.pm_values.specs.Starts.{start_by, starts, starts_among, was_down}
use Rattle.pm_values.proofs.CachesLaw.{moves_are, value_by_is}
use Rattle.pm_values.proofs.NoticesLaw.{noticed_all}
use Rattle.pm_values.proofs.StartsLaw.{TellsDown, starts_are}

-- the values that are kept are those of the book, no slave was left without users, and the processors were down that are
-- down now
pub record IsAtRest (book : State) (along : Trail) (caches : Caches) : Type 0 where
  pub kinds : caches.kinds.items ≡ map (kind_of_unit book.fixed.topology) (units book)
  pub values : caches.values ≡ valued book
  pub freed : (kind : UnitKind) → freed_by caches.used.items book.now.core.rows kind ≡ false
  pub downs : (p : ℕ) → p < length book.fixed.topology.procs → down_logged p along.downs ≡ was_down (book ∷ []) p

-- ---- what moves

none_differ : (values : Unit → ℕ) (us : List Unit) → filter (λ u. not (values u == values u)) us ≡ []
none_differ values [] = refl
none_differ values (u ∷ us) =
    let later : List Unit = filter (λ u. not (values u == values u)) us in
    ap (λ b. cond (not b) (u ∷ later) later) (eq-eqb (values u) (values u) refl) ∙ none_differ values us

none_move : (book : State) (caches : Caches) (along : Trail) → IsAtRest book along caches → moved_by (value_by book.fixed book.now.core) caches.kinds.items caches.values ≡ []
none_move book caches along rest =
    moves_are book (λ u. value u book) caches.kinds.items caches.values rest.kinds rest.values
    ∙ none_differ (λ u. value u book) (units book)

-- ---- what starts

-- the processors that start
pub starts_all : (downs : List Bool) (before : Unit → ℕ) (down : ℕ → Bool) (after : State) (kinds : List UnitKind) (values : List (Unit × ℕ)) → kinds ≡ map (kind_of_unit after.fixed.topology) (units after) → values ≡ map (λ u. (u, before u)) (units after) → TellsDown downs down after → starts_by downs after.now.core.procs kinds values ≡ starts down after
starts_all downs before down after kinds values kinds_are values_are tells =
    ap (λ ks. starts_by downs after.now.core.procs ks values) kinds_are
    ∙ (ap (starts_by downs after.now.core.procs (map (kind_of_unit after.fixed.topology) (units after))) values_are
    ∙ starts_are downs before down after (units after) tells)

-- a processor has its place among those of the chip
pub there : (t : Topology) (node : NodeId) (p : ℕ) → IsKind t node (Proc p) → p < length t.procs
there t node p is = elim ((slice_get_cases t.procs p).1) [
  | inl here ↦ here.1
  | inr past ↦ let none : None ≡ Some is.0 = sym past.1 ∙ is.1 in cc
]

-- one that is active wasn't down
active_is_up : (mode : Mode) → ((not (is_awake mode) || false) && same_mode mode Active) ≡ false
active_is_up Off = refl
active_is_up Active = refl
active_is_up Asleep = refl
active_is_up Suspending = refl

none_by : (book : State) (node : NodeId) (kind : Kind) → start_by (was_down (book ∷ [])) book node kind ≡ []
none_by book node (Proc p) =
    ap (λ b. if b then record { proc = node; address = (proc_at p book.now.core.procs).address } ∷ [] else [])
    (active_is_up (mode_at p book.now.core.procs))
none_by book node (Slave s) = refl
none_by book node (Power w) = refl
none_by book node Unknown = refl

pub none_start_among : (book : State) (us : List Unit) → starts_among (was_down (book ∷ [])) book us ≡ []
none_start_among book [] = refl
none_start_among book (Node node ∷ us) =
    ap (λ ss. ss ++ starts_among (was_down (book ∷ [])) book us) (none_by book node (kind_of book.fixed.topology node))
    ∙ none_start_among book us
none_start_among book (Line line ∷ us) = none_start_among book us

none_start : KindLaws → (book : State) (caches : Caches) (along : Trail) → IsAtRest book along caches → starts_by along.downs book.now.core.procs caches.kinds.items caches.values ≡ []
none_start laws book caches along rest =
    let t : Topology = book.fixed.topology in
    starts_all along.downs (λ u. value u book) (was_down (book ∷ [])) book caches.kinds.items caches.values rest.kinds rest.values
    (λ node p kind. rest.downs p (there t node p (subst (IsKind t node) kind (laws.is t node))))
    ∙ none_start_among book (units book)

-- ---- what happened to nodes

pub nothing_freed : (used : Bool) → (used && not used) ≡ false
nothing_freed true = refl
nothing_freed false = refl

pub none_about : (changed freed : Bool) (unit : Unit) → changed ≡ false → freed ≡ false → notes_about changed freed unit ≡ []
none_about changed freed (Node node) same kept =
    ap (λ c. log_if c node Change ++ log_if freed node ZeroUsers) same ∙ ap (λ f. log_if false node Change ++ log_if f node ZeroUsers) kept
none_about changed freed (Line line) same kept = refl

none_happened : (book : State) (unit : Unit) → happened book book unit ≡ []
none_happened book unit =
    none_about (not (value unit book == value unit book)) (used unit book && not (used unit book)) unit
    (ap not (eq-eqb (value unit book) (value unit book) refl)) (nothing_freed (used unit book))

-- where the book stays nothing happened to any node
pub none_among : (book : State) (units : List Unit) → flat_map (happened book book) units ≡ []
none_among book [] = refl
none_among book (unit ∷ units) =
    ap (λ ws. ws ++ flat_map (happened book book) units) (none_happened book unit) ∙ none_among book units

-- where the values stay and no slave is left without users
none_told : (book : State) (us : List Unit) → flat_map (λ u. notes_about (not (value u book == value u book)) false u) us ≡ []
none_told book [] = refl
none_told book (u ∷ us) =
    ap (λ ws. ws ++ flat_map (λ u. notes_about (not (value u book == value u book)) false u) us)
    (none_about (not (value u book == value u book)) false u (ap not (eq-eqb (value u book) (value u book) refl)) refl)
    ∙ none_told book us

none_noticed : (book : State) (caches : Caches) (along : Trail) → IsAtRest book along caches → noticed_by (value_by book.fixed book.now.core) (freed_by caches.used.items book.now.core.rows) caches.kinds.items caches.values ≡ []
none_noticed book caches along rest =
    let new : UnitKind → ℕ = value_by book.fixed book.now.core in
    let freed : UnitKind → Bool = freed_by caches.used.items book.now.core.rows in
    let kind_in : Unit → UnitKind = kind_of_unit book.fixed.topology in
    ap (λ ks. noticed_by new freed ks caches.values) rest.kinds
    ∙ (ap (noticed_by new freed (map kind_in (units book))) rest.values
    ∙ (noticed_all new freed kind_in (λ u. value u book) (λ u. value u book) (λ u. false) (value_by_is book) (λ u. rest.freed (kind_in u)) (units book)
    ∙ none_told book (units book)))

-- ---- all of it

-- where what happened to nodes is forgotten, nothing is left to find
pub nothing_found : KindLaws → (book : State) (along : Trail) (caches : Caches) (moved : Bounded Unit) (starts : Bounded Start) (notices forgot : Bounded Waiting) → IsAtRest book along caches → starts.items ≡ [] → forgot ≡ record notices { items = [] } → Finds book along.downs caches moved moved starts starts notices forgot
nothing_found laws book along caches moved starts notices forgot rest none is = record {
  moved = sym (ap (λ us. record moved { items = moved.items ++ us }) (none_move book caches along rest) ∙ ap (λ us. record moved { items = us }) (append-nil moved.items));
  starts = sym (ap (λ ss. record starts { items = ss }) (none_start laws book caches along rest ∙ sym none));
  notices = is ∙ sym (ap (λ ws. record notices { items = ws }) (none_noticed book caches along rest));
  few = let empty : length forgot.items ≡ 0 = ap (λ (ws : Bounded Waiting). length ws.items) is in omega (arith, empty);
}

-- a slave that is used is used still
still_used : (core : CoreHalf) (s : ℕ) (slave : Option SlaveDef) → (unwrap_or (option_map (use_of core s) slave) false && not (is_used s core.rows)) ≡ false
still_used core s None = refl
still_used core s (Some slave) = nothing_freed (is_used s core.rows)

pub none_left : (book : State) (caches : Caches) → AreKept book caches → (kind : UnitKind) → freed_by caches.used.items book.now.core.rows kind ≡ false
none_left book caches kept (Entry (Slave s)) =
    ap (λ us. used_kept us (Slave s) && not (is_used s book.now.core.rows)) kept.used
    ∙ (ap (λ o. unwrap_or o false && not (is_used s book.now.core.rows)) (slice_get-placed (use_of book.now.core) 0 book.fixed.topology.slaves s s (omega arith))
    ∙ still_used book.now.core s (slice_get book.fixed.topology.slaves s))
none_left book caches kept (Entry (Proc p)) = refl
none_left book caches kept (Entry (Power w)) = refl
none_left book caches kept (Entry Unknown) = refl
none_left book caches kept (Reset place) = refl
