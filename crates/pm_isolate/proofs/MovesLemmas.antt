-- A unit at a place that isn't logged keeps its value, and the processors stay if no change of a mode is logged.
use Rattle.std.proofs.Common.{◌≡◌, ℕ, ◌==◌, ◌||◌, ◌++◌, Bool, true, false, not, cond, nat_lt, List, [], ◌∷◌, Option, Some, None, length, zero, suc, refl, sym, ◌∙◌, ap, subst}
use Rattle.std.specs.Prelude.{filter, slice_get}
use Rattle.pm_base.specs.declared.events.Event.{Event}
use Rattle.pm_base.specs.declared.events.Event.TheVariants.{Pass}
use Rattle.pm_base.specs.declared.names.Unit.{Unit}
use Rattle.pm_base.proofs.Booleans.{equal, later_passes, neither}
use Rattle.pm_topology.specs.UnitMap.{place_of, units_in}
use Rattle.pm_topology.specs.Units.{has_in, rises, same_unit}
use Rattle.pm_topology.proofs.UnitsLaw.{same-refl, same_is}
use Rattle.pm_state.specs.State.{State}
use Rattle.pm_state.specs.Units.{moved, units}
use Rattle.pm_state.specs.Values.{value}
use Rattle.pm_step.proofs.Refused.{pass_stays}
use Rattle.pm_core.specs.Step.{effect, turns_proc}
use Rattle.pm_run.specs.Run.{Stand, book_after}
use Rattle.pm_base.specs.Places.{has_place}
use Rattle.pm_isolate.specs.Marks.{Marks}
use Rattle.pm_isolate.specs.Moves.{Logged, is_logged, line_moves, logged_along, with_place, with_place_of, with_step, with_turn, with_unit, with_units}
use Rattle.pm_isolate.proofs.HistoryLemmas.{clash, not_false, one}
use Rattle.pm_isolate.proofs.PlacesLemmas.{neither_place, place_there, unit_there}
use Rattle.pm_isolate.proofs.TurnsLaw.{KeepsProcs, event_keeps}

-- ---- a unit that isn't among those that pass

still : (p : Unit → Bool) (units : List Unit) (u : Unit) → has_in units u ≡ true → has_in (filter p units) u ≡ false → p u ≡ false
still p [] u there out = clash (sym there)
still p (v ∷ units) u there out = by (same_unit v u) refl (p v) refl there out (λ there out. still p units u there out)
  where
    by : (b : Bool) → same_unit v u ≡ b → (d : Bool) → p v ≡ d → (b || has_in units u) ≡ true → has_in (cond d (v ∷ filter p units) (filter p units)) u ≡ false
        → (has_in units u ≡ true → has_in (filter p units) u ≡ false → p u ≡ false) → p u ≡ false
    by true is true passes there out rest = clash (sym is ∙ (neither (same_unit v u) (has_in (filter p units) u) out).0)
    by true is false fails there out rest = ap p (sym (same_is v u is)) ∙ fails
    by false is true passes there out rest = rest there (neither (same_unit v u) (has_in (filter p units) u) out).1
    by false is false fails there out rest = rest there out

in_units : (units : List Unit) (k : ℕ) (u : Unit) → slice_get units k ≡ Some u → has_in units u ≡ true
in_units [] k u at = cc
in_units (v ∷ units) zero u at =
    let same : v ≡ u = cc in
    ap (λ (b : Bool). b || has_in units u) (ap (λ (w : Unit). same_unit w u) same ∙ same-refl u)
in_units (v ∷ units) (suc k) u at = later_passes (same_unit v u) (has_in units u) (in_units units k u at)

-- ---- places that aren't logged

unlogged_place : (place : ℕ) (m : Logged) (k : ℕ) → is_logged (with_place place m) k ≡ false → (is_logged m k ≡ false) × ((place == k) ≡ false)
unlogged_place place m k none = by (nat_lt (length m.places.items) m.places.room) none
  where
    by : (b : Bool) → is_logged (cond b (record m { places = record m.places { items = m.places.items ++ place ∷ [] } }) (record m { all = true })) k ≡ false → (is_logged m k ≡ false) × ((place == k) ≡ false)
    by true none =
        let parts = neither m.all (has_place (m.places.items ++ place ∷ []) k) none in
        let places = neither_place m.places.items (place ∷ []) k parts.1 in
        (ap (λ (b : Bool). b || has_place m.places.items k) parts.0 ∙ places.0, (neither (place == k) false places.1).0)
    by false none = clash none

unlogged_place_of : (o : Option ℕ) (m : Logged) (k : ℕ) → is_logged (with_place_of o m) k ≡ false → (is_logged m k ≡ false) × (o ≡ Some k → ⊥)
unlogged_place_of None m k none = (none, λ is. absurd cc)
unlogged_place_of (Some place) m k none =
    let parts = unlogged_place place m k none in
    (parts.0, λ is. let same : place ≡ k = cc in clash (sym (equal place k same) ∙ parts.1))

unlogged_units : (marks : Marks) (units : List Unit) (m : Logged) (k : ℕ) → is_logged (with_units marks units m) k ≡ false → (is_logged m k ≡ false) × ((u : Unit) → has_in units u ≡ true → place_of marks u ≡ Some k → ⊥)
unlogged_units marks [] m k none = (none, λ u there at. clash (sym there))
unlogged_units marks (v ∷ units) m k none =
    let rest = unlogged_units marks units (with_unit marks m v) k none in
    let first = unlogged_place_of (place_of marks v) m k rest.0 in
    (first.0, λ u there at. by u (same_unit v u) refl there at first.1 rest.1)
  where
    by : (u : Unit) (b : Bool) → same_unit v u ≡ b → (b || has_in units u) ≡ true → place_of marks u ≡ Some k → (place_of marks v ≡ Some k → ⊥) → ((u : Unit) → has_in units u ≡ true → place_of marks u ≡ Some k → ⊥) → ⊥
    by u true is there at first rest = first (ap (λ (w : Unit). place_of marks w) (same_is v u is) ∙ at)
    by u false is there at first rest = rest u there at

-- ---- the unit there keeps its value

unmoved_step : (marks : Marks) (a b : State) (m : Logged) (k : ℕ) (e : Unit × Bool) → rises (units_in marks) ≡ true → units_in marks ≡ units b → slice_get marks k ≡ Some e
    → is_logged (with_units marks (moved (λ u. value u a) b) m) k ≡ false → (is_logged m k ≡ false) × (value e.0 b ≡ value e.0 a)
unmoved_step marks a b m k e rising all at none =
    let ms : List Unit = moved (λ u. value u a) b in
    let parts = unlogged_units marks ms m k none in
    let there : has_in (units b) e.0 ≡ true = subst (λ (us : List Unit). has_in us e.0 ≡ true) all (in_units (units_in marks) k e.0 (unit_there marks k e at)) in
    let out : has_in ms e.0 ≡ false = by (has_in ms e.0) refl (λ is. parts.1 e.0 is (place_there marks k e rising at)) in
    let kept : not (value e.0 a == value e.0 b) ≡ false = still (λ u. not (value u a == value u b)) (units b) e.0 there out in
    (parts.0, sym (one (value e.0 a) (value e.0 b) (not_false (value e.0 a == value e.0 b) kept)))
  where
    by : (d : Bool) → has_in (moved (λ u. value u a) b) e.0 ≡ d → (has_in (moved (λ u. value u a) b) e.0 ≡ true → ⊥) → has_in (moved (λ u. value u a) b) e.0 ≡ false
    by true is never = absurd (never is)
    by false is never = is

pub unmoved : (marks : Marks) (events : List Event) (book : State) (m : Logged) (k : ℕ) (e : Unit × Bool) → rises (units_in marks) ≡ true → units_in marks ≡ units book → slice_get marks k ≡ Some e
    → is_logged (logged_along marks events book m) k ≡ false → (is_logged m k ≡ false) × (value e.0 (book_after events book) ≡ value e.0 book)
unmoved marks [] book m k e rising all at none = (none, refl)
unmoved marks (event ∷ events) book m k e rising all at none =
    let rest = unmoved marks events (effect event book) (with_step marks event book (effect event book) m) k e rising all at none in
    let first = unmoved_step marks book (effect event book) (with_turn (turns_proc event book) m) k e rising all at rest.0 in
    (first.0, rest.1 ∙ first.1)

-- ---- the processors stay

place_modes : (o : Option ℕ) (m : Logged) → (with_place_of o m).modes ≡ m.modes
place_modes None m = refl
place_modes (Some place) m = by (nat_lt (length m.places.items) m.places.room)
  where
    by : (b : Bool) → (cond b (record m { places = record m.places { items = m.places.items ++ place ∷ [] } }) (record m { all = true })).modes ≡ m.modes
    by true = refl
    by false = refl

units_modes : (marks : Marks) (units : List Unit) (m : Logged) → (with_units marks units m).modes ≡ m.modes
units_modes marks [] m = refl
units_modes marks (v ∷ units) m = units_modes marks units (with_unit marks m v) ∙ place_modes (place_of marks v) m

pub unturned : (marks : Marks) (events : List Event) (book : State) (m : Logged) → (logged_along marks events book m).modes ≡ false → (m.modes ≡ false) × KeepsProcs book (book_after events book)
unturned marks [] book m none = (none, refl)
unturned marks (event ∷ events) book m none =
    let rest = unturned marks events (effect event book) (with_step marks event book (effect event book) m) none in
    let now : (m.modes || turns_proc event book) ≡ false = sym (units_modes marks (moved (λ u. value u book) (effect event book)) (with_turn (turns_proc event book) m)) ∙ rest.0 in
    let parts = neither m.modes (turns_proc event book) now in
    (parts.0, rest.1 ∙ event_keeps event book parts.1)

-- ---- an event of which nothing comes

none_moved : (book : State) (units : List Unit) → filter (λ u. not (value u book == value u book)) units ≡ []
none_moved book [] = refl
none_moved book (u ∷ units) =
    let later : List Unit = filter (λ u. not (value u book == value u book)) units in
    ap (λ (b : Bool). cond (not b) (u ∷ later) later) (equal (value u book) (value u book) refl) ∙ none_moved book units

or_false : (b : Bool) → (b || false) ≡ b
or_false true = refl
or_false false = refl

-- nothing is logged of it
pub pass_logs : (marks : Marks) (stand : Stand) (m : Logged) → line_moves marks Pass stand m ≡ m
pass_logs marks stand m =
    let book : State = stand.book in
    ap (λ (b : State). with_units marks (moved (λ u. value u book) b) (with_turn (turns_proc Pass book) m)) (pass_stays book)
    ∙ ap (λ (us : List Unit). with_units marks us (with_turn (turns_proc Pass book) m)) (none_moved book (units book))
    ∙ ap (λ (modes : Bool). record m { modes = modes }) (or_false m.modes)
