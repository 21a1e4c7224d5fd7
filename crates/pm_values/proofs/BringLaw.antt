-- After a step the slaves and the reset lines are as before that it doesn't write down.
use Rattle.std.proofs.Common.{◌≡◌, ℕ, ◌==◌, ◌&&◌, Bool, true, false, not, List, [], slice_get, unwrap_or, Option, Some, None, refl, arith, ap, sym, ◌∙◌, subst, ◌⊎◌, inl, inr}
use Rattle.std.specs.Prelude.{option_map}
use Rattle.std.proofs.lemmas.Bool.{eq-eqb, eqb-true}
use Rattle.std.proofs.lemmas.Option.{slice_get-map}
use Rattle.pm_base.proofs.Booleans.{both}
use Rattle.pm_base.specs.declared.names.Mode.{Mode}
use Rattle.pm_base.specs.declared.names.Unit.{Unit}
use Rattle.pm_topology.specs.declared.places.Kind.TheVariants.{Proc, Slave, Power, Unknown}
use Rattle.pm_topology.specs.declared.topology.SlaveDef.{SlaveDef}
use Rattle.pm_topology.specs.declared.topology.Topology.{Topology}
use Rattle.pm_topology.specs.Units.{needs_in}
use Rattle.pm_state.specs.Choice.{state_for}
use Rattle.pm_state.specs.State.{CoreHalf, Fixed, State}
use Rattle.pm_state.specs.Units.{units}
use Rattle.pm_state.specs.Values.{chosen, line_at, need_of, placed, state_at, value}
use Rattle.pm_state.proofs.PlacedLemmas.{slice_get-placed}
use Rattle.pm_values.specs.declared.caches.Caches.{Caches}
use Rattle.pm_values.specs.declared.caches.UnitKind.{UnitKind}
use Rattle.pm_values.specs.declared.caches.UnitKind.TheVariants.{Entry, Reset}
use Rattle.pm_values.specs.Along.{Trail}
use Rattle.pm_values.specs.Caches.{AreSettled, IsChosen, OthersStay, freed_by, is_settled, kind_of_unit, renewed, started_at, use_of, value_by}
use Rattle.pm_values.specs.Kinds.{is_slave_or_line, rests_at}
use Rattle.pm_values.specs.Notifications.{is_used}
use Rattle.std.proofs.Common.{◌<◌, ◌||◌, nat_lt, length}
use Rattle.std.proofs.lemmas.Bool.Decides.{nat_tests}
use Rattle.pm_values.specs.Behind.{IsBehind, renewed_on, rests, with_core}
use Rattle.pm_values.proofs.RenewedLaw.{renewed_all, renewed_within}
use Rattle.pm_resets.specs.Resets.{line_value}
use Rattle.pm_state.specs.Changes.{HasPlaces, Keeps, Written, is_in, is_listed}
use Rattle.pm_power.specs.Forest.{ups}
use Rattle.pm_values.proofs.CachesLaw.{chosen_or_0, unit_value_is, value_by_is}
use Rattle.pm_values.proofs.OthersLaw.{stayed}
use Rattle.pm_values.proofs.SettledLaw.{rest_starts}

-- ---- a slave that isn't written down

pub chosen_same : (w : Written) (before after : CoreHalf) → Keeps w before after
    → (s : ℕ) (slave : SlaveDef) → is_listed s w.slaves ≡ false → chosen before s slave ≡ chosen after s slave
chosen_same w before after changes s slave clear = ap (λ wanted. state_for wanted slave.states) (sym (changes.wanted s clear))

pub needed_same : (w : Written) (before after : CoreHalf) → Keeps w before after
    → (s : ℕ) (slave : SlaveDef) → is_listed s w.slaves ≡ false → need_of before s slave ≡ need_of after s slave
needed_same w before after changes s slave clear = ap (λ k. needs_in k slave) (chosen_same w before after changes s slave clear)

state_same : (w : Written) (before after : CoreHalf) → Keeps w before after
    → (s : ℕ) (slave : Option SlaveDef) → is_listed s w.slaves ≡ false → state_at s slave before ≡ state_at s slave after
state_same w before after changes s None clear = refl
state_same w before after changes s (Some slave) clear = chosen_same w before after changes s slave clear

and_not : (b : Bool) → (b && not b) ≡ false
and_not true = refl
and_not false = refl

used_in : (before : CoreHalf) (s : ℕ) (slave : Option SlaveDef) (now : Bool) → now ≡ is_used s before.rows → (unwrap_or (option_map (use_of before s) slave) false && not now) ≡ false
used_in before s None now same = refl
used_in before s (Some slave) now same = ap (λ b. is_used s before.rows && not b) same ∙ and_not (is_used s before.rows)

-- it isn't left without users
freed_none : (w : Written) (before after : CoreHalf) → Keeps w before after
    → (s : ℕ) (slaves : List SlaveDef) (used : List Bool) → used ≡ placed (use_of before) 0 slaves
    → is_listed s w.slaves ≡ false → freed_by used after.rows (Entry (Slave s)) ≡ false
freed_none w before after changes s slaves used are clear =
    ap (λ (us : List Bool). unwrap_or (slice_get us s) false && not (is_used s after.rows)) are
    ∙ (ap (λ o. unwrap_or o false && not (is_used s after.rows)) (slice_get-placed (use_of before) 0 slaves s s (omega arith))
    ∙ used_in before s (slice_get slaves s) (is_used s after.rows) (ap (λ n. not (n == 0)) (changes.users s clear)))

both_so : (a b : ℕ) (freed : Bool) → a ≡ b → freed ≡ false → ((a == b) && not freed) ≡ true
both_so a b freed same none = ap (λ f. (a == b) && not f) none ∙ ap (λ e. e && true) (eq-eqb a b same)

-- the slave is in the state that it was in, and isn't left without users
abbrev StaysSo : Fixed → CoreHalf → CoreHalf → List Bool → ℕ → Type 0
StaysSo fixed before after used s =
    (state_at s (slice_get fixed.topology.slaves s) before ≡ state_at s (slice_get fixed.topology.slaves s) after)
    × (freed_by used after.rows (Entry (Slave s)) ≡ false)

not_so : (b : Bool) → not b ≡ true → b ≡ false
not_so true is = cc
not_so false is = refl

-- so is one that is as it is kept
kept_so : (book : State) (before : CoreHalf) (old : Caches) (used : List Bool) → old.states.items ≡ placed (chosen before) 0 book.fixed.topology.slaves → used ≡ old.used.items
    → (s : ℕ) → rests s book old ≡ true → StaysSo book.fixed before book.now.core used s
kept_so book before old used states are s is =
    let slaves = book.fixed.topology.slaves in
    let core : CoreHalf = book.now.core in
    let parts =
    both (state_at s (slice_get slaves s) core == unwrap_or (slice_get old.states.items s) 0) (not (freed_by old.used.items core.rows (Entry (Slave s)))) is
    in
    let kept : unwrap_or (slice_get old.states.items s) 0 ≡ state_at s (slice_get slaves s) before =
    ap (λ xs. unwrap_or (slice_get xs s) 0) states
    ∙ (ap (λ o. unwrap_or o 0) (slice_get-placed (chosen before) 0 slaves s s (omega arith)) ∙ chosen_or_0 before s (slice_get slaves s))
    in (
      sym (eqb-true _ _ parts.0 ∙ kept),
      ap (λ us. freed_by us core.rows (Entry (Slave s))) are ∙ not_so _ parts.1,
    )

-- ---- a unit that rests

module _ (w : Written) (fixed : Fixed) (before after : CoreHalf) (used : List Bool) (changes : Keeps w before after)
    (used_are : used ≡ placed (use_of before) 0 fixed.topology.slaves)
  where
    -- by its kind, where its value is that of the book before
    kind_settled : (u : Unit) (kind : UnitKind) → is_slave_or_line kind ≡ true → ((s : ℕ) → kind ≡ Entry (Slave s) → (is_listed s w.slaves ≡ false) ⊎ StaysSo fixed before after used s)
        → ((l : ℕ) → kind ≡ Reset (Some l) → is_listed l w.lines ≡ false)
        → is_settled (value_by fixed after kind) (freed_by used after.rows kind) (Some (u, value_by fixed before kind)) ≡ true
    kind_settled u (Entry (Slave s)) may clear lines =
        let Rests : Type 0 = ((value_by fixed before (Entry (Slave s)) == value_by fixed after (Entry (Slave s))) && not (freed_by used after.rows (Entry (Slave s)))) ≡ true in
        let by : ((is_listed s w.slaves ≡ false) ⊎ StaysSo fixed before after used s) → Rests = λ so. elim so [
          | inl none ↦
              both_so (value_by fixed before (Entry (Slave s))) (value_by fixed after (Entry (Slave s))) (freed_by used after.rows (Entry (Slave s)))
              (state_same w before after changes s (slice_get fixed.topology.slaves s) none)
              (freed_none w before after changes s fixed.topology.slaves used used_are none)
          | inr stays ↦
              both_so (value_by fixed before (Entry (Slave s))) (value_by fixed after (Entry (Slave s))) (freed_by used after.rows (Entry (Slave s))) stays.0 stays.1
        ] in
        by (clear s refl)
    kind_settled u (Entry (Proc p)) may clear lines = cc
    kind_settled u (Entry (Power p)) may clear lines = cc
    kind_settled u (Entry Unknown) may clear lines = cc
    kind_settled u (Reset None) may clear lines = refl
    kind_settled u (Reset (Some l)) may clear lines =
        both_so (line_at (Some l) before.lines) (line_at (Some l) after.lines) false (ap line_value (sym (changes.lines l (lines l refl)))) refl

    unit_settled : (t : Topology) (value_of : Unit → ℕ) (u : Option Unit) (kind : UnitKind) → ((u : Unit) → value_of u ≡ value_by fixed before (kind_of_unit t u))
        → option_map (kind_of_unit t) u ≡ Some kind → is_slave_or_line kind ≡ true → ((s : ℕ) → kind ≡ Entry (Slave s) → (is_listed s w.slaves ≡ false) ⊎ StaysSo fixed before after used s)
        → ((l : ℕ) → kind ≡ Reset (Some l) → is_listed l w.lines ≡ false)
        → is_settled (value_by fixed after kind) (freed_by used after.rows kind) (option_map (λ u. (u, value_of u)) u) ≡ true
    unit_settled t value_of None kind are at may clear lines = cc
    unit_settled t value_of (Some u) kind are at may clear lines =
        let same : kind_of_unit t u ≡ kind = cc in
        let R : ℕ → Type 0 = λ n. is_settled (value_by fixed after kind) (freed_by used after.rows kind) (Some (u, n)) ≡ true in
        subst R (sym (are u ∙ ap (value_by fixed before) same)) (kind_settled u kind may clear lines)

pub written_settled : (w : Written) (book : State) (along : Trail) (old new : Caches) → IsBehind w book old → IsChosen book old new
    → OthersStay book along.downs new
    → ((k s : ℕ) → slice_get new.kinds.items k ≡ Some (Entry (Slave s)) → rests_at new.kinds.awake k ≡ true
    → (is_listed s w.slaves ≡ false) ⊎ (rests s book old ≡ true))
    → ((k l : ℕ) → slice_get new.kinds.items k ≡ Some (Reset (Some l)) → rests_at new.kinds.awake k ≡ true → is_listed l w.lines ≡ false)
    → AreSettled (value_by book.fixed book.now.core) (freed_by new.used.items book.now.core.rows) along.downs book.now.core.procs new.kinds.awake new.kinds.items new.values
written_settled w book along old new behind chosen_by stay resting lines = λ k kind at is. by k kind at is (is_slave_or_line kind) refl
  where
    stays_so : (s : ℕ) → (is_listed s w.slaves ≡ false) ⊎ (rests s book old ≡ true)
        → (is_listed s w.slaves ≡ false) ⊎ StaysSo book.fixed behind.before book.now.core new.used.items s
    stays_so s so = elim so [
      | inl none ↦ inl none
      | inr is ↦ inr (kept_so book behind.before old new.used.items behind.kept.states chosen_by.used s is)
    ]

    by : (k : ℕ) (kind : UnitKind) → slice_get new.kinds.items k ≡ Some kind → rests_at new.kinds.awake k ≡ true → (b : Bool) → is_slave_or_line kind ≡ b
        → (started_at along.downs book.now.core.procs kind (slice_get new.values k) ≡ [])
        × (is_settled (value_by book.fixed book.now.core kind) (freed_by new.used.items book.now.core.rows kind) (slice_get new.values k) ≡ true)
    by k kind at is true may =
        let before : CoreHalf = behind.before in
        let was : State = with_core before book in
        let t : Topology = book.fixed.topology in
        let us : List Unit = units book in
        let u : Option Unit = slice_get us k in
        let found : option_map (kind_of_unit t) u ≡ Some kind =
        sym (slice_get-map (kind_of_unit t) us k) ∙ (ap (λ ks. slice_get ks k) (sym (chosen_by.kinds ∙ behind.kept.kinds)) ∙ at)
        in
        let entry : slice_get new.values k ≡ option_map (λ u. (u, value u was)) u =
        ap (λ es. slice_get es k) (chosen_by.values ∙ behind.kept.values) ∙ slice_get-map (λ u. (u, value u was)) us k
        in (
          rest_starts along.downs book.now.core.procs kind (slice_get new.values k) may,
          ap (is_settled (value_by book.fixed book.now.core kind) (freed_by new.used.items book.now.core.rows kind)) entry
              ∙ unit_settled w book.fixed before book.now.core new.used.items behind.keeps (chosen_by.used ∙ behind.kept.used)
              t (λ u. value u was) u kind (λ u. sym (value_by_is was u)) found may
              (λ s slave. stays_so s (resting k s (at ∙ ap (λ x. Some x) slave) is))
              (λ l line. lines k l (at ∙ ap (λ x. Some x) line) is),
        )
    by k kind at is false may =
        let core : CoreHalf = book.now.core in
        let entry : Option (Unit × ℕ) = slice_get new.values k in
        let still = stayed along.downs core.procs (ups new.power) core.lines new.used.items core.rows new.states.items kind entry (stay k kind at may is) in
        let same = unit_value_is book.fixed core new.states.items core.procs (ups new.power) core.lines chosen_by.states refl (ap ups chosen_by.power) refl kind in (
          still.0,
          ap (λ v. is_settled v (freed_by new.used.items core.rows kind) entry) (sym same) ∙ still.1,
        )

-- ---- what is found anew

inside : (s count : ℕ) (list : List ℕ) → s < count → is_in s list ≡ is_listed s (record { list = list; count = count })
inside s count list within =
    let there : nat_lt s count ≡ true = grind (arith, nat_tests) in
    sym (ap (λ b. not b || is_in s list) there)

pub found_anew : {A : Type 0} (new : CoreHalf → ℕ → SlaveDef → A) (w : Written) (book : State) (before : CoreHalf) (items : List A) → HasPlaces book.fixed w
    → items ≡ placed (new before) 0 book.fixed.topology.slaves
    → ((s : ℕ) (slave : SlaveDef) → is_listed s w.slaves ≡ false → new before s slave ≡ new book.now.core s slave)
    → renewed_on w.slaves.list new book items ≡ placed (new book.now.core) 0 book.fixed.topology.slaves
found_anew new w book before items places are same =
    let slaves = book.fixed.topology.slaves in
    let core : CoreHalf = book.now.core in
    ap (renewed (λ s. is_in s w.slaves.list) (new core) 0 slaves) are
    ∙ (renewed_within (new core) (λ s. is_in s w.slaves.list) (λ s. is_listed s w.slaves) 0 slaves (placed (new before) 0 slaves)
    (λ s from to. inside s w.slaves.count w.slaves.list (omega (arith, to, places.slaves)))
    ∙ renewed_all (new core) (λ s. is_listed s w.slaves) (new before) same 0 slaves)

pub use_same : (w : Written) (before after : CoreHalf) → Keeps w before after
    → (s : ℕ) (slave : SlaveDef) → is_listed s w.slaves ≡ false → use_of before s slave ≡ use_of after s slave
use_same w before after keeps s slave clear = ap (λ n. not (n == 0)) (sym (keeps.users s clear))

-- a slave that isn't on the list isn't written down, where it is one of the chip's
pub unlisted : (w : Written) (book : State) (s : ℕ) → HasPlaces book.fixed w → s < length book.fixed.topology.slaves → is_in s w.slaves.list ≡ false → is_listed s w.slaves ≡ false
unlisted w book s places within none = sym (inside s w.slaves.count w.slaves.list (omega (arith, within, places.slaves))) ∙ none

pub unlisted_line : (w : Written) (book : State) (l : ℕ) → HasPlaces book.fixed w → l < length book.fixed.topology.lines → is_in l w.lines.list ≡ false → is_listed l w.lines ≡ false
unlisted_line w book l places within none = sym (inside l w.lines.count w.lines.list (omega (arith, within, places.lines))) ∙ none

-- a unit that didn't rest doesn't rest after more were woken
pub awake_still : (before after : List Bool) (k : ℕ) → (rests_at after k ≡ true → rests_at before k ≡ true) → rests_at before k ≡ false → rests_at after k ≡ false
awake_still before after k less awake = by (rests_at after k) refl
  where
    by : (b : Bool) → rests_at after k ≡ b → rests_at after k ≡ false
    by true is = let clash : false ≡ true = sym awake ∙ less is in cc
    by false is = is

pub line_clear : (w : Written) (book : State) (l : ℕ) → HasPlaces book.fixed w → l < length book.fixed.topology.lines → (is_in l w.lines.list ≡ true → ⊥) → is_listed l w.lines ≡ false
line_clear w book l places within apart = by (is_in l w.lines.list) refl
  where
    by : (b : Bool) → is_in l w.lines.list ≡ b → is_listed l w.lines ≡ false
    by true is = absurd (apart is)
    by false is = unlisted_line w book l places within is
