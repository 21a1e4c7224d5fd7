-- In a sound book over a well-formed topology the values of the units are those that the requirements ask for.
use Rattle.std.proofs.Common.{◌≡◌, ℕ, Bool, true, false, cond, Option, Some, None, IsSome, ◌↔◌, ◌⊎◌, inl, inr, List, position, slice_get, unwrap_or, bit_and, refl, sym, ap, ◌∙◌, subst, arith}
use Rattle.std.proofs.lemmas.Bool.{eqb-true}
use Rattle.std.proofs.lemmas.Option.{slice_get_within}
use Rattle.pm_base.specs.declared.names.Mode.{Mode}
use Rattle.pm_base.specs.declared.names.Mode.TheVariants.{Off, Active, Asleep, Suspending}
use Rattle.pm_base.specs.declared.names.Unit.{Unit}
use Rattle.pm_base.specs.declared.names.Unit.TheVariants.{Node, Line}
use Rattle.pm_topology.specs.declared.topology.PowerDef.{PowerDef}
use Rattle.pm_topology.specs.declared.topology.ProcDef.{ProcDef}
use Rattle.pm_topology.specs.declared.topology.SlaveDef.{SlaveDef}
use Rattle.pm_topology.specs.declared.topology.SlaveState.{SlaveState}
use Rattle.pm_topology.specs.declared.topology.Topology.{Topology}
use Rattle.pm_topology.specs.declared.places.Kind.{Kind}
use Rattle.pm_topology.specs.declared.places.Kind.TheVariants.{Proc, Slave, Power}
use Rattle.pm_topology.specs.Places.{kind_of}
use Rattle.pm_topology.specs.WellFormed.{IsWellFormed, HasFullLast}
use Rattle.pm_procs.specs.Modes.{is_awake}
use Rattle.pm_procs.specs.Procs.{mode_at}
use Rattle.pm_slaves.specs.Choice.{meets, capabilities}
use Rattle.pm_power.specs.Forest.{is_up, IsHeld, ChildNeeds, PowerNeeds}
use Rattle.pm_rows.specs.declared.wanted.Wanted.{Wanted}
use Rattle.pm_state.specs.Choice.{state_for, StandsMet}
use Rattle.pm_rows.specs.Wanted.{wanted_of}
use Rattle.pm_state.specs.Sound.{IsSound, StandsAsWanted}
use Rattle.pm_state.specs.State.{State}
use Rattle.pm_state.specs.Values.{forest, state_at, value_at, value}
use Rattle.pm_values.proofs.Below.{ValueLaws}
use Rattle.pm_values.proofs.Wants.{wanted_able}

pub slave_kind : ValueLaws → (t : Topology) (s : ℕ) (slave : SlaveDef) → IsWellFormed t → slice_get t.slaves s ≡ Some slave → kind_of t slave.node ≡ Slave s
slave_kind laws t s slave well here = sym (laws.kinds.alone t slave.node (Slave s) well (slave, here, refl))

pub proc_kind : ValueLaws → (t : Topology) (p : ℕ) (proc : ProcDef) → IsWellFormed t → slice_get t.procs p ≡ Some proc → kind_of t proc.node ≡ Proc p
proc_kind laws t p proc well here = sym (laws.kinds.alone t proc.node (Proc p) well (proc, here, refl))

pub power_kind : ValueLaws → (t : Topology) (w : ℕ) (power : PowerDef) → IsWellFormed t → slice_get t.powers w ≡ Some power → kind_of t power.node ≡ Power w
power_kind laws t w power well here = sym (laws.kinds.alone t power.node (Power w) well (power, here, refl))

-- the value of a slave is its chosen state
slave_value : ValueLaws → (s : ℕ) (book : State) (slave : SlaveDef) → IsWellFormed book.fixed.topology → slice_get book.fixed.topology.slaves s ≡ Some slave → value (Node slave.node) book ≡ state_for (wanted_of s book.now.core.rows) slave.states
slave_value laws s book slave well here =
    ap (λ (k : Kind). value_at k book.fixed book.now.core) (slave_kind laws book.fixed.topology s slave well here)
    ∙ ap (λ (o : Option SlaveDef). state_at s o book.now.core) here

found_meets : ValueLaws → (wanted : Wanted) (states : List SlaveState) (found : Option ℕ) → found ≡ position (meets wanted.caps.0 wanted.limit) states → IsSome found → StandsMet wanted states (unwrap_or found 0)
found_meets laws wanted states None is some = cc
found_meets laws wanted states (Some k) is some = laws.choice.first states wanted.caps.0 wanted.limit k (sym is)

-- the chosen state meets what is wanted where that is within the capabilities of the slave
chosen_meets : ValueLaws → (wanted : Wanted) (states : List SlaveState) → HasFullLast states → bit_and (capabilities states) wanted.caps.0 ≡ wanted.caps.0 → StandsMet wanted states (state_for wanted states)
chosen_meets laws wanted states full able =
    found_meets laws wanted states (position (meets wanted.caps.0 wanted.limit) states) refl
    (laws.choice.full states wanted.caps.0 wanted.limit full able)

pub slave_meets : ValueLaws → (s : ℕ) (book : State) (slave : SlaveDef) → IsWellFormed book.fixed.topology → IsSound book → slice_get book.fixed.topology.slaves s ≡ Some slave → StandsMet (wanted_of s book.now.core.rows) slave.states (value (Node slave.node) book)
slave_meets laws s book slave well sound here =
    let wanted : Wanted = wanted_of s book.now.core.rows in
    let able : bit_and (capabilities slave.states) wanted.caps.0 ≡ wanted.caps.0 =
    eqb-true (bit_and (capabilities slave.states) wanted.caps.0) wanted.caps.0 (wanted_able laws s book slave sound here)
    in
    let P : ℕ → Type 0 = λ k. StandsMet wanted slave.states k in
    subst P (sym (slave_value laws s book slave well here)) (chosen_meets laws wanted slave.states (well.states s slave here) able)

is_one : (b : Bool) (k : ℕ) → k ≡ cond b 1 0 → k ≡ 1 → b ≡ true
is_one true k is one = refl
is_one false k is one = absurd (omega arith)

one_is : (b : Bool) (k : ℕ) → k ≡ cond b 1 0 → b ≡ true → k ≡ 1
one_is true k is up = is
one_is false k is up = cc

-- the value of a power node is 1 where it is up, and else 0
pub power_value : ValueLaws → (w : ℕ) (book : State) (power : PowerDef) → IsWellFormed book.fixed.topology → slice_get book.fixed.topology.powers w ≡ Some power → value (Node power.node) book ≡ cond (is_up (forest book.fixed book.now.core) w) 1 0
power_value laws w book power well here = ap (λ (k : Kind). value_at k book.fixed book.now.core) (power_kind laws book.fixed.topology w power well here)

awake_is : (mode : Mode) → is_awake mode ≡ true → (mode ≡ Active) ⊎ (mode ≡ Suspending)
awake_is Off is = cc
awake_is Active is = inl refl
awake_is Asleep is = cc
awake_is Suspending is = inr refl

is_awake_in : (mode : Mode) → (mode ≡ Active) ⊎ (mode ≡ Suspending) → is_awake mode ≡ true
is_awake_in mode by = elim by [ inl active ↦ ap is_awake active | inr suspending ↦ ap is_awake suspending ]

-- a processor has the value 1 exactly where it is active or suspending
pub proc_meets : ValueLaws → (p : ℕ) (book : State) (proc : ProcDef) → IsWellFormed book.fixed.topology → slice_get book.fixed.topology.procs p ≡ Some proc → (value (Node proc.node) book ≡ 1) ↔ ((mode_at p book.now.core.procs ≡ Active) ⊎ (mode_at p book.now.core.procs ≡ Suspending))
proc_meets laws p book proc well here =
    let mode : Mode = mode_at p book.now.core.procs in
    let is : value (Node proc.node) book ≡ cond (is_awake mode) 1 0 =
    ap (λ (k : Kind). value_at k book.fixed book.now.core) (proc_kind laws book.fixed.topology p proc well here)
    in (
      λ one. awake_is mode (is_one (is_awake mode) (value (Node proc.node) book) is one),
      λ reason. one_is (is_awake mode) (value (Node proc.node) book) is (is_awake_in mode reason),
    )

-- a power node has the value 1 exactly where it is held or something directly below needs it
pub power_meets : ValueLaws → (w : ℕ) (book : State) (power : PowerDef) → IsWellFormed book.fixed.topology → slice_get book.fixed.topology.powers w ≡ Some power → (value (Node power.node) book ≡ 1) ↔ (IsHeld (forest book.fixed book.now.core) w ⊎ (ChildNeeds (forest book.fixed book.now.core) w ⊎ PowerNeeds (forest book.fixed book.now.core) w))
power_meets laws w book power well here =
    let is = power_value laws w book power well here in
    let exactly = laws.ups.exactly (forest book.fixed book.now.core) w (laws.ups.after book.fixed.topology well) (slice_get_within book.fixed.topology.powers w power here) in (
      λ one. exactly.0 (is_one (is_up (forest book.fixed book.now.core) w) (value (Node power.node) book) is one),
      λ reason. one_is (is_up (forest book.fixed book.now.core) w) (value (Node power.node) book) is (exactly.1 reason),
    )

-- a slave stands in its first state that meets what is wanted of it, by whatever number its value is asked
pub unit_stands : ValueLaws → (unit : Unit) (book : State) → IsWellFormed book.fixed.topology → IsSound book → StandsAsWanted unit (value unit book) book
unit_stands laws (Node node) book well sound = λ s is slave here.
    let wanted : Wanted = wanted_of s book.now.core.rows in
    let same : value (Node node) book ≡ value (Node slave.node) book =
    ap (λ (k : Kind). value_at k book.fixed book.now.core) (is ∙ sym (slave_kind laws book.fixed.topology s slave well here))
    in
    let P : ℕ → Type 0 = λ k. StandsMet wanted slave.states k in
    subst P (sym same) (slave_meets laws s book slave well sound here)
unit_stands laws (Line line) book well sound = tt
