-- In the values of a book a power node is up exactly where it is held or some unit directly below it needs power.
use Rattle.std.proofs.Common.{◌≡◌, ℕ, ◌==◌, ◌⊎◌, ◌↔◌, true, false, cond, List, [], ◌∷◌, ◌++◌, slice_get, Option, Some, None, refl, zero, suc, arith, ap, sym, ◌∙◌, subst, inl, inr}
use Rattle.std.specs.Option.{option_map_or}
use Rattle.std.specs.Prelude.{option_map, option_and_then}
use Rattle.pm_base.specs.declared.names.NodeId.{NodeId}
use Rattle.pm_base.specs.declared.names.Unit.{Unit}
use Rattle.pm_base.specs.declared.names.Unit.TheVariants.{Node, Line}
use Rattle.pm_topology.specs.declared.topology.PowerDef.{PowerDef}
use Rattle.pm_topology.specs.declared.topology.ProcDef.{ProcDef}
use Rattle.pm_topology.specs.declared.topology.SlaveDef.{SlaveDef}
use Rattle.pm_topology.specs.declared.topology.Topology.{Topology}
use Rattle.pm_topology.specs.declared.places.Kind.{Kind}
use Rattle.pm_topology.specs.declared.places.Kind.TheVariants.{Proc, Slave, Power}
use Rattle.pm_topology.specs.Places.{kind_of, parent_at}
use Rattle.pm_topology.specs.Units.{parent_of_unit, needs_power, kind_needs_power, needs_in}
use Rattle.pm_topology.specs.WellFormed.{IsWellFormed}
use Rattle.pm_power.specs.declared.child.Child.{Child}
use Rattle.pm_power.specs.Forest.{IsHeld, ChildNeeds, PowerNeeds}
use Rattle.pm_state.specs.Fed.{IsNeeded}
use Rattle.pm_state.specs.Sound.{IsSound, MeetsRequirements}
use Rattle.pm_state.specs.State.{State}
use Rattle.pm_state.specs.Values.{placed, state_at, runs, need_of, slave_child, proc_child, forest, value_at, value}
use Rattle.pm_values.proofs.Below.{ValueLaws}
use Rattle.pm_values.proofs.FedLaw.{feeds}
use Rattle.pm_values.proofs.MetLaw.{proc_kind, proc_meets, slave_kind, power_kind, power_meets, slave_meets}
use Rattle.pm_state.proofs.PlacedLemmas.{slice_get-placed}

-- an entry of two lists is one of the first, or one of the second
abbrev IsOfEither : {X : Type 0} → List X → List X → X → Type 0
IsOfEither xs ys x = ((j : ℕ) × (slice_get xs j ≡ Some x)) ⊎ ((j : ℕ) × (slice_get ys j ≡ Some x))

later_of : {X : Type 0} (y : X) (xs ys : List X) (x : X) → IsOfEither xs ys x → IsOfEither (y ∷ xs) ys x
later_of y xs ys x of = elim of [ inl at ↦ inl (suc at.0, at.1) | inr at ↦ inr at ]

of_either : {X : Type 0} (xs ys : List X) (k : ℕ) (x : X) → slice_get (xs ++ ys) k ≡ Some x → IsOfEither xs ys x
of_either [] ys k x here = inr (k, here)
of_either (y ∷ xs) ys zero x here = inl (zero, here)
of_either (y ∷ xs) ys (suc k) x here = later_of y xs ys x (of_either xs ys k x here)

map_source : {X Y : Type 0} (f : X → Y) (o : Option X) (y : Y) → option_map f o ≡ Some y → (x : X) × (o ≡ Some x) × (f x ≡ y)
map_source f None y is = cc
map_source f (Some x) y is = (x, refl, cc)

-- an entry of such a list is made from the entry at its place
placed_source : {X Y : Type 0} (f : ℕ → X → Y) (xs : List X) (k : ℕ) (y : Y) → slice_get (placed f 0 xs) k ≡ Some y → (x : X) × (slice_get xs k ≡ Some x) × (f k x ≡ y)
placed_source f xs k y here = map_source (f k) (slice_get xs k) y (sym (slice_get-placed f 0 xs k k (omega arith)) ∙ here)

-- a node that needs power in its value keeps the power node above it up, whatever its kind
needed_by : (book : State) (w : ℕ) (node : NodeId) (kind : Kind) → kind ≡ kind_of book.fixed.topology node → parent_at book.fixed.topology kind ≡ Some w → kind_needs_power book.fixed.topology kind (value_at kind book.fixed book.now.core) ≡ true → IsNeeded book.fixed.topology (λ u. value u book) w
needed_by book w node kind is parent need =
    let t : Topology = book.fixed.topology in
    let P : Kind → Type 0 = λ k. (parent_at t k ≡ Some w) × (kind_needs_power t k (value_at k book.fixed book.now.core) ≡ true) in
    let both = subst P is (parent, need) in
    (Node node, both.0, both.1)

slave_needs : ValueLaws → (book : State) (w s : ℕ) (slave : SlaveDef) → IsWellFormed book.fixed.topology → slice_get book.fixed.topology.slaves s ≡ Some slave → slave.parent ≡ w → need_of book.now.core s slave ≡ true → IsNeeded book.fixed.topology (λ u. value u book) w
slave_needs laws book w s slave well here parent need =
    let t : Topology = book.fixed.topology in
    needed_by book w slave.node (Slave s) (sym (slave_kind laws t s slave well here))
    (ap (option_map (λ (s : SlaveDef). s.parent)) here ∙ ap Some parent)
    (ap (λ got. option_map_or (needs_in (state_at s got book.now.core)) got false) here ∙ need)

proc_needs : ValueLaws → (book : State) (w p : ℕ) (proc : ProcDef) → IsWellFormed book.fixed.topology → slice_get book.fixed.topology.procs p ≡ Some proc → proc.parent ≡ w → runs book.now.core p ≡ true → IsNeeded book.fixed.topology (λ u. value u book) w
proc_needs laws book w p proc well here parent need =
    let t : Topology = book.fixed.topology in
    needed_by book w proc.node (Proc p) (sym (proc_kind laws t p proc well here))
    (ap (option_map (λ (p : ProcDef). p.parent)) here ∙ ap Some parent)
    (ap (λ b. cond b 1 0 == 1) need)

child_needs : ValueLaws → (book : State) (w : ℕ) → IsWellFormed book.fixed.topology → ChildNeeds (forest book.fixed book.now.core) w → IsNeeded book.fixed.topology (λ u. value u book) w
child_needs laws book w well needs =
    let t : Topology = book.fixed.topology in
    let core = book.now.core in
    elim (of_either (placed (slave_child core) 0 t.slaves) (placed (proc_child core) 0 t.procs) needs.0 needs.1 needs.2) [
      | inl at ↦
          let of = placed_source (slave_child core) t.slaves at.0 needs.1 at.1 in
          slave_needs laws book w at.0 of.0 well of.1 (ap (λ (c : Child). c.parent) of.2 ∙ needs.3) (ap (λ (c : Child). c.needs) of.2 ∙ needs.4)
      | inr at ↦
          let of = placed_source (proc_child core) t.procs at.0 needs.1 at.1 in
          proc_needs laws book w at.0 of.0 well of.1 (ap (λ (c : Child). c.parent) of.2 ∙ needs.3) (ap (λ (c : Child). c.needs) of.2 ∙ needs.4)
    ]

power_needs : ValueLaws → (book : State) (w : ℕ) → IsWellFormed book.fixed.topology → PowerNeeds (forest book.fixed book.now.core) w → IsNeeded book.fixed.topology (λ u. value u book) w
power_needs laws book w well needs =
    let t : Topology = book.fixed.topology in
    needed_by book w needs.1.node (Power needs.0) (sym (power_kind laws t needs.0 needs.1 well needs.2))
    (ap (option_and_then (λ (p : PowerDef). p.parent)) needs.2 ∙ needs.3)
    (ap (λ b. cond b 1 0 == 1) needs.4)

unit_feeds : (book : State) (w : ℕ) (u : Unit) → IsWellFormed book.fixed.topology → parent_of_unit book.fixed.topology u ≡ Some w → needs_power book.fixed.topology u (value u book) ≡ true → IsHeld (forest book.fixed book.now.core) w ⊎ (ChildNeeds (forest book.fixed book.now.core) w ⊎ PowerNeeds (forest book.fixed book.now.core) w)
unit_feeds book w (Node node) well parent need = feeds book (kind_of book.fixed.topology node) w well parent need
unit_feeds book w (Line line) well parent need = cc

-- by the forest of needs, and by the values
pub needed_exactly : ValueLaws → (book : State) (w : ℕ) (power : PowerDef) → IsWellFormed book.fixed.topology → slice_get book.fixed.topology.powers w ≡ Some power → (IsHeld (forest book.fixed book.now.core) w ⊎ (ChildNeeds (forest book.fixed book.now.core) w ⊎ PowerNeeds (forest book.fixed book.now.core) w)) ↔ ((power.held ≡ true) ⊎ IsNeeded book.fixed.topology (λ u. value u book) w)
needed_exactly laws book w power well here = (
  λ by. elim by [
    | inl held ↦ let same : held.0 ≡ power = cc in inl (ap (λ (p : PowerDef). p.held) (sym same) ∙ held.2)
    | inr rest ↦ elim rest [
      | inl child ↦ inr (child_needs laws book w well child)
      | inr above ↦ inr (power_needs laws book w well above)
    ]
  ],
  λ by. elim by [
    | inl held ↦ inl (power, here, held)
    | inr need ↦ unit_feeds book w need.0 well need.1 need.2
  ],
)

pub book_meets : ValueLaws → (book : State) → IsWellFormed book.fixed.topology → IsSound book → MeetsRequirements book (λ u. value u book)
book_meets laws book well sound =
    record {
      slaves = λ s slave here. slave_meets laws s book slave well sound here;
      processors = λ p proc here. proc_meets laws p book proc well here;
      domains = λ w power here.
          let up = power_meets laws w book power well here in
          let needed = needed_exactly laws book w power well here in
          (λ one. needed.0 (up.0 one), λ reason. up.1 (needed.1 reason));
    }
