-- A step of a book that the clocks fit: the permissions stay unless another object is put in force, and a root
-- changes only if its slave moved.
use Rattle.std.proofs.Common.{◌≡◌, ℕ, zero, suc, ◌==◌, ◌&&◌, ◌||◌, Bool, true, false, not, List, [], ◌∷◌, map, Option, Some, None, refl, ap, sym, ◌∙◌, subst}
use Rattle.std.specs.Prelude.{slice_get}
use Rattle.std.specs.List.{list_any}
use Rattle.std.proofs.lemmas.Bool.{eqb-true}
use Rattle.std.proofs.lemmas.Map.Views.{any-filter_same}
use Rattle.pm_base.specs.Names.{numbered_node as node}
use Rattle.pm_base.proofs.Booleans.{equal, first_passes, later_passes, neither}
use Rattle.pm_base.specs.declared.events.Event.{Event}
use Rattle.pm_base.specs.declared.events.Event.TheVariants.{Pass}
use Rattle.pm_base.specs.declared.names.NodeId.{NodeId}
use Rattle.pm_base.specs.declared.names.Unit.{Unit}
use Rattle.pm_base.specs.declared.names.Unit.TheVariants.{Node, Line}
use Rattle.pm_topology.specs.declared.places.Kind.{Kind}
use Rattle.pm_topology.specs.declared.places.Kind.TheVariants.{Proc, Slave, Power, Unknown}
use Rattle.pm_topology.specs.declared.topology.SlaveDef.{SlaveDef}
use Rattle.pm_topology.specs.declared.topology.Topology.{Topology}
use Rattle.pm_topology.specs.FirstFault.{has_power, has_proc, has_slave}
use Rattle.pm_topology.specs.Places.{IsKind, KindLaws, kind_of}
use Rattle.pm_topology.specs.Units.{UnitLaws, has_in, has_unit, same_unit, units_of}
use Rattle.pm_object.specs.declared.object.Object.{Object}
use Rattle.pm_perms.specs.Permits.{may_use}
use Rattle.pm_state.specs.State.{Fixed, State, in_force}
use Rattle.pm_state.specs.Units.{moved}
use Rattle.pm_state.specs.Values.{value}
use Rattle.pm_core.specs.Step.{configures, effect}
use Rattle.pm_core.proofs.Refused.{pass_stays}
use Rattle.pm_clock_tree.specs.declared.calls.ClockCall.{ClockCall}
use Rattle.pm_clock_tree.specs.Followed.{ArePermitted, PermitAlike, RootsStand, followed, has_source, is_source, served_by}
use Rattle.pm_clock_tree.specs.Laws.{StandAfterSteps, StayPermitted}
use Rattle.pm_clock_tree.specs.Table.{roots}
use Rattle.pm_clock_tree.specs.Tree.{Seen, Tree}
use Rattle.pm_clocks.specs.Clocked.{HasStepped, StandsOver, is_on, is_slave, view_of}

-- ---- lists

clash : true ≡ false → ⊥
clash is = cc

any_here : {X : Type 0} (p : X → Bool) (xs : List X) (k : ℕ) (x : X) → slice_get xs k ≡ Some x → p x ≡ true → list_any p xs ≡ true
any_here p [] k x here passes = cc
any_here p (y ∷ xs) zero x here passes =
    let same : y ≡ x = cc in
    first_passes (p y) (list_any p xs) (ap p same ∙ passes)
any_here p (y ∷ xs) (suc k) x here passes = later_passes (p y) (list_any p xs) (any_here p xs k x here passes)

one_more : {X : Type 0} (a b : X) (xs ys : List X) → a ≡ b → xs ≡ ys → (a ∷ xs) ≡ (b ∷ ys)
one_more a b xs ys first rest = ap (λ x. x ∷ xs) first ∙ ap (λ zs. b ∷ zs) rest

-- ---- a slave that doesn't move keeps its state

slave_unit : (kinds : KindLaws) (t : Topology) (n : NodeId) (s : ℕ) → kind_of t n ≡ Slave s → has_unit t (Node n) ≡ true
slave_unit kinds t n s is =
    let entry : IsKind t n (Slave s) = subst (IsKind t n) is (kinds.is t n) in
    later_passes (has_power n.0 t.powers) (has_proc n.0 t.procs || has_slave n.0 t.slaves)
    (later_passes (has_proc n.0 t.procs) (has_slave n.0 t.slaves)
    (any_here (λ (d : SlaveDef). d.node.0 == n.0) t.slaves s entry.0 entry.1 (equal entry.0.node.0 n.0 entry.2)))

-- a unit of the chip whose value changed is among those that moved
moves : (laws : UnitLaws) (before : Unit → ℕ) (book : State) (unit : Unit) → has_unit book.fixed.topology unit ≡ true
    → (before unit == value unit book) ≡ false → has_in (moved before book) unit ≡ true
moves laws before book unit has differs =
    any-filter_same (λ u. same_unit u unit) (λ u. not (before u == value u book)) true
    (λ u same. ap (λ u. not (before u == value u book)) (laws.same u unit same) ∙ ap not differs) (units_of book.fixed.topology)
    ∙ (laws.found book.fixed.topology unit ∙ has)

still_value : (laws : UnitLaws) (before : Unit → ℕ) (book : State) (unit : Unit) → has_unit book.fixed.topology unit ≡ true
    → has_in (moved before book) unit ≡ false → before unit ≡ value unit book
still_value laws before book unit has out = by (before unit == value unit book) refl
  where
    by : (b : Bool) → (before unit == value unit book) ≡ b → before unit ≡ value unit book
    by true same = eqb-true (before unit) (value unit book) same
    by false differs = absurd (clash (sym (moves laws before book unit has differs) ∙ out))

abbrev pub on_by : Kind → ℕ → Bool
on_by kind state = is_slave kind && not (state == 0)

root_stays : (laws : UnitLaws) (kinds : KindLaws) (before book : State) → book.fixed ≡ before.fixed → (n : NodeId)
    → has_in (moved (λ u. value u before) book) (Node n) ≡ false → is_on before n ≡ is_on book n
root_stays laws kinds before book fixed n out =
    ap (λ (f : Fixed). on_by (kind_of f.topology n) (value (Node n) before)) (sym fixed) ∙ by (kind_of book.fixed.topology n) refl
  where
    by : (kind : Kind) → kind_of book.fixed.topology n ≡ kind → on_by kind (value (Node n) before) ≡ on_by kind (value (Node n) book)
    by (Slave s) is =
        ap (λ state. not (state == 0))
        (still_value laws (λ u. value u before) book (Node n) (slave_unit kinds book.fixed.topology n s is) out)
    by (Proc p) is = refl
    by (Power w) is = refl
    by Unknown is = refl

-- ---- the roots

-- if no root's slave is among these units, this root's isn't
no_source : (units : List Unit) (n : NodeId) → is_source (Node n) ≡ true → has_source units ≡ false → has_in units (Node n) ≡ false
no_source [] n root none = refl
no_source (Line line ∷ units) n root none = no_source units n root none
no_source (Node m ∷ units) n root none =
    by (m.0 == n.0) refl (neither (is_source (Node m)) (has_source units) none).0
    (no_source units n root (neither (is_source (Node m)) (has_source units) none).1)
  where
    by : (same : Bool) → (m.0 == n.0) ≡ same → is_source (Node m) ≡ false → has_in units (Node n) ≡ false → (same || has_in units (Node n)) ≡ false
    by false same other rest = rest
    by true same other rest =
        let number : m.0 ≡ n.0 = eqb-true m.0 n.0 same in
        absurd (clash (sym root ∙ sym (ap (λ k. list_any (λ (r : NodeId). r.0 == k) roots) number) ∙ other))

roots_alike : (a b : NodeId → Bool) → ((n : NodeId) → is_source (Node n) ≡ true → a n ≡ b n) → map a roots ≡ map b roots
roots_alike a b alike =
    one_more _ _ _ _ (alike (node 50) refl) (one_more _ _ _ _ (alike (node 51) refl) (one_more _ _ _ _ (alike (node 52) refl)
    (one_more _ _ _ _ (alike (node 53) refl) (one_more _ _ _ _ (alike (node 54) refl) refl))))

module _ (event : Event) (units : List Unit) (tree : Tree) (book : State) (step : HasStepped event units tree book) where
  fixed : book.fixed ≡ step.before.fixed
  fixed = ap (λ (b : State). b.fixed) step.book

  still : (n : NodeId) → has_in units (Node n) ≡ false → has_in (moved (λ u. value u step.before) book) (Node n) ≡ false
  still n out =
      ap (λ (b : State). has_in (moved (λ u. value u step.before) b) (Node n)) step.book
      ∙ ap (λ us. has_in us (Node n)) (sym step.moved) ∙ out

  pub roots_stand : UnitLaws → KindLaws → RootsStand (view_of book) units tree
  roots_stand laws kinds = λ none.
      sym (ap (λ (it : Tree). it.roots) step.stood)
      ∙ roots_alike (is_on step.before) (is_on book)
      (λ n root. root_stays laws kinds step.before book fixed n (still n (no_source units n root none)))

  -- ---- permissions

  alike : in_force (effect event step.before) ≡ in_force step.before → PermitAlike (view_of step.before) (view_of book)
  alike force = λ master slave.
      ap (λ (o : Object). may_use o step.before.fixed.topology master slave) (sym force)
      ∙ ap (λ (b : State). may_use (in_force b) b.fixed.topology master slave) (sym step.book)

  pub are_permitted : StandAfterSteps → ((e : Event) (b : State) → configures e ≡ false → in_force (effect e b) ≡ in_force b)
      → configures event ≡ false → ArePermitted (view_of book) tree
  are_permitted laws force others =
      laws.kept (view_of step.before) (view_of book) tree (alike (force event step.before others))
      (laws.permitted (view_of step.before) tree step.stood)

  -- ---- an event without any effect

  pub stays_on_pass : event ≡ Pass → followed (view_of book) tree ≡ tree
  stays_on_pass is =
      let same : book ≡ step.before = step.book ∙ ap (λ e. effect e step.before) is ∙ pass_stays step.before in
      subst (λ (b : State). StandsOver b tree) (sym same) step.stood

-- ---- an event that doesn't configure

pub not_so : (b : Bool) → not b ≡ true → b ≡ false
not_so false others = refl
not_so true others = cc

-- ---- the call that was made

pub served_permitted : StayPermitted → (seen : Seen) (made : Option (NodeId × ClockCall)) (tree : Tree)
    → ArePermitted seen tree → ArePermitted seen (served_by seen made tree)
served_permitted laws seen None tree all = all
served_permitted laws seen (Some made) tree all = laws.served seen made.0 made.1 tree all

pub served_stand : StandAfterSteps → (seen : Seen) (made : Option (NodeId × ClockCall)) (units : List Unit) (tree : Tree)
    → RootsStand seen units tree → RootsStand seen units (served_by seen made tree)
served_stand laws seen None units tree stand = stand
served_stand laws seen (Some made) units tree stand = λ none. laws.roots seen made.0 made.1 tree ∙ stand none
