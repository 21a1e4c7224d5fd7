-- The kinds of nodes that are kept by number.
use Rattle.std.proofs.Common.{◌≡◌, ◌++◌, ℕ, List, [], ◌∷◌, Option, Some, None, length, slice_get, zero, suc, subst, sym, ap, refl, ◌∙◌}
use Rattle.pm_base.specs.declared.names.NodeId.{NodeId}
use Rattle.pm_topology.specs.declared.places.Kind.{Kind}
use Rattle.pm_topology.specs.declared.places.Kind.TheVariants.{Slave, Unknown}
use Rattle.pm_topology.specs.declared.topology.Topology.{Topology}
use Rattle.pm_topology.specs.Places.{kind_at, kind_of, slave_place}
use Rattle.pm_state.specs.Chip.{AreKinds}

-- what holds of each item of a list and its place holds once one more stands at its end
all_and_last : {X : Type 0} (P : ℕ → X → Type 0) (xs : List X) (y : X) → ((k : ℕ) (x : X) → slice_get xs k ≡ Some x → P k x) → P (length xs) y
    → (k : ℕ) (x : X) → slice_get (xs ++ y ∷ []) k ≡ Some x → P k x
all_and_last P [] y all last zero x here = let same : y ≡ x = cc in subst (P 0) same last
all_and_last P [] y all last (suc k) x here = cc
all_and_last P (z ∷ xs) y all last zero x here = all zero x here
all_and_last P (z ∷ xs) y all last (suc k) x here = all_and_last (λ k. P (suc k)) xs y (λ k. all (suc k)) last k x here

-- the kind of the next number is put at the end
pub one_more_kind : (t : Topology) (kinds : List Kind) (number : ℕ) (kind : Kind)
    → length kinds ≡ number
    → AreKinds t kinds
    → kind ≡ kind_of t (record { 0 = number })
    → AreKinds t (kinds ++ kind ∷ [])
one_more_kind t kinds number kind count are is =
    all_and_last (λ n k. k ≡ kind_of t (record { 0 = n })) kinds kind are
    (is ∙ ap (λ (n : ℕ). kind_of t (record { 0 = n })) (sym count))

-- a node whose kind is a slave is the slave at that place
slave_among : (proc slave power : Option ℕ) (place : ℕ) → kind_at proc slave power ≡ Slave place → slave ≡ Some place
slave_among (Some p) slave power place is = cc
slave_among None slave (Some w) place is = cc
slave_among None (Some s) None place is = let same : s ≡ place = cc in ap Some same
slave_among None None None place is = cc

none_among : (proc slave power : Option ℕ) → kind_at proc slave power ≡ Unknown → slave ≡ None
none_among (Some p) slave power is = cc
none_among None slave (Some w) is = cc
none_among None (Some s) None is = cc
none_among None None None is = refl

pub place_of_slave : (t : Topology) (node : NodeId) (place : ℕ) → kind_of t node ≡ Slave place → slave_place t.slaves node.0 ≡ Some place
place_of_slave t node place is = slave_among _ _ _ place is

pub place_of_none : (t : Topology) (node : NodeId) → kind_of t node ≡ Unknown → slave_place t.slaves node.0 ≡ None
place_of_none t node is = none_among _ _ _ is
