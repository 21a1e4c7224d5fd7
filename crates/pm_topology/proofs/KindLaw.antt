-- The kind of a node is that of the one entry that has its number.
use Rattle.std.proofs.Common.{◌≡◌, ℕ, ◌==◌, Option, Some, None, List, slice_get, refl, ap, sym, ◌∙◌, position, subst}
use Rattle.std.proofs.lemmas.Bool.{eqb-true}
use Rattle.pm_base.specs.declared.names.NodeId.{NodeId}
use Rattle.pm_topology.specs.declared.topology.ProcDef.{ProcDef}
use Rattle.pm_topology.specs.declared.topology.SlaveDef.{SlaveDef}
use Rattle.pm_topology.specs.declared.topology.PowerDef.{PowerDef}
use Rattle.pm_topology.specs.declared.topology.Topology.{Topology}
use Rattle.pm_topology.specs.declared.places.Kind.{Kind}
use Rattle.pm_topology.specs.declared.places.Kind.TheVariants.{Proc, Slave, Power, Unknown}
use Rattle.pm_topology.specs.Places.{kind_of, kind_at, proc_place, slave_place, power_place, IsKind}
use Rattle.pm_topology.specs.WellFormed.{IsWellFormed, HasNumber}
use Rattle.pm_base.proofs.Booleans.{differs}
use Rattle.pm_base.proofs.Searches.{position-first, position-none}

-- the entry at the place that a search by number answers has the number
found_at : {X : Type 0} (number : X → ℕ) (xs : List X) (n k : ℕ)
    → position (λ e. number e == n) xs ≡ Some k
    → (x : X) × (slice_get xs k ≡ Some x) × (number x ≡ n)
found_at {X} number xs n k e =
    let first = position-first (λ (e : X). number e == n) xs k e in
    (first.element, first.here, eqb-true (number first.element) n first.passes)

-- where the search finds nothing no entry has the number
absent : {X : Type 0} (number : X → ℕ) (xs : List X) (n : ℕ)
    → position (λ e. number e == n) xs ≡ None
    → HasNumber number xs n → ⊥
absent {X} number xs n e has =
    differs (number has.1) n (position-none (λ (e : X). number e == n) xs e has.0 has.1 has.2) has.3

kind_at_is : (t : Topology) (n : NodeId) (proc slave power : Option ℕ)
    → proc_place t.procs n.0 ≡ proc
    → slave_place t.slaves n.0 ≡ slave
    → power_place t.powers n.0 ≡ power
    → IsKind t n (kind_at proc slave power)
kind_at_is t n (Some k) slave power p s w = found_at (λ (p : ProcDef). p.node.0) t.procs n.0 k p
kind_at_is t n None slave (Some k) p s w = found_at (λ (p : PowerDef). p.node.0) t.powers n.0 k w
kind_at_is t n None (Some k) None p s w = found_at (λ (s : SlaveDef). s.node.0) t.slaves n.0 k s
kind_at_is t n None None None p s w = (
  absent (λ (p : ProcDef). p.node.0) t.procs n.0 p,
  absent (λ (s : SlaveDef). s.node.0) t.slaves n.0 s,
  absent (λ (p : PowerDef). p.node.0) t.powers n.0 w,
)

pub kind_of_is : (t : Topology) (n : NodeId) → IsKind t n (kind_of t n)
kind_of_is t n = kind_at_is t n _ _ _ refl refl refl

-- in a well-formed topology a number names one entry alone
alike : (t : Topology) (n : NodeId) → IsWellFormed t → (a b : Kind) → IsKind t n a → IsKind t n b → a ≡ b
alike t n well (Proc j) (Proc k) x y = ap Proc (well.procs_distinct j k x.0 y.0 x.1 y.1 (x.2 ∙ sym y.2))
alike t n well (Proc j) (Slave k) x y = absurd (well.procs_slaves j k x.0 y.0 x.1 y.1 (x.2 ∙ sym y.2))
alike t n well (Proc j) (Power k) x y = absurd (well.powers_procs k j y.0 x.0 y.1 x.1 (y.2 ∙ sym x.2))
alike t n well (Proc j) Unknown x y = absurd (y.0 (j, x.0, x.1, x.2))
alike t n well (Slave j) (Proc k) x y = absurd (well.procs_slaves k j y.0 x.0 y.1 x.1 (y.2 ∙ sym x.2))
alike t n well (Slave j) (Slave k) x y = ap Slave (well.slaves_distinct j k x.0 y.0 x.1 y.1 (x.2 ∙ sym y.2))
alike t n well (Slave j) (Power k) x y = absurd (well.powers_slaves k j y.0 x.0 y.1 x.1 (y.2 ∙ sym x.2))
alike t n well (Slave j) Unknown x y = absurd (y.1 (j, x.0, x.1, x.2))
alike t n well (Power j) (Proc k) x y = absurd (well.powers_procs j k x.0 y.0 x.1 y.1 (x.2 ∙ sym y.2))
alike t n well (Power j) (Slave k) x y = absurd (well.powers_slaves j k x.0 y.0 x.1 y.1 (x.2 ∙ sym y.2))
alike t n well (Power j) (Power k) x y = ap Power (well.powers_distinct j k x.0 y.0 x.1 y.1 (x.2 ∙ sym y.2))
alike t n well (Power j) Unknown x y = absurd (y.2 (j, x.0, x.1, x.2))
alike t n well Unknown (Proc k) x y = absurd (x.0 (k, y.0, y.1, y.2))
alike t n well Unknown (Slave k) x y = absurd (x.1 (k, y.0, y.1, y.2))
alike t n well Unknown (Power k) x y = absurd (x.2 (k, y.0, y.1, y.2))
alike t n well Unknown Unknown x y = refl

pub kind_alone : (t : Topology) (n : NodeId) (kind : Kind) → IsWellFormed t → IsKind t n kind → kind ≡ kind_of t n
kind_alone t n kind well is = alike t n well kind (kind_of t n) is (kind_of_is t n)

-- the same of an answer that is the kind
pub kind_is : (t : Topology) (n : NodeId) (kind : Kind) → kind ≡ kind_of t n → IsKind t n kind
kind_is t n kind e = let P : Kind → Type 0 = λ k. IsKind t n k in subst P (sym e) (kind_of_is t n)

pub kind_only : (t : Topology) (n : NodeId) (kind : Kind) → kind ≡ kind_of t n
    → IsWellFormed t → (other : Kind) → IsKind t n other → other ≡ kind
kind_only t n kind e well other is = kind_alone t n other well is ∙ sym e
