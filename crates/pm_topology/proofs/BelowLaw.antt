-- The way up meets a power node exactly where that node is above.
use Rattle.std.proofs.Common.{◌≡◌, ℕ, ◌<◌, ◌==◌, Bool, true, Option, Some, None, List, length, slice_get, refl, zero, suc, arith, option_and_then, sym, ◌∙◌, subst, IfSome, inl, inr}
use Rattle.std.specs.List.{list_any}
use Rattle.std.specs.Option.{option_map}
use Rattle.std.proofs.lemmas.Bool.{eqb-true}
use Rattle.std.proofs.lemmas.Option.{slice_get_within}
use Rattle.pm_base.specs.declared.names.NodeId.{NodeId}
use Rattle.pm_topology.specs.declared.topology.ProcDef.{ProcDef}
use Rattle.pm_topology.specs.declared.topology.SlaveDef.{SlaveDef}
use Rattle.pm_topology.specs.declared.topology.PowerDef.{PowerDef}
use Rattle.pm_topology.specs.declared.topology.Topology.{Topology}
use Rattle.pm_topology.specs.declared.places.Kind.{Kind}
use Rattle.pm_topology.specs.declared.places.Kind.TheVariants.{Proc, Slave, Power, Unknown}
use Rattle.pm_topology.specs.Places.{upwards, power_parent, parent_at, parent_of, kind_of, is_below, IsAtOrAbove, IsBelow, here, higher}
use Rattle.pm_topology.specs.WellFormed.{EachEntry, IsWellFormed}
use Rattle.pm_base.proofs.Booleans.{either, first_passes, later_passes, equal}
use Rattle.pm_base.proofs.Options.{holds_of}
use Rattle.pm_topology.proofs.Upwards.{stops}

parent_entry : (powers : List PowerDef) (v u : ℕ) (got : Option PowerDef)
    → slice_get powers v ≡ got
    → option_and_then (λ p. p.parent) got ≡ Some u
    → (p : PowerDef) × (slice_get powers v ≡ Some p) × (p.parent ≡ Some u)
parent_entry powers v u None is e = cc
parent_entry powers v u (Some p) is e = (p, is, e)

parent_earlier : (powers : List PowerDef) (v u : ℕ) → EachEntry powers (λ k p. IfSome p.parent (λ w. w < k)) → power_parent powers v ≡ Some u → u < v
parent_earlier powers v u earlier e =
    let found = parent_entry powers v u _ refl e in
    let P : ℕ → Type 0 = λ w. w < v in
    holds_of P found.0.parent u found.2 (earlier v found.0 found.1)

met_from : (powers : List PowerDef) (w left v : ℕ)
    → list_any (λ v. v == w) (upwards left powers (Some v)) ≡ true
    → IsAtOrAbove powers w v
met_from powers w zero v e = cc
met_from powers w (suc left) v e =
    elim (either (v == w) _ e) [
      | inl same ↦ (let P : ℕ → Type 0 = λ v. IsAtOrAbove powers w v in subst P (sym (eqb-true v w same)) here)
      | inr later ↦ met_above powers w left v (power_parent powers v) refl later (met_from powers w left)
    ]
  where
    met_above : (powers : List PowerDef) (w left v : ℕ) (parent : Option ℕ)
        → power_parent powers v ≡ parent
        → list_any (λ v. v == w) (upwards left powers parent) ≡ true
        → ((u : ℕ) → list_any (λ v. v == w) (upwards left powers (Some u)) ≡ true → IsAtOrAbove powers w u)
        → IsAtOrAbove powers w v
    met_above powers w left v None is e next = let none = stops powers w left in cc
    met_above powers w left v (Some u) is e next = higher v u is (next u e)

meets_from : (powers : List PowerDef) (w : ℕ)
    → EachEntry powers (λ k p. IfSome p.parent (λ w. w < k))
    → (v left : ℕ) → IsAtOrAbove powers w v → v < left
    → list_any (λ v. v == w) (upwards left powers (Some v)) ≡ true
meets_from powers w earlier v zero up within = absurd (omega arith)
meets_from powers w earlier _ (suc left) here within = first_passes (w == w) _ (equal w w refl)
meets_from powers w earlier _ (suc left) (higher v u is up) within =
    let lower = parent_earlier powers v u earlier is in
    later_passes (v == w) _
    (let P : Option ℕ → Type 0 = λ o. list_any (λ v. v == w) (upwards left powers o) ≡ true in
    subst P (sym is) (meets_from powers w earlier u left up (omega arith)))

-- the parent of a node of a well-formed topology is a power node
parent_within : (t : Topology) (kind : Kind) (v : ℕ) → IsWellFormed t → parent_at t kind ≡ Some v → v < length t.powers
parent_within t (Proc k) v well e = proc_within (slice_get t.procs k) refl e
  where
    proc_within : (got : Option ProcDef) → slice_get t.procs k ≡ got → option_map (λ p. p.parent) got ≡ Some v → v < length t.powers
    proc_within None is e = cc
    proc_within (Some p) is e = let within = well.proc_parents k p is in let same : p.parent ≡ v = cc in omega arith
parent_within t (Slave k) v well e = slave_within (slice_get t.slaves k) refl e
  where
    slave_within : (got : Option SlaveDef) → slice_get t.slaves k ≡ got → option_map (λ s. s.parent) got ≡ Some v → v < length t.powers
    slave_within None is e = cc
    slave_within (Some s) is e = let within = well.slave_parents k s is in let same : s.parent ≡ v = cc in omega arith
parent_within t (Power k) v well e =
    let found = parent_entry t.powers k v _ refl e in
    let within = slice_get_within t.powers k found.0 found.1 in
    let lower = parent_earlier t.powers k v well.power_parents e in
    omega arith
parent_within t Unknown v well e = cc

-- in a well-formed topology the way up from a node meets exactly the power nodes above it
pub below_where : (t : Topology) (w : ℕ) (n : NodeId) → IsWellFormed t
    → (is_below t w n ≡ true → IsBelow t w n) × (IsBelow t w n → is_below t w n ≡ true)
below_where t w n well = (to (parent_of t n) refl, from)
  where
    to : (parent : Option ℕ) → parent_of t n ≡ parent → list_any (λ v. v == w) (upwards (length t.powers) t.powers parent) ≡ true → IsBelow t w n
    to None is e = let none = stops t.powers w (length t.powers) in cc
    to (Some v) is e = (v, is, met_from t.powers w (length t.powers) v e)

    from : IsBelow t w n → is_below t w n ≡ true
    from below =
        let P : Option ℕ → Type 0 = λ o. list_any (λ v. v == w) (upwards (length t.powers) t.powers o) ≡ true in
        subst P (sym below.1) (meets_from t.powers w well.power_parents below.0 (length t.powers) below.2 (parent_within t (kind_of t n) below.0 well below.1))

-- the same of an answer
pub below_is : (t : Topology) (w : ℕ) (n : NodeId) (answer : Bool) → answer ≡ is_below t w n → IsWellFormed t
    → (answer ≡ true → IsBelow t w n) × (IsBelow t w n → answer ≡ true)
below_is t w n answer e well =
    ((λ is. (below_where t w n well).0 (sym e ∙ is)), (λ below. e ∙ (below_where t w n well).1 below))
