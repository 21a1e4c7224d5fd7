-- What is below a power node: a unit is if its parent is that node or is below it.
use Rattle.std.proofs.Common.{◌≡◌, ℕ, ◌+◌, ◌≤◌, ◌<◌, Bool, true, false, if◌then◌else◌, List, [], ◌∷◌, ◌++◌, drop, length, slice_get, Some, refl, sym, ap, subst, ◌∙◌, append_assoc}
use Rattle.std.specs.Option.{option_map}
use Rattle.std.proofs.lemmas.List.{append-nil, drop_all}
use Rattle.std.proofs.lemmas.Option.{same_Some}
use Rattle.pm_base.proofs.ListLemmas.{drop_found}
use Rattle.pm_base.specs.declared.names.NodeId.{NodeId}
use Rattle.pm_topology.proofs.BelowLaw.{below_where}
use Rattle.pm_topology.specs.declared.places.Kind.{Kind}
use Rattle.pm_topology.specs.declared.places.Kind.TheVariants.{Proc, Slave, Power}
use Rattle.pm_topology.specs.declared.topology.PowerDef.{PowerDef}
use Rattle.pm_topology.specs.declared.topology.ProcDef.{ProcDef}
use Rattle.pm_topology.specs.declared.topology.SlaveDef.{SlaveDef}
use Rattle.pm_topology.specs.declared.topology.Topology.{Topology}
use Rattle.pm_topology.specs.Places.{IsAtOrAbove, IsBelow, KindLaws, here, higher, is_below, kind_of, parent_at, parent_of, power_parent}
use Rattle.pm_topology.specs.WellFormed.{IsWellFormed}
use Rattle.pm_state.specs.Below.{passing}

-- ---- parents

-- a test that passes exactly at the power node at w and below it
abbrev pub Tests : Topology → ℕ → ℕ → Bool → Type 0
Tests t w v b = (b ≡ true → IsAtOrAbove t.powers w v) × (IsAtOrAbove t.powers w v → b ≡ true)

same_truth : (a b : Bool) → (a ≡ true → b ≡ true) → (b ≡ true → a ≡ true) → a ≡ b
same_truth true b to from = sym (to refl)
same_truth false true to from = from refl
same_truth false false to from = refl

below_by_parent : (t : Topology) (w v : ℕ) (n : NodeId) (b : Bool) → IsWellFormed t → parent_of t n ≡ Some v → Tests t w v b → b ≡ is_below t w n
below_by_parent t w v n b well parent tests =
    let law = below_where t w n well in
    let P : ℕ → Type 0 = λ u. IsAtOrAbove t.powers w u in
    same_truth b (is_below t w n)
    (λ passes. law.1 (v, parent, tests.0 passes))
    (λ passes. (let below = law.0 passes in tests.1 (subst P (same_Some below.0 v (sym below.1 ∙ parent)) below.2)))

module _ (kinds : KindLaws) (t : Topology) (well : IsWellFormed t) where
  slave_parent : (s : ℕ) (slave : SlaveDef) → slice_get t.slaves s ≡ Some slave → parent_of t slave.node ≡ Some slave.parent
  slave_parent s slave found =
      ap (parent_at t) (sym (kinds.alone t slave.node (Slave s) well (slave, found, refl)))
      ∙ ap (option_map (λ (slave : SlaveDef). slave.parent)) found

  proc_parent : (p : ℕ) (proc : ProcDef) → slice_get t.procs p ≡ Some proc → parent_of t proc.node ≡ Some proc.parent
  proc_parent p proc found =
      ap (parent_at t) (sym (kinds.alone t proc.node (Proc p) well (proc, found, refl)))
      ∙ ap (option_map (λ (proc : ProcDef). proc.parent)) found

  parent_of_power : (v : ℕ) (power : PowerDef) → slice_get t.powers v ≡ Some power → parent_of t power.node ≡ power_parent t.powers v
  parent_of_power v power found = ap (parent_at t) (sym (kinds.alone t power.node (Power v) well (power, found, refl)))

  -- the test of its parent tells whether a slave is below
  pub slave_is_below : (w s : ℕ) (got slave : SlaveDef) (b : Bool) → slice_get t.slaves s ≡ Some got → Tests t w got.parent b → slice_get t.slaves s ≡ Some slave → b ≡ is_below t w slave.node
  slave_is_below w s got slave b found tests there =
      let same : got ≡ slave = same_Some got slave (sym found ∙ there) in
      below_by_parent t w got.parent got.node b well (slave_parent s got found) tests ∙ ap (λ (slave : SlaveDef). is_below t w slave.node) same

  pub proc_is_below : (w p : ℕ) (got proc : ProcDef) (b : Bool) → slice_get t.procs p ≡ Some got → Tests t w got.parent b → slice_get t.procs p ≡ Some proc → b ≡ is_below t w proc.node
  proc_is_below w p got proc b found tests there =
      let same : got ≡ proc = same_Some got proc (sym found ∙ there) in
      below_by_parent t w got.parent got.node b well (proc_parent p got found) tests ∙ ap (λ (proc : ProcDef). is_below t w proc.node) same

  -- the power node at v is at w, or is a node that is below it
  pub itself : (w v : ℕ) (b : Bool) → v ≡ w → b ≡ true → Tests t w v b
  itself w v b same passes = (let P : ℕ → Type 0 = λ v. IsAtOrAbove t.powers w v in ((λ _. subst P (sym same) here), (λ _. passes)))

  lower : (w v : ℕ) (power : PowerDef) → slice_get t.powers v ≡ Some power → (v ≡ w → ⊥) → IsAtOrAbove t.powers w v → IsBelow t w power.node
  lower w _ power found differs here = absurd (differs refl)
  lower w _ power found differs (higher v u is up) = (u, parent_of_power v power found ∙ is, up)

  pub another : (w v : ℕ) (power : PowerDef) (b : Bool) → slice_get t.powers v ≡ Some power → (v ≡ w → ⊥) → (b ≡ true → IsBelow t w power.node) × (IsBelow t w power.node → b ≡ true) → Tests t w v b
  another w v power b found differs tests = (
    (λ passes. (let below = tests.0 passes in higher v below.0 (sym (parent_of_power v power found) ∙ below.1) below.2)),
    (λ up. tests.1 (lower w v power found differs up)),
  )

-- ---- the places of those that pass

-- the next item passes, or it doesn't
pub passing_next : {X : Type 0} (f : X → Bool) (xs : List X) (k : ℕ) (x : X) (b : Bool) (so next whole : List ℕ) → slice_get xs k ≡ Some x → b ≡ f x
    → next ≡ so ++ (if b then k ∷ [] else [])
    → so ++ passing f k (drop k xs) ≡ whole
    → next ++ passing f (k + 1) (drop (k + 1) xs) ≡ whole
passing_next {X} f xs k x b so next whole found tests is before =
    let rest : List ℕ = passing f (k + 1) (drop (k + 1) xs) in
    ap (λ (l : List ℕ). l ++ rest) (is ∙ ap (λ (b : Bool). so ++ (if b then k ∷ [] else [])) tests)
    ∙ (append_assoc so (if f x then k ∷ [] else []) rest
    ∙ (ap (λ (l : List X). so ++ passing f k l) (sym (drop_found xs k x found)) ∙ before))

-- no item is left
pub passing_done : {X : Type 0} (f : X → Bool) (xs : List X) (k : ℕ) (so whole : List ℕ) → length xs ≤ k → so ++ passing f k (drop k xs) ≡ whole → so ≡ whole
passing_done {X} f xs k so whole end before =
    sym (append-nil so) ∙ (ap (λ (l : List X). so ++ passing f k l) (sym (drop_all k xs end)) ∙ before)
