-- Of the permitted pairs: none stands twice, and each has the capabilities of its slave.
use Rattle.std.proofs.Common.{◌≡◌, ◌≢◌, ℕ, ◌+◌, ◌<◌, ◌≤◌, Bool, true, false, ◌&&◌, ◌==◌, cond, if◌then◌else◌, List, [], ◌∷◌, Option, Some, None, slice_get, refl, zero, suc, ap, arith, inl, inr}
use Rattle.std.specs.Prelude.{count_by}
use Rattle.std.specs.List.{AllByRecursion as Each}
use Rattle.std.proofs.lemmas.Bool.{cases_eq}
use Rattle.std.proofs.lemmas.Bool.Decides.{nat_tests}
use Rattle.pm_object.specs.declared.object.Object.{Object}
use Rattle.pm_object.specs.declared.object.MasterRec.{MasterRec}
use Rattle.pm_object.specs.declared.object.SlaveRec.{SlaveRec}
use Rattle.pm_topology.specs.declared.topology.SlaveDef.{SlaveDef}
use Rattle.pm_rows.specs.declared.row.Pair.{Pair}
use Rattle.pm_topology.specs.declared.topology.Topology.{Topology}
use Rattle.pm_state.specs.Choice.{all_of}
use Rattle.pm_perms.specs.Permits.{mask_has, slave_record}
use Rattle.pm_rows.specs.Sound.{is_pair}
use Rattle.pm_state.specs.declared.pairs.Permitted.{Permitted}
use Rattle.pm_state.specs.Pairs.{pair_permitted, pairs_of, permitted_from, permitted_in, permitted_of, permitted_of_masters, permitted_on}
use Rattle.pm_base.proofs.Booleans.{at_most_one}
use Rattle.pm_base.proofs.Counts.{count_by-append}
use Rattle.pm_rows.proofs.Lists.{count_mapped_same}
use Rattle.pm_state.proofs.Each.{Each-append, Each-imply, Each-map}

-- the pair of the master and the slave at these places
abbrev pub is_permitted : ℕ → ℕ → Permitted → Bool
is_permitted m s p = is_pair m s p.pair

pub head_at : (p : Permitted → Bool) (b : Bool) (x : Permitted) → count_by p (if b then x ∷ [] else []) ≤ cond (p x) 1 0
head_at p true x = omega arith
head_at p false x = omega arith

pub other_master : (k m place s : ℕ) → k ≢ m → cond ((k == m) && (place == s)) 1 0 ≤ 0
other_master k m place s other = grind (arith, nat_tests)

other_slave : (k m place s : ℕ) → place ≢ s → cond ((k == m) && (place == s)) 1 0 ≤ 0
other_slave k m place s other = grind (arith, nat_tests)

pub masters_before : (object : Object) (m s k place : ℕ) (slave : SlaveDef) (r : SlaveRec) (masters : List MasterRec) → m < k → count_by (is_permitted m s) (permitted_of_masters object k place slave r masters) ≡ 0
masters_before object m s k place slave r [] before = refl
masters_before object m s k place slave r (x ∷ xs) before =
    rw (count_by-append (is_permitted m s) (if mask_has r.mask x.mask then permitted_of object k x place slave r ∷ [] else []) (permitted_of_masters object (k + 1) place slave r xs)) (
    let later : count_by (is_permitted m s) (permitted_of_masters object (k + 1) place slave r xs) ≡ 0 = masters_before object m s (k + 1) place slave r xs (omega arith) in
    let head : count_by (is_permitted m s) (if mask_has r.mask x.mask then permitted_of object k x place slave r ∷ [] else []) ≤ cond (is_permitted m s (permitted_of object k x place slave r)) 1 0 = head_at (is_permitted m s) (mask_has r.mask x.mask) (permitted_of object k x place slave r) in
    let none : cond (is_permitted m s (permitted_of object k x place slave r)) 1 0 ≤ 0 = other_master k m place s (λ same. omega arith) in
    omega arith)

masters_elsewhere : (object : Object) (m s k place : ℕ) (slave : SlaveDef) (r : SlaveRec) (masters : List MasterRec) → place ≢ s → count_by (is_permitted m s) (permitted_of_masters object k place slave r masters) ≡ 0
masters_elsewhere object m s k place slave r [] other = refl
masters_elsewhere object m s k place slave r (x ∷ xs) other =
    rw (count_by-append (is_permitted m s) (if mask_has r.mask x.mask then permitted_of object k x place slave r ∷ [] else []) (permitted_of_masters object (k + 1) place slave r xs)) (
    let later : count_by (is_permitted m s) (permitted_of_masters object (k + 1) place slave r xs) ≡ 0 = masters_elsewhere object m s (k + 1) place slave r xs other in
    let head : count_by (is_permitted m s) (if mask_has r.mask x.mask then permitted_of object k x place slave r ∷ [] else []) ≤ cond (is_permitted m s (permitted_of object k x place slave r)) 1 0 = head_at (is_permitted m s) (mask_has r.mask x.mask) (permitted_of object k x place slave r) in
    let none : cond (is_permitted m s (permitted_of object k x place slave r)) 1 0 ≤ 0 = other_slave k m place s other in
    omega arith)

masters_once : (object : Object) (m s k place : ℕ) (slave : SlaveDef) (r : SlaveRec) (masters : List MasterRec) → count_by (is_permitted m s) (permitted_of_masters object k place slave r masters) ≤ 1
masters_once object m s k place slave r [] = omega arith
masters_once object m s k place slave r (x ∷ xs) =
    rw (count_by-append (is_permitted m s) (if mask_has r.mask x.mask then permitted_of object k x place slave r ∷ [] else []) (permitted_of_masters object (k + 1) place slave r xs)) (
    let head : count_by (is_permitted m s) (if mask_has r.mask x.mask then permitted_of object k x place slave r ∷ [] else []) ≤ cond (is_permitted m s (permitted_of object k x place slave r)) 1 0 = head_at (is_permitted m s) (mask_has r.mask x.mask) (permitted_of object k x place slave r) in
    let one : cond (is_permitted m s (permitted_of object k x place slave r)) 1 0 ≤ 1 = at_most_one (is_permitted m s (permitted_of object k x place slave r)) in
    elim (cases_eq k m) [
      | inl same ↦
          let later : count_by (is_permitted m s) (permitted_of_masters object (k + 1) place slave r xs) ≡ 0 = masters_before object m s (k + 1) place slave r xs (omega arith) in
          omega arith
      | inr other ↦
          let later : count_by (is_permitted m s) (permitted_of_masters object (k + 1) place slave r xs) ≤ 1 = masters_once object m s (k + 1) place slave r xs in
          let none : cond (is_permitted m s (permitted_of object k x place slave r)) 1 0 ≤ 0 = other_master k m place s other in
          omega arith
    ])

pub pairs_elsewhere : (object : Object) (m s place : ℕ) (slave : SlaveDef) (r : Option SlaveRec) → place ≢ s → count_by (is_permitted m s) (permitted_on object place slave r) ≡ 0
pairs_elsewhere object m s place slave None other = refl
pairs_elsewhere object m s place slave (Some r) other = masters_elsewhere object m s 0 place slave r object.masters other

pairs_on_once : (object : Object) (m s place : ℕ) (slave : SlaveDef) (r : Option SlaveRec) → count_by (is_permitted m s) (permitted_on object place slave r) ≤ 1
pairs_on_once object m s place slave None = omega arith
pairs_on_once object m s place slave (Some r) = masters_once object m s 0 place slave r object.masters

pub pairs_before : (object : Object) (m s k : ℕ) (slaves : List SlaveDef) → s < k → count_by (is_permitted m s) (permitted_from object k slaves) ≡ 0
pairs_before object m s k [] before = refl
pairs_before object m s k (x ∷ xs) before =
    rw (count_by-append (is_permitted m s) (permitted_on object k x (slave_record object x.node)) (permitted_from object (k + 1) xs)) (
    let head : count_by (is_permitted m s) (permitted_on object k x (slave_record object x.node)) ≡ 0 = pairs_elsewhere object m s k x (slave_record object x.node) (λ same. omega arith) in
    let later : count_by (is_permitted m s) (permitted_from object (k + 1) xs) ≡ 0 = pairs_before object m s (k + 1) xs (omega arith) in
    omega arith)

pairs_from_once : (object : Object) (m s k : ℕ) (slaves : List SlaveDef) → count_by (is_permitted m s) (permitted_from object k slaves) ≤ 1
pairs_from_once object m s k [] = omega arith
pairs_from_once object m s k (x ∷ xs) =
    rw (count_by-append (is_permitted m s) (permitted_on object k x (slave_record object x.node)) (permitted_from object (k + 1) xs)) (
    elim (cases_eq k s) [
      | inl same ↦
          let head : count_by (is_permitted m s) (permitted_on object k x (slave_record object x.node)) ≤ 1 = pairs_on_once object m s k x (slave_record object x.node) in
          let later : count_by (is_permitted m s) (permitted_from object (k + 1) xs) ≡ 0 = pairs_before object m s (k + 1) xs (omega arith) in
          omega arith
      | inr other ↦
          let head : count_by (is_permitted m s) (permitted_on object k x (slave_record object x.node)) ≡ 0 = pairs_elsewhere object m s k x (slave_record object x.node) other in
          let later : count_by (is_permitted m s) (permitted_from object (k + 1) xs) ≤ 1 = pairs_from_once object m s (k + 1) xs in
          omega arith
    ])

pub permitted_once : (m s : ℕ) (object : Object) (t : Topology) → count_by (is_permitted m s) (permitted_in object t) ≤ 1
permitted_once m s object t = pairs_from_once object m s 0 t.slaves

-- no pair stands twice
pub pairs_once : (m s : ℕ) (object : Object) (t : Topology) → count_by (is_pair m s) (pairs_of object t) ≤ 1
pairs_once m s object t =
    rw (count_mapped_same (is_pair m s) pair_permitted (permitted_in object t)) (permitted_once m s object t)

-- a pair of one of these slaves, the first of which has place k, has the capabilities of its slave
pub record FitsTable (k : ℕ) (slaves : List SlaveDef) (pair : Pair) : Type 0 where
  pub from : k ≤ pair.slave
  pub all : (i : ℕ) (slave : SlaveDef) → pair.slave ≡ k + i → slice_get slaves i ≡ Some slave → pair.all ≡ all_of slave.states

abbrev Fits : ℕ → List SlaveDef → Permitted → Type 0
Fits k slaves p = FitsTable k slaves p.pair

head_all : (i k : ℕ) (x slave : SlaveDef) (xs : List SlaveDef) → k ≡ k + i → slice_get (x ∷ xs) i ≡ Some slave → all_of x.states ≡ all_of slave.states
head_all zero k x slave xs same is = let one : x ≡ slave = cc in ap (λ (s : SlaveDef). all_of s.states) one
head_all (suc i) k x slave xs same is = absurd (omega arith)

head_fits : (object : Object) (m : ℕ) (master : MasterRec) (k : ℕ) (x : SlaveDef) (xs : List SlaveDef) (r : SlaveRec) → Fits k (x ∷ xs) (permitted_of object m master k x r)
head_fits object m master k x xs r = record { from = omega arith; all = λ i slave same is. head_all i k x slave xs same is }

heads_fit : (object : Object) (m k : ℕ) (x : SlaveDef) (xs : List SlaveDef) (r : SlaveRec) (masters : List MasterRec) → Each (Fits k (x ∷ xs)) (permitted_of_masters object m k x r masters)
heads_fit object m k x xs r [] = tt
heads_fit object m k x xs r (y ∷ ys) =
    Each-append (Fits k (x ∷ xs)) (if mask_has r.mask y.mask then permitted_of object m y k x r ∷ [] else []) (permitted_of_masters object (m + 1) k x r ys)
    (elim (mask_has r.mask y.mask) as (λ b. Each (Fits k (x ∷ xs)) (if b then permitted_of object m y k x r ∷ [] else [])) [ true ↦ (head_fits object m y k x xs r, tt) | false ↦ tt ])
    (heads_fit object (m + 1) k x xs r ys)

pairs_on_fit : (object : Object) (k : ℕ) (x : SlaveDef) (xs : List SlaveDef) (r : Option SlaveRec) → Each (Fits k (x ∷ xs)) (permitted_on object k x r)
pairs_on_fit object k x xs None = tt
pairs_on_fit object k x xs (Some r) = heads_fit object 0 k x xs r object.masters

later_all : (i k : ℕ) (pair : Pair) (x slave : SlaveDef) (xs : List SlaveDef) → FitsTable (k + 1) xs pair → pair.slave ≡ k + i → slice_get (x ∷ xs) i ≡ Some slave → pair.all ≡ all_of slave.states
later_all zero k pair x slave xs fits same is = absurd (omega (arith, fits.from))
later_all (suc i) k pair x slave xs fits same is = fits.all i slave (omega arith) is

later_fits : (k : ℕ) (x : SlaveDef) (xs : List SlaveDef) (p : Permitted) → Fits (k + 1) xs p → Fits k (x ∷ xs) p
later_fits k x xs p fits = record { from = omega (arith, fits.from); all = λ i slave same is. later_all i k p.pair x slave xs fits same is }

pairs_from_fit : (object : Object) (k : ℕ) (slaves : List SlaveDef) → Each (Fits k slaves) (permitted_from object k slaves)
pairs_from_fit object k [] = tt
pairs_from_fit object k (x ∷ xs) =
    Each-append (Fits k (x ∷ xs)) (permitted_on object k x (slave_record object x.node)) (permitted_from object (k + 1) xs)
    (pairs_on_fit object k x xs (slave_record object x.node))
    (Each-imply (Fits (k + 1) xs) (Fits k (x ∷ xs)) (later_fits k x xs) (permitted_from object (k + 1) xs) (pairs_from_fit object (k + 1) xs))

-- each pair has the capabilities of its slave
pub pairs_fit : (object : Object) (t : Topology) → Each (FitsTable 0 t.slaves) (pairs_of object t)
pairs_fit object t =
    Each-map (FitsTable 0 t.slaves) pair_permitted (Fits 0 t.slaves) (λ p fits. fits) (permitted_in object t) (pairs_from_fit object 0 t.slaves)
