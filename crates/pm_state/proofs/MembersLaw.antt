-- Whose processors are whose: each member of a master is a processor of the chip that the master owns.
use Rattle.std.proofs.Common.{◌≡◌, ℕ, ◌+◌, ◌<◌, Bool, true, false, ◌||◌, ◌==◌, if◌then◌else◌, List, [], ◌∷◌, length, Option, Some, None, refl, zero, suc, sym, ◌∙◌, subst, arith, inl, inr}
use Rattle.std.specs.List.{list_any}
use Rattle.std.proofs.lemmas.Bool.{eqb-true}
use Rattle.std.proofs.lemmas.List.Folds.{list_any-append}
use Rattle.std.proofs.lemmas.List.Quantifiers.{position-Some}
use Rattle.pm_base.specs.declared.names.NodeId.{NodeId}
use Rattle.pm_object.specs.declared.object.MasterRec.{MasterRec}
use Rattle.pm_object.specs.declared.object.Object.{Object}
use Rattle.pm_topology.specs.declared.topology.ProcDef.{ProcDef}
use Rattle.pm_topology.specs.declared.topology.Topology.{Topology}
use Rattle.pm_topology.specs.Masters.{procs_of}
use Rattle.pm_topology.specs.Places.{proc_place}
use Rattle.pm_procs.specs.Procs.{has_member, members_at}
use Rattle.pm_base.proofs.Booleans.{either}
use Rattle.pm_base.specs.Places.{is_place}
use Rattle.pm_state.specs.Members.{member_at, members_among, members_from, members_of, owns}

-- each master has its list of processors
pub members_count : (object : Object) (t : Topology) (m : ℕ) (masters : List MasterRec) → length (members_from object t m masters) ≡ length masters
members_count object t m [] = refl
members_count object t m (master ∷ masters) =
    let later : length (members_from object t (m + 1) masters) ≡ length masters = members_count object t (m + 1) masters in omega (arith, later)

-- a place that stands in a list of places
abbrev stands_in : ℕ → List ℕ → Bool
stands_in q places = list_any (λ p. p == q) places

-- the master at place m owns the processor at place q, which the chip has
pub record Owns (object : Object) (t : Topology) (m q : ℕ) : Type 0 where
  pub own : owns object t m q ≡ true
  pub there : q < length t.procs

only : (q p : ℕ) → stands_in q (p ∷ []) ≡ true → p ≡ q
only q p is = elim (either (p == q) false is) [ inl here ↦ eqb-true p q here | inr none ↦ cc ]

found_owned : (object : Object) (t : Topology) (m q p : ℕ) (own : Bool) → own ≡ owns object t m p → p < length t.procs → stands_in q (if own then p ∷ [] else []) ≡ true → Owns object t m q
found_owned object t m q p true is there in_ =
    let P : ℕ → Type 0 = λ k. Owns object t m k in
    subst P (only q p in_) (record { own = sym is; there = there })
found_owned object t m q p false is there in_ = cc

member_owned : (object : Object) (t : Topology) (m q : ℕ) (place : Option ℕ) → ((p : ℕ) → place ≡ Some p → p < length t.procs) → stands_in q (member_at object t m place) ≡ true → Owns object t m q
member_owned object t m q None within in_ = cc
member_owned object t m q (Some p) within in_ = found_owned object t m q p (owns object t m p) refl (within p refl) in_

nothing : ProcDef
nothing = record { node = record { 0 = 0 }; parent = 0; figure = 0; latency = 0 }

among_owned : (object : Object) (t : Topology) (m q : ℕ) (nodes : List NodeId) → stands_in q (members_among object t m nodes) ≡ true → Owns object t m q
among_owned object t m q [] in_ = cc
among_owned object t m q (node ∷ nodes) in_ =
    let place : Option ℕ = proc_place t.procs node.0 in
    let parts : (stands_in q (member_at object t m place) || stands_in q (members_among object t m nodes)) ≡ true =
    sym (list_any-append (λ p. p == q) (member_at object t m place) (members_among object t m nodes)) ∙ in_
    in
    elim (either (stands_in q (member_at object t m place)) (stands_in q (members_among object t m nodes)) parts) [
      | inl here ↦ member_owned object t m q place (λ p is. (position-Some (λ (x : ProcDef). x.node.0 == node.0) t.procs p nothing is).0) here
      | inr later ↦ among_owned object t m q nodes later
    ]

from_owned : (object : Object) (t : Topology) (k m q : ℕ) (masters : List MasterRec) → stands_in q (members_at m (members_from object t k masters)) ≡ true → Owns object t (k + m) q
from_owned object t k m q [] in_ = cc
from_owned object t k zero q (x ∷ xs) in_ =
    let P : ℕ → Type 0 = λ n. Owns object t n q in
    let same : k ≡ k + zero = omega arith in
    subst P same (among_owned object t k q (procs_of t x.node) in_)
from_owned object t k (suc m) q (x ∷ xs) in_ =
    let P : ℕ → Type 0 = λ n. Owns object t n q in
    let same : (k + 1) + m ≡ k + suc m = omega arith in
    subst P same (from_owned object t (k + 1) m q xs in_)

-- each member of a master is its own
pub members_owned : (object : Object) (t : Topology) (m q : ℕ) → has_member m q (members_of object t) ≡ true → Owns object t m q
members_owned object t m q in_ =
    let P : ℕ → Type 0 = λ n. Owns object t n q in
    let same : 0 + m ≡ m = omega arith in
    subst P same (from_owned object t 0 m q object.masters in_)

-- a processor has one owner
pub one_owner : (m k : ℕ) (owner : Option ℕ) → is_place m owner ≡ true → is_place k owner ≡ true → m ≡ k
one_owner m k None first second = cc
one_owner m k (Some n) first second = sym (eqb-true n m first) ∙ eqb-true n k second
