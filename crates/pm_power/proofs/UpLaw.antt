-- A power node is up exactly where it is held or something directly below needs it.
use Rattle.std.proofs.Common.{◌≡◌, ◌↔◌, IsTrue, ℕ, ◌+◌, ◌-◌, ◌<◌, ◌⊎◌, ◌==◌, ◌&&◌, ◌||◌, Bool, true, false, Option, Some, None, List, [], ◌∷◌, length, drop, slice_get, unwrap_or, refl, zero, suc, arith, ap, sym, ◌∙◌, inl, inr}
use Rattle.std.proofs.lemmas.Bool.{eqb-true}
use Rattle.pm_topology.specs.declared.topology.PowerDef.{PowerDef}
use Rattle.pm_topology.specs.declared.topology.Topology.{Topology}
use Rattle.pm_topology.specs.WellFormed.{IsWellFormed}
use Rattle.pm_base.proofs.Booleans.{either, first_passes, later_passes, both, pair_of, equal}
use Rattle.pm_base.proofs.Options.{holds_of}
use Rattle.pm_base.proofs.Tests.{present_at, present_from}
use Rattle.pm_power.specs.declared.child.Child.{Child}
use Rattle.pm_base.specs.Places.{is_place}
use Rattle.pm_power.specs.Forest.{Needs, child_needs, power_needs, ups_from, ups, is_up, IsHeld, ChildNeeds, PowerNeeds, AreAfterParents}

parent_is : (w : ℕ) (parent : Option ℕ) → is_place w parent ≡ true → parent ≡ Some w
parent_is w None e = cc
parent_is w (Some v) e = ap Some (eqb-true v w e)

is_parent_of : (w : ℕ) (parent : Option ℕ) → parent ≡ Some w → is_place w parent ≡ true
is_parent_of w None e = cc
is_parent_of w (Some v) e = equal v w (let same : Some v ≡ Some w = e in cc)

is_true : (o : Option Bool) → unwrap_or o false ≡ true → o ≡ Some true
is_true None e = cc
is_true (Some b) e = ap Some e

-- the answer for a power node at a place, from the later ones
answer : List Child → List PowerDef → List Bool → ℕ → PowerDef → Bool
answer children later ups w p = p.held || (child_needs children w || power_needs later ups w)

answer_is : (children : List Child) (later : List PowerDef) (ups : List Bool) (w : ℕ) (p : PowerDef)
    → answer children later ups w p ≡ (p.held || (child_needs children w || power_needs later ups w))
unfolding answer
answer_is children later ups w p = refl

ups_at : (children : List Child) (base : ℕ) (powers : List PowerDef) (w at : ℕ) (p : PowerDef)
    → slice_get powers w ≡ Some p
    → at ≡ base + w
    → slice_get (ups_from children base powers) w
    ≡ Some (answer children (drop (suc w) powers) (drop (suc w) (ups_from children base powers)) at p)
ups_at children base [] w at p here is = cc
ups_at children base (q ∷ powers) zero at p here is =
    let same : q ≡ p = cc in
    let placed : base ≡ at = omega arith in
    let first = sym (answer_is children powers (ups_from children (base + 1) powers) base q) in
    ap Some (first ∙ ap (λ n. answer children powers (ups_from children (base + 1) powers) n q) placed ∙ ap (answer children powers (ups_from children (base + 1) powers) at) same)
ups_at children base (q ∷ powers) (suc w) at p here is = ups_at children (base + 1) powers w at p here (omega arith)

slice_get-drop : {X : Type 0} (xs : List X) (k j at : ℕ) → at ≡ k + j → slice_get (drop k xs) j ≡ slice_get xs at
slice_get-drop xs zero j at is = let same : j ≡ at = omega arith in ap (slice_get xs) same
slice_get-drop [] (suc k) j at is = refl
slice_get-drop (x ∷ xs) (suc k) j zero is = absurd (omega arith)
slice_get-drop (x ∷ xs) (suc k) j (suc at) is = slice_get-drop xs k j at (omega arith)

-- one of these power nodes needs the one at w
needing_at : (powers : List PowerDef) (ups : List Bool) (w : ℕ)
    → power_needs powers ups w ≡ true
    → (j : ℕ) × (p : PowerDef) × (slice_get powers j ≡ Some p) × (slice_get ups j ≡ Some true) × (p.parent ≡ Some w)
needing_at [] ups w e = cc
needing_at (p ∷ powers) [] w e = cc
needing_at (p ∷ powers) (up ∷ ups) w e =
    elim (either (is_place w p.parent && up) _ e) [
      | inl here ↦ (let parts = both (is_place w p.parent) up here in (zero, p, refl, ap Some parts.1, parent_is w p.parent parts.0))
      | inr later ↦ (let found = needing_at powers ups w later in (suc found.0, found.1, found.2, found.3, found.4))
    ]

needing_from : (powers : List PowerDef) (ups : List Bool) (w j : ℕ) (p : PowerDef)
    → slice_get powers j ≡ Some p → slice_get ups j ≡ Some true → p.parent ≡ Some w
    → power_needs powers ups w ≡ true
needing_from [] ups w j p here up is = cc
needing_from (q ∷ powers) [] w j p here up is = cc
needing_from (q ∷ powers) (b ∷ ups) w zero p here up is =
    let same : q ≡ p = cc in
    first_passes _ _ (pair_of (is_place w q.parent) b (is_parent_of w q.parent (ap (λ (p : PowerDef). p.parent) same ∙ is)) (let top : Some b ≡ Some true = up in cc))
needing_from (q ∷ powers) (b ∷ ups) w (suc j) p here up is = later_passes _ _ (needing_from powers ups w j p here up is)

-- where the answer is yes, there is a reason for it
up_to : (n : Needs) (w : ℕ) (p : PowerDef)
    → slice_get n.powers w ≡ Some p
    → is_up n w ≡ true
    → IsHeld n w ⊎ (ChildNeeds n w ⊎ PowerNeeds n w)
up_to n w p here up =
    let later = drop (suc w) n.powers in
    let later_ups = drop (suc w) (ups n) in
    let at = ups_at n.children 0 n.powers w w p here (omega arith) in
    let all : Some true ≡ Some (answer n.children later later_ups w p) = sym (is_true (slice_get (ups n) w) up) ∙ at in
    let yes : answer n.children later later_ups w p ≡ true = cc in
    let holds = sym (answer_is n.children later later_ups w p) ∙ yes in
    elim (either p.held _ holds) [
      | inl held ↦ inl (p, here, held)
      | inr below ↦ inr (elim (either (child_needs n.children w) _ below) [
        | inl child ↦ inl (
            let found = present_at (λ (c : Child). (c.parent == w) && c.needs) n.children child in
            let parts = both (found.1.parent == w) found.1.needs found.3 in
            (found.0, found.1, found.2, eqb-true found.1.parent w parts.0, parts.1))
        | inr power ↦ inr (
            let found = needing_at later later_ups w power in (
              suc w + found.0,
              found.1,
              sym (slice_get-drop n.powers (suc w) found.0 (suc w + found.0) refl) ∙ found.2,
              found.4,
              ap (λ o. unwrap_or o false) (sym (slice_get-drop (ups n) (suc w) found.0 (suc w + found.0) refl) ∙ found.3),
            ))
      ])
    ]

up_where : (n : Needs) (w : ℕ) (p : PowerDef)
    → slice_get n.powers w ≡ Some p
    → (p.held || (child_needs n.children w || power_needs (drop (suc w) n.powers) (drop (suc w) (ups n)) w)) ≡ true
    → is_up n w ≡ true
up_where n w p here holds =
    let at = ups_at n.children 0 n.powers w w p here (omega arith) in
    let yes = answer_is n.children (drop (suc w) n.powers) (drop (suc w) (ups n)) w p ∙ holds in
    ap (λ o. unwrap_or o false) (at ∙ ap Some yes)

up_from : (n : Needs) (w : ℕ) (p : PowerDef)
    → AreAfterParents n.powers
    → slice_get n.powers w ≡ Some p
    → IsHeld n w ⊎ (ChildNeeds n w ⊎ PowerNeeds n w)
    → is_up n w ≡ true
up_from n w p after here (inl held) =
    let same : held.0 ≡ p = let there = held.1 in cc in
    up_where n w p here (first_passes p.held _ (ap (λ (p : PowerDef). p.held) (sym same) ∙ held.2))
up_from n w p after here (inr (inl child)) =
    up_where n w p here (later_passes p.held _ (first_passes (child_needs n.children w) _
    (present_from (λ (c : Child). (c.parent == w) && c.needs) n.children child.0 child.1 child.2
    (pair_of _ _ (equal child.1.parent w child.3) child.4))))
up_from n w p after here (inr (inr power)) =
    let later = after power.0 w power.1 power.2 power.3 in
    let place : power.0 ≡ suc w + (power.0 - suc w) = omega arith in
    up_where n w p here (later_passes p.held _ (later_passes (child_needs n.children w) _
    (needing_from (drop (suc w) n.powers) (drop (suc w) (ups n)) w (power.0 - suc w) power.1
    (slice_get-drop n.powers (suc w) (power.0 - suc w) power.0 place ∙ power.2)
    (slice_get-drop (ups n) (suc w) (power.0 - suc w) power.0 place ∙ is_true (slice_get (ups n) power.0) power.4)
    power.3)))

-- the same of an answer
pub up_exactly : (n : Needs) (w : ℕ) (up : Bool)
    → AreAfterParents n.powers
    → w < length n.powers
    → up ≡ is_up n w
    → (up ≡ true → IsHeld n w ⊎ (ChildNeeds n w ⊎ PowerNeeds n w))
    × (IsHeld n w ⊎ (ChildNeeds n w ⊎ PowerNeeds n w) → up ≡ true)
up_exactly n w up after within e = at (slice_get n.powers w) refl
  where
    missing : {X : Type 0} (xs : List X) (w : ℕ) → w < length xs → slice_get xs w ≡ None → ⊥
    missing [] w within none = absurd (omega arith)
    missing (x ∷ xs) zero within none = cc
    missing (x ∷ xs) (suc w) within none = missing xs w (omega arith) none

    at : (got : Option PowerDef) → slice_get n.powers w ≡ got
        → (up ≡ true → IsHeld n w ⊎ (ChildNeeds n w ⊎ PowerNeeds n w))
        × (IsHeld n w ⊎ (ChildNeeds n w ⊎ PowerNeeds n w) → up ≡ true)
    at None none = absurd (missing n.powers w within none)
    at (Some p) here = ((λ is. up_to n w p here (sym e ∙ is)), (λ reason. e ∙ up_from n w p after here reason))

-- in a well-formed topology each power node stands after its parent
pub after_parents : (t : Topology) → IsWellFormed t → AreAfterParents t.powers
after_parents t well v w p here is =
    holds_of (λ u. u < v) p.parent w is (well.power_parents v p here)

-- a power node that is there is up exactly where there is a reason
pub up_where_needed : (n : Needs) (w : ℕ) → AreAfterParents n.powers → w < length n.powers
    → IsTrue (is_up n w) ↔ (IsHeld n w ⊎ (ChildNeeds n w ⊎ PowerNeeds n w))
up_where_needed n w after within = up_exactly n w (is_up n w) after within refl
