-- The needs of the children of a number are set one after another.
use Rattle.std.proofs.Common.{◌≡◌, ℕ, ◌+◌, ◌<◌, ◌≤◌, Bool, true, false, ◌==◌, cond, if◌then◌else◌, List, length, drop, map, Some, None, refl, sym, ◌∙◌, ap, subst, arith}
use Rattle.std.specs.Prelude.{slice_get, slice_set, sum_by}
use Rattle.std.proofs.lemmas.List.Sums.{sum_by-cons}
use Rattle.pm_base.proofs.ListLemmas.{drop_found}
use Rattle.pm_base.specs.declared.names.NodeId.{NodeId}
use Rattle.pm_topology.specs.declared.topology.PowerDef.{PowerDef}
use Rattle.pm_power.specs.declared.child.Child.{Child}
use Rattle.pm_power.specs.Uses.{IsForest, IsSetting, WasPut, changes, need_cost, with_need, levels, levels_of, same, AreCounted, AreWithin}
use Rattle.pm_power.specs.Needs.{set_child}
use Rattle.pm_cells.proofs.Midway.{midway_get, midway_set, midway_same, midway_end, midway_len, map_same, there}

cond_most : (b : Bool) (n : ℕ) → cond b n 0 ≤ n
cond_most true n = omega arith
cond_most false n = omega arith

module _ (node : NodeId) (on : Bool) (powers : List PowerDef) (first : List Child) (start k : ℕ) (children : List Child) (counts : List ℕ) (ups : List Bool) (steps : ℕ)
    (is : IsSetting node on powers first start k children counts ups steps) where
  pub child_here : (c : Child) → slice_get children k ≡ Some c → k < length first → slice_get first k ≡ Some c
  child_here c at within =
      let found = there first k within in
      let one : slice_get children k ≡ Some found.0 = ap (λ cs. slice_get cs k) is.changed ∙ midway_get (set_child node on) same first k found.0 found.1 in
      found.1 ∙ (sym one ∙ at)

  pub size_here : length children ≡ length first
  size_here = ap length is.changed ∙ midway_len (set_child node on) same first k

  left : (c : Child) → slice_get first k ≡ Some c
      → sum_by (levels_of powers node) (drop k first) ≡ levels_of powers node c + sum_by (levels_of powers node) (drop (k + 1) first)
  left c at = ap (sum_by (levels_of powers node)) (drop_found first k c at) ∙ sum_by-cons (levels_of powers node) c (drop (k + 1) first)

  pub set_here : (c : Child) (next : List Child) (counts' : List ℕ) (ups' : List Bool) (later : ℕ) → slice_get first k ≡ Some c
      → (c.node.0 == node.0) ≡ true → slice_get children k ≡ Some c → WasPut k on children next powers steps later
      → AreCounted next powers counts' ups' true None → AreWithin next powers
      → IsSetting node on powers first start (k + 1) next counts' ups' later
  set_here c next counts' ups' later at own here put counted within =
      let alike : Some put.child ≡ Some c = sym put.here ∙ here in
      let child : put.child ≡ c = cc in
      let set : with_need on put.child ≡ set_child node on c =
      ap (with_need on) child ∙ sym (ap (λ b. if b then with_need on c else c) own)
      in
      let due : levels_of powers node c ≡ levels powers (Some c.parent) = ap (λ b. cond b (levels powers (Some c.parent)) 0) own in
      let cost : later ≤ steps + need_cost powers on c = (let P : Child → Type 0 = λ d. later ≤ steps + need_cost powers on d in subst P child put.cost) in
      let most : need_cost powers on c ≤ levels powers (Some c.parent) = cond_most (changes c.needs on) (levels powers (Some c.parent)) in
      record {
        changed = put.put ∙ (ap (slice_set children k) set ∙ (ap (λ cs. slice_set cs k (set_child node on c)) is.changed ∙ midway_set (set_child node on) same first k c at));
        forest = record { counted = counted; within = within; after = is.forest.after };
        cost = omega (arith, left c at, is.cost);
      }

  pub left_here : (c : Child) → slice_get first k ≡ Some c → (c.node.0 == node.0) ≡ false
      → IsSetting node on powers first start (k + 1) children counts ups steps
  left_here c at other =
      let stays : set_child node on c ≡ c = ap (λ b. if b then with_need on c else c) other in
      let due : levels_of powers node c ≡ 0 = ap (λ b. cond b (levels powers (Some c.parent)) 0) other in
      record {
        changed = is.changed ∙ midway_same (set_child node on) same first k c at stays;
        forest = is.forest;
        cost = omega (arith, left c at, is.cost);
      }

pub starts : (node : NodeId) (on : Bool) (powers : List PowerDef) (children : List Child) (counts : List ℕ) (ups : List Bool) (steps : ℕ)
    → IsForest children powers counts ups → IsSetting node on powers children steps 0 children counts ups steps
starts node on powers children counts ups steps are = record {
  changed = sym (map_same same (λ c. refl) children);
  forest = are;
  cost = omega arith;
}

pub ends_changed : (node : NodeId) (on : Bool) (powers : List PowerDef) (first : List Child) (start k : ℕ) (children : List Child) (counts : List ℕ) (ups : List Bool) (steps : ℕ)
    → IsSetting node on powers first start k children counts ups steps → k ≡ length first → children ≡ map (set_child node on) first
ends_changed node on powers first start k children counts ups steps is end = is.changed ∙ midway_end (set_child node on) same first k end
