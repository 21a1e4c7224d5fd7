-- The needs of children are set one after another.
use Rattle.std.proofs.Common.{◌≡◌, ℕ, ◌+◌, ◌-◌, ◌<◌, ◌≤◌, Bool, false, List, [], ◌∷◌, ◌++◌, length, min, drop, slice_get, unwrap_or, refl, zero, suc, arith, ap, sym, ◌∙◌}
use Rattle.std.specs.Prelude.{slice_set, Some}
use Rattle.std.proofs.lemmas.List.{length-set}
use Rattle.std.proofs.lemmas.Option.{slice_get_within}
use Rattle.pm_topology.specs.declared.topology.PowerDef.{PowerDef}
use Rattle.pm_power.specs.declared.child.Child.{Child}
use Rattle.pm_power.specs.Needs.{child, with_need_at, with_needs, with_needs_in}
use Rattle.pm_power.specs.Uses.{WasPut, need_cost, need_cost_at, needs_cost, needs_cost_in, with_need}

need_left : (j : ℕ) (needs : List Bool) → unwrap_or (slice_get (drop j needs) zero) false ≡ unwrap_or (slice_get needs j) false
need_left zero needs = refl
need_left (suc j) [] = refl
need_left (suc j) (need ∷ needs) = need_left j needs

later_left : (j : ℕ) (needs : List Bool) → drop (suc zero) (drop j needs) ≡ drop (suc j) needs
later_left zero needs = refl
later_left (suc j) [] = refl
later_left (suc j) (need ∷ needs) = later_left j needs

-- what is left once one more need is set, and what was left before it
set_first : (count : ℕ) (needs : List Bool) (c : Child) (cs : List Child) (on : Bool) → on ≡ unwrap_or (slice_get needs zero) false
    → with_need on c ∷ with_needs_in zero count (drop (suc zero) needs) cs ≡ with_needs_in zero (suc count) needs (c ∷ cs)
set_first count [] c cs on is = ap (λ (b : Bool). child c.node c.parent b ∷ with_needs_in zero count [] cs) is
set_first count (need ∷ needs) c cs on is = ap (λ (b : Bool). child c.node c.parent b ∷ with_needs_in zero count needs cs) is

set_at : (k count : ℕ) (needs : List Bool) (cs : List Child) (c : Child) (on : Bool) → slice_get cs k ≡ Some c → on ≡ unwrap_or (slice_get needs zero) false
    → with_needs_in (suc k) count (drop (suc zero) needs) (slice_set cs k (with_need on c)) ≡ with_needs_in k (suc count) needs cs
set_at k count needs [] c on at is = absurd (omega (arith, slice_get_within [] k c at))
set_at zero count needs (d ∷ cs) c on at is =
    let same : d ≡ c = cc in
    ap (λ (e : Child). with_need on e ∷ with_needs_in zero count (drop (suc zero) needs) cs) (sym same) ∙ set_first count needs d cs on is
set_at (suc k) count needs (d ∷ cs) c on at is = ap (λ xs. d ∷ xs) (set_at k count needs cs c on at is)

-- one need was put: one child more is done
pub put_step : (needs : List Bool) (cs : List Child) (from to k : ℕ) (on : Bool) (next : List Child) (powers : List PowerDef) (before after : ℕ) (whole : List Child)
    → WasPut k on cs next powers before after → on ≡ unwrap_or (slice_get needs (k - from)) false → from ≤ k → k < to
    → with_needs_in k (to - k) (drop (k - from) needs) cs ≡ whole
    → with_needs_in (k + 1) (to - (k + 1)) (drop (k + 1 - from) needs) next ≡ whole
put_step needs cs from to k on next powers before after whole put is start within done =
    let left : List Bool = drop (k - from) needs in
    let first : on ≡ unwrap_or (slice_get left zero) false = is ∙ sym (need_left (k - from) needs) in
    let place : k + 1 ≡ suc k = omega arith in
    let many : to - k ≡ suc (to - (k + 1)) = omega (arith, within) in
    let so_far : k + 1 - from ≡ suc (k - from) = omega (arith, start) in
    let later : drop (k + 1 - from) needs ≡ drop (suc zero) left = ap (λ (n : ℕ). drop n needs) so_far ∙ sym (later_left (k - from) needs) in
    ap (λ (n : ℕ). with_needs_in n (to - (k + 1)) (drop (k + 1 - from) needs) next) place
    ∙ (ap (λ (ns : List Bool). with_needs_in (suc k) (to - (k + 1)) ns next) later
    ∙ (ap (with_needs_in (suc k) (to - (k + 1)) (drop (suc zero) left)) put.put
    ∙ (set_at k (to - (k + 1)) left cs put.child on put.here first
    ∙ (ap (λ (n : ℕ). with_needs_in k n left cs) (sym many) ∙ done))))

none_in : (place : ℕ) (needs : List Bool) (cs : List Child) → with_needs_in place zero needs cs ≡ cs
none_in place needs [] = refl
none_in zero needs (c ∷ cs) = refl
none_in (suc place) needs (c ∷ cs) = ap (λ later. c ∷ later) (none_in place needs cs)

-- past the last place the children are done
pub put_end : (needs left : List Bool) (cs : List Child) (to k : ℕ) (whole : List Child) → to ≤ k
    → with_needs_in k (to - k) left cs ≡ whole → cs ≡ whole
put_end needs left cs to k whole end done =
    let none : to - k ≡ 0 = omega (arith, end) in
    sym (ap (λ (n : ℕ). with_needs_in k n left cs) none ∙ none_in k left cs) ∙ done

all_in : (needs : List Bool) (cs : List Child) → with_needs_in zero (length cs) needs cs ≡ with_needs needs cs
all_in needs [] = refl
all_in [] (c ∷ cs) = ap (λ later. child c.node c.parent false ∷ later) (all_in [] cs)
all_in (need ∷ needs) (c ∷ cs) = ap (λ later. child c.node c.parent need ∷ later) (all_in needs cs)

-- the first needs were put, and then the later ones
pub both_put : (first later : List Bool) (cs : List Child) (n m : ℕ) → n ≡ min (length first) (length cs) → m ≡ length cs - n
    → with_needs_in n m later (with_needs_in zero n first cs) ≡ with_needs (first ++ later) cs
both_put first later [] n m is rest = refl
both_put [] later (c ∷ cs) zero m is rest =
    let all : m ≡ length (c ∷ cs) = omega (arith, rest) in
    ap (λ (k : ℕ). with_needs_in zero k later (c ∷ cs)) all ∙ all_in later (c ∷ cs)
both_put [] later (c ∷ cs) (suc n) m is rest = absurd (omega (arith, is))
both_put (need ∷ first) later (c ∷ cs) zero m is rest = absurd (omega (arith, is))
both_put (need ∷ first) later (c ∷ cs) (suc n) m is rest =
    ap (λ left. child c.node c.parent need ∷ left) (both_put first later cs n m (omega (arith, is)) (omega (arith, rest)))

pub put_len : (cs : List Child) (k : ℕ) (on : Bool) (next : List Child) (powers : List PowerDef) (before after : ℕ)
    → WasPut k on cs next powers before after → length next ≡ length cs
put_len cs k on next powers before after put = ap length put.put ∙ length-set cs k (child put.child.node put.child.parent on)

-- ---- the need of one child, by its place

set_child_at : (cs : List Child) (k : ℕ) (on : Bool) (c : Child) → slice_get cs k ≡ Some c → slice_set cs k (with_need on c) ≡ with_need_at k on cs
set_child_at [] k on c at = refl
set_child_at (d ∷ cs) zero on c at = let same : d ≡ c = cc in ap (λ (e : Child). child e.node e.parent on ∷ cs) (sym same)
set_child_at (d ∷ cs) (suc k) on c at = ap (λ later. d ∷ later) (set_child_at cs k on c at)

pub put_is : (cs : List Child) (k : ℕ) (on : Bool) (next : List Child) (powers : List PowerDef) (before after : ℕ)
    → WasPut k on cs next powers before after → next ≡ with_need_at k on cs
put_is cs k on next powers before after put = put.put ∙ set_child_at cs k on put.child put.here

-- past the last one nothing changes
pub past_last : (cs : List Child) (k : ℕ) (on : Bool) → length cs ≤ k → with_need_at k on cs ≡ cs
past_last [] k on past = refl
past_last (c ∷ cs) zero on past = absurd (omega (arith, past))
past_last (c ∷ cs) (suc k) on past = ap (λ later. c ∷ later) (past_last cs k on (omega (arith, past)))

-- ---- what it costs

module _ (powers : List PowerDef) where
  cost_first : (count : ℕ) (needs : List Bool) (c : Child) (cs : List Child) (on : Bool) → on ≡ unwrap_or (slice_get needs zero) false
      → need_cost powers on c + needs_cost_in powers zero count (drop (suc zero) needs) cs ≡ needs_cost_in powers zero (suc count) needs (c ∷ cs)
  cost_first count [] c cs on is = ap (λ (b : Bool). need_cost powers b c + needs_cost_in powers zero count [] cs) is
  cost_first count (need ∷ needs) c cs on is = ap (λ (b : Bool). need_cost powers b c + needs_cost_in powers zero count needs cs) is

  cost_put : (k count : ℕ) (needs : List Bool) (cs : List Child) (c : Child) (on : Bool) → slice_get cs k ≡ Some c
      → on ≡ unwrap_or (slice_get needs zero) false
      → needs_cost_in powers (suc k) count (drop (suc zero) needs) (slice_set cs k (with_need on c)) + need_cost powers on c
      ≡ needs_cost_in powers k (suc count) needs cs
  cost_put k count needs [] c on at is = absurd (omega (arith, slice_get_within [] k c at))
  cost_put zero count needs (d ∷ cs) c on at is =
      let same : d ≡ c = cc in
      let alike = ap (λ (e : Child). needs_cost_in powers zero (suc count) needs (e ∷ cs)) same in
      omega (arith, cost_first count needs c cs on is, alike)
  cost_put (suc k) count needs (d ∷ cs) c on at is = cost_put k count needs cs c on at is

  all_cost : (needs : List Bool) (cs : List Child) → needs_cost_in powers zero (length cs) needs cs ≡ needs_cost powers needs cs
  all_cost needs [] = refl
  all_cost [] (c ∷ cs) = ap (λ (n : ℕ). need_cost powers false c + n) (all_cost [] cs)
  all_cost (need ∷ needs) (c ∷ cs) = ap (λ (n : ℕ). need_cost powers need c + n) (all_cost needs cs)

  -- the first needs were put, and then the later ones
  pub both_cost : (first later : List Bool) (cs : List Child) (n m : ℕ) → n ≡ min (length first) (length cs) → m ≡ length cs - n
      → needs_cost_in powers n m later (with_needs_in zero n first cs) + needs_cost_in powers zero n first cs ≡ needs_cost powers (first ++ later) cs
  both_cost first later [] n m is rest = refl
  both_cost [] later (c ∷ cs) zero m is rest =
      let all : m ≡ length (c ∷ cs) = omega (arith, rest) in
      let most = ap (λ (k : ℕ). needs_cost_in powers zero k later (c ∷ cs)) all ∙ all_cost later (c ∷ cs) in
      omega (arith, most)
  both_cost [] later (c ∷ cs) (suc n) m is rest = absurd (omega (arith, is))
  both_cost (need ∷ first) later (c ∷ cs) zero m is rest = absurd (omega (arith, is))
  both_cost (need ∷ first) later (c ∷ cs) (suc n) m is rest =
      let others = both_cost first later cs n m (omega (arith, is)) (omega (arith, rest)) in
      omega (arith, others)

  -- the need of the child at a place
  pub cost_at_is : (cs : List Child) (k : ℕ) (on : Bool) (c : Child) → slice_get cs k ≡ Some c → need_cost_at powers k on cs ≡ need_cost powers on c
  cost_at_is [] k on c at = cc
  cost_at_is (d ∷ cs) zero on c at = let same : d ≡ c = cc in ap (need_cost powers on) same
  cost_at_is (d ∷ cs) (suc k) on c at = cost_at_is cs k on c at

-- one need was put: what is left costs that less
pub cost_step : (needs : List Bool) (cs : List Child) (from to k : ℕ) (on : Bool) (next : List Child) (powers : List PowerDef) (before after most : ℕ)
    → WasPut k on cs next powers before after → on ≡ unwrap_or (slice_get needs (k - from)) false → from ≤ k → k < to
    → before + needs_cost_in powers k (to - k) (drop (k - from) needs) cs ≤ most
    → after + needs_cost_in powers (k + 1) (to - (k + 1)) (drop (k + 1 - from) needs) next ≤ most
cost_step needs cs from to k on next powers before after most put is start within so_far =
    let left : List Bool = drop (k - from) needs in
    let first : on ≡ unwrap_or (slice_get left zero) false = is ∙ sym (need_left (k - from) needs) in
    let place : k + 1 ≡ suc k = omega arith in
    let many : to - k ≡ suc (to - (k + 1)) = omega (arith, within) in
    let further : k + 1 - from ≡ suc (k - from) = omega (arith, start) in
    let later : drop (k + 1 - from) needs ≡ drop (suc zero) left = ap (λ (n : ℕ). drop n needs) further ∙ sym (later_left (k - from) needs) in
    let rest : needs_cost_in powers (k + 1) (to - (k + 1)) (drop (k + 1 - from) needs) next
    ≡ needs_cost_in powers (suc k) (to - (k + 1)) (drop (suc zero) left) (slice_set cs k (with_need on put.child)) =
    ap (λ (n : ℕ). needs_cost_in powers n (to - (k + 1)) (drop (k + 1 - from) needs) next) place
    ∙ (ap (λ (ns : List Bool). needs_cost_in powers (suc k) (to - (k + 1)) ns next) later
    ∙ ap (needs_cost_in powers (suc k) (to - (k + 1)) (drop (suc zero) left)) put.put)
    in
    let all : needs_cost_in powers k (to - k) left cs ≡ needs_cost_in powers k (suc (to - (k + 1))) left cs =
    ap (λ (n : ℕ). needs_cost_in powers k n left cs) many
    in
    let one = cost_put powers k (to - (k + 1)) left cs put.child on put.here first in
    omega (arith, rest, all, one, put.cost, so_far)
