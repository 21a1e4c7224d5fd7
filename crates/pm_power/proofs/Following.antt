-- One need is set, and the counts above follow it.
use mathlib.Core.Bool.{beq}
use Rattle.std.proofs.Common.{◌≡◌, ◌≢◌, ℕ, zero, suc, ◌+◌, ◌-◌, ◌<◌, ◌≤◌, ◌^◌, Bool, true, false, not, ◌&&◌, ◌||◌, ◌==◌, List, [], ◌∷◌, length, Option, Some, None, refl, sym, ◌∙◌, ap, subst, arith, get_or, inl, inr, ◌⊎◌, nat_lt}
use Rattle.std.specs.Prelude.{count_by, slice_get, slice_set, slice_index, IfSome}
use Rattle.std.specs.List.{zip, list_any}
use Rattle.std.proofs.lemmas.Bool.{eqb-true, eq-eqb}
use Rattle.std.proofs.lemmas.Bool.Decides.{nat_tests}
use Rattle.std.proofs.lemmas.List.{length-set, get_or-set_same, get_or-set_other}
use Rattle.std.proofs.lemmas.Option.{slice_get_within, slice_get-get_or}
use Rattle.pm_base.proofs.Counts.{count_by-cons}
use Rattle.pm_cells.proofs.Counting.{one_if, count_set, count_most, get_other}
use Rattle.pm_topology.specs.declared.topology.PowerDef.{PowerDef}
use Rattle.pm_power.specs.declared.child.Child.{Child}
use Rattle.pm_base.specs.Places.{is_place}
use Rattle.pm_power.specs.Forest.{child_needs, power_needs, ups_from, AreAfterParents}
use Rattle.pm_power.specs.Uses.{is_using_child, child_uses, power_uses, pending, AreCounted, AreWithin, with_need, counted_by, parent_of, chain, room, levels, changes}

-- ---- lists

pub get_same : {X : Type 0} (xs : List X) (k : ℕ) (x y : X) → slice_get xs k ≡ Some x → slice_get (slice_set xs k y) k ≡ Some y
get_same [] k x y at = cc
get_same (z ∷ xs) zero x y at = refl
get_same (z ∷ xs) (suc k) x y at = get_same xs k x y at

pub zip_get : {X Y : Type 0} (xs : List X) (ys : List Y) (k : ℕ) (x : X) (y : Y) → slice_get xs k ≡ Some x → slice_get ys k ≡ Some y
    → slice_get (zip xs ys) k ≡ Some (x, y)
zip_get [] ys k x y at there = cc
zip_get (a ∷ xs) [] k x y at there = cc
zip_get (a ∷ xs) (b ∷ ys) zero x y at there = let one : a ≡ x = cc in let two : b ≡ y = cc in cc
zip_get (a ∷ xs) (b ∷ ys) (suc k) x y at there = zip_get xs ys k x y at there

pub zip_set : {X Y : Type 0} (xs : List X) (ys : List Y) (k : ℕ) (x : X) (y : Y) → slice_get xs k ≡ Some x
    → zip xs (slice_set ys k y) ≡ slice_set (zip xs ys) k (x, y)
zip_set [] ys k x y at = cc
zip_set (a ∷ xs) [] zero x y at = refl
zip_set (a ∷ xs) [] (suc k) x y at = refl
zip_set (a ∷ xs) (b ∷ ys) zero x y at = let one : a ≡ x = cc in ap (λ z. (z, y) ∷ zip xs ys) one
zip_set (a ∷ xs) (b ∷ ys) (suc k) x y at = ap (λ zs. (a, b) ∷ zs) (zip_set xs ys k x y at)

-- ---- what a step changes

need_at : (a b : Bool) → one_if (a && b) ≡ one_if (b && a)
need_at true true = refl
need_at true false = refl
need_at false true = refl
need_at false false = refl

differs : (a b : Bool) → (a ≡ b → ⊥) → a ≡ not b
differs true true other = absurd (other refl)
differs true false other = refl
differs false true other = refl
differs false false other = absurd (other refl)

nothing_pending : (b : Bool) → one_if (b && false) ≡ 0
nothing_pending true = refl
nothing_pending false = refl

-- a need was set: the count of the child's parent has to follow
pub need_put : (children : List Child) (powers : List PowerDef) (counts : List ℕ) (ups : List Bool) (k : ℕ) (child : Child) (on : Bool)
    → AreCounted children powers counts ups true None → slice_get children k ≡ Some child → (child.needs ≡ on → ⊥)
    → AreCounted (slice_set children k (with_need on child)) powers counts ups on (Some child.parent)
need_put children powers counts ups k child on are at other = record {
  places = are.places;
  up_places = are.up_places;
  right = λ w within.
      let step = count_set (is_using_child w) children k child (with_need on child) at in
      let before : one_if ((child.parent == w) && child.needs) ≡ one_if (not on && (child.parent == w)) =
      ap (λ b. one_if ((child.parent == w) && b)) (differs child.needs on other) ∙ need_at (child.parent == w) (not on)
      in
      let after : one_if ((child.parent == w) && on) ≡ one_if (on && (child.parent == w)) = need_at (child.parent == w) on in
      let is = are.right w within in
      omega arith;
  up = are.up;
}

-- the count at a place has followed
pub followed : (on : Bool) (w : ℕ) (counts : List ℕ) (v uses : ℕ) → w < length counts
    → slice_index counts v + one_if (on && (w == v)) ≡ uses + one_if (not on && (w == v))
    → slice_index (counted_by on w counts) v ≡ uses
followed on w counts v uses within is = at (w == v) refl on is
  where
    at : (b : Bool) → (w == v) ≡ b → (on : Bool)
        → slice_index counts v + one_if (on && (w == v)) ≡ uses + one_if (not on && (w == v))
        → slice_index (counted_by on w counts) v ≡ uses
    at true same true is =
        let here : w ≡ v = eqb-true w v same in
        let one : one_if (w == v) ≡ 1 = ap (λ b. one_if b) same in
        let P : ℕ → Type 0 = λ u. slice_index (slice_set counts u (slice_index counts u + 1)) v ≡ uses in
        subst P (sym here) (get_or-set_same counts v (slice_index counts v + 1) 0 (omega arith) ∙ omega arith)
    at true same false is =
        let here : w ≡ v = eqb-true w v same in
        let one : one_if (w == v) ≡ 1 = ap (λ b. one_if b) same in
        let P : ℕ → Type 0 = λ u. slice_index (slice_set counts u (slice_index counts u - 1)) v ≡ uses in
        subst P (sym here) (get_or-set_same counts v (slice_index counts v - 1) 0 (omega arith) ∙ omega arith)
    at false apart true is =
        let none : one_if (w == v) ≡ 0 = ap (λ b. one_if b) apart in
        get_or-set_other counts w v _ 0 (λ e. let yes : (w == v) ≡ true = eq-eqb w v (sym e) in cc) ∙ omega arith
    at false apart false is =
        let none : one_if (w == v) ≡ 0 = ap (λ b. one_if b) apart in
        get_or-set_other counts w v _ 0 (λ e. let yes : (w == v) ≡ true = eq-eqb w v (sym e) in cc) ∙ omega arith

pub followed_len : (on : Bool) (w : ℕ) (counts : List ℕ) → length (counted_by on w counts) ≡ length counts
followed_len true w counts = length-set counts w _
followed_len false w counts = length-set counts w _

pub followed_other : (on : Bool) (w : ℕ) (counts : List ℕ) (v : ℕ) → v ≢ w → slice_index (counted_by on w counts) v ≡ slice_index counts v
followed_other true w counts v other = get_or-set_other counts w v _ 0 other
followed_other false w counts v other = get_or-set_other counts w v _ 0 other

same_or_not : (m n : ℕ) (b : Bool) → (m == n) ≡ b → (m ≡ n) ⊎ (n ≢ m)
same_or_not m n true is = inl (eqb-true m n is)
same_or_not m n false is = inr (λ e. let yes : (m == n) ≡ true = eq-eqb m n (sym e) in cc)

none_at : (b : Bool) (v : ℕ) → pending b None v ≡ 0
none_at true v = refl
none_at false v = refl

-- a count followed, and its power node stays as it was
pub climb_ends : (children : List Child) (powers : List PowerDef) (counts : List ℕ) (ups : List Bool) (on : Bool) (w : ℕ) (p : PowerDef) (up : Bool)
    → AreCounted children powers counts ups on (Some w) → slice_get powers w ≡ Some p → w < length powers
    → up ≡ (p.held || nat_lt 0 (slice_index (counted_by on w counts) w)) → slice_get ups w ≡ Some up
    → AreCounted children powers (counted_by on w counts) ups on None
climb_ends children powers counts ups on w p up are here within is stays = record {
  places = followed_len on w counts ∙ are.places;
  up_places = are.up_places;
  right = λ v below.
      let is = followed on w counts v (child_uses children v + power_uses powers ups v) (omega (arith, are.places)) (are.right v below) in
      omega (arith, none_at on v, none_at (not on) v);
  up = λ v q there. elim (same_or_not w v _ refl) [
    | inl same ↦
        let P : ℕ → Type 0 = λ u. (r : PowerDef) → slice_get powers u ≡ Some r → slice_get ups u ≡ Some (r.held || nat_lt 0 (slice_index (counted_by on w counts) u)) in
        subst P same (λ r at. let alike : p ≡ r = cc in stays ∙ ap Some (is ∙ ap (λ (r : PowerDef). r.held || nat_lt 0 (slice_index (counted_by on w counts) w)) alike)) q there
    | inr other ↦ are.up v q there ∙ ap (λ n. Some (q.held || nat_lt 0 n)) (sym (followed_other on w counts v other))
  ];
}

flips : (held on : Bool) (count now : ℕ) (before after : Bool) → before ≡ (held || nat_lt 0 count) → after ≡ (held || nat_lt 0 now)
    → (on ≡ true → now ≡ count + 1) → (on ≡ false → 0 < count) → (after ≡ before → ⊥) → (after ≡ on) × (before ≡ not on)
flips true on count now before after is then more some other = absurd (other (then ∙ sym is))
flips false true count now before after is then more some other =
    let up : nat_lt 0 now ≡ true = (let grew = more refl in grind (arith, nat_tests)) in
    let yes : after ≡ true = then ∙ up in
    (yes, differs before true (λ e. other (yes ∙ sym e)))
flips false false count now before after is then more some other =
    let down : nat_lt 0 count ≡ true = (let had = some refl in grind (arith, nat_tests)) in
    let yes : before ≡ true = is ∙ down in
    (differs after true (λ e. other (e ∙ sym yes)), yes)

-- a count followed, and its power node goes up or down with it: the count of its parent has to follow
pub climb_goes_on : (children : List Child) (powers : List PowerDef) (counts : List ℕ) (ups : List Bool) (on : Bool) (w : ℕ) (p : PowerDef) (up before : Bool)
    → AreCounted children powers counts ups on (Some w) → slice_get powers w ≡ Some p → w < length powers
    → up ≡ (p.held || nat_lt 0 (slice_index (counted_by on w counts) w)) → slice_get ups w ≡ Some before
    → (up ≡ on) × (before ≡ not on)
    → AreCounted children powers (counted_by on w counts) (slice_set ups w up) on p.parent
climb_goes_on children powers counts ups on w p up before are here within is there turned = record {
  places = followed_len on w counts ∙ are.places;
  up_places = length-set ups w up ∙ are.up_places;
  right = λ v below.
      let is = followed on w counts v (child_uses children v + power_uses powers ups v) (omega (arith, are.places)) (are.right v below) in
      let step = count_set (λ e. is_place v e.0.parent && e.1) (zip powers ups) w (p, before) (p, up) (zip_get powers ups w p before here there) in
      let whole : power_uses powers (slice_set ups w up) v ≡ count_by (λ e. is_place v e.0.parent && e.1) (slice_set (zip powers ups) w (p, up)) =
      ap (count_by (λ e. is_place v e.0.parent && e.1)) (zip_set powers ups w p up here)
      in
      let first : one_if (is_place v p.parent && before) ≡ pending (not on) p.parent v =
      ap (λ b. one_if (is_place v p.parent && b)) turned.1 ∙ need_at (is_place v p.parent) (not on)
      in
      let second : one_if (is_place v p.parent && up) ≡ pending on p.parent v =
      ap (λ b. one_if (is_place v p.parent && b)) turned.0 ∙ need_at (is_place v p.parent) on
      in
      omega arith;
  up = λ v q at. elim (same_or_not w v _ refl) [
    | inl same ↦
        let P : ℕ → Type 0 = λ u. (r : PowerDef) → slice_get powers u ≡ Some r → slice_get (slice_set ups w up) u ≡ Some (r.held || nat_lt 0 (slice_index (counted_by on w counts) u)) in
        subst P same (λ r found. let alike : p ≡ r = cc in get_same ups w before up there ∙ ap Some (is ∙ ap (λ (r : PowerDef). r.held || nat_lt 0 (slice_index (counted_by on w counts) w)) alike)) q at
    | inr other ↦
        get_other ups w v up (λ e. other (sym e)) ∙ are.up v q at ∙ ap (λ n. Some (q.held || nat_lt 0 n)) (sym (followed_other on w counts v other))
  ];
}

-- ---- levels

chain_enough : (powers : List PowerDef) → AreAfterParents powers → (f g v : ℕ) → v < f → v < g → chain powers f (Some v) ≡ chain powers g (Some v)
chain_enough powers after zero g v below within = absurd (omega arith)
chain_enough powers after (suc f) zero v below within = absurd (omega arith)
chain_enough powers after (suc f) (suc g) v below within =
    ap (λ n. 1 + n) (at (chain_enough powers after f g) (slice_get powers v) refl)
  where
    none : (f : ℕ) → chain powers f None ≡ 0
    none zero = refl
    none (suc f) = refl

    above : ((u : ℕ) → u < f → u < g → chain powers f (Some u) ≡ chain powers g (Some u))
        → (p : PowerDef) (parent : Option ℕ) → slice_get powers v ≡ Some p → p.parent ≡ parent → chain powers f parent ≡ chain powers g parent
    above again p None here is = none f ∙ sym (none g)
    above again p (Some u) here is = let earlier : u < v = after v u p here is in again u (omega arith) (omega arith)

    at : ((u : ℕ) → u < f → u < g → chain powers f (Some u) ≡ chain powers g (Some u))
        → (got : Option PowerDef) → slice_get powers v ≡ got → chain powers f (parent_of got) ≡ chain powers g (parent_of got)
    at again None missing = none f ∙ sym (none g)
    at again (Some p) here = above again p p.parent here refl

-- one level up, one level less
pub level_step : (powers : List PowerDef) (w : ℕ) (p : PowerDef) → AreAfterParents powers → slice_get powers w ≡ Some p
    → levels powers (Some w) ≡ 1 + levels powers p.parent
level_step powers w p after here =
    ap (λ (got : Option PowerDef). 1 + chain powers w (parent_of got)) here ∙ ap (λ n. 1 + n) (at p.parent refl)
  where
    none : (f : ℕ) → chain powers f None ≡ 0
    none zero = refl
    none (suc f) = refl

    at : (parent : Option ℕ) → p.parent ≡ parent → chain powers w parent ≡ levels powers parent
    at None is = none w
    at (Some u) is = let earlier : u < w = after w u p here is in chain_enough powers after w (suc u) u earlier (omega arith)

-- ---- what the calls ask for

pub zip_len : {X Y : Type 0} (xs : List X) (ys : List Y) → length (zip xs ys) ≤ length xs
zip_len [] ys = omega arith
zip_len (x ∷ xs) [] = omega arith
zip_len (x ∷ xs) (y ∷ ys) = let later = zip_len xs ys in omega arith

pub count_has_some : (children : List Child) (powers : List PowerDef) (counts : List ℕ) (ups : List Bool) (on : Bool) (w : ℕ)
    → AreCounted children powers counts ups on (Some w) → w < length powers → (on ≡ true) ⊎ (0 < slice_index counts w)
count_has_some children powers counts ups true w are within = inl refl
count_has_some children powers counts ups false w are within =
    let here : one_if (w == w) ≡ 1 = ap one_if (eq-eqb w w refl) in
    let is : slice_index counts w + 0 ≡ child_uses children w + power_uses powers ups w + one_if (w == w) = are.right w within in
    inr (omega arith)

pub count_has_few : (children : List Child) (powers : List PowerDef) (counts : List ℕ) (ups : List Bool) (on : Bool) (at : Option ℕ) (w : ℕ)
    → AreCounted children powers counts ups on at → AreWithin children powers → w < length powers → slice_index counts w < 2 ^ 32 - 1
count_has_few children powers counts ups on at w are few within =
    let one = count_most (is_using_child w) children in
    let two = count_most (λ e. is_place w e.0.parent && e.1) (zip powers ups) in
    let three = zip_len powers ups in
    let is : slice_index counts w + pending on at w ≡ child_uses children w + power_uses powers ups w + pending (not on) at w = are.right w within in
    omega (arith, most (not on && is_place w at), few.few)
  where
    most : (b : Bool) → one_if b ≤ 1
    most true = omega arith
    most false = omega arith

pub within_put : (children : List Child) (powers : List PowerDef) (k : ℕ) (child : Child) (on : Bool) → AreWithin children powers
    → slice_get children k ≡ Some child → AreWithin (slice_set children k (with_need on child)) powers
within_put children powers k child on are here = record {
  parents = λ j c there. elim (same_or_not k j _ refl) [
    | inl same ↦
        let P : ℕ → Type 0 = λ n. slice_get (slice_set children k (with_need on child)) n ≡ Some c in
        let both : Some (with_need on child) ≡ Some c = sym (get_same children k child (with_need on child) here) ∙ subst P (sym same) there in
        let alike : child.parent ≡ c.parent = (let is : with_need on child ≡ c = cc in ap (λ (c : Child). c.parent) is) in
        let below = are.parents k child here in
        omega arith
    | inr other ↦ are.parents j c (sym (get_other children k j (with_need on child) (λ e. other (sym e))) ∙ there)
  ];
  few = (let size = length-set children k (with_need on child) in let few = are.few in omega arith);
}

-- ---- what is counted is up

any_counts : {X : Type 0} (p : X → Bool) (xs : List X) → list_any p xs ≡ nat_lt 0 (count_by p xs)
any_counts p [] = refl
any_counts p (x ∷ xs) =
    let whole : count_by p (x ∷ xs) ≡ one_if (p x) + count_by p xs = count_by-cons p x xs in
    at (p x) (any_counts p xs) ∙ ap (nat_lt 0) (sym whole)
  where
    at : (b : Bool) → list_any p xs ≡ nat_lt 0 (count_by p xs) → (b || list_any p xs) ≡ nat_lt 0 (one_if b + count_by p xs)
    at true later = let some : 0 < 1 + count_by p xs = omega arith in grind (arith, nat_tests)
    at false later = later ∙ ap (nat_lt 0) (sym (let none : 0 + count_by p xs ≡ count_by p xs = omega arith in none))

either_counts : (a b : Bool) (m n : ℕ) → a ≡ nat_lt 0 m → b ≡ nat_lt 0 n → (a || b) ≡ nat_lt 0 (m + n)
either_counts a b zero n one two = (let none : a ≡ false = one in ap (λ c. c || b) none) ∙ (two ∙ ap (nat_lt 0) (let is : n ≡ 0 + n = omega arith in is))
either_counts a b (suc m) n one two =
    let is : nat_lt 0 (suc m) ≡ true = (let some : 0 < suc m = omega arith in grind (arith, nat_tests)) in
    let sum : nat_lt 0 (suc m + n) ≡ true = (let some : 0 < suc m + n = omega arith in grind (arith, nat_tests)) in
    ap (λ c. c || b) (one ∙ is) ∙ sym sum

-- each node of a tail stands later, and is up where what is counted at its place says so
pub record IsTail (children : List Child) (b : ℕ) (powers : List PowerDef) (ups : List Bool) : Type 0 where
  pub places : length ups ≡ length powers
  pub after : (j v : ℕ) (p : PowerDef) → slice_get powers j ≡ Some p → p.parent ≡ Some v → v < b + j
  pub up : (j : ℕ) (p : PowerDef) → slice_get powers j ≡ Some p
      → slice_get ups j ≡ Some (p.held || nat_lt 0 (child_uses children (b + j) + power_uses powers ups (b + j)))

apart_from : (w v : ℕ) → v < w → (v == w) ≡ false
apart_from w v below = grind (arith, nat_tests)

-- the first node needs none that stands at its place or later
first_counts_none : (w : ℕ) (p : PowerDef) (u : Bool) → ((v : ℕ) → p.parent ≡ Some v → v < w) → one_if (is_place w p.parent && u) ≡ 0
first_counts_none w p u after = at p.parent refl
  where
    at : (parent : Option ℕ) → p.parent ≡ parent → one_if (is_place w parent && u) ≡ 0
    at None is = refl
    at (Some v) is = ap (λ b. one_if (b && u)) (apart_from w v (after v is))

pub tail_is_up : (children : List Child) (b : ℕ) (powers : List PowerDef) (ups : List Bool) → IsTail children b powers ups
    → ups ≡ ups_from children b powers
tail_is_up children b [] [] is = refl
tail_is_up children b [] (u ∷ ups) is = let none = is.places in cc
tail_is_up children b (p ∷ powers) [] is = let none = is.places in cc
tail_is_up children b (p ∷ powers) (u ∷ ups) is =
    let later : ups ≡ ups_from children (b + 1) powers = tail_is_up children (b + 1) powers ups (record {
      places = (let size = is.places in omega arith);
      after = λ j v q here parent. let below = is.after (suc j) v q here parent in omega arith;
      up = λ j q here.
          let none = first_counts_none (b + suc j) p u (λ v parent. let below = is.after zero v p refl parent in omega arith) in
          let whole : power_uses (p ∷ powers) (u ∷ ups) (b + suc j) ≡ one_if (is_place (b + suc j) p.parent && u) + power_uses powers ups (b + suc j) =
          count_by-cons (λ e. is_place (b + suc j) e.0.parent && e.1) (p, u) (zip powers ups)
          in
          let rest : power_uses (p ∷ powers) (u ∷ ups) (b + suc j) ≡ power_uses powers ups (b + suc j) = omega arith in
          let next : b + suc j ≡ b + 1 + j = omega arith in
          is.up (suc j) q here
          ∙ ap (λ n. Some (q.held || nat_lt 0 (child_uses children (b + suc j) + n))) rest
          ∙ ap (λ w. Some (q.held || nat_lt 0 (child_uses children w + power_uses powers ups w))) next;
    }) in
    let none = first_counts_none b p u (λ v parent. let below = is.after zero v p refl parent in omega arith) in
    let whole : power_uses (p ∷ powers) (u ∷ ups) b ≡ one_if (is_place b p.parent && u) + power_uses powers ups b =
    count_by-cons (λ e. is_place b e.0.parent && e.1) (p, u) (zip powers ups)
    in
    let rest : power_uses (p ∷ powers) (u ∷ ups) b ≡ power_uses powers ups b = omega arith in
    let here : b + 0 ≡ b = omega arith in
    let at : Some u ≡ Some (p.held || nat_lt 0 (child_uses children b + power_uses (p ∷ powers) (u ∷ ups) b)) =
    is.up zero p refl ∙ ap (λ w. Some (p.held || nat_lt 0 (child_uses children w + power_uses (p ∷ powers) (u ∷ ups) w))) here
    in
    let first : u ≡ (p.held || nat_lt 0 (child_uses children b + power_uses (p ∷ powers) (u ∷ ups) b)) = cc in
    let sum : (child_needs children b || power_needs powers ups b) ≡ nat_lt 0 (child_uses children b + power_uses powers ups b) =
    either_counts (child_needs children b) (power_needs powers ups b) (child_uses children b) (power_uses powers ups b)
    (any_counts (is_using_child b) children) (any_counts (λ e. is_place b e.0.parent && e.1) (zip powers ups))
    in
    let head : u ≡ (p.held || (child_needs children b || power_needs powers (ups_from children (b + 1) powers) b)) =
    first ∙ ap (λ n. p.held || nat_lt 0 (child_uses children b + n)) rest ∙ ap (λ c. p.held || c) (sym sum)
    ∙ ap (λ us. p.held || (child_needs children b || power_needs powers us b)) later
    in
    cc

-- where each count is right, the power nodes are up as the needs say
pub counted_is_up : (children : List Child) (powers : List PowerDef) (counts : List ℕ) (ups : List Bool) → AreAfterParents powers
    → AreCounted children powers counts ups true None → ups ≡ ups_from children 0 powers
counted_is_up children powers counts ups after are = tail_is_up children 0 powers ups (record {
  places = are.up_places;
  after = λ j v p here parent. let below = after j v p here parent in omega arith;
  up = λ j p here.
      let within = slice_get_within powers j p here in
      let is : slice_index counts j + 0 ≡ child_uses children j + power_uses powers ups j + 0 = are.right j within in
      let same : slice_index counts j ≡ child_uses children (0 + j) + power_uses powers ups (0 + j) = (let zero_is : 0 + j ≡ j = omega arith in rw zero_is (omega arith)) in
      are.up j p here ∙ ap (λ n. Some (p.held || nat_lt 0 n)) same;
})

-- ---- in the loop

pub get_at : {X : Type 0} (xs : List X) (k : ℕ) (d x : X) → k < length xs → x ≡ get_or xs k d → slice_get xs k ≡ Some x
get_at xs k d x within is = slice_get-get_or xs k d within ∙ ap Some (sym is)

-- a power node that changes goes the way of the need
pub turns : (children : List Child) (powers : List PowerDef) (counts : List ℕ) (ups : List Bool) (on : Bool) (w : ℕ) (p : PowerDef) (up before : Bool)
    → AreCounted children powers counts ups on (Some w) → slice_get powers w ≡ Some p → w < length powers
    → up ≡ (p.held || nat_lt 0 (slice_index (counted_by on w counts) w)) → slice_get ups w ≡ Some before → (up ≡ before → ⊥)
    → (up ≡ on) × (before ≡ not on)
turns children powers counts ups on w p up before are here within is there other =
    let was : Some before ≡ Some (p.held || nat_lt 0 (slice_index counts w)) = sym there ∙ are.up w p here in
    let then : before ≡ (p.held || nat_lt 0 (slice_index counts w)) = cc in
    flips p.held on (slice_index counts w) (slice_index (counted_by on w counts) w) before up then is
    (λ more. more_of on more) (λ less. some_of on less are) other
  where
    more_of : (on : Bool) → on ≡ true → slice_index (counted_by on w counts) w ≡ slice_index counts w + 1
    more_of true is = get_or-set_same counts w (slice_index counts w + 1) 0 (omega (arith, are.places))
    more_of false is = cc

    some_of : (on : Bool) → on ≡ false → AreCounted children powers counts ups on (Some w) → 0 < slice_index counts w
    some_of true is are = cc
    some_of false is are =
        let one : one_if (w == w) ≡ 1 = ap one_if (eq-eqb w w refl) in
        let it : slice_index counts w + 0 ≡ child_uses children w + power_uses powers ups w + one_if (w == w) = are.right w within in
        omega arith

pub earlier : (powers : List PowerDef) (w : ℕ) (p : PowerDef) → AreAfterParents powers → slice_get powers w ≡ Some p → w < length powers
    → IfSome p.parent (λ v. v < w)
earlier powers w p after here within = at p.parent refl
  where
    at : (parent : Option ℕ) → p.parent ≡ parent → IfSome parent (λ v. v < w)
    at None is = tt
    at (Some v) is = after w v p here is

pub within_from : (parent : Option ℕ) (w n : ℕ) → IfSome parent (λ v. v < w) → w < n → IfSome parent (λ v. v < n)
within_from None w n below within = tt
within_from (Some v) w n below within = omega arith

pub room_falls : (parent : Option ℕ) (w : ℕ) → IfSome parent (λ v. v < w) → room parent < room (Some w)
room_falls None w below = omega arith
room_falls (Some v) w below = omega arith

pub apart_from_test : (a b : Bool) → beq a b ≡ false → a ≡ b → ⊥
apart_from_test true true is same = cc
apart_from_test true false is same = cc
apart_from_test false true is same = cc
apart_from_test false false is same = cc

pub same_from_test : (a b : Bool) → beq a b ≡ true → a ≡ b
same_from_test true true is = refl
same_from_test true false is = cc
same_from_test false true is = cc
same_from_test false false is = refl

-- a need that is as it was asked leaves the children as they are
pub put_nothing : (children : List Child) (k : ℕ) (child : Child) (on : Bool) → slice_get children k ≡ Some child → child.needs ≡ on
    → children ≡ slice_set children k (with_need on child)
put_nothing children k child on here is =
    sym (ap (λ b. slice_set children k (with_need b child)) (sym is) ∙ at children k child here)
  where
    at : {X : Type 0} (xs : List X) (k : ℕ) (x : X) → slice_get xs k ≡ Some x → slice_set xs k x ≡ xs
    at [] k x here = cc
    at (y ∷ xs) zero x here = let same : y ≡ x = cc in ap (λ z. z ∷ xs) (sym same)
    at (y ∷ xs) (suc k) x here = ap (λ ys. y ∷ ys) (at xs k x here)

-- a need that isn't as it was asked changes
pub need_changes : (a b : Bool) → (a ≡ b → ⊥) → changes a b ≡ true
need_changes true true apart = absurd (apart refl)
need_changes true false apart = refl
need_changes false true apart = refl
need_changes false false apart = absurd (apart refl)
