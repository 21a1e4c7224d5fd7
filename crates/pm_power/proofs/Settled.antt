-- The uses that power nodes make are counted from the last one to the first.
use Rattle.std.proofs.Common.{◌≡◌, ℕ, zero, suc, ◌+◌, ◌-◌, ◌<◌, ◌≤◌, ◌^◌, Bool, true, false, not, ◌&&◌, ◌||◌, ◌==◌, List, [], ◌∷◌, ◌++◌, length, map, replicate, take, drop, Option, Some, None, refl, sym, ◌∙◌, ap, subst, arith, inl, inr, nat_lt, unwrap_or}
use Rattle.std.specs.Prelude.{count_by, slice_get, slice_set, slice_index, IfSome}
use Rattle.std.specs.List.{zip}
use Rattle.std.proofs.lemmas.List.{append-nil, drop_all, take_all, length-set, length-replicate, get_or-replicate}
use Rattle.std.proofs.lemmas.Option.{slice_get_within}
use Rattle.pm_base.proofs.Counts.{count_by-cons}
use Rattle.pm_cells.proofs.Counting.{one_if, count_set, count_most, get_other, same_or_not}
use Rattle.pm_topology.specs.declared.topology.PowerDef.{PowerDef}
use Rattle.pm_topology.specs.declared.topology.SlaveDef.{SlaveDef}
use Rattle.pm_topology.specs.declared.topology.ProcDef.{ProcDef}
use Rattle.pm_topology.specs.declared.topology.Topology.{Topology}
use Rattle.pm_topology.specs.WellFormed.{IsWellFormed}
use Rattle.pm_power.specs.declared.child.Child.{Child}
use Rattle.pm_base.specs.Places.{is_place}
use Rattle.pm_power.specs.Forest.{Needs, is_up, ups, AreAfterParents}
use Rattle.pm_power.specs.Needs.{child, children_of}
use Rattle.pm_power.specs.Uses.{is_using_child, child_uses, power_uses, AreCounted, AreSettledFrom, IsForest, AreWithin, used_by}
use Rattle.pm_power.proofs.Following.{counted_is_up, followed, followed_len, followed_other, get_same, zip_get, zip_set, zip_len}
use Rattle.pm_power.proofs.UpLaw.{after_parents}

used_len : (parent : Option ℕ) (counts : List ℕ) → length (used_by parent counts) ≡ length counts
used_len None counts = refl
used_len (Some w) counts = followed_len true w counts

-- no count at a place past the parent changes
used_past : (parent : Option ℕ) (counts : List ℕ) (k v : ℕ) → ((u : ℕ) → parent ≡ Some u → u < k) → k ≤ v
    → slice_index (used_by parent counts) v ≡ slice_index counts v
used_past None counts k v before past = refl
used_past (Some u) counts k v before past = let below = before u refl in followed_other true u counts v (omega arith)

-- the count at each place has one more where that is the parent
used_right : (parent : Option ℕ) (counts : List ℕ) (v uses : ℕ) → v < length counts → ((u : ℕ) → parent ≡ Some u → u < length counts)
    → slice_index counts v + one_if (is_place v parent) ≡ uses → slice_index (used_by parent counts) v ≡ uses
used_right None counts v uses within all is = omega arith
used_right (Some u) counts v uses within all is =
    let here : slice_index counts v + one_if (true && (u == v)) ≡ uses + one_if (not true && (u == v)) = omega arith in
    followed true u counts v uses (all u refl) here

-- the power node at a place goes up
pub goes_up : (k : ℕ) (powers : List PowerDef) (counts : List ℕ) (ups : List Bool) (p : PowerDef) (now : List Bool) (next : List ℕ)
    → AreAfterParents powers → AreSettledFrom (k + 1) powers counts ups → slice_get powers k ≡ Some p
    → true ≡ (p.held || nat_lt 0 (slice_index counts k))
    → now ≡ slice_set ups k true → next ≡ used_by p.parent counts
    → AreSettledFrom k powers next now
goes_up k powers counts ups p now next after is here up set used =
    rw (set, used) (record {
      places = used_len p.parent counts ∙ is.places;
      up_places = length-set ups k true ∙ is.up_places;
      right = λ v within.
          let step = count_set (λ e. is_place v e.0.parent && e.1) (zip powers ups) k (p, false) (p, true) (zip_get powers ups k p false here was) in
          let whole : power_uses powers (slice_set ups k true) v ≡ count_by (λ e. is_place v e.0.parent && e.1) (slice_set (zip powers ups) k (p, true)) =
          ap (count_by (λ e. is_place v e.0.parent && e.1)) (zip_set powers ups k p true here)
          in
          let none : one_if (is_place v p.parent && false) ≡ 0 = off (is_place v p.parent) in
          let one : one_if (is_place v p.parent && true) ≡ one_if (is_place v p.parent) = on (is_place v p.parent) in
          let right : slice_index counts v ≡ power_uses powers ups v = is.right v within in
          used_right p.parent counts v (power_uses powers (slice_set ups k true) v) (omega (arith, is.places))
          (λ u parent. let below = before u parent in let size = slice_get_within powers k p here in omega (arith, is.places))
          (omega arith);
      up = λ v q past there. elim (same_or_not k v _ refl) [
        | inl same ↦
            let P : ℕ → Type 0 = λ n. (r : PowerDef) → slice_get powers n ≡ Some r
            → slice_get (slice_set ups k true) n ≡ Some (r.held || nat_lt 0 (slice_index (used_by p.parent counts) n)) in
            subst P same (λ r at.
            let alike : p ≡ r = cc in
            get_same ups k false true was
            ∙ ap Some (up ∙ ap (λ n. p.held || nat_lt 0 n) (sym (used_past p.parent counts k k before (omega arith)))
            ∙ ap (λ (z : PowerDef). z.held || nat_lt 0 (slice_index (used_by p.parent counts) k)) alike)) q there
        | inr other ↦
            get_other ups k v true (λ e. other.0 (sym e))
            ∙ is.up v q (let apart = other.0 in omega arith) there
            ∙ ap (λ n. Some (q.held || nat_lt 0 n)) (sym (used_past p.parent counts k v before past))
      ];
      down = λ v below within. get_other ups k v true (omega arith) ∙ is.down v (omega arith) within;
    })
  where
    was : slice_get ups k ≡ Some false
    was = is.down k (omega arith) (slice_get_within powers k p here)

    before : (u : ℕ) → p.parent ≡ Some u → u < k
    before u parent = after k u p here parent

    off : (b : Bool) → one_if (b && false) ≡ 0
    off true = refl
    off false = refl

    on : (b : Bool) → one_if (b && true) ≡ one_if b
    on true = refl
    on false = refl

-- or it stays down
pub stays_down : (k : ℕ) (powers : List PowerDef) (counts : List ℕ) (ups : List Bool) (p : PowerDef)
    → AreSettledFrom (k + 1) powers counts ups → slice_get powers k ≡ Some p → false ≡ (p.held || nat_lt 0 (slice_index counts k))
    → AreSettledFrom k powers counts ups
stays_down k powers counts ups p is here down = record {
  places = is.places;
  up_places = is.up_places;
  right = is.right;
  up = λ v q past there. elim (same_or_not k v _ refl) [
    | inl same ↦
        let P : ℕ → Type 0 = λ n. (r : PowerDef) → slice_get powers n ≡ Some r → slice_get ups n ≡ Some (r.held || nat_lt 0 (slice_index counts n)) in
        subst P same (λ r at.
        let alike : p ≡ r = cc in
        is.down k (omega arith) (slice_get_within powers k p here)
        ∙ ap Some (down ∙ ap (λ (z : PowerDef). z.held || nat_lt 0 (slice_index counts k)) alike)) q there
    | inr other ↦ is.up v q (let apart = other.0 in omega arith) there
  ];
  down = λ v below within. is.down v (omega arith) within;
}

-- a power node has few uses
pub uses_are_few : (k : ℕ) (powers : List PowerDef) (counts : List ℕ) (ups : List Bool) (v : ℕ) → AreSettledFrom k powers counts ups
    → v < length powers → length powers < 2 ^ 31 → slice_index counts v < 2 ^ 32 - 1
uses_are_few k powers counts ups v is within few =
    let most = count_most (λ e. is_place v e.0.parent && e.1) (zip powers ups) in
    let size = zip_len powers ups in
    let right : slice_index counts v ≡ power_uses powers ups v = is.right v within in
    omega arith

-- and so has each one above
pub few_above : (k w : ℕ) (powers : List PowerDef) (counts : List ℕ) (ups : List Bool) (p : PowerDef) → AreSettledFrom k powers counts ups
    → AreAfterParents powers → slice_get powers w ≡ Some p → length powers < 2 ^ 31
    → IfSome p.parent (λ v. slice_index counts v < 2 ^ 32 - 1)
few_above k w powers counts ups p is after here few = at p.parent refl
  where
    at : (parent : Option ℕ) → p.parent ≡ parent → IfSome parent (λ v. slice_index counts v < 2 ^ 32 - 1)
    at None none = tt
    at (Some v) parent =
        let below = after w v p here parent in
        let size = slice_get_within powers w p here in
        uses_are_few k powers counts ups v is (omega arith) few

-- ---- at the start

none_uses : (powers : List PowerDef) (n w : ℕ) → power_uses powers (replicate n false) w ≡ 0
none_uses [] n w = refl
none_uses (p ∷ powers) zero w = refl
none_uses (p ∷ powers) (suc n) w =
    let whole : power_uses (p ∷ powers) (false ∷ replicate n false) w ≡ one_if (is_place w p.parent && false) + power_uses powers (replicate n false) w =
    count_by-cons (λ e. is_place w e.0.parent && e.1) (p, false) (zip powers (replicate n false))
    in
    let later = none_uses powers n w in
    let none : one_if (is_place w p.parent && false) ≡ 0 = off (is_place w p.parent) in
    omega arith
  where
    off : (b : Bool) → one_if (b && false) ≡ 0
    off true = refl
    off false = refl

get_replicate : {X : Type 0} (n s : ℕ) (x : X) → s < n → slice_get (replicate n x) s ≡ Some x
get_replicate zero s x within = absurd (omega arith)
get_replicate (suc n) zero x within = refl
get_replicate (suc n) (suc s) x within = get_replicate n s x (omega arith)

pub settled_first : (powers : List PowerDef) (counts : List ℕ) (ups : List Bool) → counts ≡ replicate (length powers) 0
    → ups ≡ replicate (length powers) false → AreSettledFrom (length powers) powers counts ups
settled_first powers counts ups none down =
    rw (none, down) (record {
      places = length-replicate {A = ℕ} (length powers) 0;
      up_places = length-replicate {A = Bool} (length powers) false;
      right = λ v within. get_or-replicate (length powers) v 0 0 within ∙ sym (none_uses powers (length powers) v);
      up = λ v q past there. let size = slice_get_within powers v q there in absurd (omega arith);
      down = λ v below within. get_replicate (length powers) v false within;
    })

-- ---- at load

idle_slaves : (slaves : List SlaveDef) (more : List Child) (w : ℕ)
    → child_uses (map (λ (s : SlaveDef). child s.node s.parent false) slaves ++ more) w ≡ child_uses more w
idle_slaves [] more w = refl
idle_slaves (s ∷ slaves) more w =
    let whole : child_uses (child s.node s.parent false ∷ (map (λ (s : SlaveDef). child s.node s.parent false) slaves ++ more)) w
    ≡ one_if ((s.parent == w) && false) + child_uses (map (λ (s : SlaveDef). child s.node s.parent false) slaves ++ more) w =
    count_by-cons (is_using_child w) (child s.node s.parent false) (map (λ (s : SlaveDef). child s.node s.parent false) slaves ++ more)
    in
    let later = idle_slaves slaves more w in
    let none : one_if ((s.parent == w) && false) ≡ 0 = off (s.parent == w) in
    omega arith
  where
    off : (b : Bool) → one_if (b && false) ≡ 0
    off true = refl
    off false = refl

idle_procs : (procs : List ProcDef) (w : ℕ) → child_uses (map (λ (p : ProcDef). child p.node p.parent false) procs) w ≡ 0
idle_procs [] w = refl
idle_procs (p ∷ procs) w =
    let whole : child_uses (child p.node p.parent false ∷ map (λ (p : ProcDef). child p.node p.parent false) procs) w
    ≡ one_if ((p.parent == w) && false) + child_uses (map (λ (p : ProcDef). child p.node p.parent false) procs) w =
    count_by-cons (is_using_child w) (child p.node p.parent false) (map (λ (p : ProcDef). child p.node p.parent false) procs)
    in
    let later = idle_procs procs w in
    let none : one_if ((p.parent == w) && false) ≡ 0 = off (p.parent == w) in
    omega arith
  where
    off : (b : Bool) → one_if (b && false) ≡ 0
    off true = refl
    off false = refl

pub idle_uses : (t : Topology) (w : ℕ) → child_uses (children_of t (λ _. false)) w ≡ 0
idle_uses t w = idle_slaves t.slaves (map (λ (p : ProcDef). child p.node p.parent false) t.procs) w ∙ idle_procs t.procs w

slave_within : (slaves : List SlaveDef) (more : List Child) (n : ℕ) → ((k : ℕ) (s : SlaveDef) → slice_get slaves k ≡ Some s → s.parent < n)
    → ((k : ℕ) (c : Child) → slice_get more k ≡ Some c → c.parent < n)
    → (k : ℕ) (c : Child) → slice_get (map (λ (s : SlaveDef). child s.node s.parent false) slaves ++ more) k ≡ Some c → c.parent < n
slave_within [] more n first later k c here = later k c here
slave_within (s ∷ slaves) more n first later zero c here =
    let same : child s.node s.parent false ≡ c = cc in
    let below = first zero s refl in
    let is : s.parent ≡ c.parent = ap (λ (c : Child). c.parent) same in
    omega arith
slave_within (s ∷ slaves) more n first later (suc k) c here = slave_within slaves more n (λ j z at. first (suc j) z at) later k c here

proc_within : (procs : List ProcDef) (n : ℕ) → ((k : ℕ) (p : ProcDef) → slice_get procs k ≡ Some p → p.parent < n)
    → (k : ℕ) (c : Child) → slice_get (map (λ (p : ProcDef). child p.node p.parent false) procs) k ≡ Some c → c.parent < n
proc_within [] n first k c here = cc
proc_within (p ∷ procs) n first zero c here =
    let same : child p.node p.parent false ≡ c = cc in
    let below = first zero p refl in
    let is : p.parent ≡ c.parent = ap (λ (c : Child). c.parent) same in
    omega arith
proc_within (p ∷ procs) n first (suc k) c here = proc_within procs n (λ j z at. first (suc j) z at) k c here

mapped_len : {X : Type 0} (f : X → Child) (xs : List X) (more : List Child) → length (map f xs ++ more) ≡ length xs + length more
mapped_len f [] more = omega arith
mapped_len f (x ∷ xs) more = let later = mapped_len f xs more in omega arith

map_len : {X : Type 0} (f : X → Child) (xs : List X) → length (map f xs) ≡ length xs
map_len f [] = refl
map_len f (x ∷ xs) = let later = map_len f xs in omega arith

pub load_within : (t : Topology) → IsWellFormed t → AreWithin (children_of t (λ _. false)) t.powers
load_within t well = record {
  parents = slave_within t.slaves (map (λ (p : ProcDef). child p.node p.parent false) t.procs) (length t.powers) well.slave_parents
      (proc_within t.procs (length t.powers) well.proc_parents);
  few =
      let one = mapped_len (λ (s : SlaveDef). child s.node s.parent false) t.slaves (map (λ (p : ProcDef). child p.node p.parent false) t.procs) in
      let two = map_len (λ (p : ProcDef). child p.node p.parent false) t.procs in
      let powers = well.few_powers in
      let slaves = well.few_slaves in
      let procs = well.few_procs in
      omega arith;
}

pub load_counted : (t : Topology) (counts : List ℕ) (ups : List Bool) → AreSettledFrom 0 t.powers counts ups
    → AreCounted (children_of t (λ _. false)) t.powers counts ups true None
load_counted t counts ups is = record {
  places = is.places;
  up_places = is.up_places;
  right = λ w within.
      let right : slice_index counts w ≡ power_uses t.powers ups w = is.right w within in
      let idle = idle_uses t w in
      omega arith;
  up = λ w p here. is.up w p (omega arith) here;
}

abbrev pub idle_of : Topology → List Child
idle_of t = children_of t (λ _. false)

-- the forest at load
pub load_forest : (t : Topology) (children : List Child) (powers read : List PowerDef) (counts : List ℕ) (ups kept : List Bool) → IsWellFormed t
    → children ≡ idle_of t → read ≡ t.powers → powers ≡ t.powers → AreSettledFrom 0 read counts ups → kept ≡ ups
    → IsForest children powers counts kept
load_forest t children powers read counts ups kept well idle seen same is kept_is =
    let P : List PowerDef → Type 0 = λ ps. AreSettledFrom 0 ps counts ups in
    rw (idle, same, kept_is) (record {
      counted = load_counted t counts ups (subst P seen is);
      within = load_within t well;
      after = after_parents t well;
    })

-- what was lent as a whole is given back as a whole
pub given_back : (len : ℕ) (items new : List Bool) → len ≡ length items → length new ≡ length items
    → take len (new ++ drop (length new) items) ≡ new
given_back len items new size same =
    let none : drop (length new) items ≡ [] = drop_all (length new) items (omega arith) in
    let whole : new ++ drop (length new) items ≡ new = ap (λ xs. new ++ xs) none ∙ append-nil new in
    ap (take len) whole ∙ take_all len new (omega arith)

-- what is kept of a power node is whether it is up
pub kept_is_up : (n : Needs) (children : List Child) (powers : List PowerDef) (counts : List ℕ) (kept : List Bool) (w : ℕ) (up : Bool)
    → record { powers = powers; children = children } ≡ n → IsForest children powers counts kept
    → up ≡ unwrap_or (slice_get kept w) false → up ≡ is_up n w
kept_is_up n children powers counts kept w up view is read =
    read ∙ ap (λ us. unwrap_or (slice_get us w) false) (counted_is_up children powers counts kept is.after is.counted ∙ ap ups view)

pub forest_after : (n : Needs) (children : List Child) (powers : List PowerDef) (counts : List ℕ) (kept : List Bool)
    → record { powers = powers; children = children } ≡ n → IsForest children powers counts kept → AreAfterParents n.powers
forest_after n children powers counts kept view is =
    let P : Needs → Type 0 = λ n. AreAfterParents n.powers in
    subst P view is.after
