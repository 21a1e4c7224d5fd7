-- The places of the units of slaves, and the units that rest.
use Rattle.std.proofs.Common.{◌≡◌, ℕ, ◌+◌, ◌<◌, ◌==◌, Bool, true, false, not, if◌then◌else◌, List, [], ◌∷◌, length, map, slice_get, Option, Some, None, refl, zero, suc, arith, ap, sym, ◌∙◌, subst}
use Rattle.std.specs.Prelude.{nat_lt, option_map, replicate, slice_set, unwrap_or}
use Rattle.std.specs.List.{list_all}
use Rattle.std.proofs.lemmas.Bool.{eq-eqb, eqb-true}
use Rattle.std.proofs.lemmas.Bool.Decides.{nat_tests}
use Rattle.std.proofs.lemmas.List.{length-set}
use Rattle.std.proofs.lemmas.Option.{slice_get-map, slice_get_within}
use Rattle.pm_base.proofs.Booleans.{both}
use Rattle.pm_base.specs.declared.names.NodeId.{NodeId}
use Rattle.pm_base.specs.declared.names.Unit.{Unit}
use Rattle.pm_base.specs.declared.names.Unit.TheVariants.{Node, Line}
use Rattle.pm_topology.specs.declared.places.Kind.TheVariants.{Proc, Slave, Power, Unknown}
use Rattle.pm_topology.specs.declared.topology.SlaveDef.{SlaveDef}
use Rattle.pm_topology.specs.declared.topology.Topology.{Topology}
use Rattle.pm_topology.specs.Places.{IsKind, KindLaws, kind_of}
use Rattle.pm_topology.specs.Units.{UnitLaws, is_before, rises, units_of}
use Rattle.pm_values.specs.declared.caches.UnitKind.{UnitKind}
use Rattle.pm_values.specs.declared.caches.UnitKind.TheVariants.{Entry, Reset}
use Rattle.pm_values.specs.declared.kinds.Other.{Other}
use Rattle.pm_values.specs.Caches.{kind_of_unit}
use Rattle.pm_values.specs.Kinds.{AreApart, AreHomes, AreIndexed, rests_at, with_home, woken_at}

-- ---- a unit that doesn't rest from now on

here : (awake : List Bool) (g : ℕ) → unwrap_or (slice_get (slice_set awake g true) g) true ≡ true
here [] g = refl
here (x ∷ xs) zero = refl
here (x ∷ xs) (suc g) = here xs g

pub woken_here : (awake : List Bool) (k : ℕ) → rests_at (woken_at k awake) k ≡ false
woken_here awake k = ap not (here awake k)

other : (awake : List Bool) (g h : ℕ) → not (unwrap_or (slice_get (slice_set awake g true) h) true) ≡ true → not (unwrap_or (slice_get awake h) true) ≡ true
other [] g h is = is
other (x ∷ xs) zero zero is = cc
other (x ∷ xs) zero (suc h) is = is
other (x ∷ xs) (suc g) zero is = is
other (x ∷ xs) (suc g) (suc h) is = other xs g h is

pub woken_other : (awake : List Bool) (k j : ℕ) → rests_at (woken_at k awake) j ≡ true → rests_at awake j ≡ true
woken_other awake k j is = other awake k j is

-- where no unit rests
all : (n g : ℕ) → unwrap_or (slice_get (replicate n true) g) true ≡ true
all zero g = refl
all (suc n) zero = refl
all (suc n) (suc g) = all n g

pub none_rests : (n k : ℕ) → rests_at (replicate n true) k ≡ false
none_rests n k = ap not (all n k)

-- ---- units of which none is marked

pub none_marked : (n k : ℕ) → k < n → rests_at (replicate n false) k ≡ true
none_marked zero k within = absurd (omega (arith, within))
none_marked (suc n) zero within = refl
none_marked (suc n) (suc k) within = none_marked n k (omega (arith, within))

pub left_alone : (units : List Bool) (k j : ℕ) → (j == k) ≡ false → rests_at units j ≡ true → rests_at (woken_at k units) j ≡ true
left_alone [] k j apart is = is
left_alone (x ∷ xs) zero zero apart is = cc
left_alone (x ∷ xs) zero (suc j) apart is = is
left_alone (x ∷ xs) (suc k) zero apart is = is
left_alone (x ∷ xs) (suc k) (suc j) apart is = left_alone xs k j (next j k apart) is
  where
    next : (s t : ℕ) → (suc s == suc t) ≡ false → (s == t) ≡ false
    next s t is = grind (arith, nat_tests)

-- ---- the places of the units of slaves, unit by unit

set_own : (xs : List ℕ) (s k : ℕ) → s < length xs → slice_get (slice_set xs s k) s ≡ Some k
set_own [] s k within = absurd (omega (arith, within))
set_own (x ∷ xs) zero k within = refl
set_own (x ∷ xs) (suc s) k within = set_own xs s k (omega (arith, within))

set_other : (xs : List ℕ) (s t k : ℕ) → (s == t) ≡ false → slice_get (slice_set xs s k) t ≡ slice_get xs t
set_other [] s t k apart = refl
set_other (x ∷ xs) zero zero k apart = cc
set_other (x ∷ xs) zero (suc t) k apart = refl
set_other (x ∷ xs) (suc s) zero k apart = refl
set_other (x ∷ xs) (suc s) (suc t) k apart = set_other xs s t k (next s t apart)
  where
    next : (s t : ℕ) → (suc s == suc t) ≡ false → (s == t) ≡ false
    next s t is = grind (arith, nat_tests)

own_home : (kind : UnitKind) (k s : ℕ) (homes : List ℕ) → kind ≡ Entry (Slave s) → s < length homes → slice_get (with_home kind k homes) s ≡ Some k
own_home kind k s homes is within =
    ap (λ kind. slice_get (with_home kind k homes) s) is ∙ set_own homes s k within

home_kept : (kind : UnitKind) (k s : ℕ) (homes : List ℕ) → (kind ≡ Entry (Slave s) → ⊥) → slice_get (with_home kind k homes) s ≡ slice_get homes s
home_kept (Entry (Slave t)) k s homes apart = by (t == s) refl
  where
    by : (b : Bool) → (t == s) ≡ b → slice_get (slice_set homes t k) s ≡ slice_get homes s
    by true is = absurd (apart (ap (λ n. Entry (Slave n)) (eqb-true t s is)))
    by false is = set_other homes t s k is
home_kept (Entry (Proc p)) k s homes apart = refl
home_kept (Entry (Power w)) k s homes apart = refl
home_kept (Entry Unknown) k s homes apart = refl
home_kept (Reset place) k s homes apart = refl

pub homes_start : (kinds : List UnitKind) (homes : List ℕ) → AreHomes kinds 0 homes
homes_start kinds homes = λ k s within at. absurd (omega (arith, within))

not_both : (b : Bool) → b ≡ false → b ≡ true → ⊥
not_both b fails holds = let both_are : false ≡ true = sym fails ∙ holds in cc

pub earlier : (j k : ℕ) → (j == k) ≡ false → j < k + 1 → j < k
earlier j k apart within = grind (arith, nat_tests)

pub homes_next : (slaves : ℕ) (kinds : List UnitKind) (k : ℕ) (kind : UnitKind) (homes : List ℕ) → AreApart slaves kinds → length homes ≡ slaves → slice_get kinds k ≡ Some kind → AreHomes kinds k homes → AreHomes kinds (k + 1) (with_home kind k homes)
homes_next slaves kinds k kind homes apart places at before = λ j s within there. by j s within there (j == k) refl
  where
    by : (j s : ℕ) → j < k + 1 → slice_get kinds j ≡ Some (Entry (Slave s)) → (b : Bool) → (j == k) ≡ b → slice_get (with_home kind k homes) s ≡ Some j
    by j s within there true is =
        let same : j ≡ k = eqb-true j k is in
        let both_here : Some kind ≡ Some (Entry (Slave s)) = sym at ∙ (ap (slice_get kinds) (sym same) ∙ there) in
        let own : kind ≡ Entry (Slave s) = cc in
        let room : s < length homes = omega (arith, apart.within j s there, places) in
        own_home kind k s homes own room ∙ ap (λ n. Some n) (sym same)
    by j s within there false is =
        let off : kind ≡ Entry (Slave s) → ⊥ =
        λ same.
        let one : j ≡ k = apart.one j k s there (at ∙ ap (λ x. Some x) same) in
        let equal : (j == k) ≡ true = eq-eqb j k one in
        not_both (j == k) is equal
        in
        home_kept kind k s homes off ∙ before j s (earlier j k is within) there

-- ---- the units that don't rest from now on, unless they may

pub length_unless : (rests : Bool) (k : ℕ) (awake : List Bool) → length (if rests then awake else woken_at k awake) ≡ length awake
length_unless true k awake = refl
length_unless false k awake = length-set awake k true

-- ---- each slave has one unit

pub record HasSlave (t : Topology) (s : ℕ) (u : Option Unit) : Type 0 where
  node : NodeId
  slave : SlaveDef
  is : u ≡ Some (Node node)
  there : slice_get t.slaves s ≡ Some slave
  number : slave.node.0 ≡ node.0

has_slave : KindLaws → (t : Topology) (s : ℕ) (u : Option Unit) → option_map (kind_of_unit t) u ≡ Some (Entry (Slave s)) → HasSlave t s u
has_slave laws t s None at = cc
has_slave laws t s (Some (Line line)) at = cc
has_slave laws t s (Some (Node node)) at =
    let kind : kind_of t node ≡ Slave s = cc in
    let found : IsKind t node (Slave s) = subst (IsKind t node) kind (laws.is t node) in
    record { node = node; slave = found.0; is = refl; there = found.1; number = found.2 }

not_itself : (u : Unit) → is_before u u ≡ true → ⊥
not_itself (Node a) is = less a.0 is
  where
    less : (n : ℕ) → nat_lt n n ≡ true → ⊥
    less n is = grind (arith, nat_tests)
not_itself (Line a) is = less a.0 is
  where
    less : (n : ℕ) → nat_lt n n ≡ true → ⊥
    less n is = grind (arith, nat_tests)

all_pass : (p : Unit → Bool) (us : List Unit) (k : ℕ) (u : Unit) → list_all p us ≡ true → slice_get us k ≡ Some u → p u ≡ true
all_pass p [] k u all at = cc
all_pass p (x ∷ us) zero u all at = let same : x ≡ u = cc in ap p (sym same) ∙ (both (p x) (list_all p us) all).0
all_pass p (x ∷ us) (suc k) u all at = all_pass p us k u (both (p x) (list_all p us) all).1 at

-- in units that rise each stands at one place
pub stands_once : (us : List Unit) (j k : ℕ) (u : Unit) → rises us ≡ true → slice_get us j ≡ Some u → slice_get us k ≡ Some u → j ≡ k
stands_once [] j k u rise first later = cc
stands_once (x ∷ us) zero zero u rise first later = refl
stands_once (x ∷ us) zero (suc k) u rise first later =
    let same : x ≡ u = cc in
    let after : is_before x u ≡ true = all_pass (is_before x) us k u (both (list_all (is_before x) us) (rises us) rise).0 later in
    absurd (not_itself u (ap (λ y. is_before y u) (sym same) ∙ after))
stands_once (x ∷ us) (suc j) zero u rise first later =
    let same : x ≡ u = cc in
    let after : is_before x u ≡ true = all_pass (is_before x) us j u (both (list_all (is_before x) us) (rises us) rise).0 first in
    absurd (not_itself u (ap (λ y. is_before y u) (sym same) ∙ after))
stands_once (x ∷ us) (suc j) (suc k) u rise first later =
    ap suc (stands_once us j k u (both (list_all (is_before x) us) (rises us) rise).1 first later)

pub are_apart : UnitLaws → KindLaws → (t : Topology) (kinds : List UnitKind) → kinds ≡ map (kind_of_unit t) (units_of t) → AreApart (length t.slaves) kinds
are_apart units_hold kinds_hold t kinds are = record {
  one = λ j k s first later.
      let us : List Unit = units_of t in
      let a = home j s first in
      let b = home k s later in
      let slave : Some a.slave ≡ Some b.slave = sym a.there ∙ b.there in
      let alike : a.slave ≡ b.slave = cc in
      let number : a.node.0 ≡ b.node.0 = sym a.number ∙ (ap (λ (x : SlaveDef). x.node.0) alike ∙ b.number) in
      let node : Node a.node ≡ Node b.node = units_hold.same (Node a.node) (Node b.node) (eq-eqb a.node.0 b.node.0 number) in
      stands_once us j k (Node a.node) (units_hold.are t).rising a.is (b.is ∙ ap (λ u. Some u) (sym node));
  within = λ k s at. let a = home k s at in slice_get_within t.slaves s a.slave a.there;
}
  where
    home : (k s : ℕ) → slice_get kinds k ≡ Some (Entry (Slave s)) → HasSlave t s (slice_get (units_of t) k)
    home k s at =
        has_slave kinds_hold t s (slice_get (units_of t) k)
        (sym (slice_get-map (kind_of_unit t) (units_of t) k) ∙ (ap (λ ks. slice_get ks k) (sym are) ∙ at))

-- ---- the unit of a slave doesn't rest from now on

module _ (kinds : List UnitKind) (homes : List ℕ) (others : List Other) (awake : List Bool) (s home : ℕ) (after : List Bool)
    (indexed : AreIndexed kinds homes others awake) (found : home ≡ unwrap_or (slice_get homes s) 0) (woken : after ≡ woken_at home awake)
  where
    pub wakes_own : (k : ℕ) → slice_get kinds k ≡ Some (Entry (Slave s)) → rests_at after k ≡ false
    wakes_own k at =
        let own : slice_get homes s ≡ Some k = indexed.home k s (slice_get_within kinds k (Entry (Slave s)) at) at in
        let same : home ≡ k = found ∙ ap (λ o. unwrap_or o 0) own in
        ap (λ (groups : List Bool). rests_at groups k) (woken ∙ ap (λ h. woken_at h awake) same) ∙ woken_here awake k

    pub leaves_others : (k : ℕ) → rests_at after k ≡ true → rests_at awake k ≡ true
    leaves_others k is = woken_other awake home k (ap (λ (groups : List Bool). rests_at groups k) (sym woken) ∙ is)
