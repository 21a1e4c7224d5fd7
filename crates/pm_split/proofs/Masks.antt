-- The mask of a configured master: one bit of a word of 32 bits, which is no other master's. So a bit finds its master.
use Rattle.std.proofs.Common.{◌≡◌, ◌≢◌, ℕ, zero, suc, ◌+◌, ◌*◌, ◌/◌, ◌%◌, ◌^◌, ◌<◌, ◌≤◌, ◌==◌, Bool, true, false, List, [], ◌∷◌, flat_map, length, position, Option, Some, None, get_or, refl, sym, ◌∙◌, ap, arith, subst}
use Rattle.std.specs.Prelude.{bit_and, count_ones, slice_get}
use Rattle.std.specs.Int.Bits.{and_self}
use Rattle.std.specs.Int.Count.{ones, ones_in}
use Rattle.std.specs.List.{Contains}
use Rattle.std.proofs.Math.Nat.{pow-suc}
use Rattle.std.proofs.Math.Pow.{pow_mono}
use Rattle.std.proofs.lemmas.List.Elements.{All-contains, All-get_or, Contains-append_left, Contains-append_right}
use Rattle.std.proofs.lemmas.Option.{get_or_from_slice_get, slice_get_within}
use Rattle.pm_base.proofs.Booleans.{equal, unequal}
use Rattle.pm_base.proofs.Searches.{IsFirst, position-first, position-none}
use Rattle.pm_object.specs.declared.object.MasterRec.{MasterRec}
use Rattle.pm_object.specs.declared.object.Object.{Object}
use Rattle.pm_object.specs.declared.object.Section.TheVariants.{Masters}
use Rattle.pm_object.specs.Grammar.{AreMasters, IsMaster, IsObject, header_words, master_words, section_words, words_of}
use Rattle.pm_split.specs.Boxes.{with_bit}

-- ---- a number of which one digit is set is a power of two

no_ones : (d n : ℕ) → n ≤ d → ones_in d n ≡ 0 → n ≡ 0
unfolding ones_in
no_ones zero n small none = omega arith
no_ones (suc d) n small none =
    let sum : n % 2 + ones_in d (n / 2) ≡ 0 = none in
    let rest : n / 2 ≡ 0 = no_ones d (n / 2) (omega arith) (omega arith) in
    omega arith

-- by its last digit, and by what is known of the others
by_last : (n r rest : ℕ) → n % 2 ≡ r → r + rest ≡ 1 → (rest ≡ 0 → n / 2 ≡ 0) → (rest ≡ 1 → (k : ℕ) × (n / 2 ≡ 2 ^ k)) → (k : ℕ) × (n ≡ 2 ^ k)
by_last n zero rest is sum none one =
    let half = one (omega arith) in
    let twice : 2 ^ suc half.0 ≡ 2 ^ half.0 * 2 = pow-suc 2 half.0 in
    let all : n / 2 ≡ 2 ^ half.0 = half.1 in
    (suc half.0, omega arith)
by_last n (suc zero) rest is sum none one =
    let half : n / 2 ≡ 0 = none (omega arith) in
    let first : 2 ^ 0 ≡ 1 = refl in
    (0, omega arith)
by_last n (suc (suc r)) rest is sum none one = absurd (omega arith)

one_power : (d n : ℕ) → n ≤ d → ones_in d n ≡ 1 → (k : ℕ) × (n ≡ 2 ^ k)
unfolding ones_in
one_power zero n small one = absurd (omega arith)
one_power (suc d) n small one =
    let half : n / 2 ≤ d = omega arith in
    by_last n (n % 2) (ones_in d (n / 2)) refl one (no_ones d (n / 2) half) (one_power d (n / 2) half)

one_bit : (mask : ℕ) → ones mask ≡ 1 → (k : ℕ) × (mask ≡ 2 ^ k)
unfolding ones
one_bit mask one = one_power mask mask (omega arith) one

-- the bit of a word of 32 bits
low_bit : (k mask : ℕ) → mask ≡ 2 ^ k → mask < 2 ^ 32 → k < 32
low_bit k mask is small =
    let not_high : 32 ≤ k → ⊥ = λ high. let more : 2 ^ 32 ≤ 2 ^ k = pow_mono high in omega arith in
    omega (arith, not_high)

-- ---- the place of the only element that passes

place_is : {X : Type 0} (p : X → Bool) (xs : List X) (m : ℕ) (x : X) → slice_get xs m ≡ Some x → p x ≡ true
    → ((j : ℕ) (y : X) → j < m → slice_get xs j ≡ Some y → p y ≡ false) → position p xs ≡ Some m
place_is p xs m x here passes others = by (position p xs) refl
  where
    no : {b : Bool} → b ≡ true → b ≡ false → ⊥
    no is fails = cc

    by : (found : Option ℕ) → position p xs ≡ found → position p xs ≡ Some m
    by None is = absurd (no passes (position-none p xs is m x here))
    by (Some j) is =
        let first : IsFirst p xs j = position-first p xs j is in
        let not_less : j < m → ⊥ = λ less. no first.passes (others j first.element less first.here) in
        let not_more : m < j → ⊥ = λ more. no passes (first.least m x more here) in
        let same : j ≡ m = omega (arith, not_less, not_more) in
        is ∙ ap Some same

-- ---- a mask is one word of the object

here : {X : Type 0} (xs : List X) (k : ℕ) (x : X) → slice_get xs k ≡ Some x → Contains xs x
here xs k x e = (k, slice_get_within xs k x e, get_or_from_slice_get xs k x x e)

-- what is made of one element is in what is made of all
in_flat_at : {X Y : Type 0} (f : X → List Y) (xs : List X) (k : ℕ) (x : X) (y : Y) → k < length xs → get_or xs k x ≡ x → Contains (f x) y → Contains (flat_map f xs) y
in_flat_at f [] k x y within is made = absurd (omega arith)
in_flat_at {X} {Y} f (first ∷ xs) zero x y within is made =
    Contains-append_left (f first) (flat_map f xs) y (subst (λ (z : X). Contains (f z) y) (sym is) made)
in_flat_at f (first ∷ xs) (suc k) x y within is made = Contains-append_right (f first) (flat_map f xs) y (in_flat_at f xs k x y (omega arith) is made)

in_flat : {X Y : Type 0} (f : X → List Y) (xs : List X) (x : X) (y : Y) → Contains xs x → Contains (f x) y → Contains (flat_map f xs) y
in_flat f xs x y has made = in_flat_at f xs has.0 x y has.1 has.2 made

-- the masters come first in an object, and the mask is the second word of a master
small_mask : (object : Object) (m : ℕ) (master : MasterRec) → IsObject object → slice_get object.masters m ≡ Some master → master.mask < 2 ^ 32
small_mask object m master is there =
    let word : Contains (master_words master) master.mask = (1, omega arith, refl) in
    let records : Contains (flat_map master_words object.masters) master.mask = in_flat master_words object.masters master master.mask (here object.masters m master there) word in
    let section : Contains (section_words object Masters) master.mask =
    Contains-append_right (0x101 ∷ length object.masters ∷ []) (flat_map master_words object.masters) master.mask records
    in
    let sections : Contains (flat_map (section_words object) object.order) master.mask =
    in_flat (section_words object) object.order Masters master.mask (here object.order 0 Masters is.first) section
    in
    All-contains (λ w. w < 2 ^ 32) (words_of object) master.mask is.words
    (Contains-append_right (header_words object) (flat_map (section_words object) object.order) master.mask sections)

-- ---- a master has one bit, and no two masters have the same

no_bit : ones 0 ≡ 1 → ⊥
unfolding ones ones_in
no_bit one = omega arith

one_of : (object : Object) (m : ℕ) (master : MasterRec) → IsObject object → slice_get object.masters m ≡ Some master → count_ones master.mask ≡ 1
one_of object m master is there =
    let masters : AreMasters object.masters = is.sections Masters in
    let within : m < length object.masters = slice_get_within object.masters m master there in
    let same : get_or object.masters m master ≡ master = get_or_from_slice_get object.masters m master master there in
    subst (λ (r : MasterRec). count_ones r.mask ≡ 1) same (All-get_or IsMaster object.masters m master within masters.each).one_bit

-- no earlier master has the mask of this one
only_before : (object : Object) (m : ℕ) (master : MasterRec) → IsObject object → slice_get object.masters m ≡ Some master
    → (j : ℕ) (other : MasterRec) → j < m → slice_get object.masters j ≡ Some other → other.mask ≢ master.mask
only_before object m master is there j other before at equal =
    let masters : AreMasters object.masters = is.sections Masters in
    let within : m < length object.masters = slice_get_within object.masters m master there in
    let same : get_or object.masters m master ≡ master = get_or_from_slice_get object.masters m master master there in
    let first : get_or object.masters j master ≡ other = get_or_from_slice_get object.masters j other master at in
    let apart : bit_and (get_or object.masters j master).mask (get_or object.masters m master).mask ≡ 0 = (masters.apart j m master before within).bits in
    let none : bit_and other.mask master.mask ≡ 0 = subst (λ (r : MasterRec). bit_and other.mask r.mask ≡ 0) same (subst (λ (r : MasterRec). bit_and r.mask (get_or object.masters m master).mask ≡ 0) first apart) in
    let zero_mask : master.mask ≡ 0 = sym (and_self master.mask) ∙ ap (λ (n : ℕ). bit_and n master.mask) (sym equal) ∙ none in
    no_bit (ap count_ones (sym zero_mask) ∙ one_of object m master is there)

pub has_bit : (object : Object) (m : ℕ) (master : MasterRec) → IsObject object → slice_get object.masters m ≡ Some master
    → (k : ℕ) × (k < 32) × (with_bit object k ≡ Some m)
has_bit object m master is there =
    let bit = one_bit master.mask (one_of object m master is there) in
    let place : with_bit object bit.0 ≡ Some m =
    place_is (λ (r : MasterRec). r.mask == 2 ^ bit.0) object.masters m master there (equal master.mask (2 ^ bit.0) bit.1)
    (λ j other before at. unequal other.mask (2 ^ bit.0) (λ same. only_before object m master is there j other before at (same ∙ sym bit.1)))
    in
    (bit.0, low_bit bit.0 master.mask bit.1 (small_mask object m master is there), place)
