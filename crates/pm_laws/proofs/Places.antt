-- Two lists place by place: changed in both or in one, turned round, and one after another.
use Rattle.std.proofs.Common.{◌≡◌, ℕ, ◌+◌, Bool, true, false, cond, List, [], ◌∷◌, length, map, slice_get, unwrap_or, Option, Some, refl, zero, suc, sym, ◌∙◌, ap, subst, arith}
use Rattle.std.specs.Prelude.{slice_set, find, fold, ◌||◌, count_by}
use Rattle.std.specs.List.{list_any, AllByRecursion as Each}
use Rattle.pm_base.proofs.Booleans.{first_passes, later_passes}
use Rattle.pm_base.proofs.Counts.{count_by-cons}
use Rattle.pm_laws.proofs.Common.{Both, BothFrom}

-- ---- Both

pub Both-map : {X : Type 0} (R : X → X → Type 0) (f g : X → X) → ((x y : X) → R x y → R (f x) (g y)) → (xs ys : List X) → Both R xs ys → Both R (map f xs) (map g ys)
Both-map R f g each [] [] same = tt
Both-map R f g each [] (y ∷ ys) same = absurd same
Both-map R f g each (x ∷ xs) [] same = absurd same
Both-map R f g each (x ∷ xs) (y ∷ ys) same = (each x y same.0, Both-map R f g each xs ys same.1)

pub Both-map_left : {X : Type 0} (R : X → X → Type 0) (f : X → X) → ((x y : X) → R x y → R (f x) y) → (xs ys : List X) → Both R xs ys → Both R (map f xs) ys
Both-map_left R f each [] [] same = tt
Both-map_left R f each [] (y ∷ ys) same = absurd same
Both-map_left R f each (x ∷ xs) [] same = absurd same
Both-map_left R f each (x ∷ xs) (y ∷ ys) same = (each x y same.0, Both-map_left R f each xs ys same.1)

pub Both-sym : {X : Type 0} (R : X → X → Type 0) → ((x y : X) → R x y → R y x) → (xs ys : List X) → Both R xs ys → Both R ys xs
Both-sym R turn [] [] same = tt
Both-sym R turn [] (y ∷ ys) same = absurd same
Both-sym R turn (x ∷ xs) [] same = absurd same
Both-sym R turn (x ∷ xs) (y ∷ ys) same = (turn x y same.0, Both-sym R turn xs ys same.1)

pub Both-trans : {X : Type 0} (R : X → X → Type 0) → ((x y z : X) → R x y → R y z → R x z) → (xs ys zs : List X) → Both R xs ys → Both R ys zs → Both R xs zs
Both-trans R join [] [] [] first second = tt
Both-trans R join [] [] (z ∷ zs) first second = absurd second
Both-trans R join [] (y ∷ ys) zs first second = absurd first
Both-trans R join (x ∷ xs) [] zs first second = absurd first
Both-trans R join (x ∷ xs) (y ∷ ys) [] first second = absurd second
Both-trans R join (x ∷ xs) (y ∷ ys) (z ∷ zs) first second = (join x y z first.0 second.0, Both-trans R join xs ys zs first.1 second.1)

pub Both-any : {X : Type 0} (R : X → X → Type 0) (p q : X → Bool) → ((x y : X) → R x y → p x ≡ q y) → (xs ys : List X) → Both R xs ys → list_any p xs ≡ list_any q ys
Both-any R p q each [] [] same = refl
Both-any R p q each [] (y ∷ ys) same = absurd same
Both-any R p q each (x ∷ xs) [] same = absurd same
Both-any R p q each (x ∷ xs) (y ∷ ys) same =
    ap (λ b. b || list_any p xs) (each x y same.0) ∙ ap (λ b. q y || b) (Both-any R p q each xs ys same.1)

pub Both-count : {X : Type 0} (R : X → X → Type 0) (p : X → Bool) → ((x y : X) → R x y → p x ≡ p y) → (xs ys : List X) → Both R xs ys → count_by p xs ≡ count_by p ys
Both-count R p each [] [] same = refl
Both-count R p each [] (y ∷ ys) same = absurd same
Both-count R p each (x ∷ xs) [] same = absurd same
Both-count R p each (x ∷ xs) (y ∷ ys) same =
    count_by-cons p x xs
    ∙ (ap (λ b. cond b 1 0 + count_by p xs) (each x y same.0)
    ∙ (ap (λ n. cond (p y) 1 0 + n) (Both-count R p each xs ys same.1) ∙ sym (count_by-cons p y ys)))

found_alike : {X : Type 0} (b : Bool) (x y : X) (first second : Option X) → (b ≡ true → x ≡ y) → first ≡ second → cond b (Some x) first ≡ cond b (Some y) second
found_alike true x y first second here later = ap (λ z. Some z) (here refl)
found_alike false x y first second here later = later

-- a test on which related elements agree finds both or none; what it finds is equal if related elements that pass are
pub Both-find : {X : Type 0} (R : X → X → Type 0) (p : X → Bool) → ((x y : X) → R x y → p x ≡ p y) → ((x y : X) → R x y → p x ≡ true → x ≡ y) → (xs ys : List X) → Both R xs ys → find p xs ≡ find p ys
Both-find R p agree each [] [] same = refl
Both-find R p agree each [] (y ∷ ys) same = absurd same
Both-find R p agree each (x ∷ xs) [] same = absurd same
Both-find R p agree each (x ∷ xs) (y ∷ ys) same =
    found_alike (p x) x y (find p xs) (find p ys) (each x y same.0) (Both-find R p agree each xs ys same.1)
    ∙ ap (λ b. cond b (Some y) (find p ys)) (agree x y same.0)

pub Both-fold : {X Y : Type 0} (R : X → X → Type 0) (f g : Y → X → Y) → ((w : Y) (x y : X) → R x y → f w x ≡ g w y) → (w : Y) (xs ys : List X) → Both R xs ys → fold f w xs ≡ fold g w ys
Both-fold R f g each w [] [] same = refl
Both-fold R f g each w [] (y ∷ ys) same = absurd same
Both-fold R f g each w (x ∷ xs) [] same = absurd same
Both-fold R f g each w (x ∷ xs) (y ∷ ys) same =
    ap (λ v. fold f v xs) (each w x y same.0) ∙ Both-fold R f g each (g w y) xs ys same.1

pub Both-refl : {X : Type 0} (R : X → X → Type 0) → ((x : X) → R x x) → (xs ys : List X) → xs ≡ ys → Both R xs ys
Both-refl R each [] [] is = tt
Both-refl R each [] (y ∷ ys) is = cc
Both-refl R each (x ∷ xs) [] is = cc
Both-refl R each (x ∷ xs) (y ∷ ys) is =
    let first : x ≡ y = cc in
    let later : xs ≡ ys = cc in
    (subst (λ z. R x z) first (each x), Both-refl R each xs ys later)

-- ---- BothFrom

pub BothFrom-sym : {X : Type 0} (R : ℕ → X → X → Type 0) → ((k : ℕ) (x y : X) → R k x y → R k y x) → (k : ℕ) (xs ys : List X) → BothFrom R k xs ys → BothFrom R k ys xs
BothFrom-sym R turn k [] [] same = tt
BothFrom-sym R turn k [] (y ∷ ys) same = absurd same
BothFrom-sym R turn k (x ∷ xs) [] same = absurd same
BothFrom-sym R turn k (x ∷ xs) (y ∷ ys) same = (turn k x y same.0, BothFrom-sym R turn (k + 1) xs ys same.1)

pub BothFrom-trans : {X : Type 0} (R : ℕ → X → X → Type 0) → ((k : ℕ) (x y z : X) → R k x y → R k y z → R k x z) → (k : ℕ) (xs ys zs : List X) → BothFrom R k xs ys → BothFrom R k ys zs → BothFrom R k xs zs
BothFrom-trans R join k [] [] [] first second = tt
BothFrom-trans R join k [] [] (z ∷ zs) first second = absurd second
BothFrom-trans R join k [] (y ∷ ys) zs first second = absurd first
BothFrom-trans R join k (x ∷ xs) [] zs first second = absurd first
BothFrom-trans R join k (x ∷ xs) (y ∷ ys) [] first second = absurd second
BothFrom-trans R join k (x ∷ xs) (y ∷ ys) (z ∷ zs) first second =
    (join k x y z first.0 second.0, BothFrom-trans R join (k + 1) xs ys zs first.1 second.1)

pub BothFrom-map : {X : Type 0} (R : ℕ → X → X → Type 0) (f g : X → X) → ((k : ℕ) (x y : X) → R k x y → R k (f x) (g y)) → (k : ℕ) (xs ys : List X) → BothFrom R k xs ys → BothFrom R k (map f xs) (map g ys)
BothFrom-map R f g each k [] [] same = tt
BothFrom-map R f g each k [] (y ∷ ys) same = absurd same
BothFrom-map R f g each k (x ∷ xs) [] same = absurd same
BothFrom-map R f g each k (x ∷ xs) (y ∷ ys) same = (each k x y same.0, BothFrom-map R f g each (k + 1) xs ys same.1)

pub BothFrom-map_left : {X : Type 0} (R : ℕ → X → X → Type 0) (f : X → X) → ((k : ℕ) (x y : X) → R k x y → R k (f x) y) → (k : ℕ) (xs ys : List X) → BothFrom R k xs ys → BothFrom R k (map f xs) ys
BothFrom-map_left R f each k [] [] same = tt
BothFrom-map_left R f each k [] (y ∷ ys) same = absurd same
BothFrom-map_left R f each k (x ∷ xs) [] same = absurd same
BothFrom-map_left R f each k (x ∷ xs) (y ∷ ys) same = (each k x y same.0, BothFrom-map_left R f each (k + 1) xs ys same.1)

pub BothFrom-set : {X : Type 0} (R : ℕ → X → X → Type 0) (k n p : ℕ) (x y : X) → n ≡ k + p → R n x y → (xs ys : List X) → BothFrom R k xs ys → BothFrom R k (slice_set xs p x) (slice_set ys p y)
BothFrom-set R k n p x y is here [] [] same = tt
BothFrom-set R k n p x y is here [] (v ∷ ys) same = absurd same
BothFrom-set R k n p x y is here (u ∷ xs) [] same = absurd same
BothFrom-set R k n zero x y is here (u ∷ xs) (v ∷ ys) same =
    let at : n ≡ k = omega (arith, is) in (subst (λ i. R i x y) at here, same.1)
BothFrom-set R k n (suc p) x y is here (u ∷ xs) (v ∷ ys) same =
    (same.0, BothFrom-set R (k + 1) n p x y (omega (arith, is)) here xs ys same.1)

pub BothFrom-set_left : {X : Type 0} (R : ℕ → X → X → Type 0) (k n p : ℕ) (x : X) → n ≡ k + p → ((y : X) → R n x y) → (xs ys : List X) → BothFrom R k xs ys → BothFrom R k (slice_set xs p x) ys
BothFrom-set_left R k n p x is here [] [] same = tt
BothFrom-set_left R k n p x is here [] (v ∷ ys) same = absurd same
BothFrom-set_left R k n p x is here (u ∷ xs) [] same = absurd same
BothFrom-set_left R k n zero x is here (u ∷ xs) (v ∷ ys) same =
    let at : n ≡ k = omega (arith, is) in (subst (λ i. R i x v) at (here v), same.1)
BothFrom-set_left R k n (suc p) x is here (u ∷ xs) (v ∷ ys) same =
    (same.0, BothFrom-set_left R (k + 1) n p x (omega (arith, is)) here xs ys same.1)

-- so, if the new element follows from the old one
pub BothFrom-set_at : {X : Type 0} (R : ℕ → X → X → Type 0) (k n p : ℕ) (x : X) → n ≡ k + p → (xs ys : List X)
    → ((u v : X) → slice_get xs p ≡ Some u → R n u v → R n x v) → BothFrom R k xs ys → BothFrom R k (slice_set xs p x) ys
BothFrom-set_at R k n p x is [] [] here same = tt
BothFrom-set_at R k n p x is [] (v ∷ ys) here same = absurd same
BothFrom-set_at R k n p x is (u ∷ xs) [] here same = absurd same
BothFrom-set_at R k n zero x is (u ∷ xs) (v ∷ ys) here same =
    let at : n ≡ k = omega (arith, is) in
    (subst (λ i. R i x v) at (here u v refl (subst (λ i. R i u v) (sym at) same.0)), same.1)
BothFrom-set_at R k n (suc p) x is (u ∷ xs) (v ∷ ys) here same =
    (same.0, BothFrom-set_at R (k + 1) n p x (omega (arith, is)) xs ys here same.1)

-- the elements at a place of both lists, or none past both ends
pub BothFrom-get : {X : Type 0} (R : ℕ → X → X → Type 0) (P : X → X → Type 0) (k n p : ℕ) (d : X) → n ≡ k + p → P d d → ((x y : X) → R n x y → P x y) → (xs ys : List X) → BothFrom R k xs ys → P (unwrap_or (slice_get xs p) d) (unwrap_or (slice_get ys p) d)
BothFrom-get R P k n p d is none each [] [] same = none
BothFrom-get R P k n p d is none each [] (v ∷ ys) same = absurd same
BothFrom-get R P k n p d is none each (u ∷ xs) [] same = absurd same
BothFrom-get R P k n zero d is none each (u ∷ xs) (v ∷ ys) same =
    let at : k ≡ n = omega (arith, is) in each u v (subst (λ i. R i u v) at same.0)
BothFrom-get R P k n (suc p) d is none each (u ∷ xs) (v ∷ ys) same =
    BothFrom-get R P (k + 1) n p d (omega (arith, is)) none each xs ys same.1

-- ---- one list

pub Each-map : {X : Type 0} (P : X → Type 0) (f : X → X) → ((x : X) → P x → P (f x)) → (xs : List X) → Each P xs → Each P (map f xs)
Each-map P f keeps [] each = tt
Each-map P f keeps (x ∷ xs) each = (keeps x each.0, Each-map P f keeps xs each.1)

pub Each-of_map : {X Y : Type 0} (P : X → Type 0) (Q : Y → Type 0) (f : X → Y) → ((x : X) → Q (f x) → P x) → (xs : List X) → Each Q (map f xs) → Each P xs
Each-of_map P Q f gives [] each = tt
Each-of_map P Q f gives (x ∷ xs) each = (gives x each.0, Each-of_map P Q f gives xs each.1)

pub Both-self : {X Y : Type 0} (R : X → X → Type 0) (Q : Y → Type 0) (f : X → Y) → ((x : X) → Q (f x) → R x x) → (xs : List X) → Each Q (map f xs) → Both R xs xs
Both-self R Q f gives [] each = tt
Both-self R Q f gives (x ∷ xs) each = (gives x each.0, Both-self R Q f gives xs each.1)

pub BothFrom-self : {X : Type 0} (R : ℕ → X → X → Type 0) (k : ℕ) (xs : List X) → ((p : ℕ) (x : X) → slice_get xs p ≡ Some x → R (k + p) x x) → BothFrom R k xs xs
BothFrom-self R k [] each = tt
BothFrom-self R k (x ∷ xs) each =
    let at : k + 0 ≡ k = omega arith in
    (subst (λ i. R i x x) at (each 0 x refl), BothFrom-self R (k + 1) xs (λ p y is. let next : k + suc p ≡ (k + 1) + p = omega arith in subst (λ i. R i y y) next (each (suc p) y is)))

-- ---- two functions

-- what is made alike of each element is made alike of the list
pub map_among : {X Y : Type 0} (test : X → X → Bool) (f g : X → Y) → ((x : X) → test x x ≡ true) → (xs : List X) → ((x : X) → list_any (λ y. test y x) xs ≡ true → f x ≡ g x) → map f xs ≡ map g xs
map_among test f g itself [] alike = refl
map_among test f g itself (x ∷ xs) alike =
    ap (λ y. y ∷ map f xs) (alike x (first_passes (test x x) (list_any (λ y. test y x) xs) (itself x)))
    ∙ ap (λ ys. g x ∷ ys) (map_among test f g itself xs (λ y is. alike y (later_passes (test x y) (list_any (λ z. test z y) xs) is)))

-- ---- the rest of a list

-- these elements are in a list from a place on
abbrev pub StandsFrom : {X : Type 0} → List X → ℕ → List X → Type 0
StandsFrom {X} whole k part = (i : ℕ) (x : X) → slice_get part i ≡ Some x → slice_get whole (k + i) ≡ Some x

pub stands_first : {X : Type 0} (whole : List X) (k : ℕ) (x : X) (part : List X) → StandsFrom whole k (x ∷ part) → slice_get whole k ≡ Some x
stands_first whole k x part stands = let at : k ≡ k + 0 = omega arith in ap (λ n. slice_get whole n) at ∙ stands 0 x refl

pub stands_later : {X : Type 0} (whole : List X) (k : ℕ) (x : X) (part : List X) → StandsFrom whole k (x ∷ part) → StandsFrom whole (k + 1) part
stands_later whole k x part stands i y is =
    let at : (k + 1) + i ≡ k + suc i = omega arith in ap (λ n. slice_get whole n) at ∙ stands (suc i) y is

pub stands_from_start : {X : Type 0} (whole : List X) → StandsFrom whole 0 whole
stands_from_start whole i x is = let at : 0 + i ≡ i = omega arith in ap (λ n. slice_get whole n) at ∙ is

-- one entry is at a place
pub same_entry : {X : Type 0} (x y : X) (o : Option X) → o ≡ Some x → o ≡ Some y → x ≡ y
same_entry x y o first second = cc

-- ---- lists that are equally long

pub BothFrom-length : {X : Type 0} (R : ℕ → X → X → Type 0) (k : ℕ) (xs ys : List X) → BothFrom R k xs ys → length xs ≡ length ys
BothFrom-length R k [] [] same = refl
BothFrom-length R k [] (y ∷ ys) same = absurd same
BothFrom-length R k (x ∷ xs) [] same = absurd same
BothFrom-length R k (x ∷ xs) (y ∷ ys) same = let later : length xs ≡ length ys = BothFrom-length R (k + 1) xs ys same.1 in omega (arith, later)

pub BothFrom-any : {X : Type 0} (R : ℕ → X → X → Type 0) → ((k : ℕ) (x y : X) → R k x y) → (k : ℕ) (xs ys : List X) → length xs ≡ length ys → BothFrom R k xs ys
BothFrom-any R each k [] [] same = tt
BothFrom-any R each k [] (y ∷ ys) same = absurd (omega (arith, same))
BothFrom-any R each k (x ∷ xs) [] same = absurd (omega (arith, same))
BothFrom-any R each k (x ∷ xs) (y ∷ ys) same = (each k x y, BothFrom-any R each (k + 1) xs ys (omega (arith, same)))

pub BothFrom-equal : {X : Type 0} (R : ℕ → X → X → Type 0) → ((k : ℕ) (x : X) → R k x x) → (k : ℕ) (xs ys : List X) → xs ≡ ys → BothFrom R k xs ys
BothFrom-equal {X} R each k xs ys same =
    let P : List X → Type 0 = λ zs. BothFrom R k xs zs in
    subst P same (BothFrom-self R k xs (λ p x is. each (k + p) x))
