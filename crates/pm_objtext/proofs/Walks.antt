-- Items that are taken one after another, each where it has its place, and the lines that have them.
use Rattle.std.proofs.Common.{◌≡◌, ◌≢◌, ℕ, ◌+◌, ◌≤◌, Bool, true, false, not, cond, ◌==◌, nat_lt, List, [], ◌∷◌, ◌++◌, length, get_or, map, Option, Some, None, option_and_then, refl, ap, sym, subst, arith, append_assoc, length-append, add-zero}
use Rattle.std.specs.List.{flat_map, list_any, All, AllPairs}
use Rattle.std.specs.Option.{option_map}
use Rattle.std.proofs.lemmas.Bool.Decides.{nat_tests}
use Rattle.std.proofs.lemmas.List.{append-nil}
use Rattle.std.proofs.lemmas.List.Folds.{list_any_none}
use Rattle.pm_base.proofs.Booleans.{unequal}
use Rattle.pm_base.proofs.Elements.{earlier_ones, next_one}
use Rattle.pm_object.specs.declared.object.Object.{Object}
use Rattle.pm_objtext.specs.declared.fault.TextCause.TheVariants as causes
use Rattle.pm_objtext.specs.declared.item.Item.{Item}
use Rattle.pm_objtext.specs.declared.item.Item.TheVariants.{Empty}
use Rattle.pm_objtext.specs.declared.stage.Stage.{Stage}
use Rattle.pm_objtext.specs.SoFar.{SoFar, words_in, say}
use Rattle.pm_objtext.specs.Causes.{stands, repeats, breaks_masters, cause_of, end_cause}
use Rattle.pm_objtext.specs.FirstBad.{bad_or, first_bad_from, said_by}
use Rattle.pm_objtext.specs.Meaning.{item_before, items_in}
use Rattle.pm_objtext.specs.Reading.{item_of}

-- what is said where this is open, with so many words and this object
abbrev pub draft_of : Stage → ℕ → Object → SoFar
draft_of stage size object = record { stage = stage; size = size; object = object }

-- ---- an item without a cause against it

pub record IsClear (item : Item) (d : SoFar) : Type 0 where
  pub place : stands item d ≡ true
  pub new : repeats item d ≡ false
  pub masters : breaks_masters item d ≡ false
  pub fits : d.size + words_in item d.stage ≤ 4096

clear_where : (a b c f : Bool) → cond (not a) (Some causes.Place) (cond b (Some causes.Repeated) (cond c (Some causes.Master) (cond f (Some causes.Size) None))) ≡ None → (a ≡ true) × (b ≡ false) × (c ≡ false) × (f ≡ false)
clear_where false b c f none = cc
clear_where true true c f none = cc
clear_where true false true f none = cc
clear_where true false false true none = cc
clear_where true false false false none = (refl, refl, refl, refl)

pub clear_from : (item : Item) (d : SoFar) → cause_of item d ≡ None → IsClear item d
unfolding cause_of
clear_from item d none =
    let facts = clear_where (stands item d) (repeats item d) (breaks_masters item d) (nat_lt 4096 (d.size + words_in item d.stage)) none in
    let small = facts.3 in
    record { place = facts.0; new = facts.1; masters = facts.2; fits = grind (arith, nat_tests) }

pub clear : (item : Item) (d : SoFar) → stands item d ≡ true → repeats item d ≡ false → breaks_masters item d ≡ false → d.size + words_in item d.stage ≤ 4096 → cause_of item d ≡ None
unfolding cause_of
clear item d place new masters fits =
    let small : nat_lt 4096 (d.size + words_in item d.stage) ≡ false = grind (arith, nat_tests) in
    rw (place, new, masters, small) refl

-- ---- items one after another

-- no cause stands against any of these items, and together they lead from one to the other
abbrev pub Goes : List Item → SoFar → SoFar → Type 0
Goes [] from to = from ≡ to
Goes (item ∷ items) from to = (cause_of item from ≡ None) × Goes items (say item from) to

pub Goes-none : (at : SoFar) → Goes [] at at
Goes-none at = refl

pub Goes-first : (item : Item) (items : List Item) (from mid to : SoFar) → (cause_of item from ≡ None) × (say item from ≡ mid) → Goes items mid to → Goes (item ∷ items) from to
Goes-first item items from mid to first others = (first.0, subst (λ d. Goes items d to) (sym first.1) others)

pub Goes-append : (xs ys : List Item) (from mid to : SoFar) → Goes xs from mid → Goes ys mid to → Goes (xs ++ ys) from to
Goes-append [] ys from mid to first others = subst (λ d. Goes ys d to) (sym first) others
Goes-append (x ∷ xs) ys from mid to first others = (first.0, Goes-append xs ys (say x from) mid to first.1 others)

goes_fits : (items : List Item) (from to : SoFar) → Goes items from to → to.size ≤ 4096 → from.size ≤ 4096
goes_fits [] from to goes fits = subst (λ (d : SoFar). d.size ≤ 4096) (sym goes) fits
goes_fits (item ∷ items) from to goes fits = let is = clear_from item from goes.0 in let small = is.fits in omega arith

-- ---- the lines that have these items

pub found_some : {A B : Type 0} (f : A → Option B) (o : Option A) (y : B) → option_and_then f o ≡ Some y → (x : A) × (o ≡ Some x) × (f x ≡ Some y)
found_some f None y is = cc
found_some f (Some x) y is = (x, refl, is)

pub mapped_some : {A B : Type 0} (f : A → B) (o : Option A) (y : B) → option_map f o ≡ Some y → (x : A) × (o ≡ Some x) × (f x ≡ y)
mapped_some f None y is = cc
mapped_some f (Some x) y is = (x, refl, cc)

-- these lines are good, and say this
abbrev AreGood : ℕ → SoFar → List (List ℕ) → SoFar → Type 0
AreGood n from lines to = (first_bad_from n from lines ≡ None) × (said_by from lines ≡ to)

-- an empty line says nothing
idle : (d : SoFar) → say Empty d ≡ d
idle d = ap (λ size. draft_of d.stage size d.object) (add-zero d.size)

module _ (line : List ℕ) (lines : List (List ℕ)) (later : List Item) (to : SoFar) (fits : to.size ≤ 4096)
    (others : (from : SoFar) → Goes later from to → (n : ℕ) → AreGood n from lines to) where
  line_goes : (item : Item) (items : List Item) (from : SoFar) → item_of line ≡ Some item → item_before item later ≡ items → Goes items from to → (n : ℕ) → AreGood n from (line ∷ lines) to
  line_goes Empty items from is same goes n =
      let left = subst (λ xs. Goes xs from to) (sym same) goes in
      let small = goes_fits later from to left fits in
      let good = others (say Empty from) (subst (λ d. Goes later d to) (sym (idle from)) left) (n + 1) in
      rw (is, clear Empty from refl refl refl (omega arith)) good
  line_goes item items from is same goes n =
      let all = subst (λ xs. Goes xs from to) (sym same) goes in
      rw (is, all.0) (others (say item from) all.1 (n + 1))

pub lines_go : (lines : List (List ℕ)) (items : List Item) (from to : SoFar) → items_in lines ≡ Some items → Goes items from to → to.size ≤ 4096 → end_cause to ≡ None → (n : ℕ) → (first_bad_from n from lines ≡ None) × (said_by from lines ≡ to)
lines_go [] [] from to is goes fits over n = (subst (λ d. bad_or (end_cause d) n None ≡ None) (sym goes) (ap (λ cause. bad_or cause n None) over), goes)
lines_go [] (item ∷ items) from to is goes fits over n = cc
lines_go (line ∷ lines) items from to is goes fits over n =
    let item = found_some (λ item. option_map (item_before item) (items_in lines)) (item_of line) items is in
    let later = mapped_some (item_before item.0) (items_in lines) items item.2 in
    line_goes line lines later.0 to fits (λ d left m. lines_go lines later.0 d to later.1 left fits over m) item.0 items from item.1 later.2 goes n

-- ---- records of one kind

-- no earlier one has the key
pub keys_apart : {X : Type 0} (key : X → ℕ) (front : List X) (x : X) → All (λ e. key e ≢ key x) front → list_any (λ e. key e == key x) front ≡ false
keys_apart key front x apart = list_any_none (λ e. key e == key x) front (λ k d within. unequal (key (get_or front k d)) (key x) (apart k d within))

module _ {X : Type 0} (item : X → Item) (words : X → List ℕ) (R : X → X → Type 0) (P : X → Type 0) (D : ℕ → List X → SoFar)
    (step : (size : ℕ) (front : List X) (x : X) → All (λ e. R e x) front → P x → size + length (words x) ≤ 4096 → (cause_of (item x) (D size front) ≡ None) × (say (item x) (D size front) ≡ D (size + length (words x)) (front ++ x ∷ []))) where
  pub records_go : (rest front : List X) (size : ℕ) → AllPairs R (front ++ rest) → All P (front ++ rest) → size + length (flat_map words rest) ≤ 4096 → Goes (map item rest) (D size front) (D (size + length (flat_map words rest)) (front ++ rest))
  records_go [] front size pairs all fits =
      rw (append-nil front, add-zero size) (Goes-none (D size front))
  records_go (x ∷ rest) front size pairs all fits =
      let long : size + length (words x ++ flat_map words rest) ≡ size + length (words x) + length (flat_map words rest) = omega (arith, length-append (words x) (flat_map words rest)) in
      let one : front ++ x ∷ [] ++ rest ≡ front ++ x ∷ rest = append_assoc front (x ∷ []) rest in
      let later = records_go rest (front ++ x ∷ []) (size + length (words x)) (subst (AllPairs R) (sym one) pairs) (subst (All P) (sym one) all) (omega arith) in
      Goes-first (item x) (map item rest) (D size front) (D (size + length (words x)) (front ++ x ∷ [])) (D (size + length (words x ++ flat_map words rest)) (front ++ x ∷ rest))
      (step size front x (earlier_ones R front x rest pairs) (next_one P front x rest all) (omega arith))
      (rw (long, ← one) later)
