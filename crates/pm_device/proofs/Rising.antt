-- Lists of numbers that rise.
use Rattle.std.proofs.Common.{◌≡◌, ℕ, Bool, true, false, cond, List, [], ◌∷◌, ◌++◌, filter, refl, arith, ap, ◌∙◌, nat_lt}
use Rattle.std.specs.List.{list_all}
use Rattle.std.proofs.lemmas.Bool.Decides.{nat_tests}
use Rattle.std.proofs.lemmas.List.{append-nil}
use Rattle.std.proofs.lemmas.List.Elements.{filter-append}
use Rattle.pm_base.proofs.Booleans.{both}
use Rattle.pm_device.specs.Device.{rigged}

-- numbers that pass a test all stay, and those that pass another one all go
kept : (p : ℕ → Bool) (ns : List ℕ) → list_all p ns ≡ true → filter p ns ≡ ns
kept p [] all = refl
kept p (n ∷ ns) all =
    let parts = both (p n) _ all in
    ap (λ b. cond b (n ∷ filter p ns) (filter p ns)) parts.0 ∙ ap (λ ns. n ∷ ns) (kept p ns parts.1)

gone : (p q : ℕ → Bool) (ns : List ℕ) → ((n : ℕ) → q n ≡ true → p n ≡ false) → list_all q ns ≡ true → filter p ns ≡ []
gone p q [] apart all = refl
gone p q (n ∷ ns) apart all =
    let parts = both (q n) _ all in
    ap (λ b. cond b (n ∷ filter p ns) (filter p ns)) (apart n parts.0) ∙ gone p q ns apart parts.1

not_back : (a b : ℕ) → nat_lt a b ≡ true → nat_lt b a ≡ false
not_back a b e = grind (arith, nat_tests)

not_itself : (n : ℕ) → nat_lt n n ≡ false
not_itself n = grind (arith, nat_tests)

itself_gone : (p : ℕ → Bool) (n : ℕ) (there : Bool) → p n ≡ false → filter p (cond there (n ∷ []) []) ≡ []
itself_gone p n true e = ap (λ b. cond b (n ∷ []) []) e
itself_gone p n false e = refl

-- between lesser and greater numbers a number is put in or taken out
pub rigged-between : (n : ℕ) (broken there : Bool) (front back : List ℕ)
    → list_all (λ m. nat_lt m n) front ≡ true
    → list_all (nat_lt n) back ≡ true
    → rigged n broken (front ++ (cond there (n ∷ []) [] ++ back)) ≡ front ++ (cond broken (n ∷ []) [] ++ back)
rigged-between n broken there front back below above =
    ap (λ ns. ns ++ (cond broken (n ∷ []) [] ++ filter (λ m. nat_lt n m) (front ++ (cond there (n ∷ []) [] ++ back)))) lesser
    ∙ ap (λ ns. front ++ (cond broken (n ∷ []) [] ++ ns)) greater
  where
    split : (p : ℕ → Bool) → filter p (front ++ (cond there (n ∷ []) [] ++ back)) ≡ filter p front ++ (filter p (cond there (n ∷ []) []) ++ filter p back)
    split p = filter-append p front (cond there (n ∷ []) [] ++ back) ∙ ap (λ ns. filter p front ++ ns) (filter-append p (cond there (n ∷ []) []) back)

    lesser : filter (λ m. nat_lt m n) (front ++ (cond there (n ∷ []) [] ++ back)) ≡ front
    lesser =
        split (λ m. nat_lt m n)
        ∙ ap (λ ns. ns ++ (filter (λ m. nat_lt m n) (cond there (n ∷ []) []) ++ filter (λ m. nat_lt m n) back)) (kept (λ m. nat_lt m n) front below)
        ∙ ap (λ ns. front ++ (ns ++ filter (λ m. nat_lt m n) back)) (itself_gone (λ m. nat_lt m n) n there (not_itself n))
        ∙ ap (λ ns. front ++ ns) (gone (λ m. nat_lt m n) (nat_lt n) back (λ m. not_back n m) above)
        ∙ append-nil front

    greater : filter (λ m. nat_lt n m) (front ++ (cond there (n ∷ []) [] ++ back)) ≡ back
    greater =
        split (λ m. nat_lt n m)
        ∙ ap (λ ns. ns ++ (filter (λ m. nat_lt n m) (cond there (n ∷ []) []) ++ filter (λ m. nat_lt n m) back)) (gone (λ m. nat_lt n m) (λ m. nat_lt m n) front (λ m. not_back m n) below)
        ∙ ap (λ ns. ns ++ filter (λ m. nat_lt n m) back) (itself_gone (λ m. nat_lt n m) n there (not_itself n))
        ∙ kept (λ m. nat_lt n m) back above
