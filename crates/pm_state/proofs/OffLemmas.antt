-- The rows know of one master after another that it is off.
use Rattle.std.proofs.Common.{◌≡◌, ℕ, zero, suc, ◌+◌, ◌<◌, List, [], ◌∷◌, ◌++◌, length, replicate, drop, refl, ◌∙◌, ap, arith}
use Rattle.std.specs.Prelude.{slice_set}
use Rattle.std.proofs.lemmas.List.{append-nil, drop_all}

set_suc : {X : Type 0} (x : X) (k : ℕ) (xs : List X) → k < length xs → slice_set (replicate k x ++ drop k xs) k x ≡ replicate (suc k) x ++ drop (suc k) xs
set_suc x zero [] within = absurd (omega arith)
set_suc x zero (y ∷ ys) within = refl
set_suc x (suc k) [] within = absurd (omega arith)
set_suc {X} x (suc k) (y ∷ ys) within = ap (λ (zs : List X). x ∷ zs) (set_suc x k ys (omega arith))

-- one more of a list is set
pub set_next : {X : Type 0} (x : X) (k : ℕ) (xs ys zs : List X) → k < length xs → ys ≡ replicate k x ++ drop k xs → zs ≡ slice_set ys k x → zs ≡ replicate (k + 1) x ++ drop (k + 1) xs
set_next {X} x k xs ys zs within so_far written =
    let next : suc k ≡ k + 1 = omega arith in
    written
    ∙ (ap (λ (us : List X). slice_set us k x) so_far
    ∙ (set_suc x k xs within ∙ ap (λ n. replicate n x ++ drop n xs) next))

-- all of it are
pub set_all : {X : Type 0} (x : X) (k : ℕ) (xs ys : List X) → k ≡ length xs → ys ≡ replicate k x ++ drop k xs → ys ≡ replicate (length xs) x
set_all {X} x k xs ys end so_far =
    let none : drop k xs ≡ [] = drop_all k xs (omega (arith, end)) in
    so_far
    ∙ (ap (λ (us : List X). replicate k x ++ us) none
    ∙ (append-nil (replicate k x) ∙ ap (λ n. replicate n x) end))
