-- Where all words of a spelling fit 32 bits, those of its parts do.
use Rattle.std.proofs.Common.{ℕ, zero, suc, ◌^◌, ◌<◌, List, [], ◌∷◌, ◌++◌, length, get_or, subst, arith}
use Rattle.std.specs.List.{All, flat_map}
use Rattle.std.proofs.lemmas.List.Concat.{flat_map-cons}
use Rattle.std.proofs.lemmas.List.Elements.{All-take, All-drop, All-tail}
use Rattle.std.proofs.Math.Seq.{take-append_seam, drop-append_seam}

abbrev pub Fits32 : List ℕ → Type 0
Fits32 words = All (λ w. w < 2 ^ 32) words

pub fits_left : (xs ys : List ℕ) → Fits32 (xs ++ ys) → Fits32 xs
fits_left xs ys fit = subst (λ (l : List ℕ). Fits32 l) (take-append_seam xs ys) (All-take (λ w. w < 2 ^ 32) (length xs) (xs ++ ys) fit)

pub fits_right : (xs ys : List ℕ) → Fits32 (xs ++ ys) → Fits32 ys
fits_right xs ys fit = subst (λ (l : List ℕ). Fits32 l) (drop-append_seam xs ys) (All-drop (λ w. w < 2 ^ 32) (length xs) (xs ++ ys) fit)

pub fits_rest : (x : ℕ) (xs : List ℕ) → Fits32 (x ∷ xs) → Fits32 xs
fits_rest x xs fit = All-tail (λ w. w < 2 ^ 32) x xs fit

pub each_fits : {X : Type 0} (spell : X → List ℕ) (xs : List X) (i : ℕ) (d : X) → i < length xs → Fits32 (flat_map spell xs) → Fits32 (spell (get_or xs i d))
each_fits spell [] i d within fit = absurd (omega arith)
each_fits spell (x ∷ xs) zero d within fit = fits_left (spell x) (flat_map spell xs) (subst (λ (l : List ℕ). Fits32 l) (flat_map-cons spell x xs) fit)
each_fits spell (x ∷ xs) (suc i) d within fit = each_fits spell xs i d (omega arith) (fits_right (spell x) (flat_map spell xs) (subst (λ (l : List ℕ). Fits32 l) (flat_map-cons spell x xs) fit))
