-- The words that bytes are, one after another.
use Rattle.std.proofs.Common.{◌≡◌, ℕ, zero, suc, ◌*◌, ◌%◌, ◌^◌, ◌<◌, ◌≤◌, eqb, ltb, List, [], ◌∷◌, ◌++◌, length, get_or, take, drop, refl, ap, ◌∙◌, arith}
use Rattle.std.specs.List.{All, AllByRecursion}
use Rattle.std.specs.Int.{w32, to_le_bytes, from_le_bytes}
use Rattle.std.proofs.lemmas.Bool.Decides.{nat_tests}
use Rattle.std.proofs.lemmas.List.Concat.{flat_map-cons}
use Rattle.std.proofs.lemmas.List.Elements.{All-from_recursion, recursion_from_All}
use Rattle.std.proofs.lemmas.Nat.{le_bytes_4, from_le_bytes-to_le_bytes_4}
use Rattle.byteorder.specs.Endian.{little_number}
use Rattle.pm_object.specs.Grammar.{little_endian}
use Rattle.pm_object.specs.Reading.{words}

pub words_short : (bytes : List ℕ) → length bytes < 4 → words bytes ≡ []
unfolding words
words_short [] h = refl
words_short (a ∷ []) h = refl
words_short (a ∷ b ∷ []) h = refl
words_short (a ∷ b ∷ c ∷ []) h = refl
words_short (a ∷ b ∷ c ∷ d ∷ bytes) h = absurd (omega arith)

-- four bytes are a word, and the rest the words after it
pub words_next : (bytes front rest : List ℕ) → 4 ≤ length bytes → front ≡ take 4 bytes → rest ≡ drop 4 bytes → words bytes ≡ little_number 4 front ∷ words rest
unfolding words
words_next [] front rest h f r = absurd (omega arith)
words_next (a ∷ []) front rest h f r = absurd (omega arith)
words_next (a ∷ b ∷ []) front rest h f r = absurd (omega arith)
words_next (a ∷ b ∷ c ∷ []) front rest h f r = absurd (omega arith)
words_next (a ∷ b ∷ c ∷ d ∷ bytes) front rest h f r = rw (f, r) (ap (λ (w : ℕ). w ∷ words bytes) (omega arith))

-- fewer than four bytes have no word
pub is_short : (bytes : List ℕ) → ltb (length bytes) 4 ≡ eqb (length (words bytes)) 0
unfolding words
is_short [] = refl
is_short (a ∷ []) = refl
is_short (a ∷ b ∷ []) = refl
is_short (a ∷ b ∷ c ∷ []) = refl
is_short (a ∷ b ∷ c ∷ d ∷ bytes) = grind (arith, nat_tests)

-- ---- the spelling of words, and the words of a spelling

abbrev pub IsBytes : List ℕ → Type 0
IsBytes bytes = (i : ℕ) → get_or bytes i 0 < 256

bytes_fit_by : (bytes : List ℕ) → AllByRecursion (λ b. b < 256) bytes → IsBytes bytes
bytes_fit_by [] fit i = omega arith
bytes_fit_by (b ∷ bytes) fit zero = fit.0
bytes_fit_by (b ∷ bytes) fit (suc i) = bytes_fit_by bytes fit.1 i

pub bytes_fit : (bytes : List ℕ) → All (λ b. b < 256) bytes → IsBytes bytes
bytes_fit bytes fit = bytes_fit_by bytes (recursion_from_All (λ b. b < 256) bytes fit)

IsBytes-rest : (a b c d : ℕ) (bytes : List ℕ) → IsBytes (a ∷ b ∷ c ∷ d ∷ bytes) → IsBytes bytes
IsBytes-rest a b c d bytes fits i = fits (suc (suc (suc (suc i))))

four : (a b c d : ℕ) → a < 256 → b < 256 → c < 256 → d < 256 → IsBytes (a ∷ b ∷ c ∷ d ∷ [])
four a b c d fa fb fc fd zero = fa
four a b c d fa fb fc fd (suc zero) = fb
four a b c d fa fb fc fd (suc (suc zero)) = fc
four a b c d fa fb fc fd (suc (suc (suc zero))) = fd
four a b c d fa fb fc fd (suc (suc (suc (suc i)))) = omega arith

words_again_by : (ws : List ℕ) → AllByRecursion (λ w. w < 2 ^ 32) ws → words (little_endian ws) ≡ ws
unfolding words
words_again_by [] fit = refl
words_again_by (w ∷ ws) fit =
    ap words (flat_map-cons (to_le_bytes w32) w ws) ∙ rw (from_le_bytes-to_le_bytes_4 w fit.0, words_again_by ws fit.1) refl

-- words that were written are read again
pub words_again : (ws : List ℕ) → All (λ w. w < 2 ^ 32) ws → words (little_endian ws) ≡ ws
words_again ws fit = words_again_by ws (recursion_from_All (λ w. w < 2 ^ 32) ws fit)

pub length_little_endian : (ws : List ℕ) → length (little_endian ws) ≡ 4 * length ws
length_little_endian [] = refl
length_little_endian (w ∷ ws) = ap length (flat_map-cons (to_le_bytes w32) w ws) ∙ omega (arith, length_little_endian ws)

-- words that were read are written as the bytes that they were
pub bytes_again : (bytes : List ℕ) → IsBytes bytes → length bytes % 4 ≡ 0 → little_endian (words bytes) ≡ bytes
unfolding words
bytes_again [] fit whole = refl
bytes_again (a ∷ []) fit whole = absurd (omega arith)
bytes_again (a ∷ b ∷ []) fit whole = absurd (omega arith)
bytes_again (a ∷ b ∷ c ∷ []) fit whole = absurd (omega arith)
bytes_again (a ∷ b ∷ c ∷ d ∷ bytes) fit whole =
    let front : to_le_bytes w32 (from_le_bytes w32 (a ∷ b ∷ c ∷ d ∷ [])) ≡ a ∷ b ∷ c ∷ d ∷ [] = le_bytes_4 (a ∷ b ∷ c ∷ d ∷ []) _ refl (four a b c d (fit 0) (fit 1) (fit 2) (fit 3)) refl in
    let rest : little_endian (words bytes) ≡ bytes = bytes_again bytes (IsBytes-rest a b c d bytes fit) (omega arith) in
    flat_map-cons (to_le_bytes w32) (from_le_bytes w32 (a ∷ b ∷ c ∷ d ∷ [])) (words bytes)
    ∙ ap (λ (x : List ℕ). x ++ little_endian (words bytes)) front ∙ ap (λ (x : List ℕ). a ∷ b ∷ c ∷ d ∷ x) rest

words_fit_by : (bytes : List ℕ) → IsBytes bytes → AllByRecursion (λ w. w < 2 ^ 32) (words bytes)
unfolding words
words_fit_by [] fit = tt
words_fit_by (a ∷ []) fit = tt
words_fit_by (a ∷ b ∷ []) fit = tt
words_fit_by (a ∷ b ∷ c ∷ []) fit = tt
words_fit_by (a ∷ b ∷ c ∷ d ∷ bytes) fit = (omega (arith, fit 0, fit 1, fit 2, fit 3), words_fit_by bytes (IsBytes-rest a b c d bytes fit))

pub words_fit : (bytes : List ℕ) → IsBytes bytes → All (λ w. w < 2 ^ 32) (words bytes)
words_fit bytes fit = All-from_recursion (λ w. w < 2 ^ 32) (words bytes) (words_fit_by bytes fit)
