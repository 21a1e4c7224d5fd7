-- Marks of units as bits of words.
use Rattle.std.proofs.Common.{◌≡◌, ℕ, ◌+◌, ◌-◌, ◌*◌, ◌<◌, ◌≤◌, ◌/◌, ◌%◌, ◌^◌, ◌==◌, Bool, true, false, List, [], ◌∷◌, length, slice_get, inl, inr, refl, zero, suc, arith, ap, sym, ◌∙◌, w64}
use Rattle.std.specs.Prelude.{bit_or, replicate, slice_set, unwrap_or}
use Rattle.std.specs.Int.{bit_at, trailing_zeros}
use Rattle.std.proofs.lemmas.Bool.{cases_eq, cases_lt, eqb-true}
use Rattle.std.proofs.lemmas.Bool.Decides.{nat_tests}
use Rattle.std.proofs.lemmas.List.{length-replicate, length-set}
use Rattle.std.proofs.lemmas.Nat.{shr-shr, shr_below, shr_le}
use Rattle.std.proofs.lemmas.Nat.Bits.{bit_at-trailing_zeros, bit_at-zero, bit_at_above, bit_at_ones, bit_at_set_same, bit_at_set_other}
use Rattle.pm_values.proofs.KindsLaw.{left_alone, none_marked}
use Rattle.pm_values.specs.Kinds.{AreInWords, rests_at, with_bit, woken_at}

-- ---- a word of bits

-- what stands in a word from a bit on
pub bit_behind : (word bit i : ℕ) → bit_at (word / 2 ^ bit) i ≡ bit_at word (bit + i)
bit_behind word bit i = ap (λ n. n % 2) (shr-shr word bit i)

-- no bit from this one on is set
pub clear_to_end : (word bit i : ℕ) → word / 2 ^ bit ≡ 0 → bit ≤ i → bit_at word i ≡ 0
clear_to_end word bit i none from =
    let place : bit + (i - bit) ≡ i = omega (arith, from) in
    sym (ap (bit_at word) place)
    ∙ (sym (bit_behind word bit (i - bit)) ∙ (ap (λ n. bit_at n (i - bit)) none ∙ bit_at-zero (i - bit)))

-- the bits from this one up to the first that is set
pub clear_to_next : (word bit : ℕ) → word < 2 ^ 64 → bit < 64 → 0 < word / 2 ^ bit
    → (bit + trailing_zeros w64 (word / 2 ^ bit) ≤ 64)
    × ((i : ℕ) → bit ≤ i → i < bit + trailing_zeros w64 (word / 2 ^ bit) → bit_at word i ≡ 0)
clear_to_next word bit small within some =
    let left : ℕ = word / 2 ^ bit in
    let place : 64 - bit + bit ≡ 64 = omega (arith, within) in
    let short : left < 2 ^ (64 - bit) = shr_below word (64 - bit) bit (rw place small) in
    let below : left < 2 ^ 64 = omega (arith, small, shr_le word bit) in
    let lowest = bit_at-trailing_zeros w64 left some below in
    let first : ℕ = trailing_zeros w64 left in (
      elim (cases_lt (64 - bit) (suc first)) [
        | inl over ↦
            let gone : bit_at left first ≡ 0 = bit_at_above left (64 - bit) first short (omega (arith, over)) in
            absurd (omega (arith, gone, lowest.1))
        | inr fits ↦ omega (arith, fits, within)
      ],
      λ i from to.
          let at : bit + (i - bit) ≡ i = omega (arith, from) in
          sym (ap (bit_at word) at)
          ∙ (sym (bit_behind word bit (i - bit)) ∙ lowest.2 (i - bit) (omega (arith, from, to))),
    )

-- ---- words of bits

word_here : (words : List ℕ) (g x : ℕ) → g < length words → unwrap_or (slice_get (slice_set words g x) g) 0 ≡ x
word_here [] g x within = absurd (omega (arith, within))
word_here (w ∷ ws) zero x within = refl
word_here (w ∷ ws) (suc g) x within = word_here ws g x (omega (arith, within))

word_other : (words : List ℕ) (g h x : ℕ) → (g ≡ h → ⊥) → unwrap_or (slice_get (slice_set words g x) h) 0 ≡ unwrap_or (slice_get words h) 0
word_other [] g h x apart = refl
word_other (w ∷ ws) zero zero x apart = absurd (apart refl)
word_other (w ∷ ws) zero (suc h) x apart = refl
word_other (w ∷ ws) (suc g) zero x apart = refl
word_other (w ∷ ws) (suc g) (suc h) x apart = word_other ws g h x (λ same. apart (ap suc same))

word_same : (n g x : ℕ) → g < n → unwrap_or (slice_get (replicate n x) g) 0 ≡ x
word_same zero g x within = absurd (omega (arith, within))
word_same (suc n) zero x within = refl
word_same (suc n) (suc g) x within = word_same n g x (omega (arith, within))

pub in_words_none : (n : ℕ) (units : List Bool) (words : List ℕ) → units ≡ replicate n false → words ≡ replicate (n / 64 + 1) 0
    → AreInWords units words
in_words_none n units words are in_words =
    let count : length units ≡ n = ap length are ∙ length-replicate n false in
    record {
      places = ap length in_words ∙ (length-replicate (n / 64 + 1) 0 ∙ ap (λ m. m / 64 + 1) (sym count));
      clear = λ k within is. ap (λ (us : List Bool). rests_at us k) are ∙ none_marked n k (omega (arith, within, count));
    }

pub in_words_cleared : (n : ℕ) (units : List Bool) (words : List ℕ) → length words ≡ length units / 64 + 1 → units ≡ replicate n false
    → AreInWords units words
in_words_cleared n units words places are =
    let count : length units ≡ n = ap length are ∙ length-replicate n false in
    record {
      places = places;
      clear = λ k within is. ap (λ (us : List Bool). rests_at us k) are ∙ none_marked n k (omega (arith, within, count));
    }

pub in_words_all : (m : ℕ) (units : List Bool) (words : List ℕ) → length words ≡ length units / 64 + 1
    → words ≡ replicate m (2 ^ 64 - 1) → AreInWords units words
in_words_all m units words places are = record {
  places = places;
  clear = λ k within is.
      let count : length words ≡ m = ap length are ∙ length-replicate m (2 ^ 64 - 1) in
      let word : unwrap_or (slice_get words (k / 64)) 0 ≡ 2 ^ 64 - 1 =
      ap (λ (ws : List ℕ). unwrap_or (slice_get ws (k / 64)) 0) are ∙ word_same m (k / 64) (2 ^ 64 - 1) (omega (arith, within, count, places))
      in
      let set : bit_at (unwrap_or (slice_get words (k / 64)) 0) (k % 64) ≡ 1 =
      ap (λ w. bit_at w (k % 64)) word ∙ bit_at_ones 64 (k % 64) (omega arith)
      in
      absurd (omega (arith, is, set));
}

-- two places that aren't the same and stand in the same word have other bits
pub bit_stays : (words : List ℕ) (k j : ℕ) → (j ≡ k → ⊥)
    → bit_at (unwrap_or (slice_get (with_bit k words) (j / 64)) 0) (j % 64) ≡ 0
    → k / 64 < length words → bit_at (unwrap_or (slice_get words (j / 64)) 0) (j % 64) ≡ 0
bit_stays words k j apart is within = elim (cases_eq (k / 64) (j / 64)) [
  | inl same ↦
      let old : ℕ = unwrap_or (slice_get words (k / 64)) 0 in
      let new : ℕ = bit_or old (1 * 2 ^ (k % 64) % 2 ^ 64) in
      let other : bit_at new (j % 64) ≡ bit_at old (j % 64) =
      bit_at_set_other w64 old (k % 64) (omega arith) (j % 64) (λ one. apart (omega (arith, one, same)))
      in
      let here : unwrap_or (slice_get (with_bit k words) (j / 64)) 0 ≡ new =
      sym (ap (λ (g : ℕ). unwrap_or (slice_get (with_bit k words) g) 0) same) ∙ word_here words (k / 64) new within
      in
      sym (ap (λ (g : ℕ). bit_at (unwrap_or (slice_get words g) 0) (j % 64)) same)
      ∙ (sym other ∙ (sym (ap (λ w. bit_at w (j % 64)) here) ∙ is))
  | inr differ ↦ sym (ap (λ w. bit_at w (j % 64)) (word_other words (k / 64) (j / 64) _ differ)) ∙ is
]

apart_from : (j k : ℕ) → (j == k) ≡ false → j ≡ k → ⊥
apart_from j k is same = grind (arith, nat_tests)

past_end : (ws : List ℕ) (g x : ℕ) → length ws ≤ g → slice_set ws g x ≡ ws
past_end [] g x out = refl
past_end (w ∷ ws) zero x out = absurd (omega (arith, out))
past_end (w ∷ ws) (suc g) x out = ap (λ (l : List ℕ). w ∷ l) (past_end ws g x (omega (arith, out)))

pub in_words_woken : (k : ℕ) (units : List Bool) (words : List ℕ) → AreInWords units words → AreInWords (woken_at k units) (with_bit k words)
in_words_woken k units words have =
    let count : length (woken_at k units) ≡ length units = length-set units k true in
    record {
      places = length-set words (k / 64) _ ∙ (have.places ∙ ap (λ n. n / 64 + 1) (sym count));
      clear = λ j within is. by j (omega (arith, within, count)) is (j == k) refl;
    }
  where
    by : (j : ℕ) → j < length units → bit_at (unwrap_or (slice_get (with_bit k words) (j / 64)) 0) (j % 64) ≡ 0 → (b : Bool) → (j == k) ≡ b
        → rests_at (woken_at k units) j ≡ true
    by j within is true same =
        let one : j ≡ k = eqb-true j k same in
        let inside : k / 64 < length words = omega (arith, within, one, have.places) in
        let here = word_here words (k / 64) (bit_or (unwrap_or (slice_get words (k / 64)) 0) (1 * 2 ^ (k % 64) % 2 ^ 64)) inside in
        let set : bit_at (unwrap_or (slice_get (with_bit k words) (k / 64)) 0) (k % 64) ≡ 1 =
        ap (λ w. bit_at w (k % 64)) here ∙ bit_at_set_same w64 (unwrap_or (slice_get words (k / 64)) 0) (k % 64) (omega arith)
        in
        let none : bit_at (unwrap_or (slice_get (with_bit k words) (k / 64)) 0) (k % 64) ≡ 0 =
        sym (ap (λ (n : ℕ). bit_at (unwrap_or (slice_get (with_bit k words) (n / 64)) 0) (n % 64)) one) ∙ is
        in
        absurd (omega (arith, set, none))
    by j within is false apart = left_alone units k j apart (have.clear j within (unset j within is apart))
      where
        unset : (j : ℕ) → j < length units → bit_at (unwrap_or (slice_get (with_bit k words) (j / 64)) 0) (j % 64) ≡ 0 → (j == k) ≡ false
            → bit_at (unwrap_or (slice_get words (j / 64)) 0) (j % 64) ≡ 0
        unset j within is apart = elim (cases_lt (k / 64) (length words)) [
          | inl inside ↦ bit_stays words k j (apart_from j k apart) is inside
          | inr outside ↦ sym (ap (λ (ws : List ℕ). bit_at (unwrap_or (slice_get ws (j / 64)) 0) (j % 64)) (past_end words (k / 64) _ outside)) ∙ is
        ]
