-- Sets of bits: a set has each bit of another where their common bits are the other.
use Rattle.std.proofs.Common.{◌≡◌, ℕ, min, arith, ap, sym, ◌∙◌, bit_and, bit_or}
use Rattle.std.specs.Int.{bit_at}
use Rattle.std.proofs.lemmas.Nat.Bits.{bit_at_and, bit_at_or, bit_at-zero, same_from_bits}

-- bit by bit
bits_of : (a b : ℕ) → bit_and a b ≡ b → (i : ℕ) → min (bit_at a i) (bit_at b i) ≡ bit_at b i
bits_of a b e i = sym (bit_at_and a b i) ∙ ap (λ n. bit_at n i) e

from_bits : (a b : ℕ) → ((i : ℕ) → min (bit_at a i) (bit_at b i) ≡ bit_at b i) → bit_and a b ≡ b
from_bits a b each = same_from_bits (bit_and a b) b (λ i. bit_at_and a b i ∙ each i)

pub has_none : (a : ℕ) → bit_and a 0 ≡ 0
has_none a = from_bits a 0 (λ i. let none = bit_at-zero i in omega arith)

pub has_both : (a b c : ℕ) → bit_and a b ≡ b → bit_and a c ≡ c → bit_and a (bit_or b c) ≡ bit_or b c
has_both a b c e f =
    from_bits a (bit_or b c) (λ i.
    let left = bits_of a b e i in
    let right = bits_of a c f i in
    let either = bit_at_or b c i in
    omega arith)

pub has_through : (a b c : ℕ) → bit_and a b ≡ b → bit_and b c ≡ c → bit_and a c ≡ c
has_through a b c e f =
    from_bits a c (λ i.
    let left = bits_of a b e i in
    let right = bits_of b c f i in
    omega arith)
