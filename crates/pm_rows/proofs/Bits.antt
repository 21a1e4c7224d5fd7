-- Sets of capabilities.
use Rattle.std.proofs.Common.{◌≡◌, ℕ, ◌≤◌, IsTrue, min, max, sym, ◌∙◌, ap, arith}
use Rattle.std.specs.Prelude.{bit_and, bit_or}
use Rattle.std.proofs.lemmas.Bool.{eqb-true, eq-eqb}
use Rattle.std.proofs.lemmas.Nat.{and_le_r}
use Rattle.std.proofs.lemmas.Nat.Bits.{bit_at_and, bit_at_or, same_from_bits}
use Rattle.std.specs.Int.{bit_at}
use Rattle.pm_base.specs.declared.caps.Caps.{Caps}
use Rattle.pm_rows.specs.Rows.{has_all}

-- each set has all of nothing
pub has_all_nothing : (a : Caps) → IsTrue (has_all a (record { 0 = 0 }))
has_all_nothing a =
    let none : bit_and a.0 0 ≤ 0 = and_le_r a.0 0 in
    eq-eqb _ _ (omega arith)

union_bit : (a b c : ℕ) → min a b ≡ b → min a c ≡ c → min a (max b c) ≡ max b c
union_bit a b c ab ac = omega arith

-- a set that has all of two sets has all of both together
pub has_all_union : (a b c : Caps) → IsTrue (has_all a b) → IsTrue (has_all a c)
    → IsTrue (has_all a (record { 0 = bit_or b.0 c.0 }))
has_all_union a b c ab ac =
    let first : bit_and a.0 b.0 ≡ b.0 = eqb-true _ _ ab in
    let second : bit_and a.0 c.0 ≡ c.0 = eqb-true _ _ ac in
    let bits : (i : ℕ) → bit_at (bit_and a.0 (bit_or b.0 c.0)) i ≡ bit_at (bit_or b.0 c.0) i = λ i.
    let both : min (bit_at a.0 i) (bit_at b.0 i) ≡ bit_at b.0 i = sym (bit_at_and a.0 b.0 i) ∙ ap (λ n. bit_at n i) first in
    let other : min (bit_at a.0 i) (bit_at c.0 i) ≡ bit_at c.0 i = sym (bit_at_and a.0 c.0 i) ∙ ap (λ n. bit_at n i) second in
    bit_at_and a.0 (bit_or b.0 c.0) i
    ∙ (ap (λ n. min (bit_at a.0 i) n) (bit_at_or b.0 c.0 i)
    ∙ (union_bit (bit_at a.0 i) (bit_at b.0 i) (bit_at c.0 i) both other ∙ sym (bit_at_or b.0 c.0 i)))
    in
    eq-eqb _ _ (same_from_bits _ _ bits)

self_bit : (a : ℕ) → min a a ≡ a
self_bit a = omega arith

-- each set has all of itself
pub has_all_self : (a : Caps) → IsTrue (has_all a a)
has_all_self a =
    let bits : (i : ℕ) → bit_at (bit_and a.0 a.0) i ≡ bit_at a.0 i = λ i. bit_at_and a.0 a.0 i ∙ self_bit (bit_at a.0 i) in
    eq-eqb _ _ (same_from_bits _ _ bits)

cut_bit : (a b : ℕ) → min a (min b a) ≡ min b a
cut_bit a b = omega arith

-- each set has all of another one that is cut to it
pub has_all_cut : (a b : Caps) → IsTrue (has_all a (record { 0 = bit_and b.0 a.0 }))
has_all_cut a b =
    let bits : (i : ℕ) → bit_at (bit_and a.0 (bit_and b.0 a.0)) i ≡ bit_at (bit_and b.0 a.0) i = λ i.
    bit_at_and a.0 (bit_and b.0 a.0) i
    ∙ (ap (λ n. min (bit_at a.0 i) n) (bit_at_and b.0 a.0 i) ∙ (cut_bit (bit_at a.0 i) (bit_at b.0 i) ∙ sym (bit_at_and b.0 a.0 i)))
    in
    eq-eqb _ _ (same_from_bits _ _ bits)
