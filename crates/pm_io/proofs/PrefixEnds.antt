-- What the end of a prefix tells of the file that it was read of.
use Rattle.std.proofs.Common.{◌≡◌, ℕ, ◌+◌, ◌≤◌, ◌⊎◌, ◌==◌, min, Bool, true, false, nat_le, if◌then◌else◌, List, length, take, refl, sym, ◌∙◌, ap, subst, arith, Option, Some, None, inl, inr}
use Rattle.std.specs.Prelude.{IsSomeAnd}
use Rattle.std.proofs.lemmas.Bool.{leb-true}
use Rattle.std.proofs.lemmas.Bool.Decides.{Decides-eqb}
use Rattle.pm_io.specs.Inputs.{File, FailsWithin}
use Rattle.pm_io.specs.Prefix.{IsUnread, Prefix, prefix_before, prefix_of, prefix_within, unbegun}
use Rattle.pm_io.specs.declared.prefix.StopReason.TheVariants.{End, Limit, Failure, Unbegun}

failure_is_end : Failure ≡ End → ⊥
failure_is_end e = cc

unbegun_is_end : Unbegun ≡ End → ⊥
unbegun_is_end e = cc

limit_is_end : Limit ≡ End → ⊥
limit_is_end e = cc

-- ---- a file that was read to its end

within_end : (limit : ℕ) (bytes : List ℕ) (p : Prefix) → p ≡ prefix_within limit bytes → p.stop ≡ End → bytes ≡ p.bytes
within_end limit bytes p is ends = go (nat_le (length bytes) limit) is
  where
    go : (fits : Bool) → p ≡ (if fits then record { bytes = bytes; stop = End } else record { bytes = take (limit + 1) bytes; stop = Limit }) → bytes ≡ p.bytes
    go true is = sym (ap (λ (q : Prefix). q.bytes) is)
    go false is = absurd (limit_is_end (sym (ap (λ (q : Prefix). q.stop) is) ∙ ends))

before_end : (limit : ℕ) (fails_at : Option ℕ) (bytes : List ℕ) (p : Prefix) → p ≡ prefix_before limit fails_at bytes → p.stop ≡ End → bytes ≡ p.bytes
before_end limit None bytes p is ends = within_end limit bytes p is ends
before_end limit (Some at) bytes p is ends = go (nat_le at (min limit (length bytes))) is
  where
    go : (met : Bool) → p ≡ (if met then record { bytes = take at bytes; stop = Failure } else prefix_within limit bytes) → bytes ≡ p.bytes
    go true is = absurd (failure_is_end (sym (ap (λ (q : Prefix). q.stop) is) ∙ ends))
    go false is = within_end limit bytes p is ends

-- a name that was read to its end stands for a file with exactly these bytes
pub prefix_whole : (limit : ℕ) (shown : Option File) (room : ℕ) (p : Prefix) → p ≡ prefix_of limit shown room → p.stop ≡ End → IsSomeAnd shown (λ file. file.bytes ≡ p.bytes)
prefix_whole limit None room p is ends = absurd (unbegun_is_end (sym (ap (λ (q : Prefix). q.stop) is) ∙ ends))
prefix_whole limit (Some file) room p is ends = go (room == 0) is
  where
    go : (full : Bool) → p ≡ (if full then unbegun else prefix_before limit file.fails_at file.bytes) → file.bytes ≡ p.bytes
    go true is = absurd (unbegun_is_end (sym (ap (λ (q : Prefix). q.stop) is) ∙ ends))
    go false is = before_end limit file.fails_at file.bytes p is ends

-- ---- a file that could not be read on

within_fails : (limit : ℕ) (bytes : List ℕ) (p : Prefix) → p ≡ prefix_within limit bytes → IsUnread p.stop → ⊥
within_fails limit bytes p is fails = go (nat_le (length bytes) limit) is
  where
    go : (fits : Bool) → p ≡ (if fits then record { bytes = bytes; stop = End } else record { bytes = take (limit + 1) bytes; stop = Limit }) → ⊥
    go true is = (let P : Prefix → Type 0 = λ q. IsUnread q.stop in subst P is fails)
    go false is = (let P : Prefix → Type 0 = λ q. IsUnread q.stop in subst P is fails)

before_fails : (limit : ℕ) (fails_at : Option ℕ) (bytes : List ℕ) (p : Prefix) → p ≡ prefix_before limit fails_at bytes → IsUnread p.stop → IsSomeAnd fails_at (λ at. at ≤ min (length bytes) limit)
before_fails limit None bytes p is fails = absurd (within_fails limit bytes p is fails)
before_fails limit (Some at) bytes p is fails = go (nat_le at (min limit (length bytes))) refl is
  where
    go : (met : Bool) → nat_le at (min limit (length bytes)) ≡ met → p ≡ (if met then record { bytes = take at bytes; stop = Failure } else prefix_within limit bytes) → at ≤ min (length bytes) limit
    go true same is = let reach : at ≤ min limit (length bytes) = leb-true at (min limit (length bytes)) same in omega arith
    go false same is = absurd (within_fails limit bytes p is fails)

-- a name that was not begun or not read on isn't there, or no more can be begun, or has a failing byte within the limit
pub prefix_fails : (limit : ℕ) (shown : Option File) (room : ℕ) (p : Prefix) → p ≡ prefix_of limit shown room → IsUnread p.stop → ((shown ≡ None) ⊎ (room ≡ 0)) ⊎ IsSomeAnd shown (FailsWithin limit)
prefix_fails limit None room p is fails = inl (inl refl)
prefix_fails limit (Some file) room p is fails = go (room == 0) refl is
  where
    go : (full : Bool) → (room == 0) ≡ full → p ≡ (if full then unbegun else prefix_before limit file.fails_at file.bytes) → ((Some file ≡ None) ⊎ (room ≡ 0)) ⊎ FailsWithin limit file
    go true same is = inl (inr ((Decides-eqb room 0).0 same))
    go false same is = inr (before_fails limit file.fails_at file.bytes p is fails)
