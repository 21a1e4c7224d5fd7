-- An idle row stays as it is, nothing is required by it, and nobody uses a slave by it.
use Rattle.std.proofs.Common.{◌≡◌, ℕ, ◌==◌, ◌&&◌, ◌||◌, Bool, true, false, not, if◌then◌else◌, Option, Some, None, refl, arith, ap, ◌∙◌, ◌⊎◌, inl, inr}
use Rattle.std.specs.Prelude.{bit_or}
use Rattle.std.proofs.lemmas.Nat.Bits.{bit_at_or, bit_at-zero, same_from_bits}
use Rattle.pm_base.specs.declared.names.Mode.{Mode}
use Rattle.pm_rows.specs.declared.row.Entry.{Entry}
use Rattle.pm_rows.specs.declared.row.Row.{Row}
use Rattle.pm_rows.specs.declared.wanted.Wanted.{Wanted}
use Rattle.pm_rows.specs.Passes.{is_idle}
use Rattle.pm_rows.specs.Wanted.{both, least, limit_by, required_by}
use Rattle.pm_rows.proofs.Left.{idle_is}
use Rattle.pm_state.specs.Changes.{is_named, is_of}

-- a row that isn't written down is that of another master, or idle, and gets no preset
abbrev pub Apart : Option ℕ → Bool → Entry → Type 0
Apart named starts e =
    (is_named named e.seed.master ≡ false) ⊎ ((is_idle e.row ≡ true) × ((not starts || (e.row.preset.0 == 0)) ≡ true))

pub apart_of : (named : Option ℕ) (starts : Bool) (e : Entry) → is_of named starts e ≡ false → Apart named starts e
apart_of named starts e off = at (is_named named e.seed.master) (is_idle e.row) starts (e.row.preset.0 == 0) refl refl off
  where
    at : (own idle starts none : Bool) → is_named named e.seed.master ≡ own → is_idle e.row ≡ idle
        → (own && (not idle || (starts && not none))) ≡ false
        → (is_named named e.seed.master ≡ false) ⊎ ((is_idle e.row ≡ true) × ((not starts || none) ≡ true))
    at false idle starts none owned rests off = inl owned
    at true false starts none owned rests off = cc
    at true true false none owned rests off = inr (rests, refl)
    at true true true true owned rests off = inr (rests, refl)
    at true true true false owned rests off = cc

pub idle_of : (e : Entry) → is_of None false e ≡ false → is_idle e.row ≡ true
idle_of e off = at (is_idle e.row) off
  where
    at : (idle : Bool) → (not idle || false) ≡ false → idle ≡ true
    at true off = refl
    at false off = cc

bits_none : (n : ℕ) → bit_or n 0 ≡ n
bits_none n = same_from_bits (bit_or n 0) n (λ i. let either = bit_at_or n 0 i in let none = bit_at-zero i in omega arith)

least_none : (limit : Option ℕ) → least limit None ≡ limit
least_none None = refl
least_none (Some n) = refl

-- it adds nothing to what is wanted
pub idle_adds : (mode : Mode) (wanted : Wanted) (e : Entry) (here : Bool) → (here && is_of None false e) ≡ false
    → (if here then record { caps = both wanted.caps (required_by mode e); limit = least wanted.limit (limit_by e) } else wanted) ≡ wanted
idle_adds mode wanted e false off = refl
idle_adds mode wanted e true off =
    let add : Row → Wanted = λ row.
    record { caps = both wanted.caps (required_by mode (record e { row = row })); limit = least wanted.limit (limit_by (record e { row = row })) }
    in
    ap add (idle_is e.row (idle_of e off))
    ∙ (ap (λ (n : ℕ). record { caps = record { 0 = n }; limit = least wanted.limit None }) (bits_none wanted.caps.0)
    ∙ ap (λ (l : Option ℕ). record { caps = wanted.caps; limit = l }) (least_none wanted.limit))

pub idle_unused : (e : Entry) (here : Bool) → (here && is_of None false e) ≡ false → (here && e.row.used) ≡ false
idle_unused e true off = ap (λ (row : Row). row.used) (idle_is e.row (idle_of e off))
idle_unused e false off = refl
