-- Between which places the rows of each slave stand.
use Rattle.std.specs.Prelude.{◌≡◌, ℕ, ◌<◌, ◌≤◌, true, List, length, slice_get, unwrap_or, Some}
use Rattle.pm_rows.specs.declared.row.Pair.{Pair}
use Rattle.pm_rows.specs.declared.row.Entry.{Entry}
use Rattle.pm_rows.specs.declared.passes.Pass.{Pass}
use Rattle.pm_rows.specs.Passes.{touches}

-- the place that is kept of a slave, and 0 where it isn't one of them
abbrev pub span_place : ℕ → List ℕ → ℕ
span_place s places = unwrap_or (slice_get places s) 0

-- each of the pairs before place k stands from the first place of its slave on, and before the place past its last one
pub record IsIndexed (k : ℕ) (seeds : List Pair) (first past : List ℕ) : Type 0 where
  pub same : length first ≡ length past
  pub inside : (j : ℕ) (seed : Pair) → j < k → slice_get seeds j ≡ Some seed
      → (span_place seed.slave first ≤ j) × (j < span_place seed.slave past)
  pub within : (s : ℕ) → span_place s past ≤ k

-- all rows on a slave stand from place a on and before place b
pub record IsSpan (s a b : ℕ) (entries : List Entry) : Type 0 where
  pub order : a ≤ b
  pub within : b ≤ length entries
  pub inside : (k : ℕ) (entry : Entry) → slice_get entries k ≡ Some entry → entry.seed.slave ≡ s → (a ≤ k) × (k < b)

-- all rows that a pass touches do
pub record IsCover (pass : Pass) (a b : ℕ) (entries : List Entry) : Type 0 where
  pub order : a ≤ b
  pub within : b ≤ length entries
  pub inside : (k : ℕ) (entry : Entry) → slice_get entries k ≡ Some entry → touches pass entry.seed ≡ true → (a ≤ k) × (k < b)
