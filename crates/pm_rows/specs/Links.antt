-- The rows of each master, one behind another.
use Rattle.std.specs.Prelude.{◌≡◌, ◌≢◌, ℕ, ◌<◌, ◌≤◌, false, List, slice_get, unwrap_or, Some}
use Rattle.pm_rows.specs.declared.row.Pair.{Pair}
use Rattle.pm_rows.specs.declared.row.Entry.{Entry}
use Rattle.pm_rows.specs.declared.passes.Pass.{Pass}
use Rattle.pm_rows.specs.Passes.{touches}

-- the place that is kept at a place, and 0 where none is
abbrev pub link_at : ℕ → List ℕ → ℕ
link_at k links = unwrap_or (slice_get links k) 0

-- of the pairs from place k on none of a master stands before the master's first place, and behind a pair none of its master stands
-- before the pair's next place
pub record IsLinked (k : ℕ) (pairs : List Pair) (first next : List ℕ) : Type 0 where
  pub front : (m j : ℕ) (pair : Pair) → slice_get pairs j ≡ Some pair → k ≤ j → j < link_at m first → pair.master ≢ m
  pub behind : (i j : ℕ) (one other : Pair) → slice_get pairs i ≡ Some one → slice_get pairs j ≡ Some other
      → k ≤ i → i < j → j < link_at i next → other.master ≢ one.master

-- no row of the master at place m stands from a place on and before the next
pub record IsNextOf (m from next : ℕ) (entries : List Entry) : Type 0 where
  pub after : from ≤ next
  pub none : (j : ℕ) (entry : Entry) → slice_get entries j ≡ Some entry → from ≤ j → j < next → entry.seed.master ≢ m

-- no row that a pass touches does, and the next place is the end at most
pub record IsNextFor (pass : Pass) (from next end : ℕ) (entries : List Entry) : Type 0 where
  pub after : from ≤ next
  pub within : next ≤ end
  pub none : (j : ℕ) (entry : Entry) → slice_get entries j ≡ Some entry → from ≤ j → j < next → touches pass entry.seed ≡ false
