-- Places in rising order.
use Rattle.std.specs.Prelude.{◌≡◌, ℕ, ◌+◌, ◌<◌, ◌≤◌, false, List, [], ◌∷◌, length, slice_index_or, ⊤}
use Rattle.pm_base.specs.Places.{has_place}

-- places that rise, from this one on and below this end
abbrev pub RiseWithin : ℕ → ℕ → List ℕ → Type 0
RiseWithin low end [] = ⊤
RiseWithin low end (p ∷ places) = (low ≤ p) × (p < end) × RiseWithin (p + 1) end places

-- the place stands between those before the i-th and those from it on
pub record StandsBefore (places : List ℕ) (place i : ℕ) : Type 0 where
  pub within : i ≤ length places
  pub less : (k : ℕ) → k < i → slice_index_or places k 0 < place
  pub more : (k : ℕ) → i ≤ k → k < length places → place < slice_index_or places k 0

-- none of these places stands from here on and before the next, which is the end at most
pub record IsNext (end : ℕ) (places : List ℕ) (from next : ℕ) : Type 0 where
  pub after : from ≤ next
  pub within : next ≤ end
  pub none : (k : ℕ) → from ≤ k → k < next → has_place places k ≡ false
