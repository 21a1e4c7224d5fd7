-- One entry of a list is written: what stands at its place, and at the others.
use Rattle.std.proofs.Common.{◌≡◌, ◌≢◌, ℕ, ◌<◌, ◌≤◌, List, length, sym, ◌∙◌, slice_get, unwrap_or}
use Rattle.std.specs.Prelude.{slice_set}
use Rattle.std.proofs.lemmas.List.{get_or-set_same, get_or-set_other, get_or_past}
use Rattle.std.proofs.lemmas.Option.{unwrap_or-slice_get}

pub set_here : {X : Type 0} (p : ℕ) (x d : X) (xs : List X) → p < length xs → unwrap_or (slice_get (slice_set xs p x) p) d ≡ x
set_here p x d xs within = unwrap_or-slice_get (slice_set xs p x) p d ∙ get_or-set_same xs p x d within

pub set_there : {X : Type 0} (p q : ℕ) (x d : X) (xs : List X) → q ≢ p → unwrap_or (slice_get (slice_set xs p x) q) d ≡ unwrap_or (slice_get xs q) d
set_there p q x d xs other = unwrap_or-slice_get (slice_set xs p x) q d ∙ get_or-set_other xs p q x d other ∙ sym (unwrap_or-slice_get xs q d)

pub past_end : {X : Type 0} (p : ℕ) (d : X) (xs : List X) → length xs ≤ p → unwrap_or (slice_get xs p) d ≡ d
past_end p d xs past = unwrap_or-slice_get xs p d ∙ get_or_past xs p d past
