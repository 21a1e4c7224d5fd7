-- What is left in a sink of pieces that were written one after another: all of them, or those up to a cut.
use Rattle.std.specs.Prelude.{◌≡◌, ◌≢◌, ℕ, List, [], ◌++◌, take, slice_get, Option, Some, None}
use Rattle.std.specs.List.{concat}
use Rattle.pm_io.specs.declared.sink.Sink as Sink
use Rattle.pm_io.specs.Sink.{Appended, HasFailed, Wrote}

module _ {O : Type 0} (o : Sink.Ghosts O) where
  -- of these pieces those before place k were written and a part of the one there, not all of it, up to a moment at which
  -- nothing had failed. Then the sink failed, and nothing was appended after it
  pub record BreaksIn (k : ℕ) (pieces : List (List ℕ)) (old new : O) : Type 0 where
    pub piece : List ℕ
    pub part : List ℕ
    pub lost : List ℕ
    pub before : O
    pub is : slice_get pieces k ≡ Some piece
    pub split : piece ≡ part ++ lost
    pub short : lost ≢ []
    pub wrote : Wrote o.observable (concat (take k pieces) ++ part) (o.state old) (o.state before)
    pub failed : HasFailed (o.state before) (o.state new)
    pub ended : Appended o.observable [] (o.state before) (o.state new)

  -- all of these pieces were written, or those up to a cut within the piece at a place
  abbrev pub Leaves : List (List ℕ) → Option ℕ → O → O → Type 0
  Leaves pieces None old new = Wrote o.observable (concat pieces) (o.state old) (o.state new)
  Leaves pieces (Some k) old new = BreaksIn k pieces old new
