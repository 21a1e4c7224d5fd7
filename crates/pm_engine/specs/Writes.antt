-- A piece of the text of a run is written, as far as the sink takes it.
use Rattle.std.specs.Prelude.{◌≡◌, ℕ, List, [], ◌∷◌, Result, Ok, Err, ⊤}
use Rattle.pm_base.specs.declared.errors.Failed.{Failed}
use Rattle.pm_io.specs.declared.sink.Sink as Sink
use Rattle.pm_io.specs.Sink.{Wrote}
use Rattle.pm_io.specs.Writing.{BreaksIn}

module _ {O : Type 0} (o : Sink.Ghosts O) where
  -- a piece was written, by the result
  abbrev pub Writes : List ℕ → O → O → Result ⊤ Failed → Type 0
  Writes piece old new (Ok nothing) = Wrote o.observable piece (o.state old) (o.state new)
  Writes piece old new (Err error) = BreaksIn o 0 (piece ∷ []) old new

  -- more of a line was written, by how its writing stood before: a sink that has failed is given nothing more
  abbrev pub WritesOn : List ℕ → Result ⊤ Failed → Result ⊤ Failed → O → O → Type 0
  WritesOn piece (Ok nothing) result old new = Writes piece old new result
  WritesOn piece (Err error) result old new = (result ≡ Err error) × (old ≡ new)
