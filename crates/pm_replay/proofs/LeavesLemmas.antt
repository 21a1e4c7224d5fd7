-- Pieces that are written one after another, up to a cut.
use Rattle.std.proofs.Common.{ℕ, ◌+◌, List, [], ◌∷◌, ◌++◌, length, Option, Some, None, sym}
use Rattle.std.specs.List.{concat}
use Rattle.std.proofs.lemmas.List.{append-nil}
use Rattle.std.proofs.lemmas.List.Folds.{concat-append}
use Rattle.pm_io.specs.declared.sink.Sink as Sink
use Rattle.pm_io.specs.Sink.{Wrote}
use Rattle.pm_io.specs.Writing.{Leaves}
use Rattle.pm_io.proofs.SinkLemmas.{BreaksIn-after, BreaksIn-before, Wrote-is, Wrote-trans}

-- a cut that is counted behind so many pieces
abbrev pub behind : ℕ → Option ℕ → Option ℕ
behind m None = None
behind m (Some k) = Some (m + k)

module _ {O : Type 0} (o : Sink.Ghosts O) where
  pub Leaves-append : (done pieces : List (List ℕ)) (cut : Option ℕ) (first mid last : O) → Wrote o.observable (concat done) (o.state first) (o.state mid) → Leaves o pieces cut mid last → Leaves o (done ++ pieces) (behind (length done) cut) first last
  Leaves-append done pieces None first mid last before after =
      Wrote-is o.observable (concat done ++ concat pieces) (concat (done ++ pieces)) (o.state first) (o.state last) (sym (concat-append done pieces))
      (Wrote-trans o.observable (concat done) (concat pieces) (o.state first) (o.state mid) (o.state last) before after)
  Leaves-append done pieces (Some k) first mid last before after = BreaksIn-after o done pieces k first mid last before after

  pub Leaves-cons : (piece : List ℕ) (pieces : List (List ℕ)) (cut : Option ℕ) (first mid last : O) → Wrote o.observable piece (o.state first) (o.state mid) → Leaves o pieces cut mid last → Leaves o (piece ∷ pieces) (behind 1 cut) first last
  Leaves-cons piece pieces cut first mid last before after =
      Leaves-append (piece ∷ []) pieces cut first mid last (Wrote-is o.observable piece (piece ++ []) (o.state first) (o.state mid) (sym (append-nil piece)) before) after

  -- so up to a cut, if other pieces would have followed
  pub Leaves-before : (pieces more : List (List ℕ)) (k : ℕ) (first last : O) → Leaves o pieces (Some k) first last → Leaves o (pieces ++ more) (Some k) first last
  Leaves-before pieces more k first last breaks = BreaksIn-before o pieces more k first last breaks
