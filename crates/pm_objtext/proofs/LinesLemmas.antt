-- A line in front of a text.
use Rattle.std.proofs.Common.{◌≡◌, ℕ, ◌<◌, false, List, [], ◌∷◌, ◌++◌, length, refl, arith}
use Rattle.std.specs.List.{All}
use Rattle.std.proofs.lemmas.List.Splits.{slice_split_at, length-slice_split}
use Rattle.pm_io.specs.Lines.{parts_of, lines_of_parts, lines_of}
use Rattle.pm_io.proofs.LinesLemmas.{is_feed}

part_is_line : (part : List ℕ) (parts : List (List ℕ)) → 0 < length parts → lines_of_parts 1 (part ∷ parts) ≡ part ∷ lines_of_parts 1 parts
part_is_line part [] some = absurd (omega arith)
part_is_line part (next ∷ parts) some = refl

pub lines_of-line : (line text : List ℕ) → All (λ byte. is_feed byte ≡ false) line → lines_of (line ++ 10 ∷ text) ≡ line ∷ lines_of text
lines_of-line line text plain = rw (slice_split_at is_feed line 10 text plain refl) (part_is_line line (parts_of text) (omega (arith, length-slice_split is_feed text)))
