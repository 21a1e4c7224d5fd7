-- The lines of a block stay lines when the block was read.
use Rattle.std.proofs.Common.{◌≡◌, ℕ, suc, Bool, true, false, List, [], ◌∷◌, length, if◌then◌else◌, refl, ap}
use Rattle.pm_base.specs.declared.events.Event.{Event}
use Rattle.pm_base.specs.declared.events.Event.TheVariants.{Attach, Pass}
use Rattle.pm_block.specs.declared.block.Piece.{Piece}
use Rattle.pm_block.specs.Pieces.{takes, with_words}
use Rattle.pm_block.specs.Block.{passed_from}

either_long : (n : ℕ) (b : Bool) (first second : List Event) → length first ≡ n → length second ≡ n → length (if b then first else second) ≡ n
either_long n true first second is other = is
either_long n false first second is other = other

pub length_passed : (pieces : List Piece) (events : List Event) → length (passed_from pieces events) ≡ length events
length_passed pieces [] = refl
length_passed pieces (Attach address words ∷ events) =
    either_long (suc (length events)) (takes address pieces) (Pass ∷ passed_from (with_words address words pieces) events) (Attach address words ∷ events)
    (ap suc (length_passed (with_words address words pieces) events)) refl
length_passed pieces (event ∷ events) = refl
