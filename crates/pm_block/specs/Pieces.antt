-- Words that lines attach at addresses, joined: a piece is the words at one address.
use Rattle.std.specs.Prelude.{ℕ, ◌+◌, Bool, ◌==◌, ◌||◌, ◌++◌, nat_lt, if◌then◌else◌, List, [], ◌∷◌, length, take, Result, Ok, Err}
use Rattle.std.specs.List.{list_any}
use Rattle.pm_object.specs.declared.object.Object.{Object}
use Rattle.pm_object.specs.declared.object.ObjectFault.{ObjectFault}
use Rattle.pm_object.specs.declared.attached.Attached.{Attached}
use Rattle.pm_object.specs.declared.attached.Content.{Content}
use Rattle.pm_object.specs.declared.attached.Content.TheVariants as content
use Rattle.pm_object.specs.Grammar.{little_endian, most_words}
use Rattle.pm_object.specs.Reading.{reading}
use Rattle.pm_block.specs.declared.block.Piece.{Piece}

-- how many different addresses have something attached
abbrev pub most_attached : ℕ
most_attached = 16

-- a piece is the words at an address; there is a piece of this address
abbrev pub is_at : ℕ → Piece → Bool
is_at address piece = piece.address == address

abbrev pub has_piece : ℕ → List Piece → Bool
has_piece address pieces = list_any (is_at address) pieces

-- words can be attached at an address that has some, and at a further one while there are few
abbrev pub takes : ℕ → List Piece → Bool
takes address pieces = has_piece address pieces || nat_lt (length pieces) most_attached

-- words more at an address: behind those that are there, and otherwise in a piece of their own behind all others
abbrev pub with_words : ℕ → List ℕ → List Piece → List Piece
with_words address words [] = record { address = address; words = words } ∷ []
with_words address words (piece ∷ pieces) =
    if is_at address piece then record piece { words = piece.words ++ words } ∷ pieces else piece ∷ with_words address words pieces

-- no object has more words than `most_words`, so of more words one more than these tells as much
abbrev pub most_kept : ℕ
most_kept = most_words + 1

-- what is kept of a piece
abbrev pub kept : Piece → Piece
kept piece = record piece { words = take most_kept piece.words }

-- what words are: the object that they spell, or the first thing that is wrong
abbrev pub content_of : Result Object ObjectFault → Content
content_of (Ok object) = content.Object object
content_of (Err fault) = content.Bad fault

abbrev pub attached_in : Piece → Attached
attached_in piece = record { address = piece.address; content = content_of (reading (little_endian piece.words)) }
