-- What is attached is a well-formed object, if it is one.
use Rattle.std.proofs.Common.{◌≡◌, ℕ, ◌<◌, List, [], ◌∷◌, map, Result, Ok, Err, refl, sym, subst, arith}
use Rattle.std.specs.List.{AllByRecursion as Each}
use Rattle.std.specs.Int.{w32, to_le_bytes}
use Rattle.std.proofs.lemmas.List.Concat.{flat_map-cons}
use Rattle.std.proofs.lemmas.List.Elements.{All-from_recursion}
use Rattle.pm_base.proofs.Elements.{AllByRecursion-append}
use Rattle.pm_base.specs.declared.events.Event.{Event}
use Rattle.pm_object.specs.declared.object.Object.{Object}
use Rattle.pm_object.specs.declared.object.ObjectFault.{ObjectFault}
use Rattle.pm_object.specs.declared.attached.Content.TheVariants as content
use Rattle.pm_object.specs.Grammar.{IsObject, little_endian}
use Rattle.pm_object.specs.Reading.{reading}
use Rattle.pm_object.proofs.Bytes.{IsBytes, bytes_fit}
use Rattle.pm_object.proofs.ReadObject.{reads_what_it_reads}
use Rattle.pm_block.specs.declared.block.Piece.{Piece}
use Rattle.pm_block.specs.Block.{attached_by, pieces_of}
use Rattle.pm_object.specs.Attached.{IsFormed}
use Rattle.pm_block.specs.Pieces.{attached_in, content_of}

-- words are spelled by bytes
word_bytes : (word : ℕ) → Each (λ b. b < 256) (to_le_bytes w32 word)
word_bytes word = (omega arith, (omega arith, (omega arith, (omega arith, tt))))

each_byte : (words : List ℕ) → Each (λ b. b < 256) (little_endian words)
each_byte [] = tt
each_byte (word ∷ words) =
    subst (λ (bytes : List ℕ). Each (λ b. b < 256) bytes) (sym (flat_map-cons (to_le_bytes w32) word words))
    (AllByRecursion-append (λ b. b < 256) (to_le_bytes w32 word) (little_endian words) (word_bytes word) (each_byte words))

-- an object that is read is well formed
read_is : (bytes : List ℕ) (read : Result Object ObjectFault) (o : Object) → IsBytes bytes → reading bytes ≡ read → content_of read ≡ content.Object o → IsObject o
read_is bytes (Ok p) o fit is same = let this : p ≡ o = cc in subst IsObject this (reads_what_it_reads bytes p fit is).object
read_is bytes (Err fault) o fit is same = cc

each_formed : (pieces : List Piece) → Each IsFormed (map attached_in pieces)
each_formed [] = tt
each_formed (piece ∷ pieces) = (
  λ o same. read_is (little_endian piece.words) (reading (little_endian piece.words)) o (bytes_fit (little_endian piece.words) (All-from_recursion (λ b. b < 256) (little_endian piece.words) (each_byte piece.words))) refl same,
  each_formed pieces,
)

pub all_formed : (events : List Event) → Each IsFormed (attached_by events)
all_formed events = each_formed (pieces_of events)
