-- What is kept of words that are attached tells as much as all of them.
use Rattle.std.proofs.Common.{◌≡◌, ℕ, zero, suc, ◌-◌, ◌*◌, ◌<◌, ◌≤◌, ◌||◌, Bool, true, false, List, [], ◌∷◌, ◌++◌, length, map, min, take, Option, Some, None, is_some, position, get_or, slice_get, nat_le, nat_lt, refl, sym, ap, ◌∙◌, arith}
use Rattle.std.specs.Prelude.{slice_set}
use Rattle.std.specs.List.{list_any}
use Rattle.std.proofs.lemmas.Bool.Decides.{nat_tests}
use Rattle.std.proofs.lemmas.List.{take_all, length-map, length-take-le}
use Rattle.std.proofs.lemmas.Option.{get_or_from_slice_get}
use Rattle.pm_base.proofs.Searches.{position-first, position-none}
use Rattle.pm_block.specs.declared.block.Piece.{Piece}
use Rattle.pm_object.specs.declared.object.ObjectCause.TheVariants.{TooLong}
use Rattle.pm_block.specs.Pieces.{attached_in, content_of, has_piece, is_at, kept, most_attached, most_kept, takes, with_words}
use Rattle.pm_object.specs.Grammar.{little_endian, most_words}
use Rattle.pm_object.specs.Reading.{fault, reading}
use Rattle.pm_object.proofs.Bytes.{length_little_endian}

-- ---- words behind those that are kept

kept_join : (n : ℕ) (old more : List ℕ) → take n old ++ take (n - length (take n old)) more ≡ take n (old ++ more)
kept_join zero old more = refl
kept_join (suc n) [] more = let all : suc n - 0 ≡ suc n = omega arith in ap (λ (k : ℕ). take k more) all
kept_join (suc n) (x ∷ old) more =
    let left : suc n - suc (length (take n old)) ≡ n - length (take n old) = omega arith in
    ap (λ (rest : List ℕ). x ∷ rest) (ap (λ (k : ℕ). take n old ++ take k more) left ∙ kept_join n old more)

-- no more than all of them
pub take_fewer : (n : ℕ) (words : List ℕ) (count : ℕ) → count ≡ min n (length words) → take count words ≡ take n words
take_fewer n words count is = by (nat_le n (length words)) refl
  where
    by : (few : Bool) → nat_le n (length words) ≡ few → take count words ≡ take n words
    by true few = let same : count ≡ n = grind (arith, nat_tests) in ap (λ (k : ℕ). take k words) same
    by false few =
        let all : count ≡ length words = grind (arith, nat_tests) in
        ap (λ (k : ℕ). take k words) all ∙ take_all (length words) words (omega arith) ∙ sym (take_all n words (grind (arith, nat_tests)))

-- a piece with more words, of which those are kept for which there is room
abbrev pub extended : List ℕ → Piece → Piece
extended words piece = record piece { words = piece.words ++ take (most_kept - length piece.words) words }

extended_kept : (words : List ℕ) (piece : Piece) → extended words (kept piece) ≡ kept (record piece { words = piece.words ++ words })
extended_kept words piece = ap (λ (all : List ℕ). record piece { words = all }) (kept_join most_kept piece.words words)

-- ---- words at an address that has some

-- the first piece at the address
words_here : (address : ℕ) (words : List ℕ) (pieces : List Piece) (k : ℕ) (piece : Piece)
    → slice_get (map kept pieces) k ≡ Some piece → is_at address piece ≡ true
    → ((j : ℕ) (earlier : Piece) → j < k → slice_get (map kept pieces) j ≡ Some earlier → is_at address earlier ≡ false)
    → slice_set (map kept pieces) k (extended words piece) ≡ map kept (with_words address words pieces)
words_here address words [] k piece here passes least = cc
words_here address words (first ∷ pieces) zero piece here passes least =
    let same : kept first ≡ piece = cc in
    let at : is_at address first ≡ true = ap (is_at address) same ∙ passes in
    rw at (ap (λ (p : Piece). p ∷ map kept pieces) (ap (extended words) (sym same) ∙ extended_kept words first))
words_here address words (first ∷ pieces) (suc k) piece here passes least =
    let other : is_at address first ≡ false = least 0 (kept first) (omega arith) refl in
    rw other (ap (λ (rest : List Piece). kept first ∷ rest) (words_here address words pieces k piece here passes (λ j earlier before there. least (suc j) earlier (omega arith) there)))

words_at_place : (address : ℕ) (words : List ℕ) (pieces : List Piece) (k : ℕ) (piece : Piece)
    → position (is_at address) (map kept pieces) ≡ Some k → slice_get (map kept pieces) k ≡ Some piece
    → slice_set (map kept pieces) k (extended words piece) ≡ map kept (with_words address words pieces)
words_at_place address words pieces k piece found here =
    let first = position-first (is_at address) (map kept pieces) k found in
    let same : first.element ≡ piece = cc in
    words_here address words pieces k piece here (ap (is_at address) (sym same) ∙ first.passes) first.least

-- the piece at a place is the old one with more words
extended_is : (words : List ℕ) (old new : Piece) → new.address ≡ old.address → new.words ≡ old.words ++ take (most_kept - length old.words) words → new ≡ extended words old
extended_is words old new same more =
    ap (λ (n : ℕ). record new { address = n }) same ∙ ap (λ (ws : List ℕ). record old { words = ws }) more

pub added_at : (address : ℕ) (words : List ℕ) (pieces held : List Piece) (k : ℕ) (old new : Piece) → held ≡ map kept pieces
    → position (is_at address) held ≡ Some k → old ≡ get_or held k old
    → new.address ≡ old.address → new.words ≡ old.words ++ take (most_kept - length old.words) words
    → slice_set held k new ≡ map kept (with_words address words pieces)
added_at address words pieces held k old new is found value same more =
    let first = position-first (is_at address) held k found in
    let there : slice_get held k ≡ Some old =
    first.here ∙ ap Some (sym (get_or_from_slice_get held k first.element old first.here) ∙ sym value)
    in
    ap (λ (ps : List Piece). slice_set ps k new) is
    ∙ (ap (λ (p : Piece). slice_set (map kept pieces) k p) (extended_is words old new same more)
    ∙ words_at_place address words pieces k old (sym (ap (λ (ps : List Piece). position (is_at address) ps) is) ∙ found) (sym (ap (λ (ps : List Piece). slice_get ps k) is) ∙ there))

-- ---- words at another address

words_behind : (address : ℕ) (words : List ℕ) (pieces : List Piece) → ((k : ℕ) (piece : Piece) → slice_get (map kept pieces) k ≡ Some piece → is_at address piece ≡ false)
    → map kept pieces ++ extended words (record { address = address; words = [] }) ∷ [] ≡ map kept (with_words address words pieces)
words_behind address words [] none = refl
words_behind address words (first ∷ pieces) none =
    let other : is_at address first ≡ false = none 0 (kept first) refl in
    rw other (ap (λ (rest : List Piece). kept first ∷ rest) (words_behind address words pieces (λ k piece there. none (suc k) piece there)))

words_in_new_place : (address : ℕ) (words : List ℕ) (pieces : List Piece) → position (is_at address) (map kept pieces) ≡ None
    → map kept pieces ++ extended words (record { address = address; words = [] }) ∷ [] ≡ map kept (with_words address words pieces)
words_in_new_place address words pieces none = words_behind address words pieces (position-none (is_at address) (map kept pieces) none)

pub added_behind : (address : ℕ) (words : List ℕ) (pieces held : List Piece) (none : List ℕ) (new : Piece) → held ≡ map kept pieces
    → position (is_at address) held ≡ None → none ≡ [] → new.address ≡ address → new.words ≡ none ++ take (most_kept - length none) words
    → held ++ new ∷ [] ≡ map kept (with_words address words pieces)
added_behind address words pieces held none new is found empty same more =
    let first : new.words ≡ [] ++ take (most_kept - length {A = ℕ} []) words = more ∙ ap (λ (ws : List ℕ). ws ++ take (most_kept - length ws) words) empty in
    ap (λ (ps : List Piece). ps ++ new ∷ []) is
    ∙ (ap (λ (p : Piece). map kept pieces ++ p ∷ []) (extended_is words (record { address = address; words = [] }) new same first)
    ∙ words_in_new_place address words pieces (sym (ap (λ (ps : List Piece). position (is_at address) ps) is) ∙ found))

-- ---- whether words can be attached at an address

any_here : {X : Type 0} (test : X → Bool) (xs : List X) (k : ℕ) (x : X) → slice_get xs k ≡ Some x → test x ≡ true → list_any test xs ≡ true
any_here test [] k x here passes = cc
any_here test (y ∷ xs) zero x here passes = let same : y ≡ x = cc in rw (ap test same ∙ passes) refl
any_here test (y ∷ xs) (suc k) x here passes = by (test y) (any_here test xs k x here passes)
  where
    by : (first : Bool) → list_any test xs ≡ true → (first || list_any test xs) ≡ true
    by true later = refl
    by false later = later

any_nowhere : {X : Type 0} (test : X → Bool) (xs : List X) → ((k : ℕ) (x : X) → slice_get xs k ≡ Some x → test x ≡ false) → list_any test xs ≡ false
any_nowhere test [] none = refl
any_nowhere test (y ∷ xs) none =
    ap (λ (b : Bool). b || list_any test xs) (none 0 y refl) ∙ any_nowhere test xs (λ k x there. none (suc k) x there)

some_place : (address : ℕ) (pieces : List Piece) (place : Option ℕ) → position (is_at address) pieces ≡ place → is_some place ≡ has_piece address pieces
some_place address pieces None none = sym (any_nowhere (is_at address) pieces (position-none (is_at address) pieces none))
some_place address pieces (Some k) found =
    let first = position-first (is_at address) pieces k found in
    sym (any_here (is_at address) pieces k first.element first.here first.passes)

has_kept : (address : ℕ) (pieces : List Piece) → has_piece address (map kept pieces) ≡ has_piece address pieces
has_kept address [] = refl
has_kept address (piece ∷ pieces) = ap (λ (later : Bool). is_at address piece || later) (has_kept address pieces)

takes_kept : (address : ℕ) (pieces held : List Piece) → held ≡ map kept pieces → (is_some (position (is_at address) held) || nat_lt (length held) most_attached) ≡ takes address pieces
takes_kept address pieces held is =
    ap (λ (ps : List Piece). is_some (position (is_at address) ps) || nat_lt (length ps) most_attached) is
    ∙ ap (λ (b : Bool). b || nat_lt (length (map kept pieces)) most_attached) (some_place address (map kept pieces) (position (is_at address) (map kept pieces)) refl ∙ has_kept address pieces)
    ∙ ap (λ (n : ℕ). has_piece address pieces || nat_lt n most_attached) (length-map pieces kept)

or_first : (first second whole : Bool) → (first || second) ≡ whole → first ≡ true → first ≡ whole
or_first true second whole is passes = is
or_first false second whole is passes = cc

or_second : (first second whole : Bool) → (first || second) ≡ whole → first ≡ false → second ≡ whole
or_second true second whole is fails = cc
or_second false second whole is fails = is

pub takes_here : (address : ℕ) (pieces held : List Piece) (found : Bool) → held ≡ map kept pieces → found ≡ is_some (position (is_at address) held) → found ≡ true
    → found ≡ takes address pieces
takes_here address pieces held found is looked has =
    looked ∙ or_first (is_some (position (is_at address) held)) (nat_lt (length held) most_attached) (takes address pieces) (takes_kept address pieces held is) (sym looked ∙ has)

pub takes_few : (address : ℕ) (pieces held : List Piece) (found : Bool) (count : ℕ) → held ≡ map kept pieces → found ≡ is_some (position (is_at address) held) → found ≡ false
    → count ≡ length held → nat_lt count most_attached ≡ takes address pieces
takes_few address pieces held found count is looked has many =
    ap (λ (n : ℕ). nat_lt n most_attached) many
    ∙ or_second (is_some (position (is_at address) held)) (nat_lt (length held) most_attached) (takes address pieces) (takes_kept address pieces held is) (sym looked ∙ has)

-- ---- what is attached

-- too many words are told by their number
too_long : (words : List ℕ) → most_words < length words → reading (little_endian words) ≡ fault TooLong most_words
unfolding reading
too_long words many =
    let over : nat_lt (4 * most_words) (length (little_endian words)) ≡ true = grind (arith, nat_tests, length_little_endian words) in
    rw over refl

reads_kept : (words : List ℕ) → reading (little_endian (take most_kept words)) ≡ reading (little_endian words)
reads_kept words = by (nat_le (length words) most_kept) refl
  where
    by : (few : Bool) → nat_le (length words) most_kept ≡ few → reading (little_endian (take most_kept words)) ≡ reading (little_endian words)
    by true few = ap (λ (ws : List ℕ). reading (little_endian ws)) (take_all most_kept words (grind (arith, nat_tests)))
    by false many =
        let more : most_kept ≤ length words = grind (arith, nat_tests) in
        too_long (take most_kept words) (omega (arith, length-take-le most_kept words more)) ∙ sym (too_long words (omega arith))

attached_kept : (piece : Piece) → attached_in (kept piece) ≡ attached_in piece
attached_kept piece = ap (λ read. record { address = piece.address; content = content_of read }) (reads_kept piece.words)

all_kept : (pieces : List Piece) → map attached_in (map kept pieces) ≡ map attached_in pieces
all_kept [] = refl
all_kept (piece ∷ pieces) = ap (λ attached. attached ∷ map attached_in (map kept pieces)) (attached_kept piece) ∙ ap (λ rest. attached_in piece ∷ rest) (all_kept pieces)

pub attached_by_kept : (pieces held : List Piece) → held ≡ map kept pieces → map attached_in held ≡ map attached_in pieces
attached_by_kept pieces held is = ap (map attached_in) is ∙ all_kept pieces
