-- An item of a line has at most 16 numbers, of 32 bits.
use Rattle.std.proofs.Common.{◌≡◌, ℕ, zero, suc, ◌+◌, ◌^◌, ◌<◌, ◌≤◌, ap, sym, Bool, true, false, leb, nat_lt, cond, List, [], ◌∷◌, length, get_or, drop, Option, Some, None, slice_get, option_and_then, refl, subst, arith}
use Rattle.std.specs.Option.{option_map}
use Rattle.std.proofs.lemmas.Bool.Decides.{nat_tests}
use Rattle.pm_object.specs.declared.object.Pair.{Pair}
use Rattle.pm_object.specs.declared.object.Section.{Section}
use Rattle.pm_object.specs.Grammar.{pair_words}
use Rattle.pm_io.specs.Words.{word_texts}
use Rattle.pm_io.specs.Numbers.{number_of, at_most, numbers_in, greatest_number}
use Rattle.pm_objtext.specs.declared.names.Keyword.{Keyword}
use Rattle.pm_objtext.specs.declared.names.Keyword.TheVariants as keywords
use Rattle.pm_objtext.specs.declared.item.Item.{Item}
use Rattle.pm_objtext.specs.declared.item.Item.TheVariants.{Empty, Header, Opens, Power, Reset, Shutdown}
use Rattle.pm_io.specs.Lines.{is_readable}
use Rattle.pm_objtext.specs.Reading.{number, numbers, keyword_of, section_of, opening, pair_of, record_of, keyword_item, words_item, item_of}
use Rattle.pm_objtext.proofs.ItemTexts.{AreSmall, Fits}
use Rattle.pm_objtext.proofs.Walks.{found_some, mapped_some}

only_some : {A : Type 0} (b : Bool) (x y : A) → cond b (Some x) None ≡ Some y → (b ≡ true) × (x ≡ y)
only_some true x y is = (refl, cc)
only_some false x y is = cc

at_most_small : (o : Option ℕ) (n : ℕ) → at_most 4294967295 o ≡ Some n → n < 2 ^ 32
at_most_small None n is = cc
at_most_small (Some value) n is =
    let both = only_some (leb value 4294967295) value n is in
    let fits = both.0 in
    let same = both.1 in
    grind (arith, nat_tests)

first_small : (o : Option (List ℕ)) (n : ℕ) (ns : List ℕ) → n < 2 ^ 32 → ((ms : List ℕ) → o ≡ Some ms → AreSmall ms) → option_map (λ (ns : List ℕ). n ∷ ns) o ≡ Some ns → AreSmall ns
first_small None n ns small others is = cc
first_small (Some ms) n ns small others is = let same : n ∷ ms ≡ ns = cc in subst AreSmall same (small, others ms refl)

numbers_in-small : (words : List (List ℕ)) (ns : List ℕ) → numbers_in greatest_number words ≡ Some ns → AreSmall ns
numbers_in-small [] ns is = let same : [] ≡ ns = cc in subst AreSmall same tt
numbers_in-small (word ∷ words) ns is =
    let found = found_some (λ n. option_map (λ (ns : List ℕ). n ∷ ns) (numbers_in greatest_number words)) (number word) ns is in
    first_small (numbers_in greatest_number words) found.0 ns (at_most_small (number_of word) found.0 found.1) (λ ms read. numbers_in-small words ms read) found.2

not_refused : (b : Bool) (o : Option (List ℕ)) (ns : List ℕ) → cond b None o ≡ Some ns → o ≡ Some ns
not_refused true o ns is = cc
not_refused false o ns is = is

numbers-small : (words : List (List ℕ)) (ns : List ℕ) → numbers words ≡ Some ns → AreSmall ns
unfolding numbers
numbers-small words ns is = numbers_in-small words ns (not_refused (nat_lt 16 (length words)) (numbers_in greatest_number words) ns is)

first_count : (o : Option (List ℕ)) (n : ℕ) (ns : List ℕ) (count : ℕ) → ((ms : List ℕ) → o ≡ Some ms → length ms ≡ count) → option_map (λ (ns : List ℕ). n ∷ ns) o ≡ Some ns → length ns ≡ count + 1
first_count None n ns count others is = cc
first_count (Some ms) n ns count others is = let same : n ∷ ms ≡ ns = cc in omega (arith, ap length same, others ms refl)

numbers_in-count : (words : List (List ℕ)) (ns : List ℕ) → numbers_in greatest_number words ≡ Some ns → length ns ≡ length words
numbers_in-count [] ns is = let same : [] ≡ ns = cc in ap length (sym same)
numbers_in-count (word ∷ words) ns is =
    let found = found_some (λ n. option_map (λ (ns : List ℕ). n ∷ ns) (numbers_in greatest_number words)) (number word) ns is in
    omega (arith, first_count (numbers_in greatest_number words) found.0 ns (length words) (λ ms read. numbers_in-count words ms read) found.2)

few_words : (b : Bool) (o : Option (List ℕ)) (ns : List ℕ) → cond b None o ≡ Some ns → b ≡ false
few_words true o ns is = cc
few_words false o ns is = refl

numbers-few : (words : List (List ℕ)) (ns : List ℕ) → numbers words ≡ Some ns → length ns ≤ 16
unfolding numbers
numbers-few words ns is =
    let few = few_words (nat_lt 16 (length words)) (numbers_in greatest_number words) ns is in
    let count = numbers_in-count words ns (not_refused (nat_lt 16 (length words)) (numbers_in greatest_number words) ns is) in
    grind (arith, nat_tests)

small_at : (ns : List ℕ) (k : ℕ) → AreSmall ns → get_or ns k 0 < 2 ^ 32
small_at [] k small = omega arith
small_at (n ∷ ns) zero small = small.0
small_at (n ∷ ns) (suc k) small = small_at ns k small.1

-- the item that is answered, instead of the one that is made
as_answered : (x y : Item) → x ≡ y → Fits x → Fits y
as_answered x y same fits = subst Fits same fits

-- the pair of a line, whose numbers have 32 bits
pair_found : (say : Pair → Item) (ns : List ℕ) (item : Item) → AreSmall ns → option_map say (pair_of ns) ≡ Some item → (pair : Pair) × AreSmall (pair_words pair) × (say pair ≡ item)
pair_found say ns item small is =
    let found = mapped_some say (pair_of ns) item is in
    let made = only_some _ _ found.0 found.1 in
    (found.0, subst (λ (p : Pair). AreSmall (pair_words p)) made.1 (small_at ns 0 small, (small_at ns 1 small, tt)), found.2)

record_of-fits : (k : Keyword) (ns : List ℕ) (item : Item) → AreSmall ns → length ns ≤ 16 → record_of k ns ≡ Some item → Fits item
record_of-fits keywords.Header ns item small few is = as_answered (Header (record { items = ns })) item (cc) (record { small = small; few = few })
record_of-fits keywords.Section ns item small few is = cc
record_of-fits keywords.Master ns item small few is = as_answered _ item (only_some _ _ item is).1 (record { small = (small_at ns 0 small, (small_at ns 1 small, (small_at ns 2 small, (small_at ns 3 small, (small_at ns 4 small, tt))))); few = omega arith })
record_of-fits keywords.Slave ns item small few is = as_answered _ item (only_some _ _ item is).1 (record { small = (small_at ns 0 small, (small_at ns 1 small, (small_at ns 2 small, tt))); few = omega arith })
record_of-fits keywords.Group ns item small few is = as_answered _ item (only_some _ _ item is).1 (record { small = (small_at ns 0 small, tt); few = omega arith })
record_of-fits keywords.Prefer ns item small few is = as_answered _ item (only_some _ _ item is).1 (record { small = (small_at ns 0 small, (small_at ns 1 small, (small_at ns 2 small, (small_at ns 3 small, tt)))); few = omega arith })
record_of-fits keywords.Power ns item small few is = let found = pair_found Power ns item small is in as_answered (Power found.0) item found.2 (record { small = found.1; few = omega arith })
record_of-fits keywords.Reset ns item small few is = let found = pair_found Reset ns item small is in as_answered (Reset found.0) item found.2 (record { small = found.1; few = omega arith })
record_of-fits keywords.Shutdown ns item small few is = let found = pair_found Shutdown ns item small is in as_answered (Shutdown found.0) item found.2 (record { small = found.1; few = omega arith })
record_of-fits keywords.Config ns item small few is = as_answered _ item (only_some _ _ item is).1 (record { small = (small_at ns 0 small, (small_at ns 1 small, tt)); few = omega arith })
record_of-fits keywords.Gpo ns item small few is = as_answered _ item (only_some _ _ item is).1 (record { small = (small_at ns 0 small, tt); few = omega arith })

numbered : (k : Keyword) (words : List (List ℕ)) (item : Item) → option_and_then (record_of k) (numbers (drop 1 words)) ≡ Some item → Fits item
numbered k words item is =
    let found = found_some (record_of k) (numbers (drop 1 words)) item is in
    record_of-fits k found.0 item (numbers-small (drop 1 words) found.0 found.1) (numbers-few (drop 1 words) found.0 found.1) found.2

opens_fits : (o : Option Section) (item : Item) → option_map Opens o ≡ Some item → Fits item
opens_fits None item is = cc
opens_fits (Some s) item is = as_answered (Opens s) item (cc) (record { small = tt; few = omega arith })

opening-fits : (name more : Option (List ℕ)) (item : Item) → opening name more ≡ Some item → Fits item
opening-fits None more item is = cc
opening-fits (Some name) None item is = opens_fits (section_of name) item is
opening-fits (Some name) (Some word) item is = cc

keyword_item-fits : (k : Keyword) (words : List (List ℕ)) (item : Item) → keyword_item k words ≡ Some item → Fits item
keyword_item-fits keywords.Section words item is = opening-fits (slice_get words 1) (slice_get words 2) item is
keyword_item-fits k words item is = numbered k words item is

words_item-fits : (first : Option (List ℕ)) (words : List (List ℕ)) (item : Item) → words_item first words ≡ Some item → Fits item
words_item-fits None words item is = as_answered Empty item (cc) (record { small = tt; few = omega arith })
words_item-fits (Some first) words item is =
    let found = found_some (λ k. keyword_item k words) (keyword_of first) item is in
    keyword_item-fits found.0 words item found.2

readable_item : (b : Bool) (o : Option Item) (item : Item) → cond b o None ≡ Some item → o ≡ Some item
readable_item true o item is = is
readable_item false o item is = cc

pub item_of-fits : (line : List ℕ) (item : Item) → item_of line ≡ Some item → Fits item
unfolding item_of
item_of-fits line item is = words_item-fits (slice_get (word_texts line) 0) (word_texts line) item (readable_item (is_readable line) _ item is)
