-- The line of an item says that item.
use Rattle.std.proofs.Common.{◌≡◌, ℕ, ◌+◌, ◌*◌, ◌^◌, ◌<◌, ◌≤◌, Bool, true, false, ◌&&◌, leb, nat_lt, List, [], ◌∷◌, ◌++◌, length, map, Some, option_and_then, decimal, refl, ap, sym, ◌∙◌, subst, arith, length-append}
use Rattle.std.specs.List.{flat_map, list_all, AllByRecursion, All}
use Rattle.std.specs.Option.{option_map}
use Rattle.std.proofs.lemmas.Bool.Decides.{nat_tests}
use Rattle.std.proofs.lemmas.List.{append-nil}
use Rattle.std.proofs.lemmas.List.Elements.{All-from_recursion}
use Rattle.pm_object.specs.declared.object.Section.{Section}
use Rattle.pm_object.specs.declared.object.Section.TheVariants as sections
use Rattle.pm_object.specs.Grammar.{master_words, slave_words, preset_words, pair_words}
use Rattle.pm_io.specs.Words.{words}
use Rattle.pm_objtext.specs.declared.names.Keyword.{Keyword}
use Rattle.pm_objtext.specs.declared.names.Keyword.TheVariants as keywords
use Rattle.pm_objtext.specs.declared.item.Item.{Item}
use Rattle.pm_objtext.specs.declared.item.Item.TheVariants.{Empty, Header, Opens, Master, Slave, Group, Prefer, Power, Reset, Shutdown, Config, Gpo}
use Rattle.pm_base.proofs.Booleans.{both}
use Rattle.pm_io.proofs.LinesLemmas.{is_feed}
use Rattle.pm_objtext.specs.Names.{keyword_text, section_text}
use Rattle.pm_objtext.specs.Printing.{number_text, numbers_line, line_of}
use Rattle.pm_objtext.specs.Reading.{keyword_of, section_of, record_of, keyword_item, item_of}
use Rattle.pm_objtext.proofs.LineTexts.{IsPlain, IsLineByte, IsWord, spaced, words_line, IsLineByte-words_line, texts-words_line, is_readable-words_line, numbers-decimals, IsWord-decimals, length-decimals}

-- ---- names

abbrev is_plain : ℕ → Bool
is_plain byte = leb 48 byte && leb byte 122

IsPlain-from_test : (byte : ℕ) → is_plain byte ≡ true → IsPlain byte
IsPlain-from_test byte test =
    let parts = both (leb 48 byte) (leb byte 122) test in
    let low = parts.0 in
    let high = parts.1 in
    record { low = grind (arith, nat_tests); high = grind (arith, nat_tests) }

all_plain : (word : List ℕ) → list_all is_plain word ≡ true → AllByRecursion IsPlain word
all_plain [] test = tt
all_plain (byte ∷ word) test =
    let parts = both (is_plain byte) (list_all is_plain word) test in
    (IsPlain-from_test byte parts.0, all_plain word parts.1)

IsWord-from_test : (word : List ℕ) → nat_lt 0 (length word) ≡ true → list_all is_plain word ≡ true → IsWord word
IsWord-from_test word some test = record { some = grind (arith, nat_tests); plain = all_plain word test }

IsWord-keyword : (k : Keyword) → IsWord (keyword_text k)
IsWord-keyword keywords.Header = IsWord-from_test _ refl refl
IsWord-keyword k = IsWord-from_test _ refl refl

IsWord-section : (s : Section) → IsWord (section_text s)
IsWord-section sections.Masters = IsWord-from_test _ refl refl
IsWord-section s = IsWord-from_test _ refl refl

keyword_of-text : (k : Keyword) → keyword_of (keyword_text k) ≡ Some k
keyword_of-text keywords.Header = refl
keyword_of-text k = refl

section_of-text : (s : Section) → section_of (section_text s) ≡ Some s
section_of-text sections.Masters = refl
section_of-text s = refl

length-keyword_text : (k : Keyword) → length (keyword_text k) ≤ 8
length-keyword_text keywords.Header = omega arith
length-keyword_text k = omega arith

length-section_text : (s : Section) → length (section_text s) ≤ 8
length-section_text sections.Masters = omega arith
length-section_text s = omega arith

-- ---- lines

abbrev pub AreSmall : List ℕ → Type 0
AreSmall ns = AllByRecursion (λ n. n < 2 ^ 32) ns

spaced-decimals : (ns : List ℕ) → flat_map number_text ns ≡ flat_map spaced (map decimal ns)
spaced-decimals [] = refl
spaced-decimals (n ∷ ns) = ap (λ rest. 32 ∷ (decimal n ++ rest)) (spaced-decimals ns)

numbers_line-words : (k : Keyword) (ns : List ℕ) → numbers_line k ns ≡ words_line (keyword_text k) (map decimal ns)
numbers_line-words k ns = ap (λ rest. keyword_text k ++ rest) (spaced-decimals ns)

pub length-numbers_line : (k : Keyword) (ns : List ℕ) → AreSmall ns → length (numbers_line k ns) ≤ 8 + 11 * length ns
length-numbers_line k ns small =
    rw (numbers_line-words k ns) (omega (arith, length-append (keyword_text k) (flat_map spaced (map decimal ns)), length-keyword_text k, length-decimals ns small))

numbers_line-bytes : (k : Keyword) (ns : List ℕ) → AreSmall ns → AllByRecursion IsLineByte (numbers_line k ns)
numbers_line-bytes k ns small =
    subst (AllByRecursion IsLineByte) (sym (numbers_line-words k ns)) (IsLineByte-words_line (keyword_text k) (map decimal ns) (IsWord-keyword k) (IsWord-decimals ns small))

item_of-words_line : (first : List ℕ) (more : List (List ℕ)) (k : Keyword) → IsWord first → AllByRecursion IsWord more → length (words_line first more) ≤ 255 → keyword_of first ≡ Some k → item_of (words_line first more) ≡ keyword_item k (first ∷ more)
unfolding item_of
item_of-words_line first more k is are short named =
    rw (is_readable-words_line first more is are short, texts-words_line first more is are, named) refl

item_of-numbers_line : (k : Keyword) (ns : List ℕ) → AreSmall ns → length ns ≤ 16 → item_of (numbers_line k ns) ≡ keyword_item k (keyword_text k ∷ map decimal ns)
item_of-numbers_line k ns small few =
    let short : length (words_line (keyword_text k) (map decimal ns)) ≤ 255 = omega (arith, length-append (keyword_text k) (flat_map spaced (map decimal ns)), length-keyword_text k, length-decimals ns small) in
    ap item_of (numbers_line-words k ns) ∙ item_of-words_line (keyword_text k) (map decimal ns) k (IsWord-keyword k) (IsWord-decimals ns small) short (keyword_of-text k)

section_line-words : (s : Section) → line_of (Opens s) ≡ words_line (keyword_text keywords.Section) (section_text s ∷ [])
section_line-words s = ap (λ rest. keyword_text keywords.Section ++ 32 ∷ rest) (sym (append-nil (section_text s)))

pub length-section_line : (s : Section) → length (line_of (Opens s)) ≤ 16
length-section_line s = omega (arith, length-section_text s, length-append (keyword_text keywords.Section) (32 ∷ section_text s))

item_of-section_line : (s : Section) → item_of (line_of (Opens s)) ≡ Some (Opens s)
item_of-section_line s =
    let short : length (words_line (keyword_text keywords.Section) (section_text s ∷ [])) ≤ 255 = omega (arith, ap length (section_line-words s), length-section_line s) in
    ap item_of (section_line-words s) ∙ item_of-words_line (keyword_text keywords.Section) (section_text s ∷ []) keywords.Section (IsWord-keyword keywords.Section) (IsWord-section s, tt) short refl ∙ ap (option_map Opens) (section_of-text s)

item_of-empty : item_of [] ≡ Some Empty
unfolding item_of words
item_of-empty = refl

-- ---- items

-- the numbers of a line
abbrev pub item_numbers : Item → List ℕ
item_numbers Empty = []
item_numbers (Header extra) = extra.items
item_numbers (Opens s) = []
item_numbers (Master m) = master_words m
item_numbers (Slave s) = slave_words s
item_numbers (Group mask) = mask ∷ []
item_numbers (Prefer rec) = preset_words rec
item_numbers (Power pair) = pair_words pair
item_numbers (Reset pair) = pair_words pair
item_numbers (Shutdown pair) = pair_words pair
item_numbers (Config base overlay) = base ∷ overlay ∷ []
item_numbers (Gpo word) = word ∷ []

-- an item that a line can say
pub record Fits (item : Item) : Type 0 where
  pub small : AreSmall (item_numbers item)
  pub few : length (item_numbers item) ≤ 16

pub item_of-line_of : (item : Item) → Fits item → item_of (line_of item) ≡ Some item
item_of-line_of Empty is = item_of-empty
item_of-line_of (Header extra) is = item_of-numbers_line keywords.Header extra.items is.small is.few ∙ ap (option_and_then (record_of keywords.Header)) (numbers-decimals extra.items is.small is.few)
item_of-line_of (Opens s) is = item_of-section_line s
item_of-line_of (Master m) is = item_of-numbers_line keywords.Master (master_words m) is.small is.few ∙ ap (option_and_then (record_of keywords.Master)) (numbers-decimals (master_words m) is.small is.few)
item_of-line_of (Slave s) is = item_of-numbers_line keywords.Slave (slave_words s) is.small is.few ∙ ap (option_and_then (record_of keywords.Slave)) (numbers-decimals (slave_words s) is.small is.few)
item_of-line_of (Group mask) is = item_of-numbers_line keywords.Group (mask ∷ []) is.small is.few ∙ ap (option_and_then (record_of keywords.Group)) (numbers-decimals (mask ∷ []) is.small is.few)
item_of-line_of (Prefer rec) is = item_of-numbers_line keywords.Prefer (preset_words rec) is.small is.few ∙ ap (option_and_then (record_of keywords.Prefer)) (numbers-decimals (preset_words rec) is.small is.few)
item_of-line_of (Power pair) is = item_of-numbers_line keywords.Power (pair_words pair) is.small is.few ∙ ap (option_and_then (record_of keywords.Power)) (numbers-decimals (pair_words pair) is.small is.few)
item_of-line_of (Reset pair) is = item_of-numbers_line keywords.Reset (pair_words pair) is.small is.few ∙ ap (option_and_then (record_of keywords.Reset)) (numbers-decimals (pair_words pair) is.small is.few)
item_of-line_of (Shutdown pair) is = item_of-numbers_line keywords.Shutdown (pair_words pair) is.small is.few ∙ ap (option_and_then (record_of keywords.Shutdown)) (numbers-decimals (pair_words pair) is.small is.few)
item_of-line_of (Config base overlay) is = item_of-numbers_line keywords.Config (base ∷ overlay ∷ []) is.small is.few ∙ ap (option_and_then (record_of keywords.Config)) (numbers-decimals (base ∷ overlay ∷ []) is.small is.few)
item_of-line_of (Gpo word) is = item_of-numbers_line keywords.Gpo (word ∷ []) is.small is.few ∙ ap (option_and_then (record_of keywords.Gpo)) (numbers-decimals (word ∷ []) is.small is.few)

line_bytes : (item : Item) → Fits item → AllByRecursion IsLineByte (line_of item)
line_bytes Empty is = tt
line_bytes (Header extra) is = numbers_line-bytes keywords.Header extra.items is.small
line_bytes (Opens s) is = subst (AllByRecursion IsLineByte) (sym (section_line-words s)) (IsLineByte-words_line (keyword_text keywords.Section) (section_text s ∷ []) (IsWord-keyword keywords.Section) (IsWord-section s, tt))
line_bytes (Master m) is = numbers_line-bytes keywords.Master (master_words m) is.small
line_bytes (Slave s) is = numbers_line-bytes keywords.Slave (slave_words s) is.small
line_bytes (Group mask) is = numbers_line-bytes keywords.Group (mask ∷ []) is.small
line_bytes (Prefer rec) is = numbers_line-bytes keywords.Prefer (preset_words rec) is.small
line_bytes (Power pair) is = numbers_line-bytes keywords.Power (pair_words pair) is.small
line_bytes (Reset pair) is = numbers_line-bytes keywords.Reset (pair_words pair) is.small
line_bytes (Shutdown pair) is = numbers_line-bytes keywords.Shutdown (pair_words pair) is.small
line_bytes (Config base overlay) is = numbers_line-bytes keywords.Config (base ∷ overlay ∷ []) is.small
line_bytes (Gpo word) is = numbers_line-bytes keywords.Gpo (word ∷ []) is.small

no_feeds : (line : List ℕ) → AllByRecursion IsLineByte line → AllByRecursion (λ byte. is_feed byte ≡ false) line
no_feeds [] bytes = tt
no_feeds (byte ∷ line) bytes = let low = bytes.0.low in (grind (arith, nat_tests), no_feeds line bytes.1)

pub line_without_feed : (item : Item) → Fits item → All (λ byte. is_feed byte ≡ false) (line_of item)
line_without_feed item is = All-from_recursion (λ byte. is_feed byte ≡ false) (line_of item) (no_feeds (line_of item) (line_bytes item is))
