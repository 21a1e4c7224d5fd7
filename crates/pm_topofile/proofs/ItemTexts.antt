-- The line of a keyword and words is read as they are.
use Rattle.std.proofs.Common.{◌≡◌, ℕ, ◌*◌, ◌≤◌, Bool, true, false, ◌&&◌, leb, nat_lt, List, [], ◌∷◌, ◌++◌, length, map, Option, Some, None, decimal, refl, ap, sym, ◌∙◌, arith, length-append, append_assoc}
use Rattle.std.specs.List.{flat_map, list_all, AllByRecursion, All}
use Rattle.std.proofs.lemmas.Bool.Decides.{nat_tests}
use Rattle.std.proofs.lemmas.Fmt.{length-decimal-le}
use Rattle.std.proofs.lemmas.List.Elements.{All-from_recursion}
use Rattle.pm_io.specs.Lines.{lines_of}
use Rattle.pm_base.proofs.Booleans.{both}
use Rattle.pm_io.proofs.LinesLemmas.{is_feed}
use Rattle.pm_topofile.specs.declared.table.Keyword.{Keyword}
use Rattle.pm_topofile.specs.declared.table.Keyword.TheVariants as keywords
use Rattle.pm_topofile.specs.Table.{keyword_text, none_text}
use Rattle.pm_topofile.specs.Reading.{keyword_of, keyword_item, item_of}
use Rattle.pm_topofile.specs.Printing.{IsSmall, AreSmall, word_text, line_text}
use Rattle.pm_topofile.proofs.LinesLemmas.{lines_of-line}
use Rattle.pm_topofile.proofs.LineTexts.{IsPlain, IsLineByte, IsWord, spaced, words_line, IsLineByte-words_line, texts-words_line, is_readable-words_line, IsWord-decimal}

-- ---- names

abbrev is_plain : ℕ → Bool
is_plain byte = leb 48 byte && leb byte 122

IsPlain-from_test : (byte : ℕ) → is_plain byte ≡ true → IsPlain byte
IsPlain-from_test byte test =
    let parts = both (leb 48 byte) (leb byte 122) test in
    let low = parts.0 in
    let high = parts.1 in
    record { low = grind (arith, nat_tests); high = grind (arith, nat_tests) }

all_plain : (word : List ℕ) → list_all is_plain word ≡ true → AllByRecursion IsPlain word
all_plain [] test = tt
all_plain (byte ∷ word) test =
    let parts = both (is_plain byte) (list_all is_plain word) test in
    (IsPlain-from_test byte parts.0, all_plain word parts.1)

IsWord-from_test : (word : List ℕ) → nat_lt 0 (length word) ≡ true → list_all is_plain word ≡ true → IsWord word
IsWord-from_test word some test = record { some = grind (arith, nat_tests); plain = all_plain word test }

IsWord-keyword : (k : Keyword) → IsWord (keyword_text k)
IsWord-keyword keywords.Power = IsWord-from_test _ refl refl
IsWord-keyword k = IsWord-from_test _ refl refl

keyword_of-text : (k : Keyword) → keyword_of (keyword_text k) ≡ Some k
keyword_of-text keywords.Power = refl
keyword_of-text k = refl

pub length-keyword_text : (k : Keyword) → length (keyword_text k) ≤ 5
length-keyword_text keywords.Power = omega arith
length-keyword_text k = omega arith

-- ---- words

-- a word without the space before it
abbrev pub bare : Option ℕ → List ℕ
bare None = none_text
bare (Some n) = decimal n

IsWord-bare : (w : Option ℕ) → IsSmall w → IsWord (bare w)
IsWord-bare None small = IsWord-from_test _ refl refl
IsWord-bare (Some n) small = IsWord-decimal n small

IsWord-bares : (ws : List (Option ℕ)) → AreSmall ws → AllByRecursion IsWord (map bare ws)
IsWord-bares [] small = tt
IsWord-bares (w ∷ ws) small = (IsWord-bare w small.0, IsWord-bares ws small.1)

length-bare : (w : Option ℕ) → IsSmall w → length (bare w) ≤ 10
length-bare None small = omega arith
length-bare (Some n) small = omega (arith, length-decimal-le 10 n (omega arith) (omega arith) (omega arith))

pub length-bares : (ws : List (Option ℕ)) → AreSmall ws → length (flat_map spaced (map bare ws)) ≤ 11 * length ws
length-bares [] small = omega arith
length-bares (w ∷ ws) small =
    omega (arith, length-append (bare w) (flat_map spaced (map bare ws)), length-bare w small.0, length-bares ws small.1)

word_text-bare : (w : Option ℕ) → word_text w ≡ 32 ∷ bare w
word_text-bare None = refl
word_text-bare (Some n) = refl

pub words-bare : (ws : List (Option ℕ)) → flat_map word_text ws ≡ flat_map spaced (map bare ws)
words-bare [] = refl
words-bare (w ∷ ws) = rw (word_text-bare w, words-bare ws) refl

-- ---- lines

-- a line without its line feed
abbrev line_of : Keyword → List (Option ℕ) → List ℕ
line_of k ws = words_line (keyword_text k) (map bare ws)

line_text-line : (k : Keyword) (ws : List (Option ℕ)) (rest : List ℕ) → line_text k ws ++ rest ≡ line_of k ws ++ 10 ∷ rest
line_text-line k ws rest =
    rw (words-bare ws) (append_assoc (keyword_text k) (flat_map spaced (map bare ws) ++ 10 ∷ []) rest ∙ ap (λ more. keyword_text k ++ more) (append_assoc (flat_map spaced (map bare ws)) (10 ∷ []) rest) ∙ sym (append_assoc (keyword_text k) (flat_map spaced (map bare ws)) (10 ∷ rest)))

item_of-line : (k : Keyword) (ws : List (Option ℕ)) → AreSmall ws → length ws ≤ 17 → item_of (line_of k ws) ≡ keyword_item k (keyword_text k ∷ map bare ws)
unfolding item_of
item_of-line k ws small few =
    let short : length (line_of k ws) ≤ 255 = omega (arith, length-append (keyword_text k) (flat_map spaced (map bare ws)), length-keyword_text k, length-bares ws small) in
    let named = keyword_of-text k in
    rw (is_readable-words_line (keyword_text k) (map bare ws) (IsWord-keyword k) (IsWord-bares ws small) short, texts-words_line (keyword_text k) (map bare ws) (IsWord-keyword k) (IsWord-bares ws small), named) refl

no_feeds : (line : List ℕ) → AllByRecursion IsLineByte line → AllByRecursion (λ byte. is_feed byte ≡ false) line
no_feeds [] bytes = tt
no_feeds (byte ∷ line) bytes = let low = bytes.0.low in (grind (arith, nat_tests), no_feeds line bytes.1)

line_without_feed : (k : Keyword) (ws : List (Option ℕ)) → AreSmall ws → All (λ byte. is_feed byte ≡ false) (line_of k ws)
line_without_feed k ws small =
    All-from_recursion (λ byte. is_feed byte ≡ false) (line_of k ws) (no_feeds (line_of k ws) (IsLineByte-words_line (keyword_text k) (map bare ws) (IsWord-keyword k) (IsWord-bares ws small)))

-- the first line of a text that begins with this one
pub record FirstLine (k : Keyword) (ws : List (Option ℕ)) (rest : List ℕ) : Type 0 where
  pub line : List ℕ
  pub lines : lines_of (line_text k ws ++ rest) ≡ line ∷ lines_of rest
  pub says : item_of line ≡ keyword_item k (keyword_text k ∷ map bare ws)

pub first_line : (k : Keyword) (ws : List (Option ℕ)) (rest : List ℕ) → AreSmall ws → length ws ≤ 17 → FirstLine k ws rest
first_line k ws rest small few = record {
  line = line_of k ws;
  lines = ap lines_of (line_text-line k ws rest) ∙ lines_of-line (line_of k ws) rest (line_without_feed k ws small);
  says = item_of-line k ws small few;
}
