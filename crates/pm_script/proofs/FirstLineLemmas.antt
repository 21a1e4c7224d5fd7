-- What stands in a text before its first line feed.
use Rattle.std.proofs.Common.{◌≡◌, ℕ, zero, suc, ◌+◌, ◌-◌, ◌<◌, ◌≤◌, ◌==◌, ◌&&◌, Bool, true, false, cond, if◌then◌else◌, List, [], ◌∷◌, ◌++◌, length, drop, take, get_or, position, Option, Some, None, Ok, Err, nat_le, nat_lt, refl, sym, ap, ◌∙◌, arith, not, subst}
use Rattle.std.specs.Prelude.{IfSome}
use Rattle.std.specs.List.{list_all, position_or_len}
use Rattle.std.proofs.lemmas.Bool.Decides.{nat_tests}
use Rattle.std.proofs.lemmas.List.{at_drop_all, length-append}
use Rattle.pm_base.proofs.Booleans.{both}
use Rattle.pm_base.specs.declared.events.Event.{Event}
use Rattle.pm_io.specs.Lines.{is_plain, without_return}
use Rattle.pm_io.specs.Words.{word_texts}
use Rattle.pm_script.specs.declared.forms.Kind.{Kind}
use Rattle.pm_script.specs.declared.forms.Kind.TheVariants as kinds
use Rattle.pm_script.specs.declared.meaning.LineFault.TheVariants.{Long, NotAscii}
use Rattle.pm_script.specs.Meaning.{meaning, words_meaning}
use Rattle.pm_script.specs.Short.{EndsPlain, MeansPlain, first_line, keyword_of}

-- the line of a text whose first byte is a line feed, or isn't
abbrev line_by : ℕ → List ℕ → Bool → List ℕ
line_by byte bytes feed = if feed then [] else byte ∷ first_line bytes

pub line_within : (text : List ℕ) → length (first_line text) ≤ length text
line_within [] = omega arith
line_within (byte ∷ bytes) = by (line_within bytes) (byte == 10)
  where
    by : length (first_line bytes) ≤ length bytes → (b : Bool) → length (line_by byte bytes b) ≤ suc (length bytes)
    by rest true = omega arith
    by rest false = omega (arith, rest)

-- a byte that is no line feed, at a place up to which none stands, is one of the line
pub byte_on : (text : List ℕ) (at : ℕ) → at ≤ length (first_line text) → at < length text → (get_or text at 0 == 10) ≡ false
    → (at < length (first_line text)) × (get_or (first_line text) at 0 ≡ get_or text at 0)
byte_on [] at before within other = absurd (omega arith)
byte_on (byte ∷ bytes) at before within other = by (byte_on bytes) (byte == 10) at refl before within other
  where
    by : ((at : ℕ) → at ≤ length (first_line bytes) → at < length bytes → (get_or bytes at 0 == 10) ≡ false
        → (at < length (first_line bytes)) × (get_or (first_line bytes) at 0 ≡ get_or bytes at 0))
        → (b : Bool) (at : ℕ) → (byte == 10) ≡ b → at ≤ length (line_by byte bytes b) → at < suc (length bytes) → (get_or (byte ∷ bytes) at 0 == 10) ≡ false
        → (at < length (line_by byte bytes b)) × (get_or (line_by byte bytes b) at 0 ≡ get_or (byte ∷ bytes) at 0)
    by rest true zero is before within other = cc
    by rest true (suc at) is before within other = absurd (omega (arith, before))
    by rest false zero is before within other = (omega arith, refl)
    by rest false (suc at) is before within other = let more = rest at (omega (arith, before)) (omega (arith, within)) other in (omega (arith, more.0), more.1)

-- a line feed there is the first one: the line ends before it
pub line_ends : (text : List ℕ) (at : ℕ) → at ≤ length (first_line text) → at < length text → get_or text at 0 ≡ 10 → at ≡ length (first_line text)
line_ends [] at before within feed = absurd (omega arith)
line_ends (byte ∷ bytes) at before within feed = by (line_ends bytes) (byte == 10) at refl before within feed
  where
    by : ((at : ℕ) → at ≤ length (first_line bytes) → at < length bytes → get_or bytes at 0 ≡ 10 → at ≡ length (first_line bytes))
        → (b : Bool) (at : ℕ) → (byte == 10) ≡ b → at ≤ length (line_by byte bytes b) → at < suc (length bytes) → get_or (byte ∷ bytes) at 0 ≡ 10 → at ≡ length (line_by byte bytes b)
    by rest true zero is before within feed = refl
    by rest true (suc at) is before within feed = absurd (omega (arith, before))
    by rest false zero is before within feed = let yes : (byte == 10) ≡ true = grind (arith, nat_tests) in cc
    by rest false (suc at) is before within feed = ap suc (rest at (omega (arith, before)) (omega (arith, within)) feed)

-- the place of the first line feed is the line's length
place_is : (text : List ℕ) → position_or_len (λ byte. byte == 10) text ≡ length (first_line text)
place_is [] = refl
place_is (byte ∷ bytes) = by (place_is bytes) (byte == 10)
  where
    by : position_or_len (λ byte. byte == 10) bytes ≡ length (first_line bytes) → (b : Bool) → cond (not b) (1 + position_or_len (λ byte. byte == 10) bytes) 0 ≡ length (line_by byte bytes b)
    by rest true = refl
    by rest false = omega (arith, rest)

some_is : (b : Bool) (n place : ℕ) → cond b (Some n) None ≡ Some place → n ≡ place
some_is true n place is = cc
some_is false n place is = cc

pub feed_found : (text : List ℕ) (at : ℕ) → at ≡ length (first_line text) → at < length text → position (λ byte. byte == 10) text ≡ Some at
feed_found text at is within =
    let place : position_or_len (λ byte. byte == 10) text ≡ at = place_is text ∙ sym is in
    let inside : nat_lt at (length text) ≡ true = grind (arith, nat_tests) in
    ap (λ n. cond (nat_lt n (length text)) (Some n) None) place ∙ ap (λ (b : Bool). cond b (Some at) None) inside

feed_is : (text : List ℕ) (feed : ℕ) → position (λ byte. byte == 10) text ≡ Some feed → length (first_line text) ≡ feed
feed_is text feed found = sym (place_is text) ∙ some_is (nat_lt (position_or_len (λ byte. byte == 10) text) (length text)) (position_or_len (λ byte. byte == 10) text) feed found

line_taken : (text : List ℕ) → take (length (first_line text)) text ≡ first_line text
line_taken [] = refl
line_taken (byte ∷ bytes) = by (line_taken bytes) (byte == 10)
  where
    by : take (length (first_line bytes)) bytes ≡ first_line bytes → (b : Bool) → take (length (line_by byte bytes b)) (byte ∷ bytes) ≡ line_by byte bytes b
    by rest true = refl
    by rest false = ap (λ (later : List ℕ). byte ∷ later) rest

-- a plain line is read from its first byte to its last one before a line feed
pub plain_ends : (text : List ℕ) (from feed : ℕ) → feed ≡ length (first_line text) → feed < length text
    → list_all is_plain (drop feed (first_line text)) ≡ list_all is_plain (drop from (first_line text)) → EndsPlain text from feed
plain_ends text from feed is within plain = record {
  found = feed_found text feed is within;
  plain = sym plain ∙ at_drop_all (list_all is_plain) (first_line text) feed (omega (arith, is));
}

-- where a line feed comes next
pub ends_there : (text : List ℕ) (at : ℕ) → at ≤ length (first_line text) → at < length text → list_all is_plain (drop at (first_line text)) ≡ list_all is_plain (first_line text) → (place : Option ℕ)
    → IfSome place (λ feed. (get_or text at 0 ≡ 10) × (feed ≡ at)) → IfSome place (λ feed. EndsPlain text 0 feed)
ends_there text at before within plain None is = tt
ends_there text at before within plain (Some feed) is = subst (λ n. EndsPlain text 0 n) (sym is.1) (plain_ends text 0 at (line_ends text at before within is.0) within plain)

-- a printable byte is plain and no line feed
pub printable_is : (byte : ℕ) → (nat_le 32 byte && nat_le byte 126) ≡ true → ((byte == 10) ≡ false) × (is_plain byte ≡ true)
printable_is byte printable = (grind (arith, nat_tests), grind (arith, nat_tests))

-- a plain line has no carriage return at its end
last_plain : (line : List ℕ) (k : ℕ) → list_all is_plain line ≡ true → (get_or line k 0 == 13) ≡ false
last_plain [] k plain = refl
last_plain (byte ∷ line) zero plain =
    let first = (both (is_plain byte) (list_all is_plain line) plain).0 in
    grind (arith, nat_tests)
last_plain (byte ∷ line) (suc k) plain = last_plain line k (both (is_plain byte) (list_all is_plain line) plain).1

pub plain_whole : (line : List ℕ) → list_all is_plain line ≡ true → without_return line ≡ line
plain_whole line plain = rw (last_plain line (length line - 1) plain) refl

-- what is known of the first line of a text is its meaning
pub plain_means : (text : List ℕ) (feed : ℕ) (event : Event) → MeansPlain text feed event → feed < 256 → meaning (take feed text) ≡ Ok event
plain_means text feed event means short =
    let line = first_line text in
    let size : length line ≡ feed = feed_is text feed means.ends.found in
    let few : nat_lt 255 (length line) ≡ false = grind (arith, nat_tests) in
    let plain : list_all is_plain (without_return line) ≡ true = ap (list_all is_plain) (plain_whole line means.ends.plain) ∙ means.ends.plain in
    ap (λ n. meaning (take n text)) (sym size)
    ∙ ap meaning (line_taken text)
    ∙ ap (λ (b : Bool). if b then Err Long else (if list_all is_plain (without_return line) then words_meaning (word_texts line) else Err NotAscii)) few
    ∙ ap (λ (b : Bool). if b then words_meaning (word_texts line) else Err NotAscii) plain
    ∙ means.means

-- ---- behind a keyword

line_after : (kind : Kind) (rest : List ℕ) → first_line (keyword_of kind ++ 32 ∷ rest) ≡ keyword_of kind ++ 32 ∷ first_line rest
line_after kinds.Ipi rest = refl
line_after kinds.Boot rest = refl
line_after kinds.Wfi rest = refl
line_after kinds.Irq rest = refl
line_after kinds.Gic rest = refl
line_after kinds.Tick rest = refl
line_after kinds.Post rest = refl
line_after kinds.Serve rest = refl
line_after kinds.Smc rest = refl
line_after kinds.Task rest = refl
line_after kinds.Cancel rest = refl
line_after kinds.Break rest = refl
line_after kinds.Mend rest = refl

rest_after : (front rest : List ℕ) → drop (length front + 1) (front ++ 32 ∷ rest) ≡ rest
rest_after [] rest = refl
rest_after (byte ∷ front) rest = let one : length (byte ∷ front) + 1 ≡ suc (length front + 1) = omega arith in ap (λ n. drop n ((byte ∷ front) ++ 32 ∷ rest)) one ∙ rest_after front rest

module _ (kind : Kind) (text : List ℕ) (from : ℕ) (at : from ≡ length (keyword_of kind) + 1) (is : text ≡ keyword_of kind ++ 32 ∷ drop from text) where
  line_is : first_line text ≡ keyword_of kind ++ 32 ∷ first_line (drop from text)
  line_is = ap first_line is ∙ line_after kind (drop from text)

  pub line_from : first_line text ≡ keyword_of kind ++ 32 ∷ drop from (first_line text)
  line_from =
      let rest : drop from (first_line text) ≡ first_line (drop from text)
      = ap (drop from) line_is
      ∙ ap (λ n. drop n (keyword_of kind ++ 32 ∷ first_line (drop from text))) at
      ∙ rest_after (keyword_of kind) (first_line (drop from text))
      in
      line_is ∙ ap (λ (later : List ℕ). keyword_of kind ++ 32 ∷ later) (sym rest)

  pub from_within : from ≤ length (first_line text)
  from_within = omega (arith, at, ap length line_is, length-append (keyword_of kind) (32 ∷ first_line (drop from text)))
