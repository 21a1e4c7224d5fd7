-- What a short line means: a keyword and numbers that fit 32 bits.
use Rattle.std.specs.Prelude.{◌≡◌, ℕ, ◌<◌, ◌≤◌, ◌==◌, true, if◌then◌else◌, List, [], ◌∷◌, codes, drop, get_or, length, map, position, None, Some, Ok}
use Rattle.std.specs.List.{list_all}
use Rattle.pm_base.specs.declared.events.Event.{Event}
use Rattle.pm_base.specs.declared.events.Message.{Message}
use Rattle.pm_io.specs.Lines.{is_plain}
use Rattle.pm_io.specs.Words.{text_between, words_from, word_texts}
use Rattle.pm_script.specs.declared.forms.Kind.{Kind}
use Rattle.pm_script.specs.declared.forms.Kind.TheVariants.{Ipi, Boot, Wfi, Irq, Gic, Tick, Post, Serve, Smc, Task, Cancel, Break, Mend}
use Rattle.pm_script.specs.declared.short.ShortNumber.{ShortNumber}
use Rattle.pm_script.specs.Meaning.{words_meaning}
use Rattle.pm_script.specs.ObjectLine.{numbers_of}
use Rattle.pm_script.specs.Sentences.{number_of_word}

-- the first word of a line of a kind
abbrev pub keyword_of : Kind → List ℕ
keyword_of Ipi = codes "ipi"
keyword_of Boot = codes "boot"
keyword_of Wfi = codes "wfi"
keyword_of Irq = codes "irq"
keyword_of Gic = codes "gic"
keyword_of Tick = codes "tick"
keyword_of Post = codes "post"
keyword_of Serve = codes "serve"
keyword_of Smc = codes "smc"
keyword_of Task = codes "task"
keyword_of Cancel = codes "cancel"
keyword_of Break = codes "break"
keyword_of Mend = codes "mend"

-- the message whose words follow the number of its sender: missing arguments are 0
abbrev pub message_of_numbers : List ℕ → Message
message_of_numbers numbers =
    record { api = get_or numbers 1 0; args = get_or numbers 2 0 ∷ get_or numbers 3 0 ∷ get_or numbers 4 0 ∷ get_or numbers 5 0 ∷ get_or numbers 6 0 ∷ [] }

-- a line of a kind means an event, whichever words with these numbers follow its keyword
abbrev pub IsMeant : Kind → List ℕ → Event → Type 0
IsMeant kind numbers event =
    (words : List (List ℕ)) → numbers_of words ≡ Some numbers → words_meaning (keyword_of kind ∷ words) ≡ Ok event

-- what stands in a text before its first line feed
abbrev pub first_line : List ℕ → List ℕ
first_line [] = []
first_line (byte ∷ bytes) = if byte == 10 then [] else byte ∷ first_line bytes

-- the words of a line from a place on
abbrev pub words_after : List ℕ → ℕ → List (List ℕ)
words_after line from = map (text_between line) (words_from None from (drop from line))

-- the first line feed of a text stands there, and what stands before it from a place on is plain
pub record EndsPlain (text : List ℕ) (from feed : ℕ) : Type 0 where
  pub found : position (λ byte. byte == 10) text ≡ Some feed
  pub plain : list_all is_plain (drop from (first_line text)) ≡ true

-- so it is from its first place on, and these words mean an event
pub record MeansPlain (text : List ℕ) (feed : ℕ) (event : Event) : Type 0 where
  pub ends : EndsPlain text 0 feed
  pub means : words_meaning (word_texts (first_line text)) ≡ Ok event

-- the word of a text's first line from a place on is a number, which ends before a blank or the line feed
pub record StandsAt (text : List ℕ) (from : ℕ) (word : ShortNumber) : Type 0 where
  pub within : word.end < length text
  pub before : word.end ≤ length (first_line text)
  pub stops : get_or text word.end 0 ≡ (if word.is_last then 10 else 32)
  pub plain : list_all is_plain (drop word.end (first_line text)) ≡ list_all is_plain (drop from (first_line text))
  pub place : words_from None from (drop from (first_line text))
      ≡ (from, word.end) ∷ words_from None word.end (drop word.end (first_line text))
  pub number : number_of_word (text_between (first_line text) (from, word.end)) ≡ Some word.number
