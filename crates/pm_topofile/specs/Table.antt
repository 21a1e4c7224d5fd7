-- The forms of the lines of a topology's text: the keyword, how many words a line has, and how great its numbers may be.
use Rattle.std.specs.Prelude.{ℕ, List, [], ◌∷◌, codes}
use Rattle.pm_topofile.specs.declared.table.Keyword.{Keyword}
use Rattle.pm_topofile.specs.declared.table.Keyword.TheVariants as keywords

-- what a line begins with
abbrev pub keyword_text : Keyword → List ℕ
keyword_text keywords.Power = codes "power"
keyword_text keywords.Proc = codes "proc"
keyword_text keywords.Slave = codes "slave"
keyword_text keywords.State = codes "state"
keyword_text keywords.Line = codes "line"
keyword_text keywords.Owner = codes "owner"

abbrev pub all_keywords : List Keyword
all_keywords = keywords.Power ∷ keywords.Proc ∷ keywords.Slave ∷ keywords.State ∷ keywords.Line ∷ keywords.Owner ∷ []

-- how many words a line has, its keyword too: as many as its form names, and of `owner` 1 to 16 processors
abbrev pub least_words : Keyword → ℕ
least_words keywords.Power = 6
least_words keywords.Proc = 5
least_words keywords.Slave = 3
least_words keywords.State = 5
least_words keywords.Line = 3
least_words keywords.Owner = 3

abbrev pub most_words : Keyword → ℕ
most_words keywords.Owner = 18
most_words keyword = least_words keyword

-- the greatest number of a word that is 0 or 1, and of a set of capabilities
abbrev pub greatest_flag : ℕ
greatest_flag = 1

abbrev pub greatest_caps : ℕ
greatest_caps = 7

-- the word for no node
abbrev pub none_text : List ℕ
none_text = codes "none"
