-- What a line of a topology's text says, or that its form is wrong.
use Rattle.std.specs.Prelude.{ℕ, Bool, ◌==◌, ◌&&◌, nat_le, if◌then◌else◌, List, [], ◌∷◌, length, drop, find, slice_get, Option, Some, None, option_and_then}
use Rattle.std.specs.Option.{option_map}
use Rattle.std.specs.Str.{bytes_eq}
use Rattle.pm_base.specs.Names.{numbered_node}
use Rattle.pm_io.specs.Lines.{is_readable}
use Rattle.pm_io.specs.Words.{word_texts}
use Rattle.pm_io.specs.Numbers.{number_of, numbers_in, at_most, greatest_number}
use Rattle.pm_base.specs.declared.names.NodeId.{NodeId}
use Rattle.pm_topofile.specs.declared.table.Keyword.{Keyword}
use Rattle.pm_topofile.specs.declared.table.Keyword.TheVariants as keywords
use Rattle.pm_topofile.specs.declared.item.Item.{Item}
use Rattle.pm_topofile.specs.declared.item.Item.TheVariants.{Empty, Power, Proc, Slave, State, Line, Owner}
use Rattle.pm_topofile.specs.Table.{all_keywords, keyword_text, least_words, most_words, greatest_flag, greatest_caps, none_text}

-- ---- words and numbers

-- a number that is at most the greatest_number one
abbrev pub number : ℕ → List ℕ → Option ℕ
number most word = at_most most (number_of word)

abbrev pub number_at : ℕ → List (List ℕ) → ℕ → Option ℕ
number_at most words k = option_and_then (number most) (slice_get words k)

-- a node by its number
abbrev pub node_in : List ℕ → Option NodeId
node_in word = option_map numbered_node (number greatest_number word)

abbrev pub node_at : List (List ℕ) → ℕ → Option NodeId
node_at words k = option_and_then node_in (slice_get words k)

-- a node, or none
abbrev pub optional_in : List ℕ → Option (Option NodeId)
optional_in word = if bytes_eq none_text word then Some None else option_map Some (node_in word)

abbrev pub optional_at : List (List ℕ) → ℕ → Option (Option NodeId)
optional_at words k = option_and_then optional_in (slice_get words k)

abbrev pub flag_at : List (List ℕ) → ℕ → Option Bool
flag_at words k = option_map (λ n. n == 1) (number_at greatest_flag words k)

-- ---- the lines, by their words

abbrev pub power_with : Option NodeId → Option (Option NodeId) → Option Bool → Option ℕ → Option ℕ → Option Item
power_with (Some node) (Some parent) (Some held) (Some figure) (Some latency) = Some (Power (record { node = node; parent = parent; held = held; figure = figure; latency = latency }))
power_with _ _ _ _ _ = None

abbrev pub proc_with : Option NodeId → Option NodeId → Option ℕ → Option ℕ → Option Item
proc_with (Some node) (Some parent) (Some figure) (Some latency) = Some (Proc (record { node = node; parent = parent; figure = figure; latency = latency }))
proc_with _ _ _ _ = None

abbrev pub slave_with : Option NodeId → Option NodeId → Option Item
slave_with (Some node) (Some parent) = Some (Slave (record { node = node; parent = parent }))
slave_with _ _ = None

abbrev pub state_with : Option ℕ → Option ℕ → Option Bool → Option ℕ → Option Item
state_with (Some caps) (Some latency) (Some powered) (Some figure) = Some (State (record { caps = record { 0 = caps }; latency = latency; powered = powered; figure = figure }))
state_with _ _ _ _ = None

abbrev pub line_with : Option ℕ → Option (Option NodeId) → Option Item
line_with (Some number) (Some target) = Some (Line (record { line = record { 0 = number }; target = target }))
line_with _ _ = None

abbrev pub owner_with : Option NodeId → Option (List ℕ) → Option Item
owner_with (Some node) (Some procs) = Some (Owner node (record { items = procs }))
owner_with _ _ = None

-- a keyword with the words after it
abbrev pub form_item : Keyword → List (List ℕ) → Option Item
form_item keywords.Power words = power_with (node_at words 1) (optional_at words 2) (flag_at words 3) (number_at greatest_number words 4) (number_at greatest_number words 5)
form_item keywords.Proc words = proc_with (node_at words 1) (node_at words 2) (number_at greatest_number words 3) (number_at greatest_number words 4)
form_item keywords.Slave words = slave_with (node_at words 1) (node_at words 2)
form_item keywords.State words = state_with (number_at greatest_caps words 1) (number_at greatest_number words 2) (flag_at words 3) (number_at greatest_number words 4)
form_item keywords.Line words = line_with (number_at greatest_number words 1) (optional_at words 2)
form_item keywords.Owner words = owner_with (node_at words 1) (numbers_in greatest_number (drop 2 words))

abbrev pub keyword_of : List ℕ → Option Keyword
keyword_of word = find (λ k. bytes_eq (keyword_text k) word) all_keywords

-- the words are as many as the keyword wants
abbrev pub has_count : Keyword → List (List ℕ) → Bool
has_count keyword words = nat_le (least_words keyword) (length words) && nat_le (length words) (most_words keyword)

abbrev pub keyword_item : Keyword → List (List ℕ) → Option Item
keyword_item keyword words = if has_count keyword words then form_item keyword words else None

-- the words of a line by the first one, where there is one
abbrev pub words_item : Option (List ℕ) → List (List ℕ) → Option Item
words_item None words = Some Empty
words_item (Some first) words = option_and_then (λ keyword. keyword_item keyword words) (keyword_of first)

-- what a line says; None where its form is wrong
unfoldable pub item_of : List ℕ → Option Item
item_of line = if is_readable line then words_item (slice_get (word_texts line) 0) (word_texts line) else None
