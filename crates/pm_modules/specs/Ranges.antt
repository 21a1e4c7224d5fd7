-- Modules as contracts see them: each a range of API words, and what its handler says to a message.
use Rattle.std.specs.Prelude.{ℕ, ◌&&◌, Bool, nat_le, if◌then◌else◌, List, [], ◌∷◌, Option, Some, None}
use Rattle.pm_base.specs.declared.events.Message.{Message}
use Rattle.pm_ipi.specs.declared.responses.Response.{Response}

pub record Ranged : Type 0 where
  pub first : ℕ
  pub last : ℕ
  pub says : Message → Response

-- the word is in the range
abbrev pub has_word : ℕ → Ranged → Bool
has_word word it = nat_le it.first word && nat_le word it.last

-- a word is in the ranges of both
abbrev pub have_common_word : Ranged → Ranged → Bool
have_common_word one other = nat_le one.first other.last && nat_le other.first one.last

-- what the handler says whose range has the message's API word; nothing where no range has it
abbrev pub said_by : List Ranged → Message → Option Response
said_by [] message = None
said_by (it ∷ rest) message = if has_word message.api it then Some (it.says message) else said_by rest message
