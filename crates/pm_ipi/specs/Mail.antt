-- The boxes of the masters, each empty or with one message.
use Rattle.std.specs.Prelude.{ℕ, Bool, not, List, Option, Some, None, is_some, if◌then◌else◌, option_and_then, replicate, slice_get, slice_set}
use Rattle.pm_base.specs.declared.events.Message.{Message}

-- the boxes at load
abbrev pub all_empty : ℕ → List (Option Message)
all_empty masters = replicate masters None

-- what the box of the master at a place holds
abbrev pub box_at : ℕ → List (Option Message) → Option Message
box_at m boxes = option_and_then (λ held. held) (slice_get boxes m)

abbrev pub is_empty : ℕ → List (Option Message) → Bool
is_empty m boxes = not (is_some (box_at m boxes))

-- a message is put into a box that is empty, and into no other
abbrev pub posted : ℕ → Message → List (Option Message) → List (Option Message)
posted m message boxes = if is_empty m boxes then slice_set boxes m (Some message) else boxes

-- a box is emptied, and no other is
abbrev pub emptied : ℕ → List (Option Message) → List (Option Message)
emptied m boxes = slice_set boxes m None
