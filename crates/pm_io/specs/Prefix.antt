-- What is read of a named input: up to its end, to a byte at which a read fails, or to one byte past
-- a limit.
use Rattle.std.specs.Prelude.{◌≡◌, ℕ, ◌+◌, ◌-◌, ◌≤◌, ◌==◌, nat_le, min, ⊤, if◌then◌else◌, List, [], length, take, Option, Some, None}
use Rattle.pm_base.specs.Faults.{Rose}
use Rattle.pm_io.specs.Inputs.{File, Input, Moment, SameBut, SameFiles, Took, IsStuck, rest}
use Rattle.pm_io.specs.declared.prefix.StopReason.{StopReason}
use Rattle.pm_io.specs.declared.prefix.StopReason.TheVariants.{End, Limit, Failure, Unbegun}

-- the bytes that were read, and why no more were
pub record Prefix : Type 0 where
  pub bytes : List ℕ
  pub stop : StopReason

-- the bytes of a text that was read: the byte past the limit belongs to none
abbrev pub text_within : StopReason → List ℕ → List ℕ
text_within End bytes = bytes
text_within Limit bytes = take (length bytes - 1) bytes
text_within Failure bytes = bytes
text_within Unbegun bytes = bytes

abbrev pub text_of : Prefix → List ℕ
text_of prefix = text_within prefix.stop prefix.bytes

-- all of some bytes within a limit, else their front with one byte past the limit
abbrev pub prefix_within : ℕ → List ℕ → Prefix
prefix_within limit bytes =
    if nat_le (length bytes) limit then record { bytes = bytes; stop = End }
    else record { bytes = take (limit + 1) bytes; stop = Limit }

-- the prefix if each read that begins at a place fails: the bytes before that place, if it is met
abbrev pub prefix_before : ℕ → Option ℕ → List ℕ → Prefix
prefix_before limit None bytes = prefix_within limit bytes
prefix_before limit (Some at) bytes =
    if nat_le at (min limit (length bytes)) then record { bytes = take at bytes; stop = Failure }
    else prefix_within limit bytes

-- what is read of a name that can't be begun
abbrev pub unbegun : Prefix
unbegun = record { bytes = []; stop = Unbegun }

-- what is read of a name, from the file that it stands for and how many inputs can still be begun
abbrev pub prefix_of : ℕ → Option File → ℕ → Prefix
prefix_of limit None room = unbegun
prefix_of limit (Some file) room = if room == 0 then unbegun else prefix_before limit file.fails_at file.bytes

-- how many bytes were read before the reading ended so
abbrev pub HasSize : ℕ → StopReason → ℕ → Type 0
HasSize limit End count = count ≤ limit
HasSize limit Limit count = count ≡ limit + 1
HasSize limit Failure count = count ≤ limit
HasSize limit Unbegun count = count ≡ 0

-- a reading that came neither to the end of its input nor past the limit: it was not begun, or a read failed
abbrev pub IsUnread : StopReason → Type 0
IsUnread End = ⊥
IsUnread Limit = ⊥
IsUnread Failure = ⊤
IsUnread Unbegun = ⊤

-- where a begun input stands when its reading ended so
abbrev pub StandsAt : StopReason → Input → Type 0
StandsAt End input = (rest input ≡ []) × (IsStuck input → ⊥)
StandsAt Limit input = ⊤
StandsAt Failure input = IsStuck input
StandsAt Unbegun input = ⊥

-- the rest of a begun input was read up to one byte past a limit
pub record ReadsRest (shown : Type 0) (id limit : ℕ) (before after : Moment) (prefix : Prefix) : Type 0 where
  pub took : Took shown id prefix.bytes before after
  pub size : HasSize limit prefix.stop (length prefix.bytes)
  pub fault : IsUnread prefix.stop → Rose before.faults after.faults
  pub stands : shown → StandsAt prefix.stop (after.input id)

-- so many bytes were read of one begun input, and every other stays
abbrev pub ReadsOne : ℕ → Moment → Moment → Type 0
ReadsOne count before after = (id : ℕ) × SameBut id before.input after.input × ((after.input id).place ≡ count)

-- what a reading that ended so did to the begun inputs
abbrev pub ReadsAlone : StopReason → ℕ → Moment → Moment → Type 0
ReadsAlone End count before after = ReadsOne count before after
ReadsAlone Limit count before after = ReadsOne count before after
ReadsAlone Failure count before after = ReadsOne count before after
ReadsAlone Unbegun count before after = (id : ℕ) → after.input id ≡ before.input id

-- a named input was read up to one byte past a limit
pub record ReadsPrefix (shown : Type 0) (name : List ℕ) (limit : ℕ) (before after : Moment) (prefix : Prefix) : Type 0 where
  pub later : before.faults ≤ after.faults
  pub size : HasSize limit prefix.stop (length prefix.bytes)
  pub fault : IsUnread prefix.stop → Rose before.faults after.faults
  pub files : shown → SameFiles before after
  pub room : shown → before.room ≤ after.room + 1
  pub is : shown → prefix ≡ prefix_of limit (before.file name) before.room
  pub alone : shown → ReadsAlone prefix.stop (length prefix.bytes) before after
