-- A reader of lines: what it holds, what its answers mean, and the lines that it gives.
use Rattle.std.specs.Prelude.{◌≡◌, ℕ, ◌+◌, ◌-◌, ◌<◌, ◌≤◌, ◌⊎◌, ◌==◌, ◌||◌, Bool, false, IsTrue, List, [], ◌++◌, length, take, drop, position, Some, None, if◌then◌else◌}
use Rattle.pm_io.specs.Calls.{Call, Comes, GoesToFault}
use Rattle.pm_io.specs.Given.{Gave}
use Rattle.pm_io.specs.Inputs.{IsStuck, Moment, Took, rest}
use Rattle.pm_io.specs.Readings.{Meanwhile}
use Rattle.pm_reader.specs.declared.reader.Taken.{Taken}
use Rattle.pm_reader.specs.declared.reader.Taken.TheVariants.{Line, End, Long, Over, Fault}

-- what was read and not given, how many bytes may still be read (limit + 1 at first: at 0 the last byte that was read is past
-- the limit), and whether the input came to its end
pub record Held : Type 0 where
  pub bytes : List ℕ
  pub credit : ℕ
  pub ended : Bool

abbrev pub is_feed : ℕ → Bool
is_feed byte = byte == 10

-- of the bytes that were read, those that may belong to lines: a byte past the limit belongs to none
abbrev pub within_limit : ℕ → List ℕ → List ℕ
within_limit credit bytes = if credit == 0 then take (length bytes - 1) bytes else bytes

-- the bytes held that may belong to lines
abbrev pub within : Held → List ℕ
within held = within_limit held.credit held.bytes

-- bytes were read behind those that are held
pub record Grows (old : Held) (got : List ℕ) (new : Held) : Type 0 where
  pub bytes : new.bytes ≡ old.bytes ++ got
  pub credit : new.credit + length got ≡ old.credit
  pub ended : IsTrue old.ended → (got ≡ []) × IsTrue new.ended

-- between two moments the calls gave these bytes under a number, and told the end just if it is seen now and was not before
pub record GaveOn (id : ℕ) (got : List ℕ) (was is : Bool) (before after : Moment) : Type 0 where
  pub told : Bool
  pub gave : Meanwhile before after (Gave id got told)
  pub seen : is ≡ (was || told)

-- bytes of an input were read behind those that are held
pub record Grew (shown : Type 0) (id : ℕ) (old new : Held) (before after : Moment) : Type 0 where
  pub got : List ℕ
  pub grows : Grows old got new
  pub took : Took shown id got before after
  pub gave : GaveOn id got old.ended new.ended before after

-- the first line that is held was given, up to its line feed
pub record GaveByFeed (held : Held) (line : List ℕ) (new : Held) : Type 0 where
  pub place : position is_feed (within held) ≡ Some (length line)
  pub front : line ≡ take (length line) (within held)
  pub rest : within new ≡ drop (length line + 1) (within held)
  pub fewer : length new.bytes < length held.bytes
  pub credit : new.credit ≡ held.credit
  pub ended : new.ended ≡ held.ended

-- the last line was given, which has no line feed: the input came to its end behind it
pub record GaveLast (held : Held) (line : List ℕ) (new : Held) : Type 0 where
  pub unended : position is_feed line ≡ None
  pub some : 0 < length line
  pub ended : IsTrue held.ended
  pub credit : 0 < held.credit
  pub line_is : line ≡ held.bytes
  pub new_is : new ≡ record held { bytes = [] }

-- no line is held whole, and what is held is too short for a line that is too long
pub record IsOpen (held : Held) : Type 0 where
  pub none : position is_feed (within held) ≡ None
  pub short : length (within held) < 256

-- what each answer means, of what was held when it was given
abbrev pub Gives : Held → Taken → List ℕ → Held → Type 0
Gives held Line line new = GaveByFeed held line new ⊎ GaveLast held line new
Gives held End line new = (held.bytes ≡ []) × IsTrue held.ended × (0 < held.credit) × (new ≡ held)
Gives held Long line new = (256 ≤ length (within held)) × (position is_feed (take 256 (within held)) ≡ None) × (new ≡ held)
Gives held Over line new = (held.credit ≡ 0) × IsOpen held × (new ≡ held)
Gives held Fault line new = (0 < held.credit) × (held.ended ≡ false) × IsOpen held × (new ≡ held)

-- what is held doesn't decide the answer: more has to be read
pub record NeedsMore (held new : Held) : Type 0 where
  pub unended : IsOpen held
  pub credit : 0 < held.credit
  pub ended : held.ended ≡ false
  pub same : new ≡ held

-- a reader that saw an end of its input is at that end
pub record KnowsEnd (shown : Type 0) (id : ℕ) (held : Held) (moment : Moment) : Type 0 where
  pub rest : shown → IsTrue held.ended → rest (moment.input id) ≡ []
  pub free : shown → IsTrue held.ended → IsStuck (moment.input id) → ⊥

-- a call: it read some bytes, and then gave an answer about all that it held
pub record Turn (shown : Type 0) (id : ℕ) (before after : Moment) (old new : Held) (answer : Taken) (line : List ℕ) : Type 0 where
  pub got : List ℕ
  pub held : Held
  pub took : Took shown id got before after
  pub gave : GaveOn id got old.ended held.ended before after
  pub grows : Grows old got held
  pub gives : Gives held answer line new

-- the calls of a reader that so changed: the reading of its input came on, as the bytes that may still be read and the end
-- that was seen show
abbrev pub ComesOn : ℕ → Held → Held → List Call → Type 0
ComesOn id old new calls = Comes id old.credit old.ended new.credit new.ended calls

-- its reads by what it gave: at Fault the last call is the read that failed
abbrev pub HasRead : Taken → ℕ → Held → Held → List Call → Type 0
HasRead Line id old new calls = ComesOn id old new calls
HasRead End id old new calls = ComesOn id old new calls
HasRead Long id old new calls = ComesOn id old new calls
HasRead Over id old new calls = ComesOn id old new calls
HasRead Fault id old new calls = GoesToFault id old.credit old.ended calls
