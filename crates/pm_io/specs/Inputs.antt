-- What a source of inputs shows at a moment, and how that moves from call to call.
use Rattle.std.specs.Prelude.{◌≡◌, ◌≢◌, ℕ, ◌+◌, ◌≤◌, ◌⊎◌, min, List, ◌++◌, [], ◌∷◌, drop, length, Option, Some, None, IfSome, IsSomeAnd}
use Rattle.pm_io.specs.Calls.{Call}

-- what is shown of a name: its bytes, and its least failing byte, the place at which each read fails
pub record File : Type 0 where
  pub bytes : List ℕ
  pub fails_at : Option ℕ

-- a begun input: the name, where it is shown, what was begun, and the place of the next byte that is read
pub record Input : Type 0 where
  pub name : Option (List ℕ)
  pub file : File
  pub place : ℕ

-- what stands under a number that was never answered
abbrev pub nothing : Input
nothing = record { name = None; file = record { bytes = []; fails_at = None }; place = 0 }

-- the bytes of an input that are left
abbrev pub rest : Input → List ℕ
rest input = drop input.place input.file.bytes

-- an input stands at the byte at which its reads fail
abbrev pub IsStuck : Input → Type 0
IsStuck input = input.file.fails_at ≡ Some input.place

-- all that is shown at a moment: each name's file where it is there, how many inputs can still be begun, each begun
-- input by its number, how many calls have failed, and the calls since the source was new, in their order with their
-- answers
pub record Moment : Type 0 where
  pub file : List ℕ → Option File
  pub room : ℕ
  pub input : ℕ → Input
  pub faults : ℕ
  pub calls : List Call

-- a moment of a source of which nothing is observable but its count and the calls
abbrev pub unobserved : ℕ → List Call → Moment
unobserved faults calls = record { file = λ _. None; room = 0; input = λ _. nothing; faults = faults; calls = calls }

-- one call was made
abbrev pub Adds : Call → Moment → Moment → Type 0
Adds call old new = new.calls ≡ old.calls ++ call ∷ []

-- nothing shown of a name has changed
abbrev pub SameFiles : Moment → Moment → Type 0
SameFiles old new = (name : List ℕ) → new.file name ≡ old.file name

-- every input stays but the one under this number
abbrev pub SameBut : ℕ → (ℕ → Input) → (ℕ → Input) → Type 0
SameBut id old new = (other : ℕ) → other ≢ id → new other ≡ old other

-- the next bytes of an input were read, not past its failing byte
pub record Advances (old new : Input) (bytes : List ℕ) : Type 0 where
  pub name : new.name ≡ old.name
  pub file : new.file ≡ old.file
  pub place : new.place ≡ old.place + length bytes
  pub taken : rest old ≡ bytes ++ rest new
  pub not_past : IfSome old.file.fails_at (λ at. old.place ≤ at → new.place ≤ at)

-- between two moments these bytes of one input were read, and nothing else was done
pub record Took (shown : Type 0) (id : ℕ) (bytes : List ℕ) (old new : Moment) : Type 0 where
  pub later : old.faults ≤ new.faults
  pub read : shown → Advances (old.input id) (new.input id) bytes
  pub others : shown → SameBut id old.input new.input
  pub files : shown → SameFiles old new
  pub room : shown → old.room ≤ new.room

-- an input that stands at the front of the file that is shown of this name
pub record IsAtFront (name : List ℕ) (shown : Option File) (input : Input) : Type 0 where
  pub named : IfSome input.name (λ given. given ≡ name)
  pub file : shown ≡ Some input.file
  pub place : input.place ≡ 0

-- an input was begun under this number, and nothing else was done
pub record Began (name : List ℕ) (id : ℕ) (old new : Moment) : Type 0 where
  pub front : IsAtFront name (old.file name) (new.input id)
  pub others : SameBut id old.input new.input
  pub files : SameFiles old new
  pub room : old.room ≤ new.room + 1

-- nothing but the count has moved
pub record Stayed (old new : Moment) : Type 0 where
  pub inputs : (id : ℕ) → new.input id ≡ old.input id
  pub files : SameFiles old new
  pub room : old.room ≤ new.room

-- as shown, no input of this name can be begun: it isn't there, or too many were begun
abbrev pub CannotBegin : List ℕ → Moment → Type 0
CannotBegin name moment = (moment.file name ≡ None) ⊎ (moment.room ≡ 0)

-- the file fails before a reading of it from its front comes to its end or takes more than `limit` bytes
abbrev pub FailsWithin : ℕ → File → Type 0
FailsWithin limit file = IsSomeAnd file.fails_at (λ at. at ≤ min (length file.bytes) limit)

-- as shown, a call that reads the input of this name, to its end or to one byte past the limit, may meet a fault
abbrev pub MayFail : List ℕ → ℕ → Moment → Type 0
MayFail name limit moment = CannotBegin name moment ⊎ IsSomeAnd (moment.file name) (FailsWithin limit)

-- an input holds these bytes under a name
abbrev pub Holds : Moment → List ℕ → List ℕ → Type 0
Holds moment name bytes = IsSomeAnd (moment.file name) (λ file. file.bytes ≡ bytes)
