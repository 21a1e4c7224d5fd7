-- What a sink of bytes shows at a moment, and how that moves from call to call.
use Rattle.std.specs.Prelude.{◌≡◌, ℕ, ◌<◌, ◌⊎◌, List, ◌++◌, length, Result, IfOk, OnErr}
use Rattle.pm_base.specs.Faults.{Rose}

-- the bytes so far where they are shown, how many writes have failed, and how many took 0 of a piece that isn't empty
pub record SinkMoment : Type 0 where
  pub bytes : List ℕ
  pub faults : ℕ
  pub stalls : ℕ

-- where bytes are shown, these were appended
abbrev pub Appended : Type 0 → List ℕ → SinkMoment → SinkMoment → Type 0
Appended shown bytes old new = shown → new.bytes ≡ old.bytes ++ bytes

-- a write that took 0 of a piece that isn't empty is counted as a stall, and no other write
pub record CountsStalls {E : Type 0} (piece : List ℕ) (old new : SinkMoment) (result : Result ℕ E) : Type 0 where
  pub stalled : IfOk result (λ count. count ≡ 0 → 0 < length piece → Rose old.stalls new.stalls)
  pub taken : IfOk result (λ count. 0 < count → new.stalls ≡ old.stalls)
  pub empty : length piece ≡ 0 → new.stalls ≡ old.stalls
  pub failed : OnErr result (new.stalls ≡ old.stalls)

-- a write failed, or took 0 of a piece that isn't empty
abbrev pub HasFailed : SinkMoment → SinkMoment → Type 0
HasFailed old new = Rose old.faults new.faults ⊎ Rose old.stalls new.stalls

-- between two moments these bytes were appended, no write failed, and none took 0 of a piece that isn't empty
pub record Wrote (shown : Type 0) (bytes : List ℕ) (old new : SinkMoment) : Type 0 where
  pub faults : new.faults ≡ old.faults
  pub stalls : new.stalls ≡ old.stalls
  pub appended : Appended shown bytes old new

-- no write failed, and none took 0 of a piece that isn't empty
pub record IsUnfailed (old new : SinkMoment) : Type 0 where
  pub faults : new.faults ≡ old.faults
  pub stalls : new.stalls ≡ old.stalls
