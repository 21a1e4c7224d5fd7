-- The lines of an input are followed one after another, up to the first one that has no meaning or at which the follower fails.
use Rattle.std.specs.Prelude.{◌≡◌, ◌⊎◌, ℕ, ◌+◌, List, [], ◌∷◌, length, false, Result, Ok, Err, IfOk, ⊤}
use Rattle.pm_base.specs.declared.errors.Failed.{Failed}
use Rattle.pm_base.specs.declared.events.Event.{Event}
use Rattle.pm_io.specs.declared.prefix.StopReason.TheVariants.{Failure, Unbegun}
use Rattle.pm_io.specs.Calls.{Call, GoesToFault, GoesUpTo}
use Rattle.pm_base.specs.Faults.{Rose}
use Rattle.pm_io.specs.Inputs.{Moment}
use Rattle.pm_io.specs.Prefix.{Prefix, prefix_before}
use Rattle.pm_io.specs.Given.{prefix_given, stop_after}
use Rattle.pm_io.specs.Readings.{LeftReadBy, Meanwhile}
use Rattle.pm_reader.specs.declared.follow.LineStop.{LineStop}
use Rattle.pm_reader.specs.declared.follow.LineStop.TheVariants as stops
use Rattle.pm_reader.specs.declared.follow.LinesEnd.{LinesEnd}
use Rattle.pm_script.specs.Script.{Script, script_from, script_limit, script_lines, stop_of}
use Rattle.pm_script.specs.Script.Stop.{Bad}
use Rattle.pm_block.specs.Block.{attached_by}
use Rattle.pm_reader.specs.Front.{Ahead, ran}

-- what a line of a number and an event does: it leads from a follower to a follower, and to an answer
abbrev pub Following : Type 0 → Type 1
Following F = ℕ → Event → F → F → Result ⊤ Failed → Type 0

-- something holds of the script of a begun input: of the lines of its bytes up to the limit, or to where a read fails. Where
-- the input isn't observable it holds of the lines of some bytes
pub record OfScript (shown : Type 0) (id : ℕ) (before : Moment) (Holds : Script → Type 0) : Type 0 where
  pub prefix : Prefix
  pub begun : prefix.stop ≡ Unbegun → ⊥
  pub is : shown → (before.input id).place ≡ 0 → prefix ≡ prefix_before script_limit (before.input id).file.fails_at (before.input id).file.bytes
  pub holds : Holds (script_from (script_lines prefix) (stop_of prefix.stop))

-- the script that calls gave under a number: of the lines of the bytes that they gave, up to the limit, to the end, or to
-- where these break off
abbrev pub script_given : ℕ → List Call → Script
script_given id calls = script_from (script_lines (prefix_given script_limit id calls)) (stop_of (stop_after script_limit id calls))

-- a script was read up to somewhere, or to a read that failed
abbrev pub IsBrokenOff : ℕ → List Call → Type 0
IsBrokenOff id calls = GoesUpTo id (script_limit + 1) false calls ⊎ GoesToFault id (script_limit + 1) false calls

-- the calls of a reading of the lines of a begun input, by how they end: to its end or to one byte past the limit, or up
-- to a read that failed; or up to somewhere, if a line has no meaning; or either, if the follower fails, since what comes
-- after the block is read before its lines are followed
abbrev pub ReadsLines : ℕ → Result LinesEnd LineStop → List Call → Type 0
ReadsLines id (Ok end) calls = LeftReadBy end.stop id (script_limit + 1) calls
ReadsLines id (Err (stops.Bad m cause)) calls = GoesUpTo id (script_limit + 1) false calls
ReadsLines id (Err stops.Broken) calls = IsBrokenOff id calls

module _ {F : Type 0} (Follows : Following F) where
  -- the lines of these events, the first of which has this number, were all followed in this order, and nothing else was done
  abbrev pub GoesThrough : ℕ → List Event → F → F → Type 0
  GoesThrough n [] old new = old ≡ new
  GoesThrough n (event ∷ events) old new = (next : F) × Follows n event old next (Ok tt) × GoesThrough (n + 1) events next new

  -- they were followed in this order up to one at which the follower failed, and nothing else was done
  abbrev pub FailsWithin : ℕ → List Event → F → F → Type 0
  FailsWithin n [] old new = ⊥
  FailsWithin n (event ∷ events) old new =
      ((failed : Failed) × Follows n event old new (Err failed))
      ⊎ ((next : F) × Follows n event old next (Ok tt) × FailsWithin (n + 1) events next new)

  -- the lines of these events were followed, or the follower failed within them
  abbrev pub FollowedFront : List Event → F → F → Result ⊤ LineStop → Type 0
  FollowedFront events old new (Ok nothing) = GoesThrough 1 events old new
  FollowedFront events old new (Err (stops.Bad m cause)) = ⊥
  FollowedFront events old new (Err stops.Broken) = FailsWithin 1 events old new

  -- one line was followed, by the answer
  abbrev pub FollowedOne : ℕ → Event → F → F → Result ⊤ LineStop → Type 0
  FollowedOne n event old new (Ok nothing) = Follows n event old new (Ok tt)
  FollowedOne n event old new (Err (stops.Bad m cause)) = ⊥
  FollowedOne n event old new (Err stops.Broken) = (failed : Failed) × Follows n event old new (Err failed)

  -- how the lines of a script end, the first of which has this number: all were followed, and so many lines came before what
  -- comes then; or one has no meaning; or the follower failed
  abbrev pub Followed : ℕ → Script → F → F → Result LinesEnd LineStop → Type 0
  Followed n s old new (Ok end) = GoesThrough n s.events old new × (s.stop ≡ stop_of end.stop) × (1 + end.count ≡ n + length s.events)
  Followed n s old new (Err (stops.Bad m cause)) = GoesThrough n s.events old new × (s.stop ≡ Bad cause) × (m ≡ n + length s.events)
  Followed n s old new (Err stops.Broken) = FailsWithin n s.events old new

  -- the lines of an input were followed whose first lines were read ahead: its block attaches just what was to be
  -- attached, and then nothing happens in its lines
  pub record FollowedInput (shown : Type 0) (id : ℕ) (ahead : Ahead) (after : Moment) (old new : F) (result : Result LinesEnd LineStop) : Type 0 where
    pub followed : OfScript shown id ahead.first (λ s. (attached_by s.events ≡ ahead.attached) × Followed 1 (ran s) old new result)
    -- of every input, it holds of the script that the calls gave since
    pub given : Meanwhile ahead.first after (λ calls. (attached_by (script_given id calls).events ≡ ahead.attached)
        × Followed 1 (ran (script_given id calls)) old new result)
    pub ends : IfOk result (λ end. end.stop ≡ Unbegun → ⊥)
    pub fault : IfOk result (λ end. end.stop ≡ Failure → Rose ahead.first.faults after.faults)
