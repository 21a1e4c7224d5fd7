-- The result of a run, over any inputs, by what their calls gave.
use Rattle.std.specs.Prelude.{◌≡◌, ◌⊎◌, ℕ, List, Option, Some}
use Rattle.pm_base.specs.declared.errors.Exit.{Exit}
use Rattle.pm_base.specs.declared.errors.Exit.TheVariants as exit
use Rattle.pm_io.specs.declared.sink.Sink as Sink
use Rattle.pm_io.specs.Calls.{Call}
use Rattle.pm_io.specs.Sink.{HasFailed}
use Rattle.pm_board.specs.Board.{Standing}
use Rattle.pm_device.specs.declared.device.Device as Device
use Rattle.pm_top.specs.declared.works.Work.TheVariants.{Replay}
use Rattle.pm_top.specs.Complete.{FormGivenRight}
use Rattle.pm_top.specs.Done.{DoneBy}
use Rattle.pm_top.specs.Form.{form, over, request_of}
use Rattle.pm_top.specs.Given.{GaveEach}
use Rattle.pm_top.specs.Headline.{Headline}
use Rattle.pm_top.specs.Ran.{DecidesGiven, RanGiven}
use Rattle.pm_top.specs.Reads.{FormReads}

-- a run of these words made exactly these calls on its inputs, and ended with this exit
pub record Outcome {O D : Type 0} (o : Sink.Ghosts O) (d : Device.Ghosts D) (ws : List (List ℕ)) (board is : Standing) (calls : List Call)
    (sink sink' : O) (device device' : D) (result : Exit) : Type 0 where
  -- the names of the words were opened in the order of the work, each once, and read to their end, or to one byte past
  -- the limit, or to where the run ended
  pub begun : FormReads (form ws) ws result calls
  -- what they gave is the job, unless memory runs out; this much of it was written, and done to the device and the tasks
  pub ran : RanGiven o d (form ws) ws board is calls sink sink' device device' result
  -- the exit follows from what they gave, unless memory runs out or the sink fails
  pub decided : DecidesGiven o (form ws) ws calls sink sink' result
  -- if that is right and the sink doesn't fail, the exit is Done, or memory ran out
  pub complete : FormGivenRight (form ws) ws calls → (HasFailed (o.state sink) (o.state sink') → ⊥)
      → (result ≡ exit.Done) ⊎ (result ≡ exit.Memory)
  -- on Done it is right, and the whole text that the words ask for was written
  pub done : o.observable → result ≡ exit.Done → DoneBy o d (GaveEach calls) (request_of ws) ws board is sink sink' device device'
  -- and on Done of `replay` the headline holds for it
  pub headline : o.observable → (named : Option ℕ) → result ≡ exit.Done → request_of ws ≡ Some (over named Replay)
      → Headline o d (GaveEach calls) named ws board sink sink' device device'
