-- What was attached ahead is what the block of the script attaches, whether its lines are followed or not.
use Rattle.std.proofs.Common.{◌≡◌, ℕ, ◌+◌, List, [], ◌∷◌, map, replicate, Result, Ok, Err, refl}
use Rattle.std.specs.Prelude.{⊤}
use Rattle.pm_base.specs.declared.errors.Failed.{Failed}
use Rattle.pm_base.specs.declared.events.Event.{Event}
use Rattle.pm_base.specs.declared.events.Event.TheVariants.{Pass}
use Rattle.pm_io.specs.Inputs.{Moment}
use Rattle.pm_io.specs.Readings.{Meanwhile}
use Rattle.pm_io.proofs.ReadingsLemmas.{meanwhile_map}
use Rattle.pm_object.specs.declared.attached.Attached.{Attached}
use Rattle.pm_block.specs.declared.block.Piece.{Piece}
use Rattle.pm_block.specs.Pieces.{attached_in}
use Rattle.pm_block.specs.Block.{attached_by}
use Rattle.pm_script.specs.declared.meaning.LineFault.{LineFault}
use Rattle.pm_script.specs.Meaning.{meaning}
use Rattle.pm_reader.specs.declared.follow.Front.{Front}
use Rattle.pm_reader.specs.declared.follow.LineStop.{LineStop}
use Rattle.pm_reader.specs.declared.follow.LineStop.TheVariants as stops
use Rattle.pm_reader.specs.declared.follow.LinesEnd.{LinesEnd}
use Rattle.pm_reader.specs.declared.reader.Taken.{Taken}
use Rattle.pm_reader.specs.declared.reader.Taken.TheVariants as taken
use Rattle.pm_reader.specs.Follow.{FollowedInput, Following, GoesThrough, IsBrokenOff, OfScript, script_given}
use Rattle.pm_reader.specs.Front.{Ahead, Attaches, ReadAhead, ahead_of}
use Rattle.pm_reader.specs.Reader.{Held}
use Rattle.pm_reader.proofs.Named.{of_more}
use Rattle.pm_reader.proofs.StandsLemmas.{Stands, front_calls, stands_bad, stands_broken, stands_end, stands_fault, stands_first, stands_long, stands_over}

-- who does nothing in a line, and may fail at each
abbrev pub Idle : Following ⊤
Idle n event old new result = ⊤

idle_through : (n : ℕ) (events : List Event) → GoesThrough Idle n events tt tt
idle_through n [] = refl
idle_through n (event ∷ events) = (tt, tt, idle_through (n + 1) events)

module _ (shown : Type 0) (id : ℕ) (ahead : Ahead) (now : Moment) (failed : Failed) where
  -- in what is read in the end, and in what was given so far
  abbrev AttachesAhead : Type 0
  AttachesAhead =
      OfScript shown id ahead.first (λ s. attached_by s.events ≡ ahead.attached)
      × Meanwhile ahead.first now (λ calls. attached_by (script_given id calls).events ≡ ahead.attached)

  -- whoever follows the script, it attaches that
  of_followed : (result : Result LinesEnd LineStop) → FollowedInput Idle shown id ahead now tt tt result → AttachesAhead
  of_followed result did = (
    of_more shown id ahead.first _ (λ s. attached_by s.events ≡ ahead.attached) (λ s both. both.0) did.followed,
    meanwhile_map ahead.first now _ (λ calls. attached_by (script_given id calls).events ≡ ahead.attached) (λ calls both. both.0) did.given,
  )

  module _ (front n : ℕ) (line : List ℕ) (reader : Held) where
    by_line : (meant : Result Event LineFault) → meant ≡ meaning line → Stands Idle shown id ahead front tt now n tt taken.Line line reader → AttachesAhead
    by_line (Ok event) is s = of_followed (Err stops.Broken) (stands_broken Idle shown id ahead tt front n now tt line reader tt (Ok event) event stops.Broken s is refl (failed, tt))
    by_line (Err cause) is s = of_followed (Err (stops.Bad (n + 1) cause)) (stands_bad Idle shown id ahead tt front n now tt line reader (Err cause) cause s is refl)

    by_answer : (answer : Taken) → Stands Idle shown id ahead front tt now n tt answer line reader → AttachesAhead
    by_answer taken.Line s = by_line (meaning line) refl s
    by_answer taken.Long s = of_followed _ (stands_long Idle shown id ahead tt front n now tt line reader s)
    by_answer taken.End s = of_followed _ (stands_end Idle shown id ahead tt front n now tt line reader s)
    by_answer taken.Over s = of_followed _ (stands_over Idle shown id ahead tt front n now tt line reader s)
    by_answer taken.Fault s = of_followed _ (stands_fault Idle shown id ahead tt front n now tt line reader s)

  front_attaches : (front : Front) → Attaches shown id ahead now front → AttachesAhead
  front_attaches front a =
      by_answer front.lines front.lines front.line.items front.reader front.taken
      (stands_first Idle shown id ahead tt front now tt a (idle_through 1 (replicate front.lines Pass)))

  pub front_script : (front : Front) → Attaches shown id ahead now front → OfScript shown id ahead.first (λ s. attached_by s.events ≡ ahead.attached)
  front_script front a = (front_attaches front a).0

  -- the same of what was given so far
  pub front_given : (front : Front) → Attaches shown id ahead now front → Meanwhile ahead.first now (λ calls. attached_by (script_given id calls).events ≡ ahead.attached)
  front_given front a = (front_attaches front a).1

-- what was read ahead attaches what its pieces spell
pub attaches_by : (shown : Type 0) (id : ℕ) (first now : Moment) (block : List Piece) (front : Front) (read : ReadAhead shown id first now block front) (attached : List Attached)
    → attached ≡ map attached_in read.pieces → Attaches shown id (ahead_of first attached) now front
attaches_by shown id first now block front read attached is =
    record { events = read.events; pieces = read.pieces; attached = is; is_front = read.is_front }

-- and so far it was read
pub read_calls : (shown : Type 0) (id : ℕ) (first now : Moment) (block : List Piece) (front : Front) → ReadAhead shown id first now block front → Meanwhile first now (IsBrokenOff id)
read_calls shown id first now block front read =
    let attached : List Attached = map attached_in read.pieces in
    front_calls Idle shown id (ahead_of first attached) tt front now (attaches_by shown id first now block front read attached refl)
