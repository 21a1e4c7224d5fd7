-- What is read of a script, where it is left as an event.
use Rattle.std.proofs.Common.{◌≡◌, ℕ, ◌+◌, ◌*◌, ◌<◌, ◌≤◌, Bool, IsTrue, List, [], length, replicate, Ok, Err, refl, sym, ap, subst, arith, inl, inr}
use Rattle.std.proofs.lemmas.List.{append-nil}
use Rattle.pm_base.specs.declared.events.Event.{Event}
use Rattle.pm_base.specs.declared.events.Event.TheVariants.{Pass}
use Rattle.pm_io.specs.declared.prefix.StopReason.{StopReason}
use Rattle.pm_io.specs.declared.prefix.StopReason.TheVariants as reason
use Rattle.pm_io.specs.Inputs.{Moment}
use Rattle.pm_io.specs.Readings.{Meanwhile}
use Rattle.pm_io.proofs.ReadingsLemmas.{comes_start}
use Rattle.pm_script.specs.declared.meaning.LineFault.{LineFault}
use Rattle.pm_script.specs.Meaning.{meaning}
use Rattle.pm_script.specs.Script.{script_limit}
use Rattle.pm_reader.specs.declared.follow.Front.{Front}
use Rattle.pm_reader.specs.declared.follow.LineStop.{LineStop}
use Rattle.pm_reader.specs.declared.follow.LineStop.TheVariants as stops
use Rattle.pm_reader.specs.declared.meant.Meant.{Meant}
use Rattle.pm_reader.specs.declared.meant.Meant.TheVariants as meant
use Rattle.pm_reader.specs.declared.reader.Taken.{Taken}
use Rattle.pm_reader.specs.declared.reader.Taken.TheVariants as taken
use Rattle.pm_reader.specs.Follow.{FollowedInput, FollowedOne, Following, GoesThrough, ReadsLines}
use Rattle.pm_reader.specs.Front.{Ahead, Attaches}
use Rattle.pm_reader.specs.Meant.{ComesTo, GaveMeant, ReadMeant}
use Rattle.pm_reader.specs.Reader.{Gives, Held}
use Rattle.pm_reader.proofs.GivenLemmas.{on_none}
use Rattle.pm_reader.proofs.ReadsLemmas.{gave_reads}
use Rattle.pm_reader.proofs.TookLemmas.{Took-refl}
use Rattle.pm_reader.proofs.StandsLemmas.{Stands, calls_bad, calls_end, calls_fault, calls_long, calls_over, calls_stopped, stands_as, stands_bad, stands_broken, stands_end, stands_fault, stands_few, stands_first, stands_long, stands_next, stands_over, turn_smaller, turns_left}

-- a line that is held was followed where it stands: nothing was read
pub held_meant : (shown : Type 0) (id : ℕ) (now : Moment) (old new : Held) (meant : Meant) (event : Event) → GaveMeant old new meant event → ReadMeant shown id now now old new meant event
held_meant shown id now old new meant event gave =
    let gives : Gives old taken.Line gave.line new = inl gave.gave in
    record {
      answer = taken.Line;
      line = gave.line;
      turn = record {
        got = [];
        held = old;
        took = Took-refl shown id now;
        gave = on_none id old.ended now;
        grows = record { bytes = sym (append-nil old.bytes); credit = omega arith; ended = λ is. (refl, is) };
        gives = gives;
      };
      knows = λ knows. record {
        rest = λ seen is. knows.rest seen (subst (λ (b : Bool). IsTrue b) gave.gave.ended is);
        free = λ seen is. knows.free seen (subst (λ (b : Bool). IsTrue b) gave.gave.ended is);
      };
      stuck = λ seen is. cc;
      fault = λ is. cc;
      reads = gave_reads id old old new taken.Line gave.line now now (λ is. cc) gives (comes_start id old.credit old.ended now);
      comes_to = gave.comes_to;
    }

-- what a line comes to makes one more turn
abbrev pub meant_turns : Meant → ℕ
meant_turns meant.Event = 1
meant_turns (meant.Bad cause) = 0
meant_turns (meant.Over stop) = 0

as_many_turns : (answer : Taken) (line : List ℕ) (meant : Meant) (event : Event) → ComesTo answer line meant event → meant_turns meant ≤ turns_left answer
as_many_turns answer line meant.Event event comes = let is : turns_left answer ≡ 1 = ap turns_left comes.0 in omega (arith, is)
as_many_turns answer line (meant.Bad cause) event comes = omega arith
as_many_turns answer line (meant.Over stop) event comes = omega arith

pub meant_smaller : (shown : Type 0) (id : ℕ) (before after : Moment) (old new : Held) (meant : Meant) (event : Event) → ReadMeant shown id before after old new meant event
    → 2 * (new.credit + length new.bytes) + meant_turns meant < 2 * (old.credit + length old.bytes) + 1
meant_smaller shown id before after old new meant event read =
    omega (arith, turn_smaller shown id before after old new read.answer read.line read.turn, as_many_turns read.answer read.line meant event read.comes_to)

-- what an answer comes to isn't followed yet behind so many lines, the first of which are those of the front
pub record Waits {F : Type 0} (Follows : Following F) (shown : Type 0) (id : ℕ) (ahead : Ahead) (front : ℕ) (start : F) (now : Moment) (n : ℕ) (at : F)
    (meant : Meant) (event : Event) (reader : Held) : Type 0 where
  pub answer : Taken
  pub line : List ℕ
  pub stands : Stands Follows shown id ahead front start now n at answer line reader
  pub comes_to : ComesTo answer line meant event

module _ {F : Type 0} (Follows : Following F) (shown : Type 0) (id : ℕ) (ahead : Ahead) (start : F) where
  -- the front was followed
  pub waits_first : (front : Front) (now : Moment) (at : F) (meant : Meant) (event : Event) → Attaches shown id ahead now front → GoesThrough Follows 1 (replicate front.lines Pass) start at
      → ComesTo front.taken front.line.items meant event
      → Waits Follows shown id ahead front.lines start now front.lines at meant event front.reader
  waits_first front now at meant event a through comes = record {
    answer = front.taken;
    line = front.line.items;
    stands = stands_first Follows shown id ahead start front now at a through;
    comes_to = comes;
  }

  module _ (front n : ℕ) (now : Moment) (at : F) (event : Event) (reader : Held) where
    -- the line of the answer
    of_line : (answer : Taken) (line : List ℕ) → answer ≡ taken.Line → Stands Follows shown id ahead front start now n at answer line reader → Stands Follows shown id ahead front start now n at taken.Line line reader
    of_line answer line is s = stands_as Follows shown id ahead start front n now at line reader answer taken.Line is s

    -- what it comes to in other words
    pub waits_as : (this other : Meant) → this ≡ other → Waits Follows shown id ahead front start now n at this event reader → Waits Follows shown id ahead front start now n at other event reader
    waits_as this other is w = subst (λ (m : Meant). Waits Follows shown id ahead front start now n at m event reader) is w

    -- a line was followed, and the next one was read
    pub waits_next : (later : Moment) (then : F) (new : Held) (next : Meant) (left : Event)
        → Waits Follows shown id ahead front start now n at meant.Event event reader
        → Follows (n + 1) event at then (Ok tt)
        → ReadMeant shown id now later reader new next left
        → Waits Follows shown id ahead front start later (n + 1) then next left new
    waits_next later then new next left w one read = record {
      answer = read.answer;
      line = read.line;
      stands = stands_next Follows shown id ahead start front n now at w.line reader later then new read.answer read.line (meaning w.line) event
          (of_line w.answer w.line w.comes_to.0 w.stands) refl w.comes_to.1 one read.turn read.knows read.stuck read.fault read.reads;
      comes_to = read.comes_to;
    }

    -- ---- how it ends

    by_fault : (answer : Taken) (line : List ℕ) (cause : LineFault) → Stands Follows shown id ahead front start now n at answer line reader → ComesTo answer line (meant.Bad cause) event
        → FollowedInput Follows shown id ahead now start at (Err (stops.Bad (n + 1) cause))
    by_fault answer line cause s (inl bad) = stands_bad Follows shown id ahead start front n now at line reader (meaning line) cause (of_line answer line bad.0 s) refl bad.1
    by_fault answer line cause s (inr long) =
        subst (λ (why : LineFault). FollowedInput Follows shown id ahead now start at (Err (stops.Bad (n + 1) why))) (sym long.1)
        (stands_long Follows shown id ahead start front n now at line reader (stands_as Follows shown id ahead start front n now at line reader answer taken.Long long.0 s))

    -- the line has no meaning
    pub waits_bad : (cause : LineFault) → Waits Follows shown id ahead front start now n at (meant.Bad cause) event reader
        → FollowedInput Follows shown id ahead now start at (Err (stops.Bad (n + 1) cause))
    waits_bad cause w = by_fault w.answer w.line cause w.stands w.comes_to

    -- the follower failed at the line
    pub waits_broken : (then : F) (why : LineStop) → Waits Follows shown id ahead front start now n at meant.Event event reader
        → FollowedOne Follows (n + 1) event at then (Err why) → FollowedInput Follows shown id ahead now start then (Err why)
    waits_broken then why w one =
        stands_broken Follows shown id ahead start front n now at w.line reader then (meaning w.line) event why (of_line w.answer w.line w.comes_to.0 w.stands) refl w.comes_to.1 one

    -- no further line comes
    pub waits_over : (stop : StopReason) → Waits Follows shown id ahead front start now n at (meant.Over stop) event reader
        → FollowedInput Follows shown id ahead now start at (Ok (record { count = n; stop = stop }))
    waits_over reason.End w = stands_end Follows shown id ahead start front n now at w.line reader (stands_as Follows shown id ahead start front n now at w.line reader w.answer taken.End w.comes_to w.stands)
    waits_over reason.Limit w = stands_over Follows shown id ahead start front n now at w.line reader (stands_as Follows shown id ahead start front n now at w.line reader w.answer taken.Over w.comes_to w.stands)
    waits_over reason.Failure w = stands_fault Follows shown id ahead start front n now at w.line reader (stands_as Follows shown id ahead start front n now at w.line reader w.answer taken.Fault w.comes_to w.stands)
    waits_over reason.Unbegun w = absurd w.comes_to

    -- ---- the calls

    calls_fault_of : (answer : Taken) (line : List ℕ) (cause : LineFault) → Stands Follows shown id ahead front start now n at answer line reader → ComesTo answer line (meant.Bad cause) event
        → Meanwhile ahead.first now (ReadsLines id (Err (stops.Bad (n + 1) cause)))
    calls_fault_of answer line cause s (inl bad) = calls_bad Follows shown id ahead start front n now at line reader cause (of_line answer line bad.0 s)
    calls_fault_of answer line cause s (inr long) =
        subst (λ (why : LineFault). Meanwhile ahead.first now (ReadsLines id (Err (stops.Bad (n + 1) why)))) (sym long.1)
        (calls_long Follows shown id ahead start front n now at line reader (stands_as Follows shown id ahead start front n now at line reader answer taken.Long long.0 s))

    pub bad_calls : (cause : LineFault) → Waits Follows shown id ahead front start now n at (meant.Bad cause) event reader
        → Meanwhile ahead.first now (ReadsLines id (Err (stops.Bad (n + 1) cause)))
    bad_calls cause w = calls_fault_of w.answer w.line cause w.stands w.comes_to

    pub broken_calls : (then : F) (why : LineStop) → Waits Follows shown id ahead front start now n at meant.Event event reader
        → FollowedOne Follows (n + 1) event at then (Err why) → Meanwhile ahead.first now (ReadsLines id (Err why))
    broken_calls then why w one =
        calls_stopped Follows shown id ahead start front n now at w.line reader then event why one (of_line w.answer w.line w.comes_to.0 w.stands)

    pub over_calls : (stop : StopReason) → Waits Follows shown id ahead front start now n at (meant.Over stop) event reader
        → Meanwhile ahead.first now (ReadsLines id (Ok (record { count = n; stop = stop })))
    over_calls reason.End w = calls_end Follows shown id ahead start front n now at w.line reader (stands_as Follows shown id ahead start front n now at w.line reader w.answer taken.End w.comes_to w.stands)
    over_calls reason.Limit w = calls_over Follows shown id ahead start front n now at w.line reader (stands_as Follows shown id ahead start front n now at w.line reader w.answer taken.Over w.comes_to w.stands)
    over_calls reason.Failure w = calls_fault Follows shown id ahead start front n now at w.line reader (stands_as Follows shown id ahead start front n now at w.line reader w.answer taken.Fault w.comes_to w.stands)
    over_calls reason.Unbegun w = absurd w.comes_to

    -- there is room for the number of the next line
    pub waits_few : (meant : Meant) → Waits Follows shown id ahead front start now n at meant event reader → n ≤ script_limit + 1
    waits_few meant w = stands_few Follows shown id ahead start front n now at w.line reader w.answer w.stands
