-- Where the lines stand when an answer was given that isn't followed yet.
use Rattle.std.proofs.Common.{◌≡◌, ℕ, ◌+◌, ◌*◌, ◌<◌, ◌≤◌, false, List, [], ◌∷◌, ◌++◌, length, replicate, Result, Ok, Err, refl, sym, ap, subst, arith, inl, inr}
use Rattle.std.proofs.lemmas.List.{length-append}
use Rattle.pm_base.specs.declared.errors.Failed.{Failed}
use Rattle.pm_base.specs.declared.events.Event.{Event}
use Rattle.pm_base.specs.declared.events.Event.TheVariants.{Pass}
use Rattle.pm_io.specs.declared.lines.Ending.{Ending}
use Rattle.pm_io.specs.declared.prefix.StopReason.TheVariants as reason
use Rattle.pm_io.specs.Calls.{Comes, GoesToFault, GoesUpTo}
use Rattle.pm_base.specs.Faults.{Rose}
use Rattle.pm_io.specs.Inputs.{IsStuck, Moment}
use Rattle.pm_io.specs.Readings.{Meanwhile}
use Rattle.pm_io.proofs.ReadingsLemmas.{meanwhile_map}
use Rattle.pm_block.specs.declared.block.Piece.{Piece}
use Rattle.pm_script.specs.declared.meaning.LineFault.{LineFault}
use Rattle.pm_script.specs.declared.meaning.LineFault.TheVariants.{Long}
use Rattle.pm_script.specs.Meaning.{meaning}
use Rattle.pm_script.specs.Script.{script_limit}
use Rattle.pm_reader.specs.declared.follow.Front.{Front}
use Rattle.pm_reader.specs.declared.follow.LineStop.{LineStop}
use Rattle.pm_reader.specs.declared.follow.LineStop.TheVariants as stops
use Rattle.pm_reader.specs.declared.follow.LinesEnd.{LinesEnd}
use Rattle.pm_reader.specs.declared.reader.Taken.{Taken}
use Rattle.pm_reader.specs.declared.reader.Taken.TheVariants as taken
use Rattle.pm_reader.specs.Follow.{FailsWithin, FollowedFront, FollowedInput, FollowedOne, Following, GoesThrough, IsBrokenOff, ReadsLines}
use Rattle.pm_reader.specs.Front.{Ahead, Attaches, Behind, IsOther}
use Rattle.pm_reader.specs.Reader.{ComesOn, Gives, HasRead, Held, KnowsEnd, Turn}
use Rattle.pm_reader.specs.Way.{Answered}
use Rattle.pm_reader.proofs.FollowLemmas.{Ends, OnWay, Way-next, Way-taken, answered, ends_bad, ends_broken, ends_end, ends_fault, ends_long, ends_over, fewer, same_credit}
use Rattle.pm_reader.proofs.FrontLemmas.{Goal, front_fails, front_way}
use Rattle.pm_reader.proofs.ReadsLemmas.{lines_end, lines_fault, lines_on, lines_over, lines_up_to}

-- the calls of what was read so far: up to somewhere, or to a read that failed
module _ (id : ℕ) (first mid now : Moment) (asked reader : Held) (so_far : Meanwhile first mid (Comes id (script_limit + 1) false asked.credit asked.ended)) where
  up_to : Meanwhile mid now (ComesOn id asked reader) → Meanwhile first now (IsBrokenOff id)
  up_to reads =
      meanwhile_map first now (GoesUpTo id (script_limit + 1) false) (IsBrokenOff id) (λ calls goes. inl goes)
      (lines_up_to id asked reader first mid now so_far reads)

  pub broken_off : (answer : Taken) → Meanwhile mid now (HasRead answer id asked reader) → Meanwhile first now (IsBrokenOff id)
  broken_off taken.Line reads = up_to reads
  broken_off taken.End reads = up_to reads
  broken_off taken.Long reads = up_to reads
  broken_off taken.Over reads = up_to reads
  broken_off taken.Fault reads =
      meanwhile_map first now (GoesToFault id (script_limit + 1) false) (IsBrokenOff id) (λ calls goes. inr goes)
      (lines_fault id asked reader first mid now so_far reads)

answer_calls : (S : List ℕ → List ℕ → Ending → Type 0) (shown : Type 0) (id n : ℕ) (first now : Moment) (answer : Taken) (line : List ℕ) (reader : Held)
    → Answered S shown id n first now answer line reader → Meanwhile first now (IsBrokenOff id)
answer_calls S shown id n first now answer line reader a = broken_off id first a.mid now a.asked reader a.so_far answer a.last

-- an answer that waits makes one more turn
abbrev pub turns_left : Taken → ℕ
turns_left taken.Line = 1
turns_left taken.End = 0
turns_left taken.Long = 0
turns_left taken.Over = 0
turns_left taken.Fault = 0

-- with each answer the reader has less left
module _ (shown : Type 0) (id : ℕ) (before after : Moment) (old new : Held) where
  by_answer : (answer : Taken) (held : Held) (line : List ℕ) → held.credit + length held.bytes ≡ old.credit + length old.bytes → Gives held answer line new
      → 2 * (new.credit + length new.bytes) + turns_left answer < 2 * (old.credit + length old.bytes) + 1
  by_answer taken.Line held line all gives =
      let less = fewer held new line gives in
      let same = same_credit held new line gives in
      omega (arith, all, less, same)
  by_answer taken.End held line all gives =
      let credit : new.credit ≡ held.credit = ap (λ (h : Held). h.credit) gives.3 in
      let bytes : length new.bytes ≡ length held.bytes = ap (λ (h : Held). length h.bytes) gives.3 in
      omega (arith, all, credit, bytes)
  by_answer taken.Long held line all gives =
      let credit : new.credit ≡ held.credit = ap (λ (h : Held). h.credit) gives.2 in
      let bytes : length new.bytes ≡ length held.bytes = ap (λ (h : Held). length h.bytes) gives.2 in
      omega (arith, all, credit, bytes)
  by_answer taken.Over held line all gives =
      let credit : new.credit ≡ held.credit = ap (λ (h : Held). h.credit) gives.2 in
      let bytes : length new.bytes ≡ length held.bytes = ap (λ (h : Held). length h.bytes) gives.2 in
      omega (arith, all, credit, bytes)
  by_answer taken.Fault held line all gives =
      let credit : new.credit ≡ held.credit = ap (λ (h : Held). h.credit) gives.3 in
      let bytes : length new.bytes ≡ length held.bytes = ap (λ (h : Held). length h.bytes) gives.3 in
      omega (arith, all, credit, bytes)

  pub turn_smaller : (answer : Taken) (line : List ℕ) → Turn shown id before after old new answer line
      → 2 * (new.credit + length new.bytes) + turns_left answer < 2 * (old.credit + length old.bytes) + 1
  turn_smaller answer line turn =
      let bytes : length turn.held.bytes ≡ length (old.bytes ++ turn.got) = ap (λ (xs : List ℕ). length xs) turn.grows.bytes in
      by_answer answer turn.held line (omega (arith, bytes, turn.grows.credit, length-append old.bytes turn.got)) turn.gives

-- an answer isn't followed yet behind so many lines, the first of which are those of the front
pub record Stands {F : Type 0} (Follows : Following F) (shown : Type 0) (id : ℕ) (ahead : Ahead) (front : ℕ) (start : F) (now : Moment) (n : ℕ) (at : F)
    (answer : Taken) (line : List ℕ) (reader : Held) : Type 0 where
  pub past : front ≤ n
  pub pieces : List Piece
  pub other : n ≡ front → answer ≡ taken.Line → IsOther pieces line
  pub answered : Answered (OnWay Follows (Goal Follows ahead.attached start) front pieces n at) shown id n ahead.first now answer line reader

module _ {F : Type 0} (Follows : Following F) (shown : Type 0) (id : ℕ) (ahead : Ahead) (start : F) where
  failed_in : (n : ℕ) (events : List Event) (old new : F) → FailsWithin Follows n events old new → Failed
  failed_in n [] old new fails = absurd fails
  failed_in n (event ∷ events) old new (inl one) = one.0
  failed_in n (event ∷ events) old new (inr later) = failed_in (n + 1) events later.0 new later.2

  -- the front was followed
  pub stands_first : (front : Front) (now : Moment) (at : F) → Attaches shown id ahead now front → GoesThrough Follows 1 (replicate front.lines Pass) start at
      → Stands Follows shown id ahead front.lines start now front.lines at front.taken front.line.items front.reader
  stands_first front now at a through =
      let f = a.is_front in
      let n : front.lines ≡ length a.events = f.lines in
      let there : GoesThrough Follows 1 (replicate (length a.events) Pass) start at = subst (λ (k : ℕ). GoesThrough Follows 1 (replicate k Pass) start at) n through in
      let stands : Stands Follows shown id ahead (length a.events) start now (length a.events) at front.taken front.line.items front.reader = record {
        past = omega arith;
        pieces = a.pieces;
        other = λ _. f.other;
        answered = record {
          held = f.answered.held;
          way = front_way Follows ahead.attached a.events a.pieces a.attached f.blocks shown id ahead.first now f.answered.held start at there f.answered.way;
          gives = f.answered.gives;
          knows = f.answered.knows;
          stuck = f.answered.stuck;
          fault = f.answered.fault;
          mid = f.answered.mid;
          asked = f.answered.asked;
          so_far = f.answered.so_far;
          last = f.answered.last;
        };
      }
      in
      subst (λ (k : ℕ). Stands Follows shown id ahead k start now k at front.taken front.line.items front.reader) (sym n) stands

  -- the follower failed within the front
  front_broken : (front : Front) (now : Moment) (new : F) → Attaches shown id ahead now front → FailsWithin Follows 1 (replicate front.lines Pass) start new
      → FollowedInput Follows shown id ahead now start new (Err stops.Broken)
  front_broken front now new a fails =
      let f = a.is_front in
      let failed : Failed = failed_in 1 (replicate front.lines Pass) start new fails in
      let there : FailsWithin Follows 1 (replicate (length a.events) Pass) start new = subst (λ (k : ℕ). FailsWithin Follows 1 (replicate k Pass) start new) f.lines fails in
      let both = front_fails Follows ahead.attached a.events a.pieces a.attached f.blocks shown id ahead.first now front.line.items front.reader start new failed front.taken there f.other f.answered in
      record {
        followed = both.0;
        given = both.1;
        ends = tt;
        fault = tt;
      }

  pub front_calls : (front : Front) (now : Moment) → Attaches shown id ahead now front → Meanwhile ahead.first now (IsBrokenOff id)
  front_calls front now a = answer_calls (Behind a.events) shown id (length a.events) ahead.first now front.taken front.line.items front.reader a.is_front.answered

  -- the same by the answer
  pub front_stopped : (front : Front) (now : Moment) (new : F) (why : LineStop) → FollowedFront Follows (replicate front.lines Pass) start new (Err why)
      → Attaches shown id ahead now front → FollowedInput Follows shown id ahead now start new (Err why)
  front_stopped front now new (stops.Bad m cause) fails a = absurd fails
  front_stopped front now new stops.Broken fails a = front_broken front now new a fails

  pub front_left : (front : Front) (now : Moment) (new : F) (why : LineStop) → FollowedFront Follows (replicate front.lines Pass) start new (Err why)
      → Attaches shown id ahead now front → Meanwhile ahead.first now (ReadsLines id (Err why))
  front_left front now new (stops.Bad m cause) fails a = absurd fails
  front_left front now new stops.Broken fails a = front_calls front now a

  module _ (front n : ℕ) (now : Moment) (at : F) (line : List ℕ) (reader : Held) where
    -- the answer in other words
    pub stands_as : (answer other : Taken) → answer ≡ other → Stands Follows shown id ahead front start now n at answer line reader
        → Stands Follows shown id ahead front start now n at other line reader
    stands_as answer other is s = subst (λ (a : Taken). Stands Follows shown id ahead front start now n at a line reader) is s

    -- a line was followed, and the next answer was given
    pub stands_next : (later : Moment) (then : F) (new : Held) (answer : Taken) (text : List ℕ) (meant : Result Event LineFault) (event : Event)
        → Stands Follows shown id ahead front start now n at taken.Line line reader
        → meant ≡ meaning line → meant ≡ Ok event → Follows (n + 1) event at then (Ok tt)
        → Turn shown id now later reader new answer text → (KnowsEnd shown id reader now → KnowsEnd shown id new later)
        → (shown → answer ≡ taken.Fault → IsStuck (later.input id)) → (answer ≡ taken.Fault → Rose now.faults later.faults)
        → Meanwhile now later (HasRead answer id reader new)
        → Stands Follows shown id ahead front start later (n + 1) then answer text new
    stands_next later then new answer text meant event s means is one turn knows stuck fault last =
        let a = s.answered in
        let G = Goal Follows ahead.attached start in
        let has = Way-taken Follows G front s.pieces shown id ahead.first n now a.held reader line at a.way a.gives in
        let way = Way-next Follows G front s.pieces shown id ahead.first n now reader line at then meant event means is (λ first. s.other first refl) one has in
        record {
          past = omega (arith, s.past);
          pieces = s.pieces;
          other = λ same. absurd (omega (arith, s.past, same));
          answered = answered (OnWay Follows G front s.pieces (n + 1) then) shown id (n + 1) ahead.first now later reader new answer text way
              (lines_on id a.asked reader ahead.first a.mid now a.so_far a.last) turn (knows a.knows) stuck fault last;
        }

    -- ---- how it ends

    -- this is what is asked for
    whole : (pieces : List Piece) (then : F) (result : Result LinesEnd LineStop) → Ends Follows (Goal Follows ahead.attached start) front pieces shown id ahead.first now then result
        → FollowedInput Follows shown id ahead now start then result
    whole pieces then result e = record { followed = e.followed; given = e.given; ends = e.ends; fault = e.fault }

    -- the line has no meaning
    pub stands_bad : (meant : Result Event LineFault) (cause : LineFault) → Stands Follows shown id ahead front start now n at taken.Line line reader
        → meant ≡ meaning line → meant ≡ Err cause → FollowedInput Follows shown id ahead now start at (Err (stops.Bad (n + 1) cause))
    stands_bad meant cause s means is =
        let a = s.answered in
        let G = Goal Follows ahead.attached start in
        let has = Way-taken Follows G front s.pieces shown id ahead.first n now a.held reader line at a.way a.gives in
        whole s.pieces at (Err (stops.Bad (n + 1) cause)) (ends_bad Follows G front s.pieces shown id ahead.first n now reader line at meant cause means is a.knows has)

    -- the follower failed at the line
    pub stands_broken : (then : F) (meant : Result Event LineFault) (event : Event) (why : LineStop) → Stands Follows shown id ahead front start now n at taken.Line line reader
        → meant ≡ meaning line → meant ≡ Ok event → FollowedOne Follows (n + 1) event at then (Err why) → FollowedInput Follows shown id ahead now start then (Err why)
    stands_broken then meant event why s means is one =
        let a = s.answered in
        let G = Goal Follows ahead.attached start in
        let has = Way-taken Follows G front s.pieces shown id ahead.first n now a.held reader line at a.way a.gives in
        whole s.pieces then (Err why) (ends_broken Follows G front s.pieces shown id ahead.first n now reader line at then meant event why means is (λ first. s.other first refl) one a.knows has)

    pub stands_long : Stands Follows shown id ahead front start now n at taken.Long line reader → FollowedInput Follows shown id ahead now start at (Err (stops.Bad (n + 1) Long))
    stands_long s =
        let a = s.answered in
        whole s.pieces at (Err (stops.Bad (n + 1) Long)) (ends_long Follows (Goal Follows ahead.attached start) front s.pieces shown id ahead.first n now a.held reader line at a.way a.gives a.knows)

    pub stands_end : Stands Follows shown id ahead front start now n at taken.End line reader → FollowedInput Follows shown id ahead now start at (Ok (record { count = n; stop = reason.End }))
    stands_end s =
        let a = s.answered in
        whole s.pieces at (Ok (record { count = n; stop = reason.End })) (ends_end Follows (Goal Follows ahead.attached start) front s.pieces shown id ahead.first n now a.held reader line at a.way a.gives a.knows)

    pub stands_over : Stands Follows shown id ahead front start now n at taken.Over line reader → FollowedInput Follows shown id ahead now start at (Ok (record { count = n; stop = reason.Limit }))
    stands_over s =
        let a = s.answered in
        whole s.pieces at (Ok (record { count = n; stop = reason.Limit })) (ends_over Follows (Goal Follows ahead.attached start) front s.pieces shown id ahead.first n now a.held reader line at a.way a.gives)

    pub stands_fault : Stands Follows shown id ahead front start now n at taken.Fault line reader → FollowedInput Follows shown id ahead now start at (Ok (record { count = n; stop = reason.Failure }))
    stands_fault s =
        let a = s.answered in
        whole s.pieces at (Ok (record { count = n; stop = reason.Failure }))
        (ends_fault Follows (Goal Follows ahead.attached start) front s.pieces shown id ahead.first n now a.held reader line at a.way a.gives (λ seen. a.stuck seen refl) (a.fault refl))

    -- ---- the calls

    pub calls_bad : (cause : LineFault) → Stands Follows shown id ahead front start now n at taken.Line line reader → Meanwhile ahead.first now (ReadsLines id (Err (stops.Bad (n + 1) cause)))
    calls_bad cause s = let a = s.answered in lines_up_to id a.asked reader ahead.first a.mid now a.so_far a.last

    calls_broken : Stands Follows shown id ahead front start now n at taken.Line line reader → Meanwhile ahead.first now (IsBrokenOff id)
    calls_broken s =
        let a = s.answered in
        meanwhile_map ahead.first now (GoesUpTo id (script_limit + 1) false) (IsBrokenOff id) (λ calls goes. inl goes) (lines_up_to id a.asked reader ahead.first a.mid now a.so_far a.last)

    pub calls_stopped : (then : F) (event : Event) (why : LineStop) → FollowedOne Follows (n + 1) event at then (Err why)
        → Stands Follows shown id ahead front start now n at taken.Line line reader → Meanwhile ahead.first now (ReadsLines id (Err why))
    calls_stopped then event (stops.Bad m cause) one s = absurd one
    calls_stopped then event stops.Broken one s = calls_broken s

    pub calls_long : Stands Follows shown id ahead front start now n at taken.Long line reader → Meanwhile ahead.first now (ReadsLines id (Err (stops.Bad (n + 1) Long)))
    calls_long s = let a = s.answered in lines_up_to id a.asked reader ahead.first a.mid now a.so_far a.last

    pub calls_end : Stands Follows shown id ahead front start now n at taken.End line reader → Meanwhile ahead.first now (ReadsLines id (Ok (record { count = n; stop = reason.End })))
    calls_end s = let a = s.answered in lines_end id a.asked reader ahead.first a.mid now a.so_far a.held line a.gives a.last

    pub calls_over : Stands Follows shown id ahead front start now n at taken.Over line reader → Meanwhile ahead.first now (ReadsLines id (Ok (record { count = n; stop = reason.Limit })))
    calls_over s = let a = s.answered in lines_over id a.asked reader ahead.first a.mid now a.so_far a.held line a.gives a.last

    pub calls_fault : Stands Follows shown id ahead front start now n at taken.Fault line reader → Meanwhile ahead.first now (ReadsLines id (Ok (record { count = n; stop = reason.Failure })))
    calls_fault s = let a = s.answered in lines_fault id a.asked reader ahead.first a.mid now a.so_far a.last

    -- there is room for the number of the next line
    pub stands_few : (answer : Taken) → Stands Follows shown id ahead front start now n at answer line reader → n ≤ script_limit + 1
    stands_few answer s = let w = s.answered.way in omega (arith, w.count, w.credit)
