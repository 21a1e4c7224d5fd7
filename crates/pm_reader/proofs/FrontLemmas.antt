-- The front of a script is read ahead, and its lines are followed first.
use Rattle.std.proofs.Common.{◌≡◌, ℕ, zero, suc, ◌+◌, ◌<◌, Bool, true, false, List, [], ◌∷◌, ◌++◌, length, map, replicate, Result, Ok, Err, refl, sym, ap, ◌∙◌, subst, arith, append_assoc, inl, inr}
use Rattle.std.specs.Prelude.{⊤, IfErr}
use Rattle.std.proofs.lemmas.List.{length-append}
use Rattle.pm_base.specs.declared.errors.Failed.{Failed}
use Rattle.pm_base.specs.declared.events.Event.{Event}
use Rattle.pm_base.specs.declared.events.Event.TheVariants.{Attach, Pass}
use Rattle.pm_io.specs.declared.lines.Ending.{Ending}
use Rattle.pm_io.specs.Calls.{Comes}
use Rattle.pm_base.specs.Faults.{Rose}
use Rattle.pm_io.specs.Inputs.{IsStuck, Moment}
use Rattle.pm_io.specs.Lines.{lines}
use Rattle.pm_io.specs.Readings.{Meanwhile}
use Rattle.pm_object.specs.declared.attached.Attached.{Attached}
use Rattle.pm_block.specs.declared.block.Piece.{Piece}
use Rattle.pm_block.specs.Pieces.{attached_in, kept, takes, with_words}
use Rattle.pm_block.specs.Block.{attached_by, passed, passed_from, pieces_from, pieces_of}
use Rattle.pm_script.specs.declared.meaning.LineFault.{LineFault}
use Rattle.pm_script.specs.Meaning.{meaning}
use Rattle.pm_script.specs.Script.{Script, Stop, before, script_from, script_limit}
use Rattle.pm_reader.specs.declared.follow.LineStop.{LineStop}
use Rattle.pm_reader.specs.declared.follow.LineStop.TheVariants as stops
use Rattle.pm_reader.specs.declared.follow.LinesEnd.{LinesEnd}
use Rattle.pm_reader.specs.declared.reader.Taken.{Taken}
use Rattle.pm_reader.specs.declared.reader.Taken.TheVariants as taken
use Rattle.pm_reader.specs.Follow.{FailsWithin, Followed, FollowedFront, FollowedOne, Following, GoesThrough, OfScript, script_given}
use Rattle.pm_reader.specs.declared.follow.Front.{Front}
use Rattle.pm_reader.specs.Front.{AddsNothing, AttachedOne, Behind, IsOther, MakeBlock, ReadAhead, behind, ran}
use Rattle.pm_reader.specs.Reader.{ComesOn, Gives, HasRead, Held, KnowsEnd, Turn}
use Rattle.pm_reader.specs.Way.{Answered, Way}
use Rattle.pm_reader.proofs.FollowLemmas.{Ends, HasLine, OnWay, UnderWay, Way-line, Way-map, Way-read, Way-taken, answered, ends_bad, ends_broken, ends_end, ends_fault, ends_long, ends_over, followed_next}
use Rattle.pm_io.proofs.GivenLemmas.{meanwhile_gave_none}
use Rattle.pm_reader.proofs.ReadsLemmas.{lines_on, lines_start}
use Rattle.pm_reader.proofs.ScriptLemmas as scripts
use Rattle.pm_reader.proofs.TookLemmas.{Took-refl}

-- ---- events before others

pub behind_one : (events : List Event) (event : Event) (s : Script) → behind (events ++ event ∷ []) s ≡ behind events (before (Ok event) s)
behind_one [] event s = refl
behind_one (first ∷ events) event s = ap (before (Ok first)) (behind_one events event s)

behind_is : (events : List Event) (s : Script) → behind events s ≡ record s { events = events ++ s.events }
behind_is [] s = refl
behind_is (event ∷ events) s = ap (before (Ok event)) (behind_is events s)

-- ---- what was read of the front so far

pub record Reads (shown : Type 0) (id : ℕ) (first now : Moment) (block : List Piece) (lines : ℕ) (held : Held) : Type 0 where
  pub events : List Event
  pub pieces : List Piece
  pub is_kept : block ≡ map kept pieces
  pub count : lines ≡ length events
  pub blocks : MakeBlock events pieces
  pub way : Way (Behind events) shown id (length events) first now held
  pub so_far : Meanwhile first now (Comes id (script_limit + 1) false held.credit held.ended)
  pub knows : KnowsEnd shown id held now

-- no line came yet
pub blocks_none : MakeBlock [] []
blocks_none = record { block = λ later. refl; passed = λ later. refl }

-- nothing was read yet
pub reads_none : (shown : Type 0) (id : ℕ) (first : Moment) (block : List Piece) (held : Held) → block ≡ [] → held ≡ record { bytes = []; credit = script_limit + 1; ended = false } → Reads shown id first first block 0 held
reads_none shown id first block held empty is = record {
  events = [];
  pieces = [];
  is_kept = empty;
  count = refl;
  blocks = blocks_none;
  way = subst (λ (h : Held). Way (Behind []) shown id 0 first first h) (sym is) (record {
    taken = [];
    took = Took-refl shown id first;
    gave = meanwhile_gave_none id first;
    credit = omega arith;
    goes_on = λ more ending on stop. refl;
    count = omega arith;
  });
  so_far = lines_start id held first is;
  knows = subst (λ (h : Held). KnowsEnd shown id h first) (sym is) (record { rest = λ seen ended. cc; free = λ seen ended stuck. cc });
}

passes_behind : (events : List Event) (event : Event) (later : List Event) → replicate (length events) Pass ++ Pass ∷ later ≡ replicate (length (events ++ event ∷ [])) Pass ++ later
passes_behind [] event later = refl
passes_behind (first ∷ events) event later = ap (λ (rest : List Event). Pass ∷ rest) (passes_behind events event later)

-- a further line of the block is behind those that came
pub blocks_one : (events : List Event) (pieces : List Piece) (address : ℕ) (words : List ℕ) → MakeBlock events pieces → takes address pieces ≡ true
    → MakeBlock (events ++ Attach address words ∷ []) (with_words address words pieces)
blocks_one events pieces address words so_far is = record {
  block = λ later.
      let next : pieces_from pieces (Attach address words ∷ later) ≡ pieces_from (with_words address words pieces) later = rw is refl in
      ap pieces_of (append_assoc events (Attach address words ∷ []) later) ∙ (so_far.block (Attach address words ∷ later) ∙ next);
  passed = λ later.
      let next : passed_from pieces (Attach address words ∷ later) ≡ Pass ∷ passed_from (with_words address words pieces) later = rw is refl in
      ap passed (append_assoc events (Attach address words ∷ []) later)
      ∙ (so_far.passed (Attach address words ∷ later)
      ∙ (ap (λ (rest : List Event). replicate (length events) Pass ++ rest) next
      ∙ passes_behind events (Attach address words) (passed_from (with_words address words pieces) later)));
}

-- the answer is a further line of the block
front_line : (shown : Type 0) (id : ℕ) (first now : Moment) (events : List Event) (event : Event) (held new : Held) (line : List ℕ) → meaning line ≡ Ok event
    → Way (Behind events) shown id (length events) first now held → Gives held taken.Line line new → Way (Behind (events ++ event ∷ [])) shown id (length (events ++ event ∷ [])) first now new
front_line shown id first now events event held new line means way gives =
    subst (λ (n : ℕ). Way (Behind (events ++ event ∷ [])) shown id n first now new) (sym (length-append events (event ∷ [])))
    (Way-line (Behind events) (Behind (events ++ event ∷ [])) shown id (length events) first now held new line
    (λ all left later ending is front stop.
    front stop
    ∙ (ap (behind events) (scripts.good_line (lines ending left) line (lines ending later) (meaning line) event is refl means stop)
    ∙ sym (behind_one events event (script_from (lines ending later) stop))))
    way gives)

pub reads_more : (shown : Type 0) (id : ℕ) (first now later : Moment) (block then : List Piece) (lines : ℕ) (old new : Held) (answer : Taken) (line : List ℕ)
    → (reads : Reads shown id first now block lines old) → Turn shown id now later old new answer line → (KnowsEnd shown id old now → KnowsEnd shown id new later)
    → Meanwhile now later (HasRead answer id old new) → AttachedOne true answer line reads.pieces then → Reads shown id first later then (lines + 1) new
reads_more shown id first now later block then lines old new answer line reads turn knows last (address, words, is_line, means, takes_it, block_is) =
    let event : Event = Attach address words in
    let on : Turn shown id now later old new taken.Line line = subst (λ (a : Taken). Turn shown id now later old new a line) is_line turn in
    let read : Meanwhile now later (ComesOn id old new) = subst (λ (a : Taken). Meanwhile now later (HasRead a id old new)) is_line last in
    let more : length (reads.events ++ event ∷ []) ≡ length reads.events + 1 = length-append reads.events (event ∷ []) in
    record {
      events = reads.events ++ event ∷ [];
      pieces = with_words address words reads.pieces;
      is_kept = block_is;
      count = omega (arith, reads.count, more);
      blocks = blocks_one reads.events reads.pieces address words reads.blocks takes_it;
      way = front_line shown id first later reads.events event on.held new line means
          (Way-read (Behind reads.events) shown id (length reads.events) first now later old on.held on.got reads.way on.took on.gave on.grows) on.gives;
      so_far = lines_on id old new first now later reads.so_far read;
      knows = knows reads.knows;
    }

-- the answer is no further line of the block
pub reads_done : (shown : Type 0) (id : ℕ) (first now later : Moment) (block then : List Piece) (front : Front) (old : Held)
    → (reads : Reads shown id first now block front.lines old) → Turn shown id now later old front.reader front.taken front.line.items
    → (KnowsEnd shown id old now → KnowsEnd shown id front.reader later)
    → (shown → front.taken ≡ taken.Fault → IsStuck (later.input id)) → (front.taken ≡ taken.Fault → Rose now.faults later.faults)
    → Meanwhile now later (HasRead front.taken id old front.reader) → AttachedOne false front.taken front.line.items reads.pieces then → ReadAhead shown id first later then front
reads_done shown id first now later block then front old reads turn knows stuck fault last (block_is, other) = record {
  events = reads.events;
  pieces = reads.pieces;
  is_kept = block_is;
  is_front = record {
    lines = reads.count;
    blocks = reads.blocks;
    other = other;
    answered = answered (Behind reads.events) shown id (length reads.events) first now later old front.reader front.taken front.line.items reads.way reads.so_far turn (knows reads.knows) stuck fault last;
  };
}

-- whether a line was attached, in other words
pub attached_as : (is other : Bool) (answer : Taken) (line text : List ℕ) (pieces block : List Piece) → is ≡ other → line ≡ text
    → AttachedOne is answer line pieces block → AttachedOne other answer text pieces block
attached_as is other answer line text pieces block same alike one =
    subst (λ (l : List ℕ). AttachedOne other answer l pieces block) alike (subst (λ (b : Bool). AttachedOne b answer line pieces block) same one)

pub if_err : {X E : Type 0} (result : Result X E) (P : Type 0) → P → IfErr result (λ _. P)
if_err (Ok x) P holds = tt
if_err (Err error) P holds = holds

-- a line that attaches nothing more to these pieces
pub other_address : (pieces : List Piece) (line : List ℕ) (address : ℕ) (words : List ℕ) → meaning line ≡ Ok (Attach address words) → takes address pieces ≡ false → IsOther pieces line
other_address pieces line address words means full event is later =
    let same : event ≡ Attach address words = cc in
    subst (λ (e : Event). AddsNothing pieces (e ∷ later)) (sym same) (record { block = rw full refl; passed = rw full refl })

-- ---- all lines, where what is left adds nothing to the block

attached_is : (attached : List Attached) (events : List Event) (pieces : List Piece) (all left : Script) → attached ≡ map attached_in pieces → MakeBlock events pieces
    → all ≡ behind events left → AddsNothing pieces left.events → attached_by all.events ≡ attached
attached_is attached events pieces all left is blocks front adds =
    ap (λ (s : Script). attached_by s.events) (front ∙ behind_is events left)
    ∙ (ap (map attached_in) (blocks.block left.events ∙ adds.block)
    ∙ sym is)

passes_front : (n : ℕ) (s : Script) → record s { events = replicate n Pass ++ s.events } ≡ behind (replicate n Pass) s
passes_front n s = sym (behind_is (replicate n Pass) s)

ran_is : (events : List Event) (pieces : List Piece) (all left : Script) → MakeBlock events pieces → all ≡ behind events left → AddsNothing pieces left.events
    → ran all ≡ behind (replicate (length events) Pass) left
ran_is events pieces all left blocks front adds =
    ap ran (front ∙ behind_is events left)
    ∙ (ap (λ (es : List Event). record left { events = es }) (blocks.passed left.events ∙ ap (λ (rest : List Event). replicate (length events) Pass ++ rest) adds.passed)
    ∙ passes_front (length events) left)

-- ---- the lines of the front are followed

length_passes : (n : ℕ) → length (replicate n Pass) ≡ n
length_passes zero = refl
length_passes (suc n) = ap suc (length_passes n)

-- nothing is asked of who follows
abbrev pub nowhere : Following ⊤
nowhere n event old new answer = ⊤

module _ {F : Type 0} (Follows : Following F) where
  -- one more empty line was followed, or the follower failed at it
  goes_one : (n k : ℕ) (old mid new : F) → GoesThrough Follows n (replicate k Pass) old mid → Follows (n + k) Pass mid new (Ok tt) → GoesThrough Follows n (replicate (suc k) Pass) old new
  goes_one n zero old mid new so_far one =
      let number : n + 0 ≡ n = omega arith in
      (new, subst (λ (m : ℕ). Follows m Pass old new (Ok tt)) number (subst (λ (x : F). Follows (n + 0) Pass x new (Ok tt)) (sym so_far) one), refl)
  goes_one n (suc k) old mid new so_far one =
      let number : n + suc k ≡ (n + 1) + k = omega arith in
      (so_far.0, so_far.1, goes_one (n + 1) k so_far.0 mid new so_far.2 (subst (λ (m : ℕ). Follows m Pass mid new (Ok tt)) number one))

  pub through_one : (k : ℕ) (old mid new : F) → GoesThrough Follows 1 (replicate k Pass) old mid → Follows (k + 1) Pass mid new (Ok tt) → GoesThrough Follows 1 (replicate (k + 1) Pass) old new
  through_one k old mid new so_far one =
      let number : k + 1 ≡ 1 + k = omega arith in
      let more : suc k ≡ k + 1 = omega arith in
      subst (λ (m : ℕ). GoesThrough Follows 1 (replicate m Pass) old new) more (goes_one 1 k old mid new so_far (subst (λ (m : ℕ). Follows m Pass mid new (Ok tt)) number one))

  fails_one : (n k more : ℕ) (old mid new : F) (failed : Failed) → k < more → GoesThrough Follows n (replicate k Pass) old mid → Follows (n + k) Pass mid new (Err failed) → FailsWithin Follows n (replicate more Pass) old new
  fails_one n k zero old mid new failed few so_far one = absurd (omega arith)
  fails_one n zero (suc more) old mid new failed few so_far one =
      let number : n + 0 ≡ n = omega arith in
      inl (failed, subst (λ (m : ℕ). Follows m Pass old new (Err failed)) number (subst (λ (x : F). Follows (n + 0) Pass x new (Err failed)) (sym so_far) one))
  fails_one n (suc k) (suc more) old mid new failed few so_far one =
      let number : n + suc k ≡ (n + 1) + k = omega arith in
      inr (so_far.0, so_far.1, fails_one (n + 1) k more so_far.0 mid new failed (omega arith) so_far.2 (subst (λ (m : ℕ). Follows m Pass mid new (Err failed)) number one))

  pub fails_at : (lines k : ℕ) (old mid new : F) (why : LineStop) → k < lines → GoesThrough Follows 1 (replicate k Pass) old mid → FollowedOne Follows (k + 1) Pass mid new (Err why)
      → FollowedFront Follows (replicate lines Pass) old new (Err why)
  fails_at lines k old mid new (stops.Bad m cause) few so_far one = absurd one
  fails_at lines k old mid new stops.Broken few so_far one =
      let number : k + 1 ≡ 1 + k = omega arith in
      fails_one 1 k lines old mid new one.0 few so_far (subst (λ (m : ℕ). Follows m Pass mid new (Err one.0)) number one.1)

  -- lines that were followed come before those that are left
  followed_behind : (n : ℕ) (events : List Event) (s : Script) (old mid new : F) (result : Result LinesEnd LineStop) → GoesThrough Follows n events old mid → Followed Follows (n + length events) s mid new result → Followed Follows n (behind events s) old new result
  followed_behind n [] s old mid new result same rest =
      let number : n + 0 ≡ n = omega arith in
      subst (λ (m : ℕ). Followed Follows m s old new result) number (subst (λ (x : F). Followed Follows (n + 0) s x new result) (sym same) rest)
  followed_behind n (event ∷ events) s old mid new result through rest =
      let number : n + suc (length events) ≡ (n + 1) + length events = omega arith in
      followed_next Follows n event (behind events s) old through.0 new result through.1
      (followed_behind (n + 1) events s through.0 mid new result through.2 (subst (λ (m : ℕ). Followed Follows m s mid new result) number rest))

  -- the follower failed at one of them
  fails_behind : (n : ℕ) (events : List Event) (s : Script) (old new : F) → FailsWithin Follows n events old new → Followed Follows n (behind events s) old new (Err stops.Broken)
  fails_behind n [] s old new fails = absurd fails
  fails_behind n (event ∷ events) s old new (inl one) = inl one
  fails_behind n (event ∷ events) s old new (inr later) = inr (later.0, later.1, fails_behind (n + 1) events s later.0 new later.2)

  -- what is to be shown of all lines: they attach just that, and were followed so, once the block was passed
  abbrev pub Goal : List Attached → F → Script → F → Result LinesEnd LineStop → Type 0
  Goal attached start s then result = (attached_by s.events ≡ attached) × Followed Follows 1 (ran s) start then result

  -- the follower failed within the front: what is left isn't followed
  abbrev pub Broken : List Attached → F → F → Script → ⊤ → Result LinesEnd LineStop → Type 0
  Broken attached start now s then result = (attached_by s.events ≡ attached) × Followed Follows 1 (ran s) start now (Err stops.Broken)

  module _ (attached : List Attached) (events : List Event) (pieces : List Piece) (is : attached ≡ map attached_in pieces) (blocks : MakeBlock events pieces) where
    front_under_way : (all left : List (List ℕ)) (stop : Stop) (start now : F) → script_from all stop ≡ behind events (script_from left stop)
        → GoesThrough Follows 1 (replicate (length events) Pass) start now
        → UnderWay Follows (Goal attached start) (length events) pieces (length events) all left stop now
    front_under_way all left stop start now front through then result adds rest =
        let number : length events + 1 ≡ 1 + length (replicate (length events) Pass) = omega (arith, length_passes (length events)) in (
          attached_is attached events pieces (script_from all stop) (script_from left stop) is blocks front (adds refl),
          subst (λ (s : Script). Followed Follows 1 s start then result) (sym (ran_is events pieces (script_from all stop) (script_from left stop) blocks front (adds refl)))
              (followed_behind 1 (replicate (length events) Pass) (script_from left stop) start now then result through (subst (λ (m : ℕ). Followed Follows m (script_from left stop) now then result) number rest)),
        )

    fails_under_way : (all left : List (List ℕ)) (stop : Stop) (start now : F) → script_from all stop ≡ behind events (script_from left stop)
        → FailsWithin Follows 1 (replicate (length events) Pass) start now
        → UnderWay nowhere (Broken attached start now) (length events) pieces (length events) all left stop tt
    fails_under_way all left stop start now front fails then result adds rest = (
      attached_is attached events pieces (script_from all stop) (script_from left stop) is blocks front (adds refl),
      subst (λ (s : Script). Followed Follows 1 s start now (Err stops.Broken)) (sym (ran_is events pieces (script_from all stop) (script_from left stop) blocks front (adds refl)))
          (fails_behind 1 (replicate (length events) Pass) (script_from left stop) start now fails),
    )

    -- the lines that are left are followed where the front was
    pub front_way : (shown : Type 0) (id : ℕ) (first now : Moment) (held : Held) (start at : F) → GoesThrough Follows 1 (replicate (length events) Pass) start at
        → Way (Behind events) shown id (length events) first now held
        → Way (OnWay Follows (Goal attached start) (length events) pieces (length events) at) shown id (length events) first now held
    front_way shown id first now held start at through way =
        Way-map (Behind events) (OnWay Follows (Goal attached start) (length events) pieces (length events) at) shown id (length events) first now held
        (λ all left ending front stop. front_under_way (lines ending all) (lines ending left) stop start at (front stop) through)
        way

    -- the follower failed within the front, whatever answer came after it
    module _ (shown : Type 0) (id : ℕ) (first now : Moment) (line : List ℕ) (reader : Held) (start new : F) (failed : Failed) where
      abbrev on_way : List ℕ → List ℕ → Ending → Type 0
      on_way = OnWay nowhere (Broken attached start new) (length events) pieces (length events) tt

      -- it failed in what is read in the end, and in what was given so far
      abbrev FailedWithin : Type 0
      FailedWithin =
          OfScript shown id first (λ s. Goal attached start s new (Err stops.Broken))
          × Meanwhile first now (λ calls. Goal attached start (script_given id calls) new (Err stops.Broken))

      both_of : (result : Result LinesEnd LineStop) → Ends nowhere (Broken attached start new) (length events) pieces shown id first now tt result → FailedWithin
      both_of result ends = (ends.followed, ends.given)

      by_meaning : (meant : Result Event LineFault) → meaning line ≡ meant → IsOther pieces line → KnowsEnd shown id reader now
          → Way (HasLine nowhere (Broken attached start new) (length events) pieces (length events) line tt) shown id (length events + 1) first now reader
          → FailedWithin
      by_meaning (Ok event) means other knows has =
          both_of _ (ends_broken nowhere (Broken attached start new) (length events) pieces shown id first (length events) now reader line tt tt (meaning line) event stops.Broken refl means (λ _. other) (failed, tt) knows has)
      by_meaning (Err cause) means other knows has =
          both_of _ (ends_bad nowhere (Broken attached start new) (length events) pieces shown id first (length events) now reader line tt (meaning line) cause refl means knows has)

      by_answer : (answer : Taken) (held : Held) → (answer ≡ taken.Line → IsOther pieces line) → Way on_way shown id (length events) first now held → Gives held answer line reader
          → KnowsEnd shown id reader now → (shown → answer ≡ taken.Fault → IsStuck (now.input id)) → (answer ≡ taken.Fault → Rose first.faults now.faults)
          → FailedWithin
      by_answer taken.Line held other on gives knows stuck fault =
          by_meaning (meaning line) refl (other refl) knows (Way-taken nowhere (Broken attached start new) (length events) pieces shown id first (length events) now held reader line tt on gives)
      by_answer taken.End held other on gives knows stuck fault = both_of _ (ends_end nowhere (Broken attached start new) (length events) pieces shown id first (length events) now held reader line tt on gives knows)
      by_answer taken.Long held other on gives knows stuck fault = both_of _ (ends_long nowhere (Broken attached start new) (length events) pieces shown id first (length events) now held reader line tt on gives knows)
      by_answer taken.Over held other on gives knows stuck fault = both_of _ (ends_over nowhere (Broken attached start new) (length events) pieces shown id first (length events) now held reader line tt on gives)
      by_answer taken.Fault held other on gives knows stuck fault =
          both_of _ (ends_fault nowhere (Broken attached start new) (length events) pieces shown id first (length events) now held reader line tt on gives (λ seen. stuck seen refl) (fault refl))

      pub front_fails : (answer : Taken) → FailsWithin Follows 1 (replicate (length events) Pass) start new → (answer ≡ taken.Line → IsOther pieces line)
          → Answered (Behind events) shown id (length events) first now answer line reader
          → FailedWithin
      front_fails answer fails other a =
          by_answer answer a.held other
          (Way-map (Behind events) on_way shown id (length events) first now a.held
          (λ all left ending front stop. fails_under_way (lines ending all) (lines ending left) stop start new (front stop) fails) a.way)
          a.gives a.knows a.stuck a.fault
