-- Lines that are taken and followed, one more at a time.
use Rattle.std.proofs.Common.{◌≡◌, ℕ, ◌+◌, ◌<◌, ◌≤◌, Bool, true, false, List, [], ◌∷◌, ◌++◌, length, take, drop, position, Some, None, Option, Result, Ok, Err, refl, sym, ◌∙◌, ap, subst, arith, inl, inr, get_or}
use Rattle.std.specs.Prelude.{IfOk, ⊤}
use Rattle.std.proofs.lemmas.Bool.{cases_lt}
use Rattle.std.proofs.lemmas.Bool.Decides.{nat_tests}
use Rattle.std.proofs.lemmas.List.{append-nil, get_or-take, length-append, length-take-le, take-append-le}
use Rattle.std.proofs.lemmas.List.Quantifiers.{position-Some}
use Rattle.pm_base.specs.declared.events.Event.{Event}
use Rattle.pm_io.specs.declared.lines.Ending.{Ending}
use Rattle.pm_io.specs.declared.lines.Ending.TheVariants.{Whole, Cut}
use Rattle.pm_io.specs.declared.prefix.StopReason.{StopReason}
use Rattle.pm_io.specs.declared.prefix.StopReason.TheVariants as reason
use Rattle.pm_base.specs.Faults.{Rose}
use Rattle.pm_io.specs.Inputs.{IsStuck, Moment, Took}
use Rattle.pm_io.specs.Lines.{least_length, lines}
use Rattle.pm_io.specs.Calls.{Call, Comes}
use Rattle.pm_io.specs.Given.{Gave, prefix_given, stop_by}
use Rattle.pm_io.specs.Prefix.{Prefix, text_of}
use Rattle.pm_io.specs.Readings.{Meanwhile}
use Rattle.pm_io.proofs.ReadingsLemmas.{meanwhile_map}
use Rattle.pm_io.proofs.LinesLemmas as parts
use Rattle.pm_script.specs.declared.meaning.LineFault.{LineFault}
use Rattle.pm_script.specs.declared.meaning.LineFault.TheVariants.{Long}
use Rattle.pm_script.specs.Meaning.{meaning}
use Rattle.pm_block.specs.declared.block.Piece.{Piece}
use Rattle.pm_script.specs.Script.{Script, Stop, before, ending_of, over, script_from, script_limit, script_lines, stop_of}
use Rattle.pm_script.specs.Script.Stop.{Bad}
use Rattle.pm_reader.specs.Front.{AddsNothing, IsOther}
use Rattle.pm_reader.specs.declared.follow.LineStop.{LineStop}
use Rattle.pm_reader.specs.declared.follow.LineStop.TheVariants as stops
use Rattle.pm_reader.specs.declared.follow.LinesEnd.{LinesEnd}
use Rattle.pm_reader.specs.declared.reader.Taken.{Taken}
use Rattle.pm_reader.specs.declared.reader.Taken.TheVariants as taken
use Rattle.pm_reader.specs.Follow.{Followed, FollowedOne, Following, OfScript, script_given}
use Rattle.pm_reader.specs.Reader.{GaveOn, Grows, HasRead, Held, KnowsEnd, Turn, is_feed, within, within_limit}
use Rattle.pm_reader.specs.Reader as reader
use Rattle.pm_reader.proofs.HeldLemmas.{no_feed_at, within_all}
use Rattle.pm_reader.proofs.ScriptLemmas.{Gives, IsBad, IsOver}
use Rattle.pm_reader.proofs.ScriptLemmas as scripts
use Rattle.pm_reader.proofs.TookLemmas.{Took-trans}
use Rattle.pm_reader.specs.Way.{Answered, Way}
use Rattle.pm_reader.proofs.GoesOn.{goes_on_line, goes_on_read}
use Rattle.pm_reader.proofs.GivenLemmas.{given_stop, given_text, stop_ended, stop_open, stop_over, way_gave}
use Rattle.pm_reader.proofs.Future.{Future, FutureAt, future, future_ended, future_fault, future_over}

-- ---- lines by what is held

-- 256 bytes without a line feed begin a line that is too long, whatever comes behind them
long_first : (ending : Ending) (text : List ℕ) → 256 ≤ length text → position is_feed (take 256 text) ≡ None → IsBad (lines ending text) Long
long_first ending text many none = by (position is_feed text) refl
  where
    least : (e : Ending) → least_length e ≤ 256
    least Whole = omega arith
    least Cut = omega arith

    meant : (line : List ℕ) → 256 ≤ length line → meaning line ≡ Err Long
    meant line long = grind (arith, nat_tests)

    near : (at : ℕ) → is_feed (get_or text at 0) ≡ true → at < 256 → ⊥
    near at feed close =
        let inside : at < length (take 256 text) = omega (arith, length-take-le 256 text many, close) in
        let not : is_feed (get_or (take 256 text) at 0) ≡ false = no_feed_at (take 256 text) at none inside in
        let same : get_or (take 256 text) at 0 ≡ get_or text at 0 = get_or-take 256 text at 0 close in
        let clash : true ≡ false = sym feed ∙ (ap is_feed (sym same) ∙ not) in
        cc

    by : (found : Option ℕ) → position is_feed text ≡ found → IsBad (lines ending text) Long
    by None is =
        scripts.bad_line (lines ending text) text [] (Err Long) Long (parts.last_line (least_length ending) text is (let few = least ending in omega (arith, few, many))) (sym (meant text many)) refl
    by (Some at) is =
        let spot = position-Some is_feed text at 0 is in
        let far : 256 ≤ at = elim (cases_lt at 256) [ inl close ↦ absurd (near at spot.1 close) | inr far ↦ far ] in
        let size : length (take at text) ≡ at = length-take-le at text (omega (arith, spot.0)) in
        scripts.bad_line (lines ending text) (take at text) (lines ending (drop (at + 1) text)) (Err Long) Long (parts.line_by_feed (least_length ending) text at is) (sym (meant (take at text) (omega (arith, size, far)))) refl

-- the rest of an input is no line where it is none, or short and not known to be whole
none_left : (ending : Ending) (text : List ℕ) → position is_feed text ≡ None → length text < least_length ending → IsOver (lines ending text)
none_left ending text none short = scripts.no_line (lines ending text) (parts.no_line (least_length ending) text none short)

module _ {F : Type 0} (Follows : Following F) where
  -- a line was followed, and then those after it
  pub followed_next : (n : ℕ) (event : Event) (s : Script) (old mid new : F) (result : Result LinesEnd LineStop) → Follows n event old mid (Ok tt) → Followed Follows (n + 1) s mid new result → Followed Follows n (before (Ok event) s) old new result
  followed_next n event s old mid new (Ok end) one rest = ((mid, one, rest.0), rest.1, omega (arith, rest.2))
  followed_next n event s old mid new (Err (stops.Bad m cause)) one rest = ((mid, one, rest.0), rest.1, omega (arith, rest.2))
  followed_next n event s old mid new (Err stops.Broken) one rest = inr (mid, one, rest)

module _ {F : Type 0} (Follows : Following F) (Goal : Script → F → Result LinesEnd LineStop → Type 0) (front : ℕ) (pieces : List Piece) where
  -- however the lines that are left are followed, that much is true of all lines. Where only those of the front came so far,
  -- the next one adds nothing to the block
  abbrev pub UnderWay : ℕ → List (List ℕ) → List (List ℕ) → Stop → F → Type 0
  UnderWay n all left stop now =
      (then : F) (result : Result LinesEnd LineStop)
      → (n ≡ front → AddsNothing pieces (script_from left stop).events)
      → Followed Follows (n + 1) (script_from left stop) now then result
      → Goal (script_from all stop) then result

  -- no line adds nothing
  over_adds : (n : ℕ) (s : Script) (why : Stop) → s ≡ over why → n ≡ front → AddsNothing pieces s.events
  over_adds n s why is first = subst (λ (t : Script). AddsNothing pieces t.events) (sym is) (record { block = refl; passed = refl })

  line_adds : (n : ℕ) (s later : Script) (event : Event) → s ≡ before (Ok event) later → (n ≡ front → AddsNothing pieces (event ∷ later.events)) → n ≡ front → AddsNothing pieces s.events
  line_adds n s later event is other first = subst (λ (t : Script). AddsNothing pieces t.events) (sym is) (other first)

  next : (n : ℕ) (all left later : List (List ℕ)) (stop : Stop) (now mid : F) (event : Event) → Gives left event later → (n ≡ front → (others : List Event) → AddsNothing pieces (event ∷ others)) → Follows (n + 1) event now mid (Ok tt) → UnderWay n all left stop now → UnderWay (n + 1) all later stop mid
  next n all left later stop now mid event gives other one so_far then result adds rest =
      so_far then result
      (line_adds n (script_from left stop) (script_from later stop) event (gives stop) (λ first. other first (script_from later stop).events))
      (subst (λ (s : Script). Followed Follows (n + 1) s now then result) (sym (gives stop)) (followed_next Follows (n + 1) event (script_from later stop) now mid then result one rest))

  bad : (n : ℕ) (all left : List (List ℕ)) (stop : Stop) (now : F) (cause : LineFault) → IsBad left cause → UnderWay n all left stop now → Goal (script_from all stop) now (Err (stops.Bad (n + 1) cause))
  bad n all left stop now cause is so_far =
      so_far now (Err (stops.Bad (n + 1) cause)) (over_adds n (script_from left stop) (Bad cause) (is stop)) (subst (λ (s : Script). Followed Follows (n + 1) s now now (Err (stops.Bad (n + 1) cause))) (sym (is stop)) (refl, refl, omega arith))

  done : (n : ℕ) (all left : List (List ℕ)) (why : StopReason) (now : F) → IsOver left → UnderWay n all left (stop_of why) now → Goal (script_from all (stop_of why)) now (Ok (record { count = n; stop = why }))
  done n all left why now none so_far =
      so_far now (Ok (record { count = n; stop = why })) (over_adds n (script_from left (stop_of why)) (stop_of why) (none (stop_of why))) (subst (λ (s : Script). Followed Follows (n + 1) s now now (Ok (record { count = n; stop = why }))) (sym (none (stop_of why))) (refl, refl, omega arith))

  broken : (n : ℕ) (all left later : List (List ℕ)) (stop : Stop) (now then : F) (event : Event) (why : LineStop) → Gives left event later → (n ≡ front → (others : List Event) → AddsNothing pieces (event ∷ others)) → FollowedOne Follows (n + 1) event now then (Err why) → UnderWay n all left stop now → Goal (script_from all stop) then (Err why)
  broken n all left later stop now then event (stops.Bad m cause) gives other one so_far = absurd one
  broken n all left later stop now then event stops.Broken gives other one so_far =
      so_far then (Err stops.Broken)
      (line_adds n (script_from left stop) (script_from later stop) event (gives stop) (λ first. other first (script_from later stop).events))
      (subst (λ (s : Script). Followed Follows (n + 1) s now then (Err stops.Broken)) (sym (gives stop)) (inl one))

  -- so many lines were followed, of all lines, and these are left; or one more of them was taken
  abbrev pub OnWay : ℕ → F → List ℕ → List ℕ → Ending → Type 0
  OnWay n now all left ending = (stop : Stop) → UnderWay n (lines ending all) (lines ending left) stop now

  abbrev pub HasLine : ℕ → List ℕ → F → List ℕ → List ℕ → Ending → Type 0
  HasLine n line now all later ending = (stop : Stop) → UnderWay n (lines ending all) (line ∷ lines ending later) stop now

-- more was read
pub Way-read : (S : List ℕ → List ℕ → Ending → Type 0) (shown : Type 0) (id n : ℕ) (first mid now : Moment) (old held : Held) (got : List ℕ) → Way S shown id n first mid old → Took shown id got mid now → GaveOn id got old.ended held.ended mid now → Grows old got held → Way S shown id n first now held
Way-read S shown id n first mid now old held got way took gave grows = record {
  taken = way.taken ++ got;
  took = Took-trans shown id way.taken got first mid now way.took took;
  gave = way_gave id way.taken got old.ended held.ended first mid now way.gave gave;
  credit = omega (arith, way.credit, grows.credit, length-append way.taken got);
  goes_on = goes_on_read S old held way.taken got way.goes_on grows;
  count = (let size : length held.bytes ≡ length (old.bytes ++ got) = ap (λ (xs : List ℕ). length xs) grows.bytes in omega (arith, way.count, size, length-append old.bytes got, length-append way.taken got));
}

pub fewer : (held new : Held) (line : List ℕ) → reader.Gives held taken.Line line new → length new.bytes < length held.bytes
fewer held new line (inl gave) = gave.fewer
fewer held new line (inr gave) =
    let none : length new.bytes ≡ 0 = ap (λ (h : Held). length h.bytes) gave.new_is in
    let some : length line ≡ length held.bytes = ap (λ (xs : List ℕ). length xs) gave.line_is in
    omega (arith, none, some, gave.some)

pub same_credit : (held new : Held) (line : List ℕ) → reader.Gives held taken.Line line new → new.credit ≡ held.credit
same_credit held new line (inl gave) = gave.credit
same_credit held new line (inr gave) = ap (λ (h : Held). h.credit) gave.new_is

same_end : (held new : Held) (line : List ℕ) → reader.Gives held taken.Line line new → new.ended ≡ held.ended
same_end held new line (inl gave) = gave.ended
same_end held new line (inr gave) = ap (λ (h : Held). h.ended) gave.new_is

-- a line was taken
pub Way-line : (S T : List ℕ → List ℕ → Ending → Type 0) (shown : Type 0) (id n : ℕ) (first now : Moment) (held new : Held) (line : List ℕ) → ((all left later : List ℕ) (ending : Ending) → lines ending left ≡ line ∷ lines ending later → S all left ending → T all later ending) → Way S shown id n first now held → reader.Gives held taken.Line line new → Way T shown id (n + 1) first now new
Way-line S T shown id n first now held new line step way gives = record {
  taken = way.taken;
  took = way.took;
  gave = subst (λ (e : Bool). Meanwhile first now (Gave id way.taken e)) (sym (same_end held new line gives)) way.gave;
  credit = omega (arith, same_credit held new line gives, way.credit);
  goes_on = goes_on_line S T held new way.taken line step way.goes_on gives;
  count = omega (arith, fewer held new line gives, way.count);
}

-- the same of something that follows
pub Way-map : (S T : List ℕ → List ℕ → Ending → Type 0) (shown : Type 0) (id n : ℕ) (first now : Moment) (held : Held) → ((all left : List ℕ) (ending : Ending) → S all left ending → T all left ending) → Way S shown id n first now held → Way T shown id n first now held
Way-map S T shown id n first now held step way = record {
  taken = way.taken;
  took = way.took;
  gave = way.gave;
  credit = way.credit;
  goes_on = λ more ending on. step (within_limit held.credit way.taken ++ more) (within held ++ more) ending (way.goes_on more ending on);
  count = way.count;
}

-- an answer was given where the lines came so far
pub answered : (S : List ℕ → List ℕ → Ending → Type 0) (shown : Type 0) (id n : ℕ) (first now later : Moment) (old new : Held) (answer : Taken) (line : List ℕ)
    → Way S shown id n first now old → Meanwhile first now (Comes id (script_limit + 1) false old.credit old.ended)
    → Turn shown id now later old new answer line → KnowsEnd shown id new later
    → (shown → answer ≡ taken.Fault → IsStuck (later.input id)) → (answer ≡ taken.Fault → Rose now.faults later.faults)
    → Meanwhile now later (HasRead answer id old new) → Answered S shown id n first later answer line new
answered S shown id n first now later old new answer line way so_far turn knows stuck fault last =
    let sooner : first.faults ≤ now.faults = way.took.later in
    record {
      held = turn.held;
      way = Way-read S shown id n first now later old turn.held turn.got way turn.took turn.gave turn.grows;
      gives = turn.gives;
      knows = knows;
      stuck = stuck;
      fault = λ is. let rose : Rose now.faults later.faults = fault is in omega (arith, sooner, rose);
      mid = now;
      asked = old;
      so_far = so_far;
      last = last;
    }

module _ {F : Type 0} (Follows : Following F) (Goal : Script → F → Result LinesEnd LineStop → Type 0) (front : ℕ) (pieces : List Piece) (shown : Type 0) (id : ℕ) (first : Moment) where
  -- the answer is a line
  pub Way-taken : (n : ℕ) (now : Moment) (held new : Held) (line : List ℕ) (at : F) → Way (OnWay Follows Goal front pieces n at) shown id n first now held → reader.Gives held taken.Line line new → Way (HasLine Follows Goal front pieces n line at) shown id (n + 1) first now new
  Way-taken n now held new line at way gives =
      Way-line (OnWay Follows Goal front pieces n at) (HasLine Follows Goal front pieces n line at) shown id n first now held new line
      (λ all left later ending is so_far stop. subst (λ (ls : List (List ℕ)). UnderWay Follows Goal front pieces n (lines ending all) ls stop at) is (so_far stop))
      way gives

  -- it was followed
  pub Way-next : (n : ℕ) (now : Moment) (held : Held) (line : List ℕ) (at then : F) (meant : Result Event LineFault) (event : Event) → meant ≡ meaning line → meant ≡ Ok event → (n ≡ front → IsOther pieces line) → Follows (n + 1) event at then (Ok tt) → Way (HasLine Follows Goal front pieces n line at) shown id (n + 1) first now held → Way (OnWay Follows Goal front pieces (n + 1) then) shown id (n + 1) first now held
  Way-next n now held line at then meant event means is other one way =
      Way-map (HasLine Follows Goal front pieces n line at) (OnWay Follows Goal front pieces (n + 1) then) shown id (n + 1) first now held
      (λ all later ending so_far stop. next Follows Goal front pieces n (lines ending all) (line ∷ lines ending later) (lines ending later) stop at then event (scripts.good_line (line ∷ lines ending later) line (lines ending later) meant event refl means is) (λ start. other start event (sym means ∙ is)) one (so_far stop))
      way

  -- ---- how it ends

  -- all lines were followed so, and nothing else was seen
  pub record Ends (now : Moment) (then : F) (result : Result LinesEnd LineStop) : Type 0 where
    pub followed : OfScript shown id first (λ s. Goal s then result)
    pub given : Meanwhile first now (λ calls. Goal (script_given id calls) then result)
    pub ends : IfOk result (λ end. end.stop ≡ reason.Unbegun → ⊥)
    pub fault : IfOk result (λ end. end.stop ≡ reason.Failure → Rose first.faults now.faults)

  settle : (S : List ℕ → List ℕ → Ending → Type 0) (Fits : Prefix → List ℕ → Type 0) (n : ℕ) (now : Moment) (held : Held) (then : F) (result : Result LinesEnd LineStop) (way : Way S shown id n first now held) (future : Future shown (first.input id) held way.taken) → Fits future.prefix future.more → ((calls : List Call) → Gave id way.taken held.ended calls → Fits (prefix_given script_limit id calls) []) → ((p : Prefix) (more : List ℕ) → Fits p more → S (text_of p) (within held ++ more) (ending_of p.stop) → Goal (script_from (script_lines p) (stop_of p.stop)) then result) → IfOk result (λ end. end.stop ≡ reason.Unbegun → ⊥) → IfOk result (λ end. end.stop ≡ reason.Failure → Rose first.faults now.faults) → Ends now then result
  settle S Fits n now held then result way future fits given_fits followed ends fault = record {
    followed = record {
      prefix = future.prefix;
      begun = future.begun;
      is = future.is;
      holds = followed future.prefix future.more fits (subst (λ (text : List ℕ). S text (within held ++ future.more) (ending_of future.prefix.stop)) (sym future.text) (way.goes_on future.more (ending_of future.prefix.stop) future.may));
    };
    given = meanwhile_map first now (Gave id way.taken held.ended) (λ calls. Goal (script_given id calls) then result)
        (λ calls gave. followed (prefix_given script_limit id calls) [] (given_fits calls gave) (given_text S id held way.taken calls way.credit way.goes_on gave)) way.gave;
    ends = ends;
    fault = fault;
  }

  -- a line was taken that has no meaning
  pub ends_bad : (n : ℕ) (now : Moment) (held : Held) (line : List ℕ) (at : F) (meant : Result Event LineFault) (cause : LineFault) → meant ≡ meaning line → meant ≡ Err cause → KnowsEnd shown id held now → Way (HasLine Follows Goal front pieces n line at) shown id (n + 1) first now held → Ends now at (Err (stops.Bad (n + 1) cause))
  ends_bad n now held line at meant cause means is knows way =
      settle (HasLine Follows Goal front pieces n line at) (λ p more. ⊤) (n + 1) now held at (Err (stops.Bad (n + 1) cause)) way (future shown id first now held way.taken way.took way.credit knows) tt (λ calls gave. tt)
      (λ p more fits so_far.
      let later = lines (ending_of p.stop) (within held ++ more) in
      bad Follows Goal front pieces n (script_lines p) (line ∷ later) (stop_of p.stop) at cause (scripts.bad_line (line ∷ later) line later meant cause refl means is) (so_far (stop_of p.stop)))
      tt tt

  -- the follower failed at a line
  pub ends_broken : (n : ℕ) (now : Moment) (held : Held) (line : List ℕ) (at then : F) (meant : Result Event LineFault) (event : Event) (why : LineStop) → meant ≡ meaning line → meant ≡ Ok event → (n ≡ front → IsOther pieces line) → FollowedOne Follows (n + 1) event at then (Err why) → KnowsEnd shown id held now → Way (HasLine Follows Goal front pieces n line at) shown id (n + 1) first now held → Ends now then (Err why)
  ends_broken n now held line at then meant event why means is other one knows way =
      settle (HasLine Follows Goal front pieces n line at) (λ p more. ⊤) (n + 1) now held then (Err why) way (future shown id first now held way.taken way.took way.credit knows) tt (λ calls gave. tt)
      (λ p more fits so_far.
      let later = lines (ending_of p.stop) (within held ++ more) in
      broken Follows Goal front pieces n (script_lines p) (line ∷ later) later (stop_of p.stop) at then event why (scripts.good_line (line ∷ later) line later meant event refl means is) (λ start. other start event (sym means ∙ is)) one (so_far (stop_of p.stop)))
      tt tt

  module _ (n : ℕ) (now : Moment) (held new : Held) (line : List ℕ) (at : F) (on : Way (OnWay Follows Goal front pieces n at) shown id n first now held) where
    -- the next line is too long
    pub ends_long : reader.Gives held taken.Long line new → KnowsEnd shown id new now → Ends now at (Err (stops.Bad (n + 1) Long))
    ends_long gives knows =
        let known : KnowsEnd shown id held now = subst (λ (h : Held). KnowsEnd shown id h now) gives.2 knows in
        settle (OnWay Follows Goal front pieces n at) (λ p more. ⊤) n now held at (Err (stops.Bad (n + 1) Long)) on (future shown id first now held on.taken on.took on.credit known) tt (λ calls gave. tt)
        (λ p more fits so_far.
        let text : List ℕ = within held ++ more in
        let many : 256 ≤ length text = omega (arith, gives.0, length-append (within held) more) in
        let none : position is_feed (take 256 text) ≡ None = subst (λ (xs : List ℕ). position is_feed xs ≡ None) (sym (take-append-le 256 (within held) more gives.0)) gives.1 in
        bad Follows Goal front pieces n (script_lines p) (lines (ending_of p.stop) text) (stop_of p.stop) at Long (long_first (ending_of p.stop) text many none) (so_far (stop_of p.stop)))
        tt tt

    -- no line is left, and the reading ends so
    done_at : (r why : StopReason) (all left more : List ℕ) → r ≡ why → more ≡ [] → IsOver (lines (ending_of why) left) → OnWay Follows Goal front pieces n at all (left ++ more) (ending_of r) → Goal (script_from (lines (ending_of r) all) (stop_of r)) at (Ok (record { count = n; stop = why }))
    done_at r why all left more is empty none so_far =
        let over_ : IsOver (lines (ending_of r) (left ++ more)) =
        subst (λ (text : List ℕ). IsOver (lines (ending_of r) text)) (sym (ap (λ (t : List ℕ). left ++ t) empty ∙ append-nil left))
        (subst (λ (w : StopReason). IsOver (lines (ending_of w) left)) (sym is) none)
        in
        subst (λ (w : StopReason). Goal (script_from (lines (ending_of r) all) (stop_of r)) at (Ok (record { count = n; stop = w }))) is
        (done Follows Goal front pieces n (lines (ending_of r) all) (lines (ending_of r) (left ++ more)) r at over_ (so_far (stop_of r)))

    ends_done : (why : StopReason) (last : FutureAt shown (first.input id) held on.taken why) → stop_by held.ended script_limit on.taken ≡ why → IsOver (lines (ending_of why) (within held)) → (why ≡ reason.Unbegun → ⊥) → (why ≡ reason.Failure → Rose first.faults now.faults) → Ends now at (Ok (record { count = n; stop = why }))
    ends_done why last by none begun fault =
        settle (OnWay Follows Goal front pieces n at) (λ p more. (p.stop ≡ why) × (more ≡ [])) n now held at (Ok (record { count = n; stop = why })) on last.future (last.stops, last.none)
        (λ calls gave. (given_stop id held on.taken calls gave ∙ by, refl))
        (λ p more fits so_far. done_at p.stop why (text_of p) (within held) more fits.0 fits.1 none so_far)
        begun fault

    pub ends_end : reader.Gives held taken.End line new → KnowsEnd shown id new now → Ends now at (Ok (record { count = n; stop = reason.End }))
    ends_end gives knows =
        let known : KnowsEnd shown id held now = subst (λ (h : Held). KnowsEnd shown id h now) gives.3 knows in
        let last = future_ended shown id first now held on.taken on.took on.credit gives.2 gives.1 known in
        let empty : within held ≡ [] = within_all held gives.2 ∙ gives.0 in
        ends_done reason.End last (stop_ended held on.taken on.credit gives.2 gives.1) (subst (λ (text : List ℕ). IsOver (lines Whole text)) (sym empty) (none_left Whole [] refl (omega arith))) (λ is. cc) (λ is. cc)

    pub ends_over : reader.Gives held taken.Over line new → Ends now at (Ok (record { count = n; stop = reason.Limit }))
    ends_over gives =
        let last = future_over shown id first now held on.taken on.took on.credit gives.0 in
        ends_done reason.Limit last (stop_over held on.taken on.credit gives.0) (none_left Cut (within held) gives.1.none gives.1.short) (λ is. cc) (λ is. cc)

    pub ends_fault : reader.Gives held taken.Fault line new → (shown → IsStuck (now.input id)) → Rose first.faults now.faults → Ends now at (Ok (record { count = n; stop = reason.Failure }))
    ends_fault gives stuck rose =
        let last = future_fault shown id first now held on.taken on.took on.credit gives.0 gives.1 stuck in
        ends_done reason.Failure last (stop_open held on.taken on.credit gives.0 gives.1) (none_left Cut (within held) gives.2.none gives.2.short) (λ is. cc) (λ is. rose)

-- what is left and may still be read grows less with each line, and never grows
pub turn_falls : (shown : Type 0) (id : ℕ) (mid now : Moment) (old new : Held) (line : List ℕ) → Turn shown id mid now old new taken.Line line → new.credit + length new.bytes < old.credit + length old.bytes
turn_falls shown id mid now old new line turn =
    let size : length turn.held.bytes ≡ length (old.bytes ++ turn.got) = ap (λ (xs : List ℕ). length xs) turn.grows.bytes in
    omega (arith, size, length-append old.bytes turn.got, turn.grows.credit, same_credit turn.held new line turn.gives, fewer turn.held new line turn.gives)

same_left : (held new : Held) (answer : Taken) (line : List ℕ) → reader.Gives held answer line new → new.credit + length new.bytes ≤ held.credit + length held.bytes
same_left held new taken.Line line gives = omega (arith, same_credit held new line gives, fewer held new line gives)
same_left held new taken.End line gives = omega (arith, ap (λ (h : Held). h.credit + length h.bytes) gives.3)
same_left held new taken.Long line gives = omega (arith, ap (λ (h : Held). h.credit + length h.bytes) gives.2)
same_left held new taken.Over line gives = omega (arith, ap (λ (h : Held). h.credit + length h.bytes) gives.2)
same_left held new taken.Fault line gives = omega (arith, ap (λ (h : Held). h.credit + length h.bytes) gives.3)

pub turn_stays : (shown : Type 0) (id : ℕ) (mid now : Moment) (old new : Held) (answer : Taken) (line : List ℕ) → Turn shown id mid now old new answer line → new.credit + length new.bytes ≤ old.credit + length old.bytes
turn_stays shown id mid now old new answer line turn =
    let size : length turn.held.bytes ≡ length (old.bytes ++ turn.got) = ap (λ (xs : List ℕ). length xs) turn.grows.bytes in
    omega (arith, size, length-append old.bytes turn.got, turn.grows.credit, same_left turn.held new answer line turn.gives)
