-- The requests to suspend that end in a step: of a hidden event nothing is seen of them, and of any other the same in two books
-- that agree.
use Rattle.std.proofs.Common.{◌≡◌, ℕ, ◌+◌, Bool, true, false, not, ◌&&◌, ◌||◌, if◌then◌else◌, List, [], ◌∷◌, ◌++◌, Option, Some, None, refl, sym, ◌∙◌, ap}
use Rattle.std.specs.List.{AllByRecursion as Each}
use Rattle.std.proofs.lemmas.List.Elements.{filter-append}
use Rattle.pm_laws.proofs.Common.{Agree, ArmsOwn, BelowLaws, Border, Both, BothFrom, Event, Fixed, HasSome, IsBeyond, IsTalkUnseen, KnowsModes, Mode, Now, Same, SamePending, State, Tick, aborted_by, ended, ends_beyond, is_hidden, is_place, mode_of_master, path, same_mode, says, stages, time_of}
use Rattle.pm_procs.specs.declared.pending.Pending.{Pending}
use Rattle.pm_tell.specs.declared.ended.Ended.{Ended}
use Rattle.pm_tell.specs.Ended.{due_after, ended_at, ended_from, ended_with, ends_with}
use Rattle.pm_values.specs.Turns.{ever, goes_down, goes_on, modes_along, turns_along, turns_of}
use Rattle.pm_state.specs.Talk.{Talk, Lower}
use Rattle.pm_tell.specs.Opening.{lower_by}
use Rattle.pm_laws.proofs.AgreeLaw.{clash}
use Rattle.pm_laws.proofs.CallsAlike.{book_of, kept}
use Rattle.pm_laws.proofs.CallsHidden.{turned}
use Rattle.pm_laws.proofs.HiddenLemmas.{HasClosed}
use Rattle.pm_laws.proofs.EventsLaw.{event_alike, event_hidden, some_beyond}
use Rattle.pm_laws.proofs.FollowLaw.{book_mode_alike, stays_same}
use Rattle.pm_laws.proofs.PathLaw.{path_alike, path_hidden}
use Rattle.pm_laws.proofs.VerdictsLaw.{event_within, none_aborts, says_alike}

-- the mode of the master at place k in a book
abbrev pub mode_in : ℕ → State → Mode
mode_in k book = mode_of_master book.fixed book.now.core k

-- ---- what becomes of the mode of a master beyond

module _ (laws : BelowLaws) (border : Border) (k : ℕ) (beyond : IsBeyond border k) where
  -- along books that agree with one that stays its mode stays
  ever_still : (test : Mode → Mode → Bool) (still : State) (books : List State) → Each (Agree border still) books → ever test (mode_in k still) (modes_along k books) ≡ false
  ever_still test still [] each = refl
  ever_still test still (book ∷ books) each =
      let mode : Mode = mode_in k still in
      let same : mode_in k book ≡ mode = sym (book_mode_alike laws border k still book beyond each.0) in
      ap (λ next. (not (same_mode mode next) && test mode next) || ever test next (modes_along k books)) same
      ∙ (ap (λ stays. (not stays && test mode mode) || ever test mode (modes_along k books)) (stays_same mode)
      ∙ ever_still test still books each.1)

  pub never : (test : Mode → Mode → Bool) (still now : State) (books : List State) → Agree border still now → Each (Agree border still) books → ever test (mode_in k now) (modes_along k books) ≡ false
  never test still now books agree each =
      ap (λ mode. ever test mode (modes_along k books)) (sym (book_mode_alike laws border k still now beyond agree)) ∙ ever_still test still books each

  modes_alike : (xs ys : List State) → Both (Agree border) xs ys → modes_along k xs ≡ modes_along k ys
  modes_alike [] [] each = refl
  modes_alike [] (y ∷ ys) each = absurd each
  modes_alike (x ∷ xs) [] each = absurd each
  modes_alike (x ∷ xs) (y ∷ ys) each =
      ap (λ mode. mode ∷ modes_along k xs) (book_mode_alike laws border k x y beyond each.0)
      ∙ ap (λ modes. mode_in k y ∷ modes) (modes_alike xs ys each.1)

  -- along books that agree one by one the same becomes of its mode
  pub turns_alike : (a b : State) (xs ys : List State) → Agree border a b → Both (Agree border) xs ys → turns_along a xs k ≡ turns_along b ys k
  turns_alike a b xs ys agree each =
      ap (λ mode. turns_of mode (modes_along k xs)) (book_mode_alike laws border k a b beyond agree)
      ∙ ap (turns_of (mode_in k b)) (modes_alike xs ys each)

-- ---- the ends

-- the end of a request to a master within isn't seen
end_within : (border : Border) (m : ℕ) (request : Pending) (status : Option ℕ) → border.master m ≡ false → ends_beyond border (ended_with m request status) ≡ []
end_within border m request None within = refl
end_within border m request (Some status) within =
    let ended : List Ended = record { target = m; request = request; status = status } ∷ [] in
    ap (λ b. if b then ended else []) within

-- nothing ends the request to the master at place k along these books
record Rests (book : State) (books : List State) (aborting passing : Option ℕ) (k : ℕ) : Type 0 where
  pub down : ever goes_down (mode_in k book) (modes_along k books) ≡ false
  pub on : ever goes_on (mode_in k book) (modes_along k books) ≡ false
  pub aborts : is_place k aborting ≡ false
  pub time : passing ≡ None

module _ (border : Border) (aborts count : Option ℕ) where
  abbrev test : Ended → Bool
  test e = border.master e.target

  -- of what is pending on one master, along these books
  abbrev end_in : State → List State → ℕ → Option Pending → List Ended
  end_in book books m pending = ended_at (turns_along book books m) aborts count m pending

  at_within : (book : State) (books : List State) (m : ℕ) (pending : Option Pending) → border.master m ≡ false → ends_beyond border (end_in book books m pending) ≡ []
  at_within book books m None within = refl
  at_within book books m (Some request) within =
      end_within border m request
      (ends_with (ever goes_down (mode_in m book) (modes_along m books)) (ever goes_on (mode_in m book) (modes_along m books) || is_place m aborts) (due_after count request)) within

  at_rest : (book : State) (books : List State) (m : ℕ) (pending : Option Pending) → Rests book books aborts count m → end_in book books m pending ≡ []
  at_rest book books m None rests = refl
  at_rest book books m (Some request) rests =
      ap (λ down. ended_with m request (ends_with down (ever goes_on (mode_in m book) (modes_along m books) || is_place m aborts) (due_after count request))) rests.down
      ∙ (ap (λ on. ended_with m request (ends_with false (on || is_place m aborts) (due_after count request))) rests.on
      ∙ (ap (λ own. ended_with m request (ends_with false (false || own) (due_after count request))) rests.aborts
      ∙ ap (λ time. ended_with m request (ends_with false (false || false) (due_after time request))) rests.time))

  at_unseen : (book : State) (books : List State) (m : ℕ) (pending : Option Pending) (is : Bool) → border.master m ≡ is → (IsBeyond border m → Rests book books aborts count m) → ends_beyond border (end_in book books m pending) ≡ []
  at_unseen book books m pending true is rests = ap (ends_beyond border) (at_rest book books m pending (rests is))
  at_unseen book books m pending false is rests = at_within book books m pending is

  ends_unseen : (book : State) (books : List State) → ((k : ℕ) → IsBeyond border k → Rests book books aborts count k) → (m : ℕ) (pending : List (Option Pending)) → ends_beyond border (ended_from (turns_along book books) aborts count m pending) ≡ []
  ends_unseen book books rests m [] = refl
  ends_unseen book books rests m (request ∷ pending) =
      let later : List Ended = ended_from (turns_along book books) aborts count (m + 1) pending in
      filter-append test (end_in book books m request) later
      ∙ (ap (λ first. first ++ ends_beyond border later) (at_unseen book books m request (border.master m) refl (rests m))
      ∙ ends_unseen book books rests (m + 1) pending)

  module _ (a b : State) (xs ys : List State) (turns : (k : ℕ) → IsBeyond border k → turns_along a xs k ≡ turns_along b ys k) where
    at_alike : (m : ℕ) (p q : Option Pending) (is : Bool) → border.master m ≡ is → SamePending border m p q → ends_beyond border (end_in a xs m p) ≡ ends_beyond border (end_in b ys m q)
    at_alike m p q true is same =
        ap (λ t. ends_beyond border (ended_at t aborts count m p)) (turns m is)
        ∙ ap (λ pending. ends_beyond border (end_in b ys m pending)) (same is)
    at_alike m p q false is same = at_within a xs m p is ∙ sym (at_within b ys m q is)

    ends_alike : (m : ℕ) (ps qs : List (Option Pending)) → BothFrom (SamePending border) m ps qs → ends_beyond border (ended_from (turns_along a xs) aborts count m ps) ≡ ends_beyond border (ended_from (turns_along b ys) aborts count m qs)
    ends_alike m [] [] same = refl
    ends_alike m [] (q ∷ qs) same = absurd same
    ends_alike m (p ∷ ps) [] same = absurd same
    ends_alike m (p ∷ ps) (q ∷ qs) same =
        let first : List Ended = ended_from (turns_along a xs) aborts count (m + 1) ps in
        let second : List Ended = ended_from (turns_along b ys) aborts count (m + 1) qs in
        filter-append test (end_in a xs m p) first
        ∙ (ap (λ here. here ++ ends_beyond border first) (at_alike m p q (border.master m) refl same.0)
        ∙ (ap (λ later. ends_beyond border (end_in b ys m q) ++ later) (ends_alike (m + 1) ps qs same.1)
        ∙ sym (filter-append test (end_in b ys m q) second)))

-- ---- hidden events

-- if a master is beyond, no time passes in a hidden event
pub no_time : (border : Border) (event : Event) (book : State) → border.some ≡ true → is_hidden border event book ≡ true → time_of event book ≡ None
no_time border (Tick count) book some is = clash border.some some (turned border.some is)
no_time border _ book some is = refl

tick_unseen : (border : Border) (count : ℕ) (halted : Bool) → border.some ≡ false → IsTalkUnseen border (lower_by (if halted then None else Some count))
tick_unseen border count true none = refl
tick_unseen border count false none = let changes : List Talk = Lower count ∷ [] in ap (λ b. if b then changes else []) none

pub time_unseen : (border : Border) (event : Event) (book : State) → is_hidden border event book ≡ true → IsTalkUnseen border (lower_by (time_of event book))
time_unseen border (Tick count) book is = tick_unseen border count book.now.core.halted (turned border.some is)
time_unseen border _ book is = refl

module _ (laws : BelowLaws) (border : Border) where
  rests_by : (event : Event) (still now : State) → HasClosed border now → KnowsModes still → is_hidden border event now ≡ true → Agree border still now → (k : ℕ) → IsBeyond border k → Rests now (path event now) (aborted_by (says event now)) (time_of event now) k
  rests_by event still now closed knows is agree k beyond =
      let books : Each (Agree border still) (path event now) =
      path_hidden laws border (stages event now) still now knows (event_hidden laws.kinds border event now closed is) agree
      in
      record {
        down = never laws border k beyond goes_down still now (path event now) agree books;
        on = never laws border k beyond goes_on still now (path event now) agree books;
        aborts = none_aborts border (says event now) (event_within border now event closed is) k beyond;
        time = no_time border event now (closed.closed.some k beyond) is;
      }

  -- no request to a master beyond ends in a hidden event
  pub ended_hidden : (event : Event) (still now : State) → HasClosed border now → KnowsModes still → is_hidden border event now ≡ true → Agree border still now → ends_beyond border (ended event now) ≡ []
  ended_hidden event still now closed knows is agree =
      ends_unseen border (aborted_by (says event now)) (time_of event now) now (path event now)
      (rests_by event still now closed knows is agree) 0 now.now.talk.pending

-- ---- all other events

-- the same time passes
tick_same : (count : ℕ) (x y : Bool) → x ≡ y → (if x then None else Some count) ≡ (if y then None else Some count)
tick_same count x y is = ap (λ halted. if halted then None else Some count) is

pub time_same : (fixed : Fixed) (border : Border) (event : Event) (a b : Now) → is_hidden border event (book_of fixed a) ≡ false → Same fixed border a b → time_of event (book_of fixed a) ≡ time_of event (book_of fixed b)
time_same fixed border (Tick count) a b is same = tick_same count a.core.halted b.core.halted (same.halted (kept border.some is))
time_same fixed border _ a b is same = refl

-- the same requests to masters beyond end
pub ended_alike : BelowLaws → (fixed : Fixed) (border : Border) (event : Event) (a b : Now) → ArmsOwn (book_of fixed a) → HasSome border → is_hidden border event (book_of fixed a) ≡ false → Same fixed border a b → ends_beyond border (ended event (book_of fixed a)) ≡ ends_beyond border (ended event (book_of fixed b))
ended_alike laws fixed border event a b armed some is same =
    let first : State = book_of fixed a in
    let second : State = book_of fixed b in
    let agree : Agree border first second = record { fixed = refl; now = same } in
    let books : Both (Agree border) (path event first) (path event second) =
    path_alike laws border (stages event first) (stages event second) first second (some_beyond border event first some is) (event_alike laws fixed border event a b armed some is same) agree
    in
    ends_alike border (aborted_by (says event first)) (time_of event first) first second (path event first) (path event second)
    (λ k beyond. turns_alike laws border k beyond first second (path event first) (path event second) agree books) 0 a.talk.pending b.talk.pending same.talk.pending
    ∙ (ap (λ own. ends_beyond border (ended_from (turns_along second (path event second)) own (time_of event first) 0 b.talk.pending)) (ap aborted_by (says_alike laws fixed border a b same event is))
    ∙ ap (λ count. ends_beyond border (ended_from (turns_along second (path event second)) (aborted_by (says event second)) count 0 b.talk.pending)) (time_same fixed border event a b is same))
