-- What a step does before any master is told of it: of a hidden event nothing of it is seen, and of any other the same in two
-- books that agree.
use Rattle.std.proofs.Common.{◌≡◌, ℕ, ◌+◌, Bool, true, false, if◌then◌else◌, List, [], ◌∷◌, ◌++◌, Option, None, refl, sym, ◌∙◌, ap}
use Rattle.std.specs.List.{AllByRecursion as Each}
use Rattle.std.proofs.lemmas.List.Elements.{filter-append}
use Rattle.pm_laws.proofs.Common.{Agree, ArmsOwn, BelowLaws, Border, Both, Event, Fixed, HasSome, IsBeyond, IsTalkUnseen, KnowsModes, MasterRec, Now, Same, State, ended, ends_beyond, forgets, is_hidden, opening, path, says, seen_talk, stages, talk_part, time_of}
use Rattle.pm_tell.specs.declared.ended.Ended.{Ended}
use Rattle.pm_calls.specs.declared.verdict.Say.{Say}
use Rattle.pm_values.specs.Turns.{goes_off, turns_along}
use Rattle.pm_state.specs.Talk.{End, Forget, Talk}
use Rattle.pm_tell.specs.Opening.{ends, forget_at, forgets_from, lower_by, sweep_by, say_by, talk_of}
use Rattle.pm_laws.proofs.CallsAlike.{book_of}
use Rattle.pm_laws.proofs.HiddenLemmas.{HasClosed}
use Rattle.pm_laws.proofs.EndsLaw.{ended_alike, ended_hidden, never, time_same, time_unseen, turns_alike}
use Rattle.pm_laws.proofs.EventsLaw.{event_alike, event_hidden, some_beyond}
use Rattle.pm_laws.proofs.PathLaw.{path_alike, path_hidden}
use Rattle.pm_laws.proofs.VerdictsLaw.{event_within, renewal_unseen, say_unseen, says_alike}

module _ (border : Border) where
  -- ---- lists

  pub part_append : (ps qs : List Talk) → talk_part border (ps ++ qs) ≡ talk_part border ps ++ talk_part border qs
  part_append ps qs = filter-append (seen_talk border) ps qs

  -- two lists after one another of which the same parts are seen
  pub parts_alike : (ps qs rs ss : List Talk) → talk_part border ps ≡ talk_part border rs → talk_part border qs ≡ talk_part border ss
      → talk_part border (ps ++ qs) ≡ talk_part border (rs ++ ss)
  parts_alike ps qs rs ss first second =
      part_append ps qs
      ∙ (ap (λ part. part ++ talk_part border qs) first ∙ (ap (λ part. talk_part border rs ++ part) second ∙ sym (part_append rs ss)))

  -- ---- ends

  -- of the ends, those of requests to masters beyond
  one_end : (e : Ended) (is : Bool) (told : List Talk) (later : List Ended) → told ≡ ends later → (if is then End e.target ∷ told else told) ≡ ends (if is then e ∷ later else later)
  one_end e true told later same = ap (λ changes. End e.target ∷ changes) same
  one_end e false told later same = same

  part_of_ends : (es : List Ended) → talk_part border (ends es) ≡ ends (ends_beyond border es)
  part_of_ends [] = refl
  part_of_ends (e ∷ es) = one_end e (border.master e.target) (talk_part border (ends es)) (ends_beyond border es) (part_of_ends es)

  ends_seen : (es fs : List Ended) → ends_beyond border es ≡ ends_beyond border fs → talk_part border (ends es) ≡ talk_part border (ends fs)
  ends_seen es fs same = part_of_ends es ∙ (ap ends same ∙ sym (part_of_ends fs))

  -- ---- masters that forget

  forget_unseen : (m : ℕ) (off : Bool) → border.master m ≡ false → talk_part border (if off then Forget m ∷ [] else []) ≡ []
  forget_unseen m true within = let changes : List Talk = Forget m ∷ [] in ap (λ b. if b then changes else []) within
  forget_unseen m false within = refl

  forgets_hidden : (book : State) (books : List State) → ((k : ℕ) → IsBeyond border k → (turns_along book books k).off ≡ false) → (m : ℕ) (masters : List MasterRec)
      → talk_part border (forgets_from (turns_along book books) m masters) ≡ []
  forgets_hidden book books stays m [] = refl
  forgets_hidden book books stays m (master ∷ masters) =
      parts_alike (forget_at (turns_along book books m) m) (forgets_from (turns_along book books) (m + 1) masters) [] []
      (at (border.master m) refl) (forgets_hidden book books stays (m + 1) masters)
    where
      at : (is : Bool) → border.master m ≡ is → talk_part border (forget_at (turns_along book books m) m) ≡ []
      at true is = ap (λ off. talk_part border (if off then Forget m ∷ [] else [])) (stays m is)
      at false is = forget_unseen m (turns_along book books m).off is

  forgets_alike : (a b : State) (xs ys : List State) → ((k : ℕ) → IsBeyond border k → turns_along a xs k ≡ turns_along b ys k) → (m : ℕ) (masters : List MasterRec)
      → talk_part border (forgets_from (turns_along a xs) m masters) ≡ talk_part border (forgets_from (turns_along b ys) m masters)
  forgets_alike a b xs ys same m [] = refl
  forgets_alike a b xs ys same m (master ∷ masters) =
      parts_alike (forget_at (turns_along a xs m) m) (forgets_from (turns_along a xs) (m + 1) masters) (forget_at (turns_along b ys m) m) (forgets_from (turns_along b ys) (m + 1) masters)
      (at (border.master m) refl) (forgets_alike a b xs ys same (m + 1) masters)
    where
      at : (is : Bool) → border.master m ≡ is → talk_part border (forget_at (turns_along a xs m) m) ≡ talk_part border (forget_at (turns_along b ys m) m)
      at true is = ap (λ t. talk_part border (forget_at t m)) (same m is)
      at false is = forget_unseen m (turns_along a xs m).off is ∙ sym (forget_unseen m (turns_along b ys m).off is)

  -- ---- all of it

  opening_same : (said other : Option Say) (fs gs : List Talk) (count time : Option ℕ) (es ends_too : List Ended)
      → talk_part border (sweep_by said) ≡ talk_part border (sweep_by other)
      → talk_part border fs ≡ talk_part border gs
      → talk_part border (say_by said) ≡ talk_part border (say_by other)
      → talk_part border (lower_by count) ≡ talk_part border (lower_by time)
      → ends_beyond border es ≡ ends_beyond border ends_too
      → talk_part border (talk_of said fs count es) ≡ talk_part border (talk_of other gs time ends_too)
  opening_same said other fs gs count time es ends_too renewal forgets says passes end =
      parts_alike (sweep_by said) (fs ++ (say_by said ++ (lower_by count ++ ends es))) (sweep_by other) (gs ++ (say_by other ++ (lower_by time ++ ends ends_too))) renewal
      (parts_alike fs (say_by said ++ (lower_by count ++ ends es)) gs (say_by other ++ (lower_by time ++ ends ends_too)) forgets
      (parts_alike (say_by said) (lower_by count ++ ends es) (say_by other) (lower_by time ++ ends ends_too) says
      (parts_alike (lower_by count) (ends es) (lower_by time) (ends ends_too) passes (ends_seen es ends_too end))))

module _ (laws : BelowLaws) (border : Border) where
  -- of a hidden event nothing is seen
  pub opening_hidden : (event : Event) (still now : State) → HasClosed border now → KnowsModes still → is_hidden border event now ≡ true → Agree border still now → IsTalkUnseen border (opening event now)
  opening_hidden event still now closed knows is agree =
      let books : Each (Agree border still) (path event now) =
      path_hidden laws border (stages event now) still now knows (event_hidden laws.kinds border event now closed is) agree
      in
      let within = event_within border now event closed is in
      opening_same border (says event now) None (forgets event now) [] (time_of event now) None (ended event now) []
      (renewal_unseen border (says event now) within)
      (forgets_hidden border now (path event now) (λ k beyond. never laws border k beyond goes_off still now (path event now) agree books) 0 now.fixed.object.masters)
      (say_unseen border (says event now) within) (time_unseen border event now is)
      (ended_hidden laws border event still now closed knows is agree)

  pub opening_alike : (fixed : Fixed) (event : Event) (a b : Now) → ArmsOwn (book_of fixed a) → HasSome border → is_hidden border event (book_of fixed a) ≡ false → Same fixed border a b
      → talk_part border (opening event (book_of fixed a)) ≡ talk_part border (opening event (book_of fixed b))
  opening_alike fixed event a b armed some is same =
      let first : State = book_of fixed a in
      let second : State = book_of fixed b in
      let agree : Agree border first second = record { fixed = refl; now = same } in
      let books : Both (Agree border) (path event first) (path event second) =
      path_alike laws border (stages event first) (stages event second) first second (some_beyond border event first some is)
      (event_alike laws fixed border event a b armed some is same) agree
      in
      let said = says_alike laws fixed border a b same event is in
      opening_same border (says event first) (says event second) (forgets event first) (forgets event second) (time_of event first) (time_of event second) (ended event first) (ended event second)
      (ap (λ x. talk_part border (sweep_by x)) said)
      (forgets_alike border first second (path event first) (path event second)
      (λ k beyond. turns_alike laws border k beyond first second (path event first) (path event second) agree books) 0 fixed.object.masters)
      (ap (λ x. talk_part border (say_by x)) said)
      (ap (λ count. talk_part border (lower_by count)) (time_same fixed border event a b is same))
      (ended_alike laws fixed border event a b armed some is same)
