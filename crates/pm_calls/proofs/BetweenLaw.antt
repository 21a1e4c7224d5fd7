-- What is logged between the two stages of a call completes what was logged at its beginning: nothing, if the first stage
-- writes no processor down.
use Rattle.std.proofs.Common.{◌≡◌, ℕ, ◌||◌, Bool, true, false, not, List, [], ◌∷◌, length, refl, sym, ap, ◌∙◌}
use Rattle.pm_procs.specs.Modes.{is_awake}
use Rattle.pm_procs.specs.Procs.{master_mode_in, mode_at}
use Rattle.pm_state.specs.Changes.{Listed, Written, written_stage}
use Rattle.pm_state.specs.Members.{members_of, mode_of_master}
use Rattle.pm_state.specs.Prims.{Prim}
use Rattle.pm_state.specs.Stages.{after_stage, after_stages, path_from}
use Rattle.pm_state.specs.State.{State}
use Rattle.pm_calls.specs.Between.{between}
use Rattle.pm_state.proofs.UnmovedLaw.{stage_stays}
use Rattle.pm_values.specs.Along.{Completes, Trail, is_down, trail_from, trailed}
use Rattle.pm_values.specs.Starts.{was_down}
use Rattle.pm_values.specs.Turns.{modes_along}
use Rattle.pm_values.proofs.AlongLaw.{once_trailed, twice_trailed}
use Rattle.pm_calls.proofs.StaysLaw.{same_trail, turn_past}

once_more : (b c : Bool) → (b || c) ≡ (b || (b || c))
once_more true c = refl
once_more false c = refl

-- a first stage that leaves all processors
passed_over : (first later : List Prim) (book new : State) (along : Trail) → (after_stage first book).now.core.procs ≡ book.now.core.procs → along ≡ trail_from book → new ≡ after_stages (first ∷ later ∷ []) book
    → Completes book (path_from (first ∷ later ∷ []) book) new along
passed_over first later book new along same first_is is =
    let mid : State = after_stage first book in
    let rest = once_trailed (later ∷ []) mid new along refl (first_is ∙ sym (same_trail book mid.now same)) is in
    record {
      places = rest.places;
      trailed = record {
        turns = λ m within.
            rest.trailed.turns m within
            ∙ sym (turn_past (mode_of_master book.fixed book.now.core m) (mode_of_master mid.fixed mid.now.core m) (modes_along m (path_from (later ∷ []) mid))
            (ap (λ ps. master_mode_in m (members_of book.fixed.object book.fixed.topology) ps) same));
        downs = λ p within.
            rest.trailed.downs p within
            ∙ (once_more (is_down mid p) (was_down (path_from (later ∷ []) mid) p)
            ∙ ap (λ ps. not (is_awake (mode_at p ps)) || was_down (mid ∷ path_from (later ∷ []) mid) p) same);
      };
    }

by_places : (first later : List Prim) (book mid new : State) (places : List ℕ) (along next : Trail) → mid ≡ after_stage first book
    → (places ≡ [] → (after_stage first book).now.core.procs ≡ book.now.core.procs) → along ≡ trail_from book → next ≡ between places mid along
    → new ≡ after_stages (first ∷ later ∷ []) book → Completes book (path_from (first ∷ later ∷ []) book) new next
by_places first later book mid new [] along next mid_is stays along_is next_is is =
    passed_over first later book new next (stays refl) (next_is ∙ along_is) is
by_places first later book mid new (p ∷ places) along next mid_is stays along_is next_is is =
    twice_trailed first later book mid new next mid_is (next_is ∙ ap (λ t. trailed mid t) along_is) is

-- what was written down before the first stage, and behind it
pub between_trailed : (first later : List Prim) (book mid new : State) (before w : Written) (along next : Trail) → mid ≡ after_stage first book → w ≡ written_stage first book before
    → before.procs.count ≡ length book.now.core.procs → along ≡ trail_from book → next ≡ between w.procs.list mid along
    → new ≡ after_stages (first ∷ later ∷ []) book → Completes book (path_from (first ∷ later ∷ []) book) new next
between_trailed first later book mid new before w along next mid_is written each along_is next_is is =
    by_places first later book mid new w.procs.list along next mid_is
    (λ none. (stage_stays first book before (sym (ap (λ (x : Written). x.procs.list) written) ∙ none)).procs each)
    along_is next_is is

-- where no processor is written down behind the second stage, nothing was logged behind the first
pub between_still : (later : List Prim) (mid : State) (w last : Written) (along next : Trail) → last ≡ written_stage later mid w → next ≡ between w.procs.list mid along → last.procs.list ≡ [] → next ≡ along
between_still later mid w last along next written next_is none =
    let empty : (written_stage later mid w).procs.list ≡ [] = sym (ap (λ (x : Written). x.procs.list) written) ∙ none in
    next_is ∙ ap (λ places. between places mid along) (sym (ap (λ (l : Listed). l.list) (stage_stays later mid w empty).same) ∙ empty)
