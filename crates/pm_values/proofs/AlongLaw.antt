-- What is logged along a step is what became of the modes along its books, and which processors were down in them.
use Rattle.std.proofs.Common.{◌≡◌, ℕ, ◌<◌, Bool, true, false, not, ◌||◌, ◌&&◌, List, [], ◌∷◌, length, map, slice_get, refl, zero, suc, sym, ap, ◌∙◌, subst, inl, inr, arith}
use Rattle.std.specs.Prelude.{⊤, option_map, replicate, slice_set, unwrap_or}
use Rattle.std.proofs.lemmas.List.{get_or-replicate, length-replicate}
use Rattle.std.proofs.lemmas.Option.{slice_get_cases, unwrap_or-slice_get}
use Rattle.pm_base.specs.declared.names.Mode.{Mode}
use Rattle.pm_base.specs.declared.names.Mode.TheVariants.{Off, Active, Asleep, Suspending}
use Rattle.pm_procs.specs.Modes.{same_mode}
use Rattle.pm_values.specs.declared.turns.Turns.{Turns}
use Rattle.pm_values.specs.Turns.{goes_down, goes_off, goes_on, turns_of}
use Rattle.pm_state.specs.Members.{mode_of_master}
use Rattle.pm_values.specs.Along.{Trail, Completes, HasPlaces, IsTrail, both_turns, down_after, down_in, down_logged, forgotten, trail_at_load, trail_from, is_down, mode_beside, mode_logged, modes_of, no_turns, trailed, turns_after, turns_logged}
use Rattle.pm_state.specs.Prims.{Prim}
use Rattle.pm_state.specs.Stages.{after_stage, after_stages, path_from}
use Rattle.pm_state.specs.State.{Fixed, State}
use Rattle.pm_state.specs.Values.{placed}
use Rattle.pm_state.proofs.PlacedLemmas.{length-placed, slice_get-placed}

-- there is no element, or one alone
abbrev pub HasOneAtMost : {X : Type 0} → List X → Type 0
HasOneAtMost [] = ⊤
HasOneAtMost (x ∷ xs) = xs ≡ []

-- ---- a mode that stays

or_none : (b : Bool) → (b || false) ≡ b
or_none true = refl
or_none false = refl

-- nothing becomes of a mode that stays
pub unturned : (turns : Turns) (before now : Mode) → same_mode before now ≡ true → turns ≡ both_turns turns (turns_of before (now ∷ []))
unturned turns before now same =
    let by : Bool → Turns = λ s. record {
      down = turns.down || ((not s && goes_down before now) || false);
      on = turns.on || ((not s && goes_on before now) || false);
      off = turns.off || ((not s && goes_off before now) || false);
    } in
    let none : by true ≡ turns =
    ap (λ d. record { down = d; on = turns.on || false; off = turns.off || false }) (or_none turns.down)
    ∙ (ap (λ o. record { down = turns.down; on = o; off = turns.off || false }) (or_none turns.on)
    ∙ ap (λ o. record { down = turns.down; on = turns.on; off = o }) (or_none turns.off))
    in
    sym (ap by same ∙ none)

-- an item that is put where it stands changes nothing
put_same : {X : Type 0} (xs : List X) (k : ℕ) (other : X) → k < length xs → slice_set xs k (unwrap_or (slice_get xs k) other) ≡ xs
put_same [] k other within = absurd (omega (arith, within))
put_same (x ∷ xs) zero other within = refl
put_same (x ∷ xs) (suc k) other within = ap (λ ys. x ∷ ys) (put_same xs k other (omega (arith, within)))

-- so what became of it is as it was logged
pub turns_stay : (turns : List Turns) (m : ℕ) (before now : Mode) → m < length turns → same_mode before now ≡ true
    → turns ≡ slice_set turns m (both_turns (turns_logged m turns) (turns_of before (now ∷ [])))
turns_stay turns m before now within same =
    sym (ap (λ (t : Turns). slice_set turns m t) (sym (unturned (turns_logged m turns) before now same)) ∙ put_same turns m no_turns within)

-- a processor that was down stays as it was logged
pub down_stays : (downs : List Bool) (p : ℕ) (now : Bool) → p < length downs → down_logged p downs ≡ true
    → downs ≡ slice_set downs p (down_logged p downs || now)
down_stays downs p now within was =
    sym (ap (λ (b : Bool). slice_set downs p b) (by (down_logged p downs) was) ∙ put_same downs p true within)
  where
    by : (b : Bool) → b ≡ true → (b || now) ≡ b
    by true is = refl
    by false is = cc

-- ---- what stands at a place

at_place : {X Y : Type 0} (f : ℕ → X → Y) (g : ℕ → Y) (xs : List X) (m : ℕ) (d : Y) → ((x : X) → f m x ≡ g m) → m < length xs → unwrap_or (slice_get (placed f 0 xs) m) d ≡ g m
at_place f g xs m d same within = elim ((slice_get_cases xs m).1) [
  | inl here ↦
      ap (λ o. unwrap_or o d) (slice_get-placed f 0 xs m m (omega arith) ∙ ap (option_map (f m)) here.2) ∙ same here.0
  | inr past ↦ absurd (omega (arith, within, past.0))
]

pub mode_is : (book : State) (m : ℕ) → m < length book.fixed.object.masters → mode_logged (modes_of book) m ≡ mode_of_master book.fixed book.now.core m
mode_is book m within =
    at_place (mode_beside book) (λ k. mode_of_master book.fixed book.now.core k) book.fixed.object.masters m Off (λ x. refl) within

-- what became of a mode, and whether a processor was down, after one moment more
turns_are : (book : State) (before : Trail) (m : ℕ) → m < length book.fixed.object.masters
    → turns_logged m (trailed book before).turns
    ≡ both_turns (turns_logged m before.turns) (turns_of (mode_logged before.modes m) (mode_of_master book.fixed book.now.core m ∷ []))
turns_are book before m within =
    at_place (turns_after before.modes before.turns book)
    (λ k. both_turns (turns_logged k before.turns) (turns_of (mode_logged before.modes k) (mode_of_master book.fixed book.now.core k ∷ [])))
    book.fixed.object.masters m no_turns (λ x. refl) within

downs_are : (book : State) (before : Trail) (p : ℕ) → p < length book.fixed.topology.procs
    → down_logged p (trailed book before).downs ≡ (down_logged p before.downs || is_down book p)
downs_are book before p within =
    at_place (down_after before.downs book) (λ q. down_logged q before.downs || is_down book q) book.fixed.topology.procs p true (λ x. refl) within

-- at the first moment
first_turns : (book : State) (m : ℕ) → m < length book.fixed.object.masters → turns_logged m (trail_from book).turns ≡ no_turns
first_turns book m within =
    unwrap_or-slice_get (replicate (length book.fixed.object.masters) no_turns) m no_turns
    ∙ get_or-replicate (length book.fixed.object.masters) m no_turns no_turns within

first_downs : (book : State) (p : ℕ) → p < length book.fixed.topology.procs → down_logged p (trail_from book).downs ≡ is_down book p
first_downs book p within = at_place (down_in book) (is_down book) book.fixed.topology.procs p true (λ x. refl) within

-- ---- one stage at most

-- a mode that stays turns into nothing
same_turns : (mode : Mode) → both_turns no_turns (turns_of mode (mode ∷ [])) ≡ turns_of mode []
same_turns Off = refl
same_turns Active = refl
same_turns Asleep = refl
same_turns Suspending = refl

same_down : (b : Bool) → (b || b) ≡ (b || false)
same_down true = refl
same_down false = refl

last_down : (a b : Bool) → (a || b) ≡ (a || (b || false))
last_down true b = refl
last_down false true = refl
last_down false false = refl

-- from the first moment on, one moment more
second_turns : (book next : State) (m : ℕ) → next.fixed ≡ book.fixed → m < length book.fixed.object.masters
    → turns_logged m (trailed next (trail_from book)).turns
    ≡ both_turns no_turns (turns_of (mode_of_master book.fixed book.now.core m) (mode_of_master next.fixed next.now.core m ∷ []))
second_turns book next m fixed within =
    turns_are next (trail_from book) m (subst (λ f. m < length f.object.masters) (sym fixed) within)
    ∙ (ap (λ t. both_turns t (turns_of (mode_logged (modes_of book) m) (mode_of_master next.fixed next.now.core m ∷ []))) (first_turns book m within)
    ∙ ap (λ mode. both_turns no_turns (turns_of mode (mode_of_master next.fixed next.now.core m ∷ []))) (mode_is book m within))

second_downs : (book next : State) (p : ℕ) → next.fixed ≡ book.fixed → p < length book.fixed.topology.procs
    → down_logged p (trailed next (trail_from book)).downs ≡ (is_down book p || is_down next p)
second_downs book next p fixed within =
    downs_are next (trail_from book) p (subst (λ f. p < length f.topology.procs) (sym fixed) within)
    ∙ ap (λ b. b || is_down next p) (first_downs book p within)

one_turns : (a b : Mode) → both_turns no_turns (turns_of a (b ∷ [])) ≡ turns_of a (b ∷ [])
one_turns a b = refl

once_is : (stages : List (List Prim)) (book : State) → HasOneAtMost stages → IsTrail book (path_from stages book) (trailed (after_stages stages book) (trail_from book))
once_is [] book once = record {
  turns = λ m within. second_turns book book m refl within ∙ same_turns (mode_of_master book.fixed book.now.core m);
  downs = λ p within. second_downs book book p refl within ∙ same_down (is_down book p);
}
once_is (stage ∷ []) book once = record {
  turns = λ m within. second_turns book (after_stage stage book) m refl within
      ∙ one_turns (mode_of_master book.fixed book.now.core m) (mode_of_master book.fixed (after_stage stage book).now.core m);
  downs = λ p within. second_downs book (after_stage stage book) p refl within ∙ last_down (is_down book p) (is_down (after_stage stage book) p);
}
once_is (stage ∷ (next ∷ later)) book once = cc

-- ---- the places of what is logged

pub load_places : (masters procs m p : ℕ) (along : Trail) → along ≡ trail_at_load masters procs → masters ≡ m → procs ≡ p → HasPlaces m p along
load_places masters procs m p along is count all = record {
  modes = ap (λ (t : Trail). length t.modes) is ∙ (length-replicate masters Off ∙ count);
  turns = ap (λ (t : Trail). length t.turns) is ∙ (length-replicate masters no_turns ∙ count);
  downs = ap (λ (t : Trail). length t.downs) is ∙ (length-replicate procs true ∙ all);
}

first_places : (book : State) → HasPlaces (length book.fixed.object.masters) (length book.fixed.topology.procs) (trail_from book)
first_places book = record {
  modes = length-placed (mode_beside book) 0 book.fixed.object.masters;
  turns = length-replicate (length book.fixed.object.masters) no_turns;
  downs = length-placed (down_in book) 0 book.fixed.topology.procs;
}

-- and so has a book with the same parts
pub next_places : (book next : State) (along : Trail) → along ≡ trail_from book → next.fixed ≡ book.fixed → HasPlaces (length next.fixed.object.masters) (length next.fixed.topology.procs) along
next_places book next along first fixed =
    let P : Fixed → Type 0 = λ f. HasPlaces (length f.object.masters) (length f.topology.procs) along in
    let Q : Trail → Type 0 = λ t. HasPlaces (length book.fixed.object.masters) (length book.fixed.topology.procs) t in
    subst P (sym fixed) (subst Q (sym first) (first_places book))

pub trailed_places : (book : State) (before : Trail) → HasPlaces (length book.fixed.object.masters) (length book.fixed.topology.procs) (trailed book before)
trailed_places book before = record {
  modes = length-placed (mode_beside book) 0 book.fixed.object.masters;
  turns = length-placed (turns_after before.modes before.turns book) 0 book.fixed.object.masters;
  downs = length-placed (down_after before.downs book) 0 book.fixed.topology.procs;
}

forgotten_each : (turns : List Turns) → map forgotten turns ≡ replicate (length turns) no_turns
forgotten_each [] = refl
forgotten_each (turn ∷ turns) = ap (λ later. no_turns ∷ later) (forgotten_each turns)

-- whatever became of so many modes is forgotten
pub all_forgotten : (count : ℕ) (turns : List Turns) → length turns ≡ count → map forgotten turns ≡ replicate count no_turns
all_forgotten count turns is = forgotten_each turns ∙ ap (λ n. replicate n no_turns) is

-- where a step has one stage at most, logging its end completes what was logged at its beginning
pub once_trailed : (stages : List (List Prim)) (book new : State) (along : Trail) → HasOneAtMost stages → along ≡ trail_from book → new ≡ after_stages stages book → Completes book (path_from stages book) new along
once_trailed stages book new along once first is =
    let P : State → Type 0 = λ b. Completes book (path_from stages book) b along in
    let Q : Trail → Type 0 = λ n. Completes book (path_from stages book) (after_stages stages book) n in
    subst P (sym is) (subst Q (sym first) (record { places = first_places book; trailed = once_is stages book once }))

-- where a step has no stage, the beginning is its end
pub still_trailed : (stages : List (List Prim)) (book : State) (along : Trail) → stages ≡ [] → along ≡ trail_from book → Completes book (path_from stages book) book along
still_trailed stages book along none first =
    let P : List (List Prim) → Type 0 = λ s. Completes book (path_from s book) book along in
    subst P (sym none) (once_trailed [] book book along tt first refl)

-- ---- two stages

last_of_two : (a b : Bool) → ((false || (a || false)) || (b || false)) ≡ (a || (b || false))
last_of_two true b = refl
last_of_two false true = refl
last_of_two false false = refl

two_turns : (a b c : Mode) → both_turns (both_turns no_turns (turns_of a (b ∷ []))) (turns_of b (c ∷ [])) ≡ turns_of a (b ∷ c ∷ [])
two_turns a b c =
    let parted : (Mode → Mode → Bool) → Bool = λ test. (false || ((not (same_mode a b) && test a b) || false)) || ((not (same_mode b c) && test b c) || false) in
    let whole : (Mode → Mode → Bool) → Bool = λ test. (not (same_mode a b) && test a b) || ((not (same_mode b c) && test b c) || false) in
    let same : (test : Mode → Mode → Bool) → parted test ≡ whole test = λ test. last_of_two (not (same_mode a b) && test a b) (not (same_mode b c) && test b c) in
    ap (λ d. record { down = d; on = parted goes_on; off = parted goes_off }) (same goes_down)
    ∙ (ap (λ o. record { down = whole goes_down; on = o; off = parted goes_off }) (same goes_on)
    ∙ ap (λ f. record { down = whole goes_down; on = whole goes_on; off = f }) (same goes_off))

two_downs : (a b c : Bool) → ((a || b) || c) ≡ (a || (b || (c || false)))
two_downs true b c = refl
two_downs false true c = refl
two_downs false false true = refl
two_downs false false false = refl

twice_is : (first later : List Prim) (book : State) → IsTrail book (path_from (first ∷ later ∷ []) book) (trailed (after_stages (first ∷ later ∷ []) book) (trailed (after_stage first book) (trail_from book)))
twice_is first later book =
    let mid : State = after_stage first book in
    let last : State = after_stage later mid in
    let before : Trail = trailed mid (trail_from book) in
    record {
      turns = λ m within.
          let was : Mode = mode_of_master book.fixed book.now.core m in
          let is : Mode = mode_of_master mid.fixed mid.now.core m in
          let becomes : Mode = mode_of_master last.fixed last.now.core m in
          turns_are last before m within
          ∙ (ap (λ t. both_turns t (turns_of (mode_logged (modes_of mid) m) (becomes ∷ []))) (second_turns book mid m refl within)
          ∙ (ap (λ mode. both_turns (both_turns no_turns (turns_of was (is ∷ []))) (turns_of mode (becomes ∷ []))) (mode_is mid m within)
          ∙ two_turns was is becomes));
      downs = λ p within.
          downs_are last before p within
          ∙ (ap (λ b. b || is_down last p) (second_downs book mid p refl within) ∙ two_downs (is_down book p) (is_down mid p) (is_down last p));
    }

-- where a step has two stages, logging the moment between them and its end completes what was logged at its beginning
pub twice_trailed : (first later : List Prim) (book mid new : State) (along : Trail) → mid ≡ after_stage first book → along ≡ trailed mid (trail_from book) → new ≡ after_stages (first ∷ later ∷ []) book → Completes book (path_from (first ∷ later ∷ []) book) new along
twice_trailed first later book mid new along mid_is along_is is =
    let books : List State = path_from (first ∷ later ∷ []) book in
    let P : State → Type 0 = λ b. Completes book books b along in
    let Q : Trail → Type 0 = λ n. Completes book books (after_stages (first ∷ later ∷ []) book) n in
    let between : along ≡ trailed (after_stage first book) (trail_from book) = along_is ∙ ap (λ b. trailed b (trail_from book)) mid_is in
    subst P (sym is) (subst Q (sym between) (record { places = trailed_places (after_stage first book) (trail_from book); trailed = twice_is first later book }))

-- what was logged, once this book is logged too
pub completed : (before : State) (books : List State) (last : State) (along new : Trail) → Completes before books last along → new ≡ trailed last along → IsTrail before books new
completed before books last along new completes is = let P : Trail → Type 0 = λ n. IsTrail before books n in subst P (sym is) completes.trailed
