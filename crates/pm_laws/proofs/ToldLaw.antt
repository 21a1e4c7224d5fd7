-- The outputs of core steps beyond a closed border: equal if the books before them agree and the event is the same;
-- none if the event is hidden, as a Pass is.
use Rattle.std.proofs.Common.{◌≡◌, Bool, true, false, not, ◌&&◌, ◌||◌, ◌==◌, cond, if◌then◌else◌, List, [], ◌∷◌, ◌++◌, filter, flat_map, refl, ap, sym, ◌∙◌}
use Rattle.pm_laws.proofs.Common.{Active, Agree, BelowLaws, Border, Event, Fixed, IsClosed, IsObject, IsSound, IsWellFormed, Kind, Mode, Node, NodeId, Off, Pass, State, Unit, effect, is_awake, is_hidden, kind_of, master_node, mode_at, proc_at, same_mode, value}
use Rattle.pm_base.specs.declared.names.Unit.TheVariants.{Line}
use Rattle.pm_base.proofs.Booleans.{equal}
use Rattle.pm_topology.specs.declared.places.Kind.TheVariants.{Proc}
use Rattle.pm_topology.specs.Units.{units_of}
use Rattle.pm_tell.specs.declared.ended.Ended.{Ended}
use Rattle.pm_tell.specs.declared.late.Late.{Late}
use Rattle.pm_values.specs.declared.starts.Start.{Start}
use Rattle.pm_tell.specs.Callbacks.{late_by, late_replies}
use Rattle.pm_values.specs.Starts.{start_by, start_of, starts_among, was_down}
use Rattle.pm_run.specs.Run.{core_of}
use Rattle.pm_laws.specs.Told.{SameTold, TellsNothing, ends_in, moves_in, starts_in}
use Rattle.pm_laws.specs.Values.{is_beyond, starts_beyond}
use Rattle.pm_laws.proofs.AgreeLaw.{agree_self}
use Rattle.pm_laws.proofs.AnswersLaw.{answers_agree, drops_agree}
use Rattle.pm_laws.proofs.CallbacksLaw.{callbacks_agree, callbacks_hidden}
use Rattle.pm_laws.proofs.PulseLaw.{pulse_agree}
use Rattle.pm_laws.proofs.RequestsLaw.{asked_agree, asked_hidden, ends_agree, ends_hidden}
use Rattle.pm_laws.proofs.StartsLaw.{starts_agree, starts_hidden}
use Rattle.pm_laws.proofs.StepLaw.{step_hidden, steps_agree}
use Rattle.pm_laws.proofs.ValuesLaw.{values_alike}
use Rattle.pm_laws.proofs.VerdictsLaw.{pulse_hidden}

-- ---- lists

-- the elements that pass one test among those that pass another, if the first test agrees on them
filter_alike : {X : Type 0} (q p r : X → Bool) → ((x : X) → q x ≡ true → p x ≡ r x) → (xs : List X) → filter q (filter p xs) ≡ filter q (filter r xs)
filter_alike q p r same [] = refl
filter_alike {X} q p r same (x ∷ xs) = at (q x) refl (filter_alike q p r same xs)
  where
    -- one that doesn't pass the second test
    left_out : (b : Bool) (ys : List X) → q x ≡ false → filter q (cond b (x ∷ ys) ys) ≡ filter q ys
    left_out true ys is = ap (λ t. cond t (x ∷ filter q ys) (filter q ys)) is
    left_out false ys is = refl

    -- one that does
    taken : (b : Bool) (ys zs : List X) → filter q ys ≡ filter q zs → filter q (cond b (x ∷ ys) ys) ≡ filter q (cond b (x ∷ zs) zs)
    taken true ys zs later = ap (λ l. cond (q x) (x ∷ l) l) later
    taken false ys zs later = later

    at : (b : Bool) → q x ≡ b → filter q (filter p xs) ≡ filter q (filter r xs) → filter q (filter p (x ∷ xs)) ≡ filter q (filter r (x ∷ xs))
    at true is later =
        ap (λ t. filter q (cond t (x ∷ filter p xs) (filter p xs))) (same x is) ∙ taken (r x) (filter p xs) (filter r xs) later
    at false is later = left_out (p x) (filter p xs) is ∙ later ∙ sym (left_out (r x) (filter r xs) is)

-- nothing passes the test that fails
none_pass : {X : Type 0} (xs : List X) → filter (λ (x : X). false) xs ≡ []
none_pass [] = refl
none_pass (x ∷ xs) = none_pass xs

-- ---- a Pass starts nothing

-- who is active now wasn't down
not_both : (mode : Mode) → ((not (is_awake mode) || false) && same_mode mode Active) ≡ false
not_both Off = refl
not_both _ = refl

still_by : (book : State) (node : NodeId) (kind : Kind) → start_by (was_down (book ∷ [])) (effect Pass book) node kind ≡ []
still_by book node (Proc p) =
    let start : Start = record { proc = node; address = (proc_at p book.now.core.procs).address } in
    ap (λ t. if t then start ∷ [] else []) (not_both (mode_at p book.now.core.procs))
still_by book node _ = refl

still_of : (book : State) (unit : Unit) → start_of (was_down (book ∷ [])) (effect Pass book) unit ≡ []
still_of book (Node node) = still_by book node (kind_of book.fixed.topology node)
still_of book (Line line) = refl

still_among : (book : State) (units : List Unit) → starts_among (was_down (book ∷ [])) (effect Pass book) units ≡ []
still_among book [] = refl
still_among book (unit ∷ units) =
    ap (λ starts. starts ++ starts_among (was_down (book ∷ [])) (effect Pass book) units) (still_of book unit) ∙ still_among book units

-- ---- two books that agree

module _ (laws : BelowLaws) (border : Border) (event : Event) where
  module _ (a b : State) (closed : IsClosed a.fixed border) (sound_a : IsSound a) (sound_b : IsSound b) (agree : Agree border a b) where
    abbrev beyond : Unit → Bool
    beyond = is_beyond a.fixed.object a.fixed.topology border

    same_moves : moves_in a.fixed.object a.fixed.topology border (core_of event a) ≡ moves_in a.fixed.object a.fixed.topology border (core_of event b)
    same_moves =
        let after : Agree border (effect event a) (effect event b) = steps_agree laws border event a b closed sound_a sound_b agree in
        let moves : Unit → Bool = λ u. not (value u a == value u (effect event a)) in
        let other_moves : Unit → Bool = λ u. not (value u b == value u (effect event b)) in
        filter_alike beyond moves other_moves
        (λ u is. ap (λ n. not (n == value u (effect event a))) (values_alike border u a b closed is agree)
        ∙ ap (λ n. not (value u b == n)) (values_alike border u (effect event a) (effect event b) closed is after))
        (units_of a.fixed.topology)
        ∙ ap (λ (fixed : Fixed). filter beyond (filter other_moves (units_of fixed.topology))) agree.fixed

    -- the late replies for these requests that end
    abbrev late_for : List Ended → Fixed → List Late
    late_for ends fixed = flat_map (λ (e : Ended). late_by e.request.ack (master_node fixed.object.masters e.request.by) e.status) ends

    pub same_told : IsObject a.fixed.object → IsWellFormed a.fixed.topology
        → SameTold a.fixed.object a.fixed.topology border (core_of event a) (core_of event b)
    same_told object chip =
        let ends = ends_agree laws border event a b closed sound_a sound_b agree in
        record {
          moves = same_moves;
          starts = starts_agree laws border event a b closed sound_a sound_b agree;
          pulse = pulse_agree laws border event a b closed agree;
          asked = asked_agree laws border event a b closed agree;
          ends = ends;
          late = ap (λ (es : List Ended). late_replies es (effect event a)) ends ∙ ap (late_for (ends_in border (core_of event b))) agree.fixed;
          callbacks = callbacks_agree laws border event a b object closed sound_a sound_b agree;
          drop = λ is. drops_agree laws border event a b agree is;
          answer = λ is. answers_agree laws laws.kinds border event a b chip closed sound_a sound_b agree is;
        }

  -- ---- a hidden event

  module _ (book : State) (closed : IsClosed book.fixed border) (sound : IsSound book) (is : is_hidden border event book ≡ true) where
    abbrev seen : Unit → Bool
    seen = is_beyond book.fixed.object book.fixed.topology border

    no_moves : moves_in book.fixed.object book.fixed.topology border (core_of event book) ≡ []
    no_moves =
        let after : Agree border (effect event book) book = step_hidden laws border event book book closed sound sound is (agree_self laws.units border book closed sound) in
        let moves : Unit → Bool = λ u. not (value u book == value u (effect event book)) in
        let none : Unit → Bool = λ u. false in
        filter_alike seen moves none
        (λ u beyond. ap (λ n. not (value u book == n)) (values_alike border u (effect event book) book closed beyond after)
        ∙ ap not (equal (value u book) (value u book) refl))
        (units_of book.fixed.topology)
        ∙ ap (filter seen) (none_pass (units_of book.fixed.topology))

    no_starts : starts_in book.fixed.object book.fixed.topology border (core_of event book) ≡ []
    no_starts =
        starts_hidden laws border event book book closed sound sound is (agree_self laws.units border book closed sound)
        ∙ ap (starts_beyond book.fixed.object book.fixed.topology border) (still_among book (units_of book.fixed.topology))

    pub nothing_told : IsObject book.fixed.object → TellsNothing book.fixed.object book.fixed.topology border (core_of event book)
    nothing_told object =
        let ends = ends_hidden laws border event book (record { closed = closed; force = record { place = sound.force.place; there = sound.force.there } }) sound is in
        record {
          moves = no_moves;
          starts = no_starts;
          pulse = pulse_hidden border book event (record { closed = closed; force = record { place = sound.force.place; there = sound.force.there } }) is;
          asked = asked_hidden laws border event book (record { closed = closed; force = record { place = sound.force.place; there = sound.force.there } }) is;
          ends = ends;
          late = ap (λ (es : List Ended). late_replies es (effect event book)) ends;
          callbacks = callbacks_hidden laws border event book object closed sound is;
        }
