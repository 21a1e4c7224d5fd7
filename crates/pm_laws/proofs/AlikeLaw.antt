-- Two lines whose core steps are beside one another agree, list by list over the core steps of each.
use Rattle.std.proofs.Common.{◌≡◌, ◌==◌, Bool, true, false, not, ◌&&◌, if◌then◌else◌, List, [], ◌∷◌, ◌++◌, flat_map, length, refl, ap, sym, ◌∙◌, subst}
use Rattle.std.specs.Prelude.{option_to_list}
use Rattle.pm_laws.proofs.Common.{Agree, AreObjects, Border, Both, Event, Fixed, Ipi, IsWellFormed, NodeId, Pass, State, border_of, none_within, configured_place}
use Rattle.pm_base.proofs.Booleans.{equal, pair_of, both as both_pass}
use Rattle.pm_ipi.specs.Calls.{call_of}
use Rattle.pm_core.specs.declared.replies.Answer.{Answer}
use Rattle.pm_run.specs.Run.{Core, IsBookOf, Line, Setup, Stand, fixed_of, line_of, lines_of, loaded}
use Rattle.pm_laws.specs.Answers.{is_dropped, message_beyond, names_beyond, sender_beyond}
use Rattle.pm_laws.specs.Beside.{AreBeside, IsOwn, no_core, both_cores, left_core, rest_core}
use Rattle.pm_laws.specs.Quiet.{quiet, quiet_event}
use Rattle.pm_laws.specs.Told.{SameTold, TellsNothing, answers_in, asked_in, callbacks_in, drops_in, ends_in, is_beyond_all, is_others, late_in, moves_in, pulse_in, starts_in}
use Rattle.pm_laws.specs.Values.{IsModeAlike, IsValueAlike}
use Rattle.pm_laws.specs.Worlds.{AreQuietBoxes, AreWorldsAlike, AreWorldsBeside, IsLineAlike, IsLineBeside}
use Rattle.pm_laws.proofs.BesideLaw.{CoreLaws, line_beside, lines_beside}
use Rattle.pm_laws.proofs.BoxesLaw.{load_boxes}

-- what is known of two books that agree, and of the books of a run
pub record BookLaws : Type 0 where
  pub values : (m : NodeId) (a b : State) → AreObjects a.fixed → IsWellFormed a.fixed.topology
      → Agree (border_of a.fixed m) a b
      → IsValueAlike a.fixed.object a.fixed.topology (border_of a.fixed m) a b
  pub modes : (m : NodeId) (a b : State) → Agree (border_of a.fixed m) a b
      → IsModeAlike a.fixed.object a.fixed.topology (border_of a.fixed m) a b
  pub load : (c : Setup) → IsWellFormed c.topology → IsBookOf c (loaded c).book
  pub agrees : (c : Setup) (m : NodeId) → AreObjects (fixed_of c) → IsWellFormed c.topology → Agree (border_of (fixed_of c) m) (loaded c).book (loaded c).book

module _ (c : Setup) (m : NodeId) where
  abbrev border : Border
  border = border_of (fixed_of c) m

  -- ---- a list over core steps

  module _ {X : Type 0} (f : Core → List X)
      (same : (x y : Core) → x.event ≡ y.event → SameTold c.object c.topology border x y → f x ≡ f y)
      (own : (x : Core) → IsOwn c.object c.topology m x.event → TellsNothing c.object c.topology border x → f x ≡ [])
      (still : (y : Core) → y.event ≡ Pass → TellsNothing c.object c.topology border y → f y ≡ []) where
    flat : (a b : State) (xs ys : List Core) → AreBeside c m a b xs ys → flat_map f xs ≡ flat_map f ys
    flat _ _ _ _ (no_core a b) = refl
    flat _ _ _ _ (both_cores a b x y xs ys event first second agree told later) =
        ap (λ l. l ++ flat_map f xs) (same x y event told) ∙ ap (λ l. f y ++ l) (flat x.after y.after xs ys later)
    flat _ _ _ _ (left_core a b x xs ys mine first agree nothing later) =
        ap (λ l. l ++ flat_map f xs) (own x mine nothing) ∙ flat x.after b xs ys later
    flat _ _ _ _ (rest_core a b y xs ys event first agree nothing later) =
        flat a y.after xs ys later ∙ sym (ap (λ l. l ++ flat_map f ys) (still y event nothing))

  -- lists that depend only on what is told
  told : {X : Type 0} (f : Core → List X)
      → ((x y : Core) → SameTold c.object c.topology border x y → f x ≡ f y)
      → ((x : Core) → TellsNothing c.object c.topology border x → f x ≡ [])
      → (a b : State) (xs ys : List Core) → AreBeside c m a b xs ys → flat_map f xs ≡ flat_map f ys
  told f same nothing a b xs ys beside =
      flat f (λ x y event is. same x y is) (λ x own is. nothing x is) (λ y event is. nothing y is) a b xs ys beside

  -- ---- drops and answers

  -- if a test holds of both, their lists have equal elements
  one_if : {X : Type 0} (t : Bool) (x y : X) → (t ≡ true → x ≡ y) → (if t then x ∷ [] else []) ≡ (if t then y ∷ [] else [])
  one_if true x y same = ap (λ z. z ∷ []) (same refl)
  one_if false x y same = refl

  others_beyond : (event : Event) → is_others c.object border m event ≡ true → sender_beyond c.object border event ≡ true
  others_beyond (Ipi master message) is = (both_pass (not (master.0 == m.0)) (none_within border (configured_place c.object master)) is).1
  others_beyond event is = refl

  all_beyond : (event : Event) → is_beyond_all c.object c.topology border m event ≡ true → message_beyond c.object c.topology border event ≡ true
  all_beyond (Ipi master message) is =
      let parts = both_pass (is_others c.object border m (Ipi master message)) (names_beyond c.topology border (call_of message)) is in
      pair_of (none_within border (configured_place c.object master)) (names_beyond c.topology border (call_of message))
      (others_beyond (Ipi master message) parts.0) parts.1
  all_beyond event is = refl

  own_others : (event : Event) → IsOwn c.object c.topology m event → is_others c.object border m event ≡ false
  own_others (Ipi master message) is = ap (λ t. not t && none_within border (configured_place c.object master)) (equal master.0 m.0 is)
  own_others event is = refl

  own_beyond : (event : Event) → IsOwn c.object c.topology m event → is_beyond_all c.object c.topology border m event ≡ false
  own_beyond (Ipi master message) is = ap (λ t. t && names_beyond c.topology border (call_of message)) (own_others (Ipi master message) is)
  own_beyond event is = refl

  drops_same : (x y : Core) → x.event ≡ y.event → SameTold c.object c.topology border x y → drops_in c.object border m x ≡ drops_in c.object border m y
  drops_same x y event is =
      let dropped : Bool = is_dropped y.outputs.answer in
      one_if (is_others c.object border m x.event) (x.event, is_dropped x.outputs.answer) (y.event, dropped)
      (λ others. ap (λ (e : Event). (e, is_dropped x.outputs.answer)) event ∙ ap (λ (d : Bool). (y.event, d)) (is.drop (others_beyond x.event others)))
      ∙ ap (λ (e : Event). if is_others c.object border m e then (y.event, dropped) ∷ [] else []) event

  answers_same : (x y : Core) → x.event ≡ y.event → SameTold c.object c.topology border x y
      → answers_in c.object c.topology border m x ≡ answers_in c.object c.topology border m y
  answers_same x y event is =
      one_if (is_beyond_all c.object c.topology border m x.event) (x.event, x.outputs.answer) (y.event, y.outputs.answer)
      (λ all. ap (λ (e : Event). (e, x.outputs.answer)) event ∙ ap (λ (answer : Answer). (y.event, answer)) (is.answer (all_beyond x.event all)))
      ∙ ap (λ (e : Event). if is_beyond_all c.object c.topology border m e then (y.event, y.outputs.answer) ∷ [] else []) event

  drops_flat : (a b : State) (xs ys : List Core) → AreBeside c m a b xs ys
      → flat_map (drops_in c.object border m) xs ≡ flat_map (drops_in c.object border m) ys
  drops_flat a b xs ys beside =
      flat (drops_in c.object border m) drops_same
      (λ x own is. ap (λ t. if t then (x.event, is_dropped x.outputs.answer) ∷ [] else []) (own_others x.event own))
      (λ y event is. ap (λ (e : Event). if is_others c.object border m e then (y.event, is_dropped y.outputs.answer) ∷ [] else []) event)
      a b xs ys beside

  answers_flat : (a b : State) (xs ys : List Core) → AreBeside c m a b xs ys
      → flat_map (answers_in c.object c.topology border m) xs ≡ flat_map (answers_in c.object c.topology border m) ys
  answers_flat a b xs ys beside =
      flat (answers_in c.object c.topology border m) answers_same
      (λ x own is. ap (λ t. if t then (x.event, x.outputs.answer) ∷ [] else []) (own_beyond x.event own))
      (λ y event is. ap (λ (e : Event). if is_beyond_all c.object c.topology border m e then (y.event, y.outputs.answer) ∷ [] else []) event)
      a b xs ys beside

  -- ---- lines

  line_alike : (books : BookLaws) (object : AreObjects (fixed_of c)) (chip : IsWellFormed c.topology)
      (a b : State) (x y : Line) → IsBookOf c x.after.book → IsLineBeside c m a b x y → IsLineAlike c m x y
  line_alike books object chip a b x y is beside =
      let P : Fixed → Type 0 = λ fixed. AreObjects fixed → IsWellFormed fixed.topology
      → Agree (border_of fixed m) x.after.book y.after.book
      → IsValueAlike fixed.object fixed.topology (border_of fixed m) x.after.book y.after.book
      in
      let Q : Fixed → Type 0 = λ fixed. Agree (border_of fixed m) x.after.book y.after.book
      → IsModeAlike fixed.object fixed.topology (border_of fixed m) x.after.book y.after.book
      in
      record {
        books = beside.agree;
        values = subst P is.fixed (books.values m x.after.book y.after.book) object chip beside.agree;
        modes = subst Q is.fixed (books.modes m x.after.book y.after.book) beside.agree;
        moves = told (moves_in c.object c.topology border) (λ x y is. is.moves) (λ x is. is.moves) a b x.cores y.cores beside.cores;
        starts = told (starts_in c.object c.topology border) (λ x y is. is.starts) (λ x is. is.starts) a b x.cores y.cores beside.cores;
        pulses = told (λ core. option_to_list (pulse_in c.topology border core)) (λ x y is. ap option_to_list is.pulse) (λ x is. ap option_to_list is.pulse) a b x.cores y.cores beside.cores;
        asked = told (λ core. option_to_list (asked_in border core)) (λ x y is. ap option_to_list is.asked) (λ x is. ap option_to_list is.asked) a b x.cores y.cores beside.cores;
        ends = told (ends_in border) (λ x y is. is.ends) (λ x is. is.ends) a b x.cores y.cores beside.cores;
        late = told (late_in border) (λ x y is. is.late) (λ x is. is.late) a b x.cores y.cores beside.cores;
        callbacks = told (callbacks_in c.object border) (λ x y is. is.callbacks) (λ x is. is.callbacks) a b x.cores y.cores beside.cores;
        drops = drops_flat a b x.cores y.cores beside.cores;
        answers = answers_flat a b x.cores y.cores beside.cores;
        boxes = beside.boxes;
        busy = beside.busy;
      }

  module _ (laws : CoreLaws) (books : BookLaws) (object : AreObjects (fixed_of c)) (chip : IsWellFormed c.topology) where
    lines_alike : (events : List Event) (a b : Stand) → IsBookOf c a.book → IsBookOf c b.book → Agree border a.book b.book
        → AreQuietBoxes c m a.boxes b.boxes
        → Both (IsLineAlike c m) (lines_of c events a) (lines_of c (quiet m events) b)
    lines_alike [] a b first second agree boxes = tt
    lines_alike (event ∷ events) a b first second agree boxes =
        let x : Line = line_of c event a in
        let y : Line = line_of c (quiet_event m event) b in
        let beside : IsLineBeside c m a.book b.book x y = line_beside laws c m object chip event a b chip.masters first second agree boxes in
        let next : IsBookOf c x.after.book = laws.line c event a chip first in (
          line_alike books object chip a.book b.book x y next beside,
          lines_alike events x.after y.after next (laws.line c (quiet_event m event) b chip second) beside.agree beside.boxes,
        )

    pub worlds_beside : (events : List Event) → AreWorldsBeside c m events
    worlds_beside events =
        let at_load = books.load c chip in
        let agree = books.agrees c m object chip in
        let boxes : AreQuietBoxes c m (loaded c).boxes (loaded c).boxes = load_boxes c.object m (length c.object.masters) in
        record { load = agree; boxes = boxes; lines = lines_beside laws c m object chip events (loaded c) (loaded c) chip.masters at_load at_load agree boxes }

    pub worlds_alike : (events : List Event) → AreWorldsAlike c m events
    worlds_alike events =
        let at_load = books.load c chip in
        let agree = books.agrees c m object chip in
        let boxes : AreQuietBoxes c m (loaded c).boxes (loaded c).boxes = load_boxes c.object m (length c.object.masters) in (
          record {
            books = agree;
            values = λ unit beyond. refl;
            modes = λ proc beyond. refl;
            moves = refl;
            starts = refl;
            pulses = refl;
            asked = refl;
            ends = refl;
            late = refl;
            callbacks = refl;
            drops = refl;
            answers = refl;
            boxes = boxes;
            busy = refl;
          },
          lines_alike events (loaded c) (loaded c) at_load at_load agree boxes,
        )
