-- The same processors beyond start in two books that agree, and none starts in an invisible step.
use Rattle.std.proofs.Common.{◌≡◌, Bool, true, false, not, ℕ, ◌&&◌, ◌||◌, cond, if◌then◌else◌, List, [], ◌∷◌, ◌++◌, Option, Some, None, refl, sym, ◌∙◌, ap, subst}
use Rattle.std.specs.Prelude.{filter}
use Rattle.std.specs.List.{AllByRecursion as Each}
use Rattle.std.proofs.lemmas.List.Elements.{filter-append}
use Rattle.pm_laws.proofs.Common.{Active, Agree, BelowLaws, Border, Both, Event, Fixed, IsClosed, IsSound, Kind, Node, NodeId, Now, Off, Pass, Prim, Same, State, Unit, effect, is_awake, is_hidden, is_place, kind_of, mode_at, none_within, outputs, owner_at, path, proc_at, same_mode, stages, unit_beyond}
use Rattle.pm_base.specs.declared.names.Unit.TheVariants.{Line}
use Rattle.pm_base.proofs.Booleans.{equal}
use Rattle.pm_topology.specs.declared.places.Kind.TheVariants.{Proc}
use Rattle.pm_topology.specs.Units.{units_of}
use Rattle.pm_procs.specs.declared.procs.Proc.{Proc as Processor}
use Rattle.pm_values.specs.declared.starts.Start.{Start}
use Rattle.pm_state.specs.Members.{owns}
use Rattle.pm_state.specs.Stages.{after_stage, path_from}
use Rattle.pm_values.specs.Starts.{start_by, start_of, starts_among, was_down}
use Rattle.pm_laws.specs.Values.{is_beyond, starts_beyond}
use Rattle.pm_laws.proofs.AgreeLaw.{agree_sym, agree_trans, same_sym}
use Rattle.pm_laws.proofs.CallsAlike.{book_of}
use Rattle.pm_laws.proofs.EventsLaw.{event_alike, event_hidden, hidden_fixed, some_beyond}
use Rattle.pm_laws.proofs.FollowLaw.{proc_alike}
use Rattle.pm_laws.proofs.PathLaw.{path_alike, path_hidden}
use Rattle.pm_laws.proofs.StepLaw.{effect_alike, effect_hidden}
use Rattle.pm_laws.proofs.ValuesLaw.{mode_same, nobody_off}

-- the start of a processor that was down and is active now
abbrev begun : Bool → NodeId → Processor → List Start
begun down node proc = if down && same_mode proc.mode Active then record { proc = node; address = proc.address } ∷ [] else []

-- ---- the starts of one unit

module _ (fixed : Fixed) (border : Border) where
  abbrev test : Start → Bool
  test start = is_beyond fixed.object fixed.topology border (Node start.proc)

  unbegun : (b : Bool) (start : Start) → test start ≡ false → filter test (if b then start ∷ [] else []) ≡ []
  unbegun false start is = refl
  unbegun true start is = ap (λ t. cond t (start ∷ []) []) is

  never : (down : Bool) (node : NodeId) (proc : Processor) → proc.mode ≡ Off → begun down node proc ≡ []
  never true node proc is = ap (λ mode. if same_mode mode Active then record { proc = node; address = proc.address } ∷ [] else []) is
  never false node proc is = refl

  module _ (a b : Now) (same : Same fixed border a b) (down_a down_b : ℕ → Bool)
      (downs : (p : ℕ) → none_within border (owner_at fixed.object fixed.topology p) ≡ true → down_a p ≡ down_b p) where
    abbrev Alike : List Start → List Start → Type 0
    Alike first second = filter test first ≡ filter test second

    -- the processor of this owner, which is beyond or isn't
    proc_starts : (node : NodeId) (p : ℕ) (owner : Option ℕ) (beyond : Bool) → kind_of fixed.topology node ≡ Proc p
        → owner_at fixed.object fixed.topology p ≡ owner → none_within border owner ≡ beyond
        → Alike (begun (down_a p) node (proc_at p a.core.procs)) (begun (down_b p) node (proc_at p b.core.procs))
    proc_starts node p owner false kind is within =
        let start_a : Start = record { proc = node; address = (proc_at p a.core.procs).address } in
        let start_b : Start = record { proc = node; address = (proc_at p b.core.procs).address } in
        let one : test start_a ≡ false =
        ap (unit_beyond fixed.object fixed.topology border) kind ∙ (ap (none_within border) is ∙ within)
        in
        unbegun (down_a p && same_mode (mode_at p a.core.procs) Active) start_a one
        ∙ sym (unbegun (down_b p && same_mode (mode_at p b.core.procs) Active) start_b one)
    proc_starts node p None true kind is beyond =
        let first = never (down_a p) node (proc_at p a.core.procs) (nobody_off fixed border a b same p is).0 in
        let second = never (down_b p) node (proc_at p b.core.procs) (nobody_off fixed border a b same p is).1 in
        ap (filter test) first ∙ sym (ap (filter test) second)
    proc_starts node p (Some m) true kind is beyond =
        let own : owns fixed.object fixed.topology m p ≡ true = ap (is_place m) is ∙ equal m m refl in
        ap (λ down. filter test (begun down node (proc_at p a.core.procs))) (downs p (ap (none_within border) is ∙ beyond))
        ∙ ap (λ proc. filter test (begun (down_b p) node proc)) (proc_alike fixed border m p a b beyond own same)

    kind_starts : (node : NodeId) (kind : Kind) → kind_of fixed.topology node ≡ kind
        → Alike (start_by down_a (book_of fixed a) node kind) (start_by down_b (book_of fixed b) node kind)
    kind_starts node (Proc p) is =
        proc_starts node p (owner_at fixed.object fixed.topology p) (none_within border (owner_at fixed.object fixed.topology p)) is refl refl
    kind_starts node _ is = refl

    unit_starts : (unit : Unit) → Alike (start_of down_a (book_of fixed a) unit) (start_of down_b (book_of fixed b) unit)
    unit_starts (Node node) = kind_starts node (kind_of fixed.topology node) refl
    unit_starts (Line line) = refl

    starts_alike : (units : List Unit) → Alike (starts_among down_a (book_of fixed a) units) (starts_among down_b (book_of fixed b) units)
    starts_alike [] = refl
    starts_alike (unit ∷ units) =
        let first = start_of down_a (book_of fixed a) unit in
        let second = start_of down_b (book_of fixed b) unit in
        let later_a = starts_among down_a (book_of fixed a) units in
        let later_b = starts_among down_b (book_of fixed b) units in
        filter-append test first later_a
        ∙ (ap (λ starts. starts ++ filter test later_a) (unit_starts unit)
        ∙ (ap (λ starts. filter test second ++ starts) (starts_alike units) ∙ sym (filter-append test second later_b)))

-- ---- the books along a step

-- each of these books is of this object and chip
abbrev AreOf : Fixed → List State → Type 0
AreOf fixed books = Each (λ (book : State). book.fixed ≡ fixed) books

path_of : (fixed : Fixed) (stages : List (List Prim)) (book : State) → book.fixed ≡ fixed → AreOf fixed (path_from stages book)
path_of fixed [] book is = tt
path_of fixed (stage ∷ later) book is = (is, path_of fixed later (after_stage stage book) is)

module _ (fixed : Fixed) (border : Border) (p : ℕ) (beyond : none_within border (owner_at fixed.object fixed.topology p) ≡ true) where
  book_modes : (x y : State) → x.fixed ≡ fixed → Agree border x y → mode_at p x.now.core.procs ≡ mode_at p y.now.core.procs
  book_modes x y is agree =
      let P : Fixed → Type 0 = λ f. Same f border x.now y.now in
      mode_same fixed border x.now y.now (subst P is agree.now) p (owner_at fixed.object fixed.topology p) refl beyond

  downs_alike : (xs ys : List State) → AreOf fixed xs → Both (Agree border) xs ys → was_down xs p ≡ was_down ys p
  downs_alike [] [] are each = refl
  downs_alike [] (y ∷ ys) are each = absurd each
  downs_alike (x ∷ xs) [] are each = absurd each
  downs_alike (x ∷ xs) (y ∷ ys) are each =
      ap (λ mode. not (is_awake mode) || was_down xs p) (book_modes x y are.0 each.0)
      ∙ ap (λ t. not (is_awake (mode_at p y.now.core.procs)) || t) (downs_alike xs ys are.1 each.1)

  again : (n later : Bool) → (n || later) ≡ (n || false) → (n || (n || later)) ≡ (n || false)
  again true later e = refl
  again false later e = e

  -- if each book agrees with one that stays, a processor was down exactly if it is down there
  still_down : (still : State) (books : List State) → still.fixed ≡ fixed → Each (Agree border still) books
      → (not (is_awake (mode_at p still.now.core.procs)) || was_down books p) ≡ (not (is_awake (mode_at p still.now.core.procs)) || false)
  still_down still [] is each = refl
  still_down still (x ∷ xs) is each =
      let down : Bool = not (is_awake (mode_at p still.now.core.procs)) in
      ap (λ mode. down || (not (is_awake mode) || was_down xs p)) (sym (book_modes still x is each.0))
      ∙ again down (was_down xs p) (still_down still xs is each.1)

-- ---- events

module _ (laws : BelowLaws) (fixed : Fixed) (border : Border) (closed : IsClosed fixed border) where
  abbrev Starts : Event → Now → List Start
  Starts event now = starts_beyond fixed.object fixed.topology border (outputs event (book_of fixed now)).starts

  -- a hidden event starts what a step in which nothing happens does
  hidden_starts : (event : Event) (a b : Now) → IsSound (book_of fixed a) → IsSound (book_of fixed b) → is_hidden border event (book_of fixed a) ≡ true
      → Same fixed border a b → Starts event a ≡ Starts Pass b
  hidden_starts event a b sound_a sound is same =
      let first : State = book_of fixed a in
      let second : State = book_of fixed b in
      let agree : Agree border second first = agree_sym border first second (record { fixed = refl; now = same }) in
      let hidden = event_hidden laws.kinds border event first (record { closed = closed; force = same.first }) is in
      let books : Each (Agree border second) (path event first) = path_hidden laws border (stages event first) second first sound.knows hidden agree in
      let after : Agree border second (effect event first) = effect_hidden laws fixed border closed event b a sound_a sound.knows is agree.now in
      let itself : Agree border second second = agree_trans border second first second agree (agree_sym border second first agree) in
      let rest : Agree border second (effect Pass second) = effect_hidden laws fixed border closed Pass b b sound sound.knows refl itself.now in
      let end : Agree border (effect event first) (effect Pass second) =
      agree_trans border (effect event first) second (effect Pass second) (agree_sym border second (effect event first) after) rest
      in
      starts_alike fixed border (effect event first).now (effect Pass second).now end.now
      (was_down (first ∷ path event first)) (was_down (second ∷ []))
      (λ p beyond. ap (λ mode. not (is_awake mode) || was_down (path event first) p) (sym (book_modes fixed border p beyond second first refl agree))
      ∙ still_down fixed border p beyond second (path event first) refl books)
      (units_of fixed.topology)

  alike_starts : (event : Event) (a b : Now) → IsSound (book_of fixed a) → IsSound (book_of fixed b) → is_hidden border event (book_of fixed a) ≡ false
      → Same fixed border a b → Starts event a ≡ Starts event b
  alike_starts event a b sound_a sound_b is same =
      let first : State = book_of fixed a in
      let second : State = book_of fixed b in
      let agree : Agree border first second = record { fixed = refl; now = same } in
      let alike = event_alike laws fixed border event a b sound_a.armed closed.some is same in
      let books : Both (Agree border) (path event first) (path event second) = path_alike laws border (stages event first) (stages event second) first second (some_beyond border event first closed.some is) alike agree in
      let end : Agree border (effect event first) (effect event second) = effect_alike laws fixed border closed event a b sound_a sound_b is same in
      starts_alike fixed border (effect event first).now (effect event second).now end.now
      (was_down (first ∷ path event first)) (was_down (second ∷ path event second))
      (λ p beyond. downs_alike fixed border p beyond (first ∷ path event first) (second ∷ path event second)
      (refl, path_of fixed (stages event first) first refl) (agree, books))
      (units_of fixed.topology)

  event_starts : (event : Event) (a b : Now) (hidden : Bool) → is_hidden border event (book_of fixed a) ≡ hidden
      → IsSound (book_of fixed a) → IsSound (book_of fixed b) → Same fixed border a b → Starts event a ≡ Starts event b
  event_starts event a b false is sound_a sound_b same = alike_starts event a b sound_a sound_b is same
  event_starts event a b true is sound_a sound_b same =
      let back : Same fixed border b a = same_sym fixed border a b same in
      hidden_starts event a b sound_a sound_b is same
      ∙ (sym (hidden_starts Pass a b sound_a sound_b refl same)
      ∙ sym (hidden_starts event b a sound_b sound_a (sym (hidden_fixed fixed border event a b) ∙ is) back))

-- the same processors beyond start in both
pub starts_agree : BelowLaws → (border : Border) (event : Event) (a b : State) → IsClosed a.fixed border
    → IsSound a → IsSound b → Agree border a b
    → starts_beyond a.fixed.object a.fixed.topology border (outputs event a).starts
    ≡ starts_beyond a.fixed.object a.fixed.topology border (outputs event b).starts
starts_agree laws border event a b closed sound_a sound_b agree =
    let P : Fixed → Type 0 = λ fixed. IsSound (book_of fixed b.now)
    → starts_beyond a.fixed.object a.fixed.topology border (outputs event a).starts
    ≡ starts_beyond a.fixed.object a.fixed.topology border (outputs event (book_of fixed b.now)).starts
    in
    subst P agree.fixed
    (λ sound. event_starts laws a.fixed border closed event a.now b.now (is_hidden border event a) refl sound_a sound agree.now) sound_b

-- a hidden event starts none that a step in which nothing happens doesn't
pub starts_hidden : BelowLaws → (border : Border) (event : Event) (a b : State) → IsClosed a.fixed border
    → IsSound a → IsSound b → is_hidden border event a ≡ true → Agree border a b
    → starts_beyond a.fixed.object a.fixed.topology border (outputs event a).starts
    ≡ starts_beyond a.fixed.object a.fixed.topology border (outputs Pass b).starts
starts_hidden laws border event a b closed sound_a sound is agree =
    let P : Fixed → Type 0 = λ fixed. IsSound (book_of fixed b.now)
    → starts_beyond a.fixed.object a.fixed.topology border (outputs event a).starts
    ≡ starts_beyond a.fixed.object a.fixed.topology border (outputs Pass (book_of fixed b.now)).starts
    in
    subst P agree.fixed (λ known. hidden_starts laws a.fixed border closed event a.now b.now sound_a known is agree.now) sound
