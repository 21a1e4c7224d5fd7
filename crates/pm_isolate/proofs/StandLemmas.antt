-- The core events of a line are carried out one after another.
use Rattle.std.proofs.Common.{◌≡◌, true, List, [], ◌∷◌, refl, sym, ◌∙◌, ap, subst}
use Rattle.pm_base.specs.declared.events.Event.{Event}
use Rattle.pm_base.specs.declared.events.Event.TheVariants.{Pass, Post, Serve, Smc}
use Rattle.pm_object.specs.declared.object.Object.{Object}
use Rattle.pm_topology.specs.declared.topology.Topology.{Topology}
use Rattle.pm_state.specs.State.{Fixed, State}
use Rattle.pm_step.proofs.Refused.{pass_stays}
use Rattle.pm_core.specs.Step.{effect}
use Rattle.pm_split.specs.declared.cores.CoreEvents.{CoreEvents}
use Rattle.pm_split.specs.Boxes.{Boxes}
use Rattle.pm_split.specs.Left.{boxes_left, events_left}
use Rattle.pm_run.specs.Run.{Stand, book_after, setup_of, split}
use Rattle.pm_isolate.specs.Within.{is_own, line_after}

-- the book and the boxes are the whole state of a run
pub stand_is : (a b : Stand) → a.book ≡ b.book → a.boxes ≡ b.boxes → a ≡ b
stand_is a b book boxes =
    ap (λ (s : State). record { book = s; boxes = a.boxes }) book ∙ ap (λ (bs : Boxes). record { book = b.book; boxes = bs }) boxes

-- a line of its own event has no other, and leaves the boxes
pub own_split : (event : Event) (stand : Stand) → is_own event ≡ true → ((split (setup_of stand.book) event stand).events ≡ event ∷ []) × ((split (setup_of stand.book) event stand).boxes ≡ stand.boxes)
own_split (Post master message) stand own = cc
own_split Serve stand own = cc
own_split (Smc proc function args) stand own = cc
own_split event stand own = (refl, refl)

-- part of the way: the events that are left lead to the end of the line
pub record IsUnderWay (event : Event) (left : CoreEvents) (start now : Stand) : Type 0 where
  pub fixed : now.book.fixed ≡ start.book.fixed
  pub book : book_after (events_left start.book.fixed.object start.book.fixed.topology now.boxes left) now.book ≡ (line_after event start).book
  pub boxes : boxes_left now.boxes left ≡ (line_after event start).boxes

-- the core events that are left after one was taken off, from the state of the run after it
pub next_left : (core : Event) (left rest : CoreEvents) (start now taken then : Stand) → now.book.fixed ≡ start.book.fixed
    → events_left now.book.fixed.object now.book.fixed.topology now.boxes left ≡ core ∷ events_left now.book.fixed.object now.book.fixed.topology taken.boxes rest
    → then.boxes ≡ taken.boxes
    → events_left start.book.fixed.object start.book.fixed.topology now.boxes left ≡ core ∷ events_left start.book.fixed.object start.book.fixed.topology then.boxes rest
next_left core left rest start now taken then fixed events same =
    let P : Fixed → Type 0 = λ fixed. events_left fixed.object fixed.topology now.boxes left ≡ core ∷ events_left fixed.object fixed.topology taken.boxes rest in
    subst P fixed events ∙ ap (λ (b : Boxes). core ∷ events_left start.book.fixed.object start.book.fixed.topology b rest) (sym same)

pub one_more : (event core : Event) (left rest : CoreEvents) (start now taken then : Stand) → IsUnderWay event left start now
    → taken.book ≡ now.book
    → events_left now.book.fixed.object now.book.fixed.topology now.boxes left ≡ core ∷ events_left now.book.fixed.object now.book.fixed.topology taken.boxes rest
    → boxes_left taken.boxes rest ≡ boxes_left now.boxes left
    → then.book ≡ effect core taken.book → then.boxes ≡ taken.boxes
    → IsUnderWay event rest start then
one_more event core left rest start now taken then way book events boxes after same =
    let O : Object = start.book.fixed.object in
    let T : Topology = start.book.fixed.topology in
    let next : events_left O T now.boxes left ≡ core ∷ events_left O T then.boxes rest = next_left core left rest start now taken then way.fixed events same in
    let is : then.book ≡ effect core now.book = after ∙ ap (effect core) book in
    record {
      fixed = ap (λ (b : State). b.fixed) is ∙ way.fixed;
      book = ap (book_after (events_left O T then.boxes rest)) is ∙ (sym (ap (λ (events : List Event). book_after events now.book) next) ∙ way.book);
      boxes = ap (λ (b : Boxes). boxes_left b rest) same ∙ (boxes ∙ way.boxes);
    }

-- none is left
pub none_ends : (left : CoreEvents) (start now : Stand) → now.book.fixed ≡ start.book.fixed
    → events_left now.book.fixed.object now.book.fixed.topology now.boxes left ≡ [] → events_left start.book.fixed.object start.book.fixed.topology now.boxes left ≡ []
none_ends left start now fixed none = let P : Fixed → Type 0 = λ fixed. events_left fixed.object fixed.topology now.boxes left ≡ [] in subst P fixed none

pub line_ends : (event : Event) (left : CoreEvents) (start now then : Stand) → IsUnderWay event left start now
    → then.book ≡ now.book → events_left now.book.fixed.object now.book.fixed.topology now.boxes left ≡ [] → then.boxes ≡ boxes_left now.boxes left
    → then ≡ line_after event start
line_ends event left start now then way book none boxes =
    let all : events_left start.book.fixed.object start.book.fixed.topology now.boxes left ≡ [] = none_ends left start now way.fixed none in
    stand_is then (line_after event start) (book ∙ (sym (ap (λ (events : List Event). book_after events now.book) all) ∙ way.book)) (boxes ∙ way.boxes)

-- the object and the chip of a run stay
same_fixed : (events : List Event) (book : State) → (book_after events book).fixed ≡ book.fixed
same_fixed [] book = refl
same_fixed (event ∷ events) book = same_fixed events (effect event book)

pub fixed_on : (event : Event) (stand : Stand) → (line_after event stand).book.fixed ≡ stand.book.fixed
fixed_on event stand = same_fixed (split (setup_of stand.book) event stand).events stand.book

-- the state of a run is unchanged by a Pass
pub pass_stands : (stand : Stand) → line_after Pass stand ≡ stand
pass_stands stand = stand_is (line_after Pass stand) stand (pass_stays stand.book) refl
