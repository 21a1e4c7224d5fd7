-- Core events that are beside one another have core steps that are: from books that agree beyond the reach of a master on. So it
-- is line by line of a run and of the run without the messages of the master.
use Rattle.std.proofs.Common.{List, [], ◌∷◌, refl, subst, sym}
use Rattle.pm_laws.proofs.Common.{Agree, AreObjects, Border, Event, Fixed, IsSound, IsWellFormed, NodeId, Pass, State, border_of, effect}
use Rattle.pm_topology.specs.WellFormed.{ObeysMasterRules}
use Rattle.pm_split.specs.Boxes.{Boxes}
use Rattle.pm_split.specs.Split.{split_of}
use Rattle.pm_run.specs.Run.{IsBookOf, Setup, Stand, book_after, core_of, cores_of, fixed_of, line_of, lines_of, split}
use Rattle.pm_laws.specs.Beside.{AreBeside, Beside, IsOwn, none, both, left, rest, no_core, both_cores, left_core, rest_core}
use Rattle.pm_laws.specs.Quiet.{quiet, quiet_event}
use Rattle.pm_laws.specs.Told.{SameTold, TellsNothing}
use Rattle.pm_laws.specs.Worlds.{AreLinesBeside, AreQuietBoxes, IsLineBeside}
use Rattle.pm_laws.proofs.BoxesLaw.{IsSplitBeside, split_beside}

-- the border of the master's reach
abbrev around : Fixed → NodeId → Border
around fixed m = border_of fixed m

-- what is known of one core step, and of the books of a run
pub record CoreLaws : Type 0 where
  pub both : (m : NodeId) (event : Event) (a b : State) → AreObjects a.fixed → IsWellFormed a.fixed.topology → IsSound a → IsSound b
      → Agree (around a.fixed m) a b
      → Agree (around a.fixed m) (effect event a) (effect event b)
      × SameTold a.fixed.object a.fixed.topology (around a.fixed m) (core_of event a) (core_of event b)
  pub left : (m : NodeId) (event : Event) (a b : State) → IsOwn a.fixed.object a.fixed.topology m event → AreObjects a.fixed → IsWellFormed a.fixed.topology
      → IsSound a → IsSound b → Agree (around a.fixed m) a b
      → Agree (around a.fixed m) (effect event a) b
      × TellsNothing a.fixed.object a.fixed.topology (around a.fixed m) (core_of event a)
  pub rest : (m : NodeId) (a b : State) → AreObjects a.fixed → IsWellFormed a.fixed.topology → IsSound a → IsSound b
      → Agree (around a.fixed m) a b
      → Agree (around a.fixed m) a (effect Pass b)
      × TellsNothing a.fixed.object a.fixed.topology (around a.fixed m) (core_of Pass b)
  pub keeps : (c : Setup) (event : Event) (book : State) → IsWellFormed c.topology → IsBookOf c book → IsBookOf c (effect event book)
  pub line : (c : Setup) (event : Event) (stand : Stand) → IsWellFormed c.topology → IsBookOf c stand.book → IsBookOf c (line_of c event stand).after.book

-- the core events of a line, and of the same line without a message of the master, by the boxes of the two worlds
pub splits_beside : (c : Setup) (m : NodeId) (event : Event) (a b : Stand) → ObeysMasterRules c.topology → AreQuietBoxes c m a.boxes b.boxes
    → IsSplitBeside c.object c.topology m (split c event a) (split c (quiet_event m event) b)
splits_beside c m event a b rules quiet_boxes =
    let P : Boxes → Type 0 = λ boxes. IsSplitBeside c.object c.topology m (split_of c.object c.topology event a.boxes) (split_of c.object c.topology (quiet_event m event) boxes) in
    subst P (sym quiet_boxes) (split_beside c.object c.topology m a.boxes rules event)

module _ (laws : CoreLaws) (c : Setup) (m : NodeId) (object : AreObjects (fixed_of c)) (chip : IsWellFormed c.topology) where
  abbrev border : Border
  border = border_of (fixed_of c) m

  -- ---- one core step, by the object and the chip of the setup

  both_at : (event : Event) (a b : State) → IsBookOf c a → IsBookOf c b → Agree border a b
      → Agree border (effect event a) (effect event b) × SameTold c.object c.topology border (core_of event a) (core_of event b)
  both_at event a b first second agree =
      let P : Fixed → Type 0 = λ fixed. AreObjects fixed → IsWellFormed fixed.topology → Agree (around fixed m) a b
      → Agree (around fixed m) (effect event a) (effect event b)
      × SameTold fixed.object fixed.topology (around fixed m) (core_of event a) (core_of event b)
      in
      subst P first.fixed (λ is formed same. laws.both m event a b is formed first.sound second.sound same) object chip agree

  left_at : (event : Event) (a b : State) → IsOwn c.object c.topology m event → IsBookOf c a → IsBookOf c b → Agree border a b
      → Agree border (effect event a) b × TellsNothing c.object c.topology border (core_of event a)
  left_at event a b own first second agree =
      let P : Fixed → Type 0 = λ fixed. IsOwn fixed.object fixed.topology m event → AreObjects fixed → IsWellFormed fixed.topology → Agree (around fixed m) a b
      → Agree (around fixed m) (effect event a) b × TellsNothing fixed.object fixed.topology (around fixed m) (core_of event a)
      in
      subst P first.fixed (λ mine is formed same. laws.left m event a b mine is formed first.sound second.sound same) own object chip agree

  rest_at : (a b : State) → IsBookOf c a → IsBookOf c b → Agree border a b
      → Agree border a (effect Pass b) × TellsNothing c.object c.topology border (core_of Pass b)
  rest_at a b first second agree =
      let P : Fixed → Type 0 = λ fixed. AreObjects fixed → IsWellFormed fixed.topology → Agree (around fixed m) a b
      → Agree (around fixed m) a (effect Pass b) × TellsNothing fixed.object fixed.topology (around fixed m) (core_of Pass b)
      in
      subst P first.fixed (λ is formed same. laws.rest m a b is formed first.sound second.sound same) object chip agree

  keeps : (event : Event) (book : State) → IsBookOf c book → IsBookOf c (effect event book)
  keeps event book is = laws.keeps c event book chip is

  -- ---- core steps

  pub cores_beside : (es fs : List Event) (a b : State) → Beside c.object c.topology m es fs → IsBookOf c a → IsBookOf c b → Agree border a b
      → AreBeside c m a b (cores_of es a) (cores_of fs b)
  cores_beside _ _ a b none first second agree = no_core a b
  cores_beside _ _ a b (both event es fs later) first second agree =
      let now = both_at event a b first second agree in
      both_cores a b (core_of event a) (core_of event b) (cores_of es (effect event a)) (cores_of fs (effect event b)) refl refl refl now.0 now.1
      (cores_beside es fs (effect event a) (effect event b) later (keeps event a first) (keeps event b second) now.0)
  cores_beside _ _ a b (left event es fs own later) first second agree =
      let now = left_at event a b own first second agree in
      left_core a b (core_of event a) (cores_of es (effect event a)) (cores_of fs b) own refl now.0 now.1
      (cores_beside es fs (effect event a) b later (keeps event a first) second now.0)
  cores_beside _ _ a b (rest es fs later) first second agree =
      let now = rest_at a b first second agree in
      rest_core a b (core_of Pass b) (cores_of es a) (cores_of fs (effect Pass b)) refl refl now.0 now.1
      (cores_beside es fs a (effect Pass b) later first (keeps Pass b second) now.0)

  pub agree_after : (es fs : List Event) (a b : State) → Beside c.object c.topology m es fs → IsBookOf c a → IsBookOf c b → Agree border a b
      → Agree border (book_after es a) (book_after fs b)
  agree_after _ _ a b none first second agree = agree
  agree_after _ _ a b (both event es fs later) first second agree =
      agree_after es fs (effect event a) (effect event b) later (keeps event a first) (keeps event b second) (both_at event a b first second agree).0
  agree_after _ _ a b (left event es fs own later) first second agree =
      agree_after es fs (effect event a) b later (keeps event a first) second (left_at event a b own first second agree).0
  agree_after _ _ a b (rest es fs later) first second agree =
      agree_after es fs a (effect Pass b) later first (keeps Pass b second) (rest_at a b first second agree).0

  -- ---- lines

  pub line_beside : (event : Event) (a b : Stand) → ObeysMasterRules c.topology → IsBookOf c a.book → IsBookOf c b.book → Agree border a.book b.book
      → AreQuietBoxes c m a.boxes b.boxes
      → IsLineBeside c m a.book b.book (line_of c event a) (line_of c (quiet_event m event) b)
  line_beside event a b rules first second agree boxes =
      let es : List Event = (split c event a).events in
      let fs : List Event = (split c (quiet_event m event) b).events in
      let beside : IsSplitBeside c.object c.topology m (split c event a) (split c (quiet_event m event) b) = splits_beside c m event a b rules boxes in
      record {
        cores = cores_beside es fs a.book b.book beside.events first second agree;
        agree = agree_after es fs a.book b.book beside.events first second agree;
        boxes = beside.boxes;
        busy = beside.busy;
      }

  pub lines_beside : (events : List Event) (a b : Stand) → ObeysMasterRules c.topology → IsBookOf c a.book → IsBookOf c b.book → Agree border a.book b.book
      → AreQuietBoxes c m a.boxes b.boxes
      → AreLinesBeside c m a.book b.book (lines_of c events a) (lines_of c (quiet m events) b)
  lines_beside [] a b rules first second agree boxes = tt
  lines_beside (event ∷ events) a b rules first second agree boxes =
      let now : IsLineBeside c m a.book b.book (line_of c event a) (line_of c (quiet_event m event) b) = line_beside event a b rules first second agree boxes in (
        now,
        lines_beside events (line_of c event a).after (line_of c (quiet_event m event) b).after rules
            (laws.line c event a chip first) (laws.line c (quiet_event m event) b chip second) now.agree now.boxes,
      )
