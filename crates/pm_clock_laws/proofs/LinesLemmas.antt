-- The clocks of a run and of the run without the messages of a master, line by line.
use Rattle.std.proofs.Common.{List, [], ◌∷◌, refl, sym, subst}
use Rattle.pm_base.specs.declared.events.Event.{Event}
use Rattle.pm_base.specs.declared.names.NodeId.{NodeId}
use Rattle.pm_topology.specs.WellFormed.{IsWellFormed, ObeysMasterRules}
use Rattle.pm_state.specs.State.{Fixed, State}
use Rattle.pm_run.specs.Run.{IsBookOf, Setup, Stand, book_after, cores_of, line_of, lines_of, loaded, split, fixed_of}
use Rattle.pm_laws.specs.Agree.{Agree}
use Rattle.pm_laws.specs.Beside.{Beside}
use Rattle.pm_laws.specs.Border.{AreObjects, Border}
use Rattle.pm_laws.specs.Both.{Both}
use Rattle.pm_laws.specs.Quiet.{quiet, quiet_event}
use Rattle.pm_laws.specs.ReachBorder.{border_of}
use Rattle.pm_laws.specs.Worlds.{AreQuietBoxes, AreWorldsBeside}
use Rattle.pm_clock_tree.specs.Laws.{RunByTheirParents}
use Rattle.pm_clock_tree.specs.Tree.{Tree}
use Rattle.pm_clocks.specs.Clocked.{masters_of, tree_of, view_of}
use Rattle.pm_clock_laws.specs.Reach.{IsClockBeyond}
use Rattle.pm_clock_laws.specs.Same.{IsTreeOver, SameClocks, tree_along}
use Rattle.pm_clock_laws.specs.Worlds.{AreClocksAlike, IsClockAlike, turns}
use Rattle.pm_clock_laws.proofs.BesideLemmas.{Below, cores_alike, have_same}
use Rattle.pm_clock_laws.proofs.RunsLemmas.{HaveSame, changes_alike, ends_alike, runs_alike}

-- the laws of runs from the crate below
pub record RunLaws : Type 0 where
  pub events : (c : Setup) (m : NodeId) (event : Event) (a b : Stand) → ObeysMasterRules c.topology
      → AreQuietBoxes c m a.boxes b.boxes
      → Beside c.object c.topology m (split c event a).events (split c (quiet_event m event) b).events
  pub boxes : (c : Setup) (m : NodeId) (event : Event) (a b : Stand) → ObeysMasterRules c.topology
      → AreQuietBoxes c m a.boxes b.boxes
      → AreQuietBoxes c m (split c event a).boxes (split c (quiet_event m event) b).boxes
  pub after : (c : Setup) (m : NodeId) (es fs : List Event) (a b : State) → AreObjects (fixed_of c) → IsWellFormed c.topology
      → Beside c.object c.topology m es fs → IsBookOf c a → IsBookOf c b → Agree (border_of (fixed_of c) m) a b
      → Agree (border_of (fixed_of c) m) (book_after es a) (book_after fs b)
  pub worlds : (c : Setup) (m : NodeId) (events : List Event) → AreObjects (fixed_of c) → IsWellFormed c.topology
      → AreWorldsBeside c m events
  pub load : (c : Setup) → IsWellFormed c.topology → IsBookOf c (loaded c).book
  pub line : (c : Setup) (event : Event) (stand : Stand) → IsWellFormed c.topology
      → IsBookOf c stand.book → IsBookOf c (line_of c event stand).after.book

module _ (laws : Below) (lines : RunLaws) (parents : RunByTheirParents) (c : Setup) (m : NodeId) (object : AreObjects (fixed_of c)) (chip : IsWellFormed c.topology) where
  abbrev border : Border
  border = border_of (fixed_of c) m

  -- by the object and the chip of the setup
  cores_at : (es fs : List Event) (a b : State) (s t : Tree) → IsBookOf c a → IsBookOf c b → Beside c.object c.topology m es fs → Agree border a b
      → SameClocks (fixed_of c) border a b s t
      → SameClocks (fixed_of c) border (book_after es a) (book_after fs b) (tree_along (cores_of es a) s) (tree_along (cores_of fs b) t)
  cores_at es fs a b s t first second beside agree same =
      let P : Fixed → Type 0 = λ fixed. AreObjects fixed → IsWellFormed fixed.topology → Beside fixed.object fixed.topology m es fs
      → Agree (border_of fixed m) a b → SameClocks fixed (border_of fixed m) a b s t
      → SameClocks fixed (border_of fixed m) (book_after es a) (book_after fs b) (tree_along (cores_of es a) s) (tree_along (cores_of fs b) t)
      in
      subst P first.fixed (λ is formed apart alike trees. cores_alike laws m es fs a b s t is formed first.sound second.sound apart alike trees)
      object chip beside agree same

  same_at : (a b : State) (s t : Tree) → IsBookOf c a → Agree border a b → SameClocks (fixed_of c) border a b s t
      → HaveSame (IsClockBeyond (fixed_of c) border) s t
  same_at a b s t first agree same =
      let P : Fixed → Type 0 = λ fixed. AreObjects fixed → IsWellFormed fixed.topology
      → Agree (border_of fixed m) a b → SameClocks fixed (border_of fixed m) a b s t
      → HaveSame (IsClockBeyond fixed (border_of fixed m)) s t
      in
      subst P first.fixed (λ is formed alike trees. have_same laws m a b s t is formed alike trees) object chip agree same

  -- ---- a line

  -- the clocks before the line, and after it
  turn_alike : (a b next other : State) (s t after_s after_t : Tree) → IsBookOf c a → IsBookOf c next → Agree border a b → Agree border next other
      → SameClocks (fixed_of c) border a b s t → SameClocks (fixed_of c) border next other after_s after_t
      → IsClockAlike (fixed_of c) border (record { before = s; after = after_s }) (record { before = t; after = after_t })
  turn_alike a b next other s t after_s after_t first later agree after_agree same after_same =
      let before_are = same_at a b s t first agree same in
      let after_are = same_at next other after_s after_t later after_agree after_same in
      record {
        runs = λ number beyond. runs_alike parents (IsClockBeyond (fixed_of c) border) after_s after_t after_same.first.places after_same.second.places after_are number beyond;
        turns = λ number beyond. changes_alike number s t after_s after_t
            (runs_alike parents (IsClockBeyond (fixed_of c) border) s t same.first.places same.second.places before_are number beyond)
            (runs_alike parents (IsClockBeyond (fixed_of c) border) after_s after_t after_same.first.places after_same.second.places after_are number beyond);
        ends = λ number beyond. ends_alike parents (IsClockBeyond (fixed_of c) border) after_s after_t after_same.first.places after_same.second.places after_are number beyond;
      }

  lines_alike : (events : List Event) (x y : Stand) (s t : Tree) → IsBookOf c x.book → IsBookOf c y.book → Agree border x.book y.book
      → AreQuietBoxes c m x.boxes y.boxes → SameClocks (fixed_of c) border x.book y.book s t
      → Both (IsClockAlike (fixed_of c) border) (turns s (lines_of c events x)) (turns t (lines_of c (quiet m events) y))
  lines_alike [] x y s t first second agree boxes same = tt
  lines_alike (event ∷ events) x y s t first second agree boxes same =
      let es : List Event = (split c event x).events in
      let fs : List Event = (split c (quiet_event m event) y).events in
      let beside : Beside c.object c.topology m es fs = lines.events c m event x y chip.masters boxes in
      let after_agree : Agree border (book_after es x.book) (book_after fs y.book) = lines.after c m es fs x.book y.book object chip beside first second agree in
      let after_same = cores_at es fs x.book y.book s t first second beside agree same in
      let later : IsBookOf c (book_after es x.book) = lines.line c event x chip first in (
        turn_alike x.book y.book (book_after es x.book) (book_after fs y.book) s t (tree_along (cores_of es x.book) s) (tree_along (cores_of fs y.book) t)
            first later agree after_agree same after_same,
        lines_alike events (line_of c event x).after (line_of c (quiet_event m event) y).after (tree_along (cores_of es x.book) s) (tree_along (cores_of fs y.book) t)
            later (lines.line c (quiet_event m event) y chip second) after_agree (lines.boxes c m event x y chip.masters boxes) after_same,
      )

  -- ---- a run

  first_over : IsTreeOver (loaded c).book (tree_of (loaded c).book)
  first_over = record {
    stands = laws.stand.loaded (masters_of (loaded c).book) (view_of (loaded c).book);
    places = record { settings = refl; roots = refl };
  }

  pub load_alike : SameClocks (fixed_of c) border (loaded c).book (loaded c).book (tree_of (loaded c).book) (tree_of (loaded c).book)
  load_alike = record { first = first_over; second = first_over; columns = λ k def here beyond. refl }

  pub clocks_alike : (events : List Event) → AreClocksAlike c m events
  clocks_alike events =
      let worlds : AreWorldsBeside c m events = lines.worlds c m events object chip in
      let book : State = (loaded c).book in
      let tree : Tree = tree_of (loaded c).book in
      let still = laws.stand.loaded (masters_of (loaded c).book) (view_of (loaded c).book) in
      let P : Tree → Type 0 = λ after. Both (IsClockAlike (fixed_of c) border)
      (record { before = tree; after = after } ∷ turns after (lines_of c events (loaded c)))
      (record { before = tree; after = after } ∷ turns after (lines_of c (quiet m events) (loaded c)))
      in
      subst P (sym still) (
        turn_alike book book book book tree tree tree tree (lines.load c chip) (lines.load c chip) worlds.load worlds.load load_alike load_alike,
        lines_alike events (loaded c) (loaded c) tree tree (lines.load c chip) (lines.load c chip) worlds.load worlds.boxes load_alike,
      )
