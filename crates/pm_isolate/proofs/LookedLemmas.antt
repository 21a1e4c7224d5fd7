-- After a line it is enough to look at the units that moved, and at the processors if a mode may have changed.
use Rattle.std.proofs.Common.{◌≡◌, ℕ, ◌+◌, ◌==◌, ◌||◌, ◌++◌, Bool, true, false, not, cond, List, [], ◌∷◌, Option, Some, None, refl, sym, ◌∙◌, ap, subst, arith}
use Rattle.std.specs.Prelude.{is_some, slice_get}
use Rattle.std.specs.Option.{option_map}
use Rattle.std.proofs.lemmas.List.Sums.{fold-append}
use Rattle.std.proofs.lemmas.Option.{slice_get-map}
use Rattle.pm_base.specs.declared.events.Event.{Event}
use Rattle.pm_base.specs.declared.names.NodeId.{NodeId}
use Rattle.pm_base.specs.declared.names.Unit.{Unit}
use Rattle.pm_base.specs.declared.names.Unit.TheVariants.{Node, Line}
use Rattle.pm_base.proofs.Booleans.{equal, none_of}
use Rattle.pm_object.specs.declared.attached.Attached.{Attached}
use Rattle.pm_object.specs.declared.object.Object.{Object}
use Rattle.pm_topology.specs.declared.places.Kind.{Kind}
use Rattle.pm_topology.specs.declared.places.Kind.TheVariants.{Proc, Slave, Power, Unknown}
use Rattle.pm_topology.specs.declared.topology.Topology.{Topology}
use Rattle.pm_topology.specs.Places.{kind_of, proc_of}
use Rattle.pm_procs.specs.Modes.{mode_number}
use Rattle.pm_procs.specs.Procs.{mode_at}
use Rattle.pm_topology.specs.UnitMap.{TablePlaceLaws, all_at, mapped, remade, units_in}
use Rattle.pm_topology.specs.Units.{UnitLaws, rises, units_of}
use Rattle.pm_state.specs.State.{CoreHalf, Fixed, State}
use Rattle.pm_state.specs.Units.{units}
use Rattle.pm_state.specs.Values.{point_at, shown, value, value_at}
use Rattle.pm_core.specs.Step.{effect}
use Rattle.pm_run.specs.Run.{Stand, book_after, loaded, setup, setup_of, split}
use Rattle.pm_base.specs.Places.{has_place}
use Rattle.pm_isolate.specs.Marks.{Marks, is_proc, proc_places, renewed_along, renewed_at}
use Rattle.pm_isolate.specs.Moves.{Logged, cleared, is_logged, line_moves}
use Rattle.pm_laws.specs.Quiet.{quiet_event}
use Rattle.pm_isolate.specs.Sides.{AreMarked, Sides}
use Rattle.pm_isolate.specs.Within.{begun, compared, has_differed, line_after, looked, stepped}
use Rattle.pm_isolate.proofs.HistoryLemmas.{clash, not_false, one}
use Rattle.pm_isolate.proofs.MovesLemmas.{unmoved, unturned}
use Rattle.pm_isolate.proofs.PlacesLemmas.{neither_place, procs_there, renewed_all}
use Rattle.pm_isolate.proofs.TurnsLaw.{KeepsProcs}

-- ---- a unit shows what it showed where its value stays, and a processor where all processors do

point_kept : (kind : Kind) (fixed : Fixed) (old new : CoreHalf) → value_at kind fixed new ≡ value_at kind fixed old → (is_some (proc_of kind) ≡ true → new.procs ≡ old.procs) → point_at kind fixed new ≡ point_at kind fixed old
point_kept (Proc p) fixed old new same procs = ap (λ ps. mode_number (mode_at p ps)) (procs refl)
point_kept (Slave s) fixed old new same procs = same
point_kept (Power w) fixed old new same procs = same
point_kept Unknown fixed old new same procs = same

shown_kept : (u : Unit) (old new : State) → new.fixed ≡ old.fixed → value u new ≡ value u old → (is_proc old.fixed.topology u ≡ true → KeepsProcs old new) → shown u new ≡ shown u old
shown_kept (Node node) old new fixed same procs =
    ap (λ (f : Fixed). point_at (kind_of f.topology node) f new.now.core) fixed
    ∙ point_kept (kind_of old.fixed.topology node) old.fixed old.now.core new.now.core (sym (ap (λ (f : Fixed). value_at (kind_of f.topology node) f new.now.core) fixed) ∙ same) procs
shown_kept (Line line) old new fixed same procs = same

-- ---- compared once more

compared_twice : (a b : State) (u : Unit) (before : Bool) → has_differed a b u (has_differed a b u before) ≡ has_differed a b u before
compared_twice a b u true = refl
compared_twice a b u false = by (not (shown u a == shown u b))
  where
    by : (d : Bool) → (d || d) ≡ d
    by true = refl
    by false = refl

still_alike : (a b : State) (u : Unit) (before : Bool) → (before ≡ false → shown u a ≡ shown u b) → has_differed a b u before ≡ before
still_alike a b u true same = refl
still_alike a b u false same = ap not (equal (shown u a) (shown u b) (same refl))

compared_shows : (a b : State) (u : Unit) (before : Bool) → has_differed a b u before ≡ false → shown u a ≡ shown u b
compared_shows a b u true none = clash none
compared_shows a b u false none = one (shown u a) (shown u b) (not_false (shown u a == shown u b) none)

-- the marks that two books are compared by are right of them
marked_by : (a b : State) (marks : Marks) → b.fixed ≡ a.fixed → units_in (compared a b marks) ≡ units a → AreMarked a b (compared a b marks)
marked_by a b marks fixed all = record { fixed = fixed; units = all; shows = shows }
  where
    by : (k : ℕ) (mark : Unit × Bool) (o : Option (Unit × Bool)) → option_map (remade (has_differed a b)) o ≡ Some mark → mark.1 ≡ false → shown mark.0 a ≡ shown mark.0 b
    by k mark None at none = cc
    by k mark (Some e) at none =
        let same : (e.0, has_differed a b e.0 e.1) ≡ mark = cc in
        subst (λ (x : Unit × Bool). x.1 ≡ false → shown x.0 a ≡ shown x.0 b) same (compared_shows a b e.0 e.1) none

    shows : (k : ℕ) (mark : Unit × Bool) → slice_get (compared a b marks) k ≡ Some mark → mark.1 ≡ false → shown mark.0 a ≡ shown mark.0 b
    shows k mark at none = by k mark (slice_get marks k) (sym (slice_get-map (remade (has_differed a b)) marks k) ∙ at) none

-- at load no unit differs
units_all : (units : List Unit) → units_in (all_at false units) ≡ units
units_all [] = refl
units_all (u ∷ units) = ap (λ us. u ∷ us) (units_all units)

pub marked_first : (book : State) → AreMarked book book (all_at false (units book))
marked_first book = record { fixed = refl; units = units_all (units book); shows = λ k mark at none. refl }

-- ---- a line

module _ (laws : TablePlaceLaws Bool) (a b a' b' : State) (marks : Marks) (m : Logged) (procs : List ℕ) where
  -- the processors stay in both books if no change of a mode is logged
  abbrev KeepBoth : Type 0
  KeepBoth = m.modes ≡ false → KeepsProcs a a' × KeepsProcs b b'

  -- the processors are looked at if a mode may have changed
  abbrev turned : List ℕ
  turned = cond m.modes procs []

  -- the unit at a place that isn't looked at shows the same in both books, if it wasn't found to differ
  shows_still : procs ≡ proc_places a.fixed.topology 0 (units a) → AreMarked a b marks → a'.fixed ≡ a.fixed → b'.fixed ≡ b.fixed → KeepBoth
      → (k : ℕ) (e : Unit × Bool) → slice_get marks k ≡ Some e → value e.0 a' ≡ value e.0 a → value e.0 b' ≡ value e.0 b → has_place turned k ≡ false
      → e.1 ≡ false → shown e.0 a' ≡ shown e.0 b'
  shows_still at_procs marked fixed fixed' keep k e at first second none not_yet =
      let there : slice_get (units a) k ≡ Some e.0 =
      ap (λ (us : List Unit). slice_get us k) (sym marked.units) ∙ slice_get-map (λ (x : Unit × Bool). x.0) marks k ∙ ap (option_map (λ (x : Unit × Bool). x.0)) at
      in
      let both : is_proc a.fixed.topology e.0 ≡ true → KeepsProcs a a' × KeepsProcs b b' =
      λ is. by m.modes refl (ap (λ (ps : List ℕ). has_place ps k) at_procs ∙ subst (λ (j : ℕ). has_place (proc_places a.fixed.topology 0 (units a)) j ≡ true) plain (procs_there a.fixed.topology 0 (units a) k e.0 there is)) none
      in
      shown_kept e.0 a a' fixed first (λ is. (both is).0)
      ∙ marked.shows k e at not_yet
      ∙ sym (shown_kept e.0 b b' fixed' second (λ is. (both (sym (ap (λ (f : Fixed). is_proc f.topology e.0) marked.fixed) ∙ is)).1))
    where
      plain : 0 + k ≡ k
      plain = omega arith

      by : (modes : Bool) → m.modes ≡ modes → has_place procs k ≡ true → has_place (cond modes procs []) k ≡ false → KeepsProcs a a' × KeepsProcs b b'
      by true is there out = clash (sym there ∙ out)
      by false is there out = keep is

  looked_all : procs ≡ proc_places a.fixed.topology 0 (units a) → AreMarked a b marks → a'.fixed ≡ a.fixed → b'.fixed ≡ b.fixed → KeepBoth
      → ((k : ℕ) (e : Unit × Bool) → slice_get marks k ≡ Some e → is_logged m k ≡ false → (value e.0 a' ≡ value e.0 a) × (value e.0 b' ≡ value e.0 b))
      → looked a' b' m procs marks ≡ compared a' b' marks
  looked_all at_procs marked fixed fixed' keep kept = by m.all refl
    where
      stays : m.all ≡ false → (k : ℕ) (e : Unit × Bool) → slice_get marks k ≡ Some e → has_place (m.places.items ++ turned) k ≡ false → has_differed a' b' e.0 e.1 ≡ e.1
      stays some k e at none =
          let parts = neither_place m.places.items turned k none in
          let values = kept k e at (none_of m.all (has_place m.places.items k) some parts.0) in
          still_alike a' b' e.0 e.1 (shows_still at_procs marked fixed fixed' keep k e at values.0 values.1 parts.1)

      by : (all : Bool) → m.all ≡ all → cond all (compared a' b' marks) (renewed_along (has_differed a' b') turned (renewed_along (has_differed a' b') m.places.items marks)) ≡ compared a' b' marks
      by true is = refl
      by false is =
          sym (fold-append (renewed_at (has_differed a' b')) marks m.places.items turned)
          ∙ renewed_all laws (has_differed a' b') (compared_twice a' b') (m.places.items ++ turned) marks (stays is)

-- ---- a script line in each book

fixed_along : (events : List Event) (book : State) → (book_after events book).fixed ≡ book.fixed
fixed_along [] book = refl
fixed_along (event ∷ events) book = fixed_along events (effect event book)

units_same : (f : Unit → Bool → Bool) (marks : Marks) → units_in (mapped f marks) ≡ units_in marks
units_same f [] = refl
units_same f (mark ∷ marks) = ap (λ us. mark.0 ∷ us) (units_same f marks)

module _ (event other : Event) (a b : Stand) (marks : Marks) (marked : AreMarked a.book b.book marks) where
  fixed_loud : (line_after event a).book.fixed ≡ a.book.fixed
  fixed_loud = fixed_along (split (setup_of a.book) event a).events a.book

  fixed_quiet : (line_after other b).book.fixed ≡ b.book.fixed
  fixed_quiet = fixed_along (split (setup_of b.book) other b).events b.book

  pub line_looked : UnitLaws → TablePlaceLaws Bool → (m : Logged) (procs : List ℕ) → procs ≡ proc_places a.book.fixed.topology 0 (units a.book)
      → looked (line_after event a).book (line_after other b).book (line_moves marks other b (line_moves marks event a (cleared m))) procs marks ≡ compared (line_after event a).book (line_after other b).book marks
  line_looked laws places m procs at_procs =
      looked_all places a.book b.book (line_after event a).book (line_after other b).book marks (line_moves marks other b (line_moves marks event a (cleared m))) procs at_procs marked fixed_loud fixed_quiet keep kept
    where
      rising : rises (units_in marks) ≡ true
      rising = ap rises marked.units ∙ (laws.are a.book.fixed.topology).rising

      in_quiet : units_in marks ≡ units b.book
      in_quiet = marked.units ∙ ap (λ (f : Fixed). units_of f.topology) (sym marked.fixed)

      keep : (line_moves marks other b (line_moves marks event a (cleared m))).modes ≡ false → KeepsProcs a.book (line_after event a).book × KeepsProcs b.book (line_after other b).book
      keep none =
          let second = unturned marks (split (setup_of b.book) other b).events b.book (line_moves marks event a (cleared m)) none in
          let first = unturned marks (split (setup_of a.book) event a).events a.book (cleared m) second.0 in
          (first.1, second.1)

      kept : (k : ℕ) (e : Unit × Bool) → slice_get marks k ≡ Some e → is_logged (line_moves marks other b (line_moves marks event a (cleared m))) k ≡ false
          → (value e.0 (line_after event a).book ≡ value e.0 a.book) × (value e.0 (line_after other b).book ≡ value e.0 b.book)
      kept k e at none =
          let second = unmoved marks (split (setup_of b.book) other b).events b.book (line_moves marks event a (cleared m)) k e rising in_quiet at none in
          let first = unmoved marks (split (setup_of a.book) event a).events a.book (cleared m) k e rising marked.units at second.0 in
          (first.1, second.1)

  pub line_marked : AreMarked (line_after event a).book (line_after other b).book (compared (line_after event a).book (line_after other b).book marks)
  line_marked =
      marked_by (line_after event a).book (line_after other b).book marks (fixed_quiet ∙ marked.fixed ∙ sym fixed_loud)
      (units_same (has_differed (line_after event a).book (line_after other b).book) marks ∙ marked.units ∙ ap (λ (f : Fixed). units_of f.topology) (sym fixed_loud))

  -- the places of the processors are those that they were
  pub line_procs : (procs : List ℕ) → procs ≡ proc_places a.book.fixed.topology 0 (units a.book) → procs ≡ proc_places (line_after event a).book.fixed.topology 0 (units (line_after event a).book)
  line_procs procs at = at ∙ ap (λ (f : Fixed). proc_places f.topology 0 (units_of f.topology)) (sym fixed_loud)

-- ---- a step of both runs

abbrev sides : Stand → Stand → Marks → Sides
sides a b marks = record { loud = a; quiet = b; differs = marks }

module _ (laws : UnitLaws) (places : TablePlaceLaws Bool) (master : NodeId) (event other : Event) (a b a' b' : Stand) (marks marks' : Marks) (m m0 m1 m2 : Logged) (procs : List ℕ)
    (marked : AreMarked a.book b.book marks) (at_procs : procs ≡ proc_places a.book.fixed.topology 0 (units a.book)) (is_quiet : other ≡ quiet_event master event) (clears : m0 ≡ cleared m)
    (loud : a' ≡ line_after event a) (moves : m1 ≡ line_moves marks event a m0) (quiet : b' ≡ line_after other b) (more : m2 ≡ line_moves marks other b m1) (notes : marks' ≡ looked a'.book b'.book m2 procs marks) where
  marks_are : marks' ≡ compared (line_after event a).book (line_after other b).book marks
  marks_are =
      let logged : m2 ≡ line_moves marks other b (line_moves marks event a (cleared m)) =
      more ∙ ap (λ (x : Logged). line_moves marks other b x) (moves ∙ ap (λ (x : Logged). line_moves marks event a x) clears)
      in
      notes
      ∙ ap (λ (x : Stand). looked x.book b'.book m2 procs marks) loud
      ∙ ap (λ (x : Stand). looked (line_after event a).book x.book m2 procs marks) quiet
      ∙ ap (λ (x : Logged). looked (line_after event a).book (line_after other b).book x procs marks) logged
      ∙ line_looked event other a b marks marked laws places m procs at_procs

  pub step_is : sides a' b' marks' ≡ stepped master event (sides a b marks)
  step_is =
      ap (λ (x : Stand). sides x b' marks') loud
      ∙ ap (λ (x : Stand). sides (line_after event a) x marks') quiet
      ∙ ap (λ (x : Marks). sides (line_after event a) (line_after other b) x) marks_are
      ∙ ap (λ (e : Event). sides (line_after event a) (line_after e b) (compared (line_after event a).book (line_after e b).book marks)) is_quiet

  pub step_marked : AreMarked a'.book b'.book marks'
  step_marked =
      subst (λ (x : Stand). AreMarked x.book b'.book marks') (sym loud)
      (subst (λ (x : Stand). AreMarked (line_after event a).book x.book marks') (sym quiet)
      (subst (λ (x : Marks). AreMarked (line_after event a).book (line_after other b).book x) (sym marks_are) (line_marked event other a b marks marked)))

  pub step_procs : procs ≡ proc_places a'.book.fixed.topology 0 (units a'.book)
  step_procs = subst (λ (x : Stand). procs ≡ proc_places x.book.fixed.topology 0 (units x.book)) (sym loud) (line_procs event other a b marks marked procs at_procs)

-- ---- the load

-- both runs begin at load, over one object, the same attached ones and one chip
pub begins : (object : Object) (attached : List Attached) (t : Topology) (a b : Stand) (marks : Marks)
    → a ≡ loaded (setup object attached t) → b ≡ loaded (setup object attached t) → marks ≡ all_at false (units_of t) → sides a b marks ≡ begun (setup object attached t)
begins object attached t a b marks loud quiet first =
    let start : Stand = loaded (setup object attached t) in
    ap (λ (x : Stand). sides x b marks) loud ∙ ap (λ (x : Stand). sides start x marks) quiet ∙ ap (λ (x : Marks). sides start start x) first

pub load_marked : (object : Object) (attached : List Attached) (t : Topology) (a b : Stand) (marks : Marks)
    → a ≡ loaded (setup object attached t) → b ≡ loaded (setup object attached t) → marks ≡ all_at false (units_of t) → AreMarked a.book b.book marks
load_marked object attached t a b marks loud quiet first =
    let start : Stand = loaded (setup object attached t) in
    subst (λ (x : Stand). AreMarked x.book b.book marks) (sym loud)
    (subst (λ (x : Stand). AreMarked start.book x.book marks) (sym quiet)
    (subst (λ (x : Marks). AreMarked start.book start.book x) (sym first) (marked_first start.book)))

pub load_procs : (object : Object) (attached : List Attached) (t : Topology) (a : Stand) (procs : List ℕ)
    → a ≡ loaded (setup object attached t) → procs ≡ proc_places t 0 (units_of t) → procs ≡ proc_places a.book.fixed.topology 0 (units a.book)
load_procs object attached t a procs loud at = subst (λ (x : Stand). procs ≡ proc_places x.book.fixed.topology 0 (units x.book)) (sym loud) at
