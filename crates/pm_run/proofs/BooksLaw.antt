-- Each book of a run is sound and meets its requirements.
use Rattle.std.proofs.Common.{◌<◌, List, [], ◌∷◌, length, refl, sym, subst}
use Rattle.std.specs.List.{All, AllByRecursion as Each}
use Rattle.std.proofs.lemmas.List.Elements.{All-from_recursion, All-nil, All-cons, All-append}
use Rattle.pm_base.specs.declared.events.Event.{Event}
use Rattle.pm_object.specs.declared.attached.Attached.{Attached}
use Rattle.pm_object.specs.declared.object.Object.{Object}
use Rattle.pm_topology.specs.declared.topology.Topology.{Topology}
use Rattle.pm_topology.specs.WellFormed.{IsWellFormed}
use Rattle.pm_state.specs.Load.{load_of}
use Rattle.pm_state.specs.Sound.{IsSound, MeetsRequirements}
use Rattle.pm_state.specs.State.{State, Fixed}
use Rattle.pm_core.specs.Step.{effect}
use Rattle.pm_state.specs.Values.{value}
use Rattle.pm_split.proofs.SplitLaw.{some_event}
use Rattle.pm_run.specs.Run.{Setup, Stand, Line, IsBookOf, HasBooksOf, split, cores_of, book_after, line_of, lines_of, loaded, core_0, cores_in, run}

-- the laws from below: the book at load is sound, each step keeps a book sound, and a sound book meets its
-- requirements
pub record BookLaws : Type 0 where
  pub load : (object : Object) (attached : List Attached) (topology : Topology) → IsSound (load_of object attached topology)
  pub step : (event : Event) (book : State) → IsSound book → IsSound (effect event book)
  pub met : (book : State) → IsWellFormed book.fixed.topology → IsSound book → MeetsRequirements book (λ u. value u book)

pub load_keeps : BookLaws → (c : Setup) → IsWellFormed c.topology → IsBookOf c (loaded c).book
load_keeps laws c well =
    let sound : IsSound (loaded c).book = laws.load c.object c.attached c.topology in
    record { fixed = refl; sound = sound; met = laws.met (loaded c).book well sound }

pub step_keeps : BookLaws → (c : Setup) (event : Event) (book : State) → IsWellFormed c.topology → IsBookOf c book → IsBookOf c (effect event book)
step_keeps laws c event book well of =
    let sound : IsSound (effect event book) = laws.step event book of.sound in
    let P : Fixed → Type 0 = λ f. IsWellFormed f.topology in
    record { fixed = of.fixed; sound = sound; met = laws.met (effect event book) (subst P (sym of.fixed) well) sound }

each_core : BookLaws → (c : Setup) (events : List Event) (book : State) → IsWellFormed c.topology → IsBookOf c book → Each (HasBooksOf c) (cores_of events book)
each_core laws c [] book well of = tt
each_core laws c (event ∷ events) book well of =
    let next : IsBookOf c (effect event book) = step_keeps laws c event book well of in
    (record { before = of; after = next }, each_core laws c events (effect event book) well next)

pub cores_keep : BookLaws → (c : Setup) (events : List Event) (book : State) → IsWellFormed c.topology → IsBookOf c book → All (HasBooksOf c) (cores_of events book)
cores_keep laws c events book well of = All-from_recursion (HasBooksOf c) (cores_of events book) (each_core laws c events book well of)

pub books_keep : BookLaws → (c : Setup) (events : List Event) (book : State) → IsWellFormed c.topology → IsBookOf c book → IsBookOf c (book_after events book)
books_keep laws c [] book well of = of
books_keep laws c (event ∷ events) book well of = books_keep laws c events (effect event book) well (step_keeps laws c event book well of)

pub line_keeps : BookLaws → (c : Setup) (event : Event) (stand : Stand) → IsWellFormed c.topology → IsBookOf c stand.book → IsBookOf c (line_of c event stand).after.book
line_keeps laws c event stand well of = books_keep laws c (split c event stand).events stand.book well of

-- the line leaves a book of the setup
abbrev LeavesBook : Setup → Line → Type 0
LeavesBook c line = IsBookOf c line.after.book

lines_keep : BookLaws → (c : Setup) (events : List Event) (stand : Stand) → IsWellFormed c.topology → IsBookOf c stand.book → Each (LeavesBook c) (lines_of c events stand)
lines_keep laws c [] stand well of = tt
lines_keep laws c (event ∷ events) stand well of =
    let next : IsBookOf c (line_of c event stand).after.book = line_keeps laws c event stand well of in
    (next, lines_keep laws c events (line_of c event stand).after well next)

pub run_keeps : BookLaws → (c : Setup) (events : List Event) → IsWellFormed c.topology → All (λ line. IsBookOf c line.after.book) (run c events)
run_keeps laws c events well =
    let first : IsBookOf c (loaded c).book = load_keeps laws c well in
    All-from_recursion (LeavesBook c) (run c events) (first, lines_keep laws c events (loaded c) well first)

lines_cores : BookLaws → (c : Setup) (events : List Event) (stand : Stand) → IsWellFormed c.topology → IsBookOf c stand.book → All (HasBooksOf c) (cores_in (lines_of c events stand))
lines_cores laws c [] stand well of = All-nil (HasBooksOf c)
lines_cores laws c (event ∷ events) stand well of =
    All-append (HasBooksOf c) (line_of c event stand).cores (cores_in (lines_of c events (line_of c event stand).after))
    (cores_keep laws c (split c event stand).events stand.book well of)
    (lines_cores laws c events (line_of c event stand).after well (line_keeps laws c event stand well of))

pub run_cores_keep : BookLaws → (c : Setup) (events : List Event) → IsWellFormed c.topology → All (HasBooksOf c) (cores_in (run c events))
run_cores_keep laws c events well =
    let first : IsBookOf c (loaded c).book = load_keeps laws c well in
    All-cons (HasBooksOf c) (core_0 c) (cores_in (lines_of c events (loaded c))) (record { before = first; after = first }) (lines_cores laws c events (loaded c) well first)

-- each event has a core event
pub a_core : (c : Setup) (event : Event) (stand : Stand) → 0 < length (split c event stand).events
a_core c event stand = some_event c.object c.topology event stand.boxes
