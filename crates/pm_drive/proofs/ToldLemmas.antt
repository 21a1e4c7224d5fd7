-- What the answers of driven lines tell of the device.
use Rattle.std.proofs.Common.{◌≡◌, ℕ, Bool, List, [], ◌∷◌, ◌++◌, refl, sym, subst}
use Rattle.std.specs.List.{AllByRecursion as Each}
use Rattle.pm_base.specs.declared.events.Event.{Event}
use Rattle.pm_base.specs.declared.names.Unit.{Unit}
use Rattle.pm_topology.specs.declared.topology.Topology.{Topology}
use Rattle.pm_topology.specs.WellFormed.{IsWellFormed}
use Rattle.pm_device.specs.Act.{refusals}
use Rattle.pm_core.specs.Step.{effect}
use Rattle.pm_state.specs.State.{State}
use Rattle.pm_state.specs.Units.{moved}
use Rattle.pm_run.specs.Run.{Core, Line, Setup, Stand, cores_of, line_of, lines_of, loaded, run, split}
use Rattle.pm_apply.specs.Part.{Kept, Part, orders_of, part_of}
use Rattle.pm_record.specs.Record.{IsRecordOf}
use Rattle.pm_drive.specs.Drive.{Driven, Given, acts, answers_after, drive, drive_line, first_answers, give, later_answers, orders_in_cores}
use Rattle.pm_drive.specs.Drove.{AnswersAsBook, IsFaulted, IsTold}
use Rattle.pm_drive.proofs.DroveLemmas.{AllGo, OfRun, PartLaws, cores_move, line_none, none_left, none_right, part_moves, topology_is}

-- ---- the units that move in a core step are those whose value isn't an earlier one

abbrev pub HasMoved : Core → Type 0
HasMoved core = (before : Unit → ℕ) × (core.outputs.moved ≡ moved before core.after)

abbrev pub LineMoved : Line → Type 0
LineMoved line = Each HasMoved line.cores

cores_moved : (events : List Event) (book : State) → Each HasMoved (cores_of events book)
cores_moved [] book = tt
cores_moved (event ∷ events) book = ((_, refl), cores_moved events (effect event book))

lines_moved : (c : Setup) (events : List Event) (stand : Stand) → Each LineMoved (lines_of c events stand)
lines_moved c [] stand = tt
lines_moved c (event ∷ events) stand = (cores_moved (split c event stand).events stand.book, lines_moved c events (line_of c event stand).after)

pub run_moved : (c : Setup) (events : List Event) → Each LineMoved (run c events)
run_moved c events = (((_, refl), tt), lines_moved c events (loaded c))

-- ---- each core step of driven lines is told

cores_told : (cores : List Core) (kept : Kept) (answers : List (List Bool)) → Each IsTold (give kept answers cores)
cores_told [] kept answers = tt
cores_told (core ∷ cores) kept answers =
    (refl, cores_told cores (part_of kept (first_answers answers) core.after core.outputs).kept (later_answers answers))

pub lines_told : (lines : List Line) (kept : Kept) (answers : List (List Bool)) → Each (λ (x : Driven). Each IsTold x.cores) (drive kept answers lines)
lines_told [] kept answers = tt
lines_told (line ∷ lines) kept answers =
    (cores_told line.cores kept answers, lines_told lines (drive_line kept answers line).kept (answers_after line.cores answers))

module _ (c : Setup) (well : IsWellFormed c.topology) (laws : PartLaws) where
  -- ---- and faulted

  cores_faulted : (cores : List Core) (kept : Kept) (answers : List (List Bool)) → OfRun c cores → Each HasMoved cores → IsRecordOf c.topology kept
      → Each IsFaulted (give kept answers cores)
  cores_faulted [] kept answers books moved is = tt
  cores_faulted (core ∷ cores) kept answers books moved is =
      let p : Part = part_of kept (first_answers answers) core.after core.outputs in
      let t : core.after.fixed.topology ≡ c.topology = topology_is c well laws core.after books.0 in
      let formed : IsWellFormed core.after.fixed.topology = subst IsWellFormed (sym t) well in
      let here : IsRecordOf core.after.fixed.topology kept = subst (λ (t : Topology). IsRecordOf t kept) (sym t) is in (
        laws.answered kept (first_answers answers) core.after core.outputs moved.0.0 formed here moved.0.1,
        cores_faulted cores p.kept (later_answers answers) books.1 moved.1 (part_moves c well laws kept (first_answers answers) core books.0 is).is_record,
      )

  pub lines_faulted : (lines : List Line) (book : State) (kept : Kept) (answers : List (List Bool)) → AllGo c book lines → Each LineMoved lines → IsRecordOf c.topology kept
      → Each (λ (x : Driven). Each IsFaulted x.cores) (drive kept answers lines)
  lines_faulted [] book kept answers go moved is = tt
  lines_faulted (line ∷ lines) book kept answers go moved is = (
    cores_faulted line.cores kept answers go.0.cores moved.0 is,
    lines_faulted lines line.after.book (drive_line kept answers line).kept (answers_after line.cores answers) go.1 moved.1
        (cores_move c well laws line.cores kept answers go.0.cores is).is_record,
  )

  -- ---- where nothing is refused the answers are the book's

  given_as_book : (given : List Given) → refusals (orders_in_cores given) ≡ 0 → Each IsFaulted given → Each (λ (g : Given). g.part.answer ≡ g.core.outputs.answer) given
  given_as_book [] none faulted = tt
  given_as_book (g ∷ given) none faulted =
      let orders = orders_of g.part.commands in
      let split = laws.refused orders (orders_in_cores given) in
      let here = none_left c well laws (refusals orders) (refusals (orders_in_cores given)) (refusals (orders ++ orders_in_cores given)) split none in
      let later = none_right c well laws (refusals orders) (refusals (orders_in_cores given)) (refusals (orders ++ orders_in_cores given)) split none in
      (faulted.0 (laws.unrefused g.part.commands here), given_as_book given later faulted.1)

  pub answers_as_book : (xs : List Driven) → refusals (acts xs) ≡ 0 → Each (λ (x : Driven). Each IsFaulted x.cores) xs → AnswersAsBook xs
  answers_as_book [] none faulted = tt
  answers_as_book (x ∷ xs) none faulted =
      let halves = line_none c well laws x.line x.cores xs none in
      (given_as_book x.cores halves.0 faulted.0, answers_as_book xs halves.1 faulted.1)
