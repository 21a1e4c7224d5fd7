-- What lines of a run that were driven come to.
use Rattle.std.proofs.Common.{◌≡◌, ℕ, ◌+◌, Bool, true, false, List, [], ◌∷◌, ◌++◌, refl, sym, ◌∙◌, ap, subst, arith}
use Rattle.std.specs.Prelude.{⊤}
use Rattle.std.specs.List.{AllByRecursion as Each}
use Rattle.pm_base.specs.declared.events.Event.{Event}
use Rattle.pm_base.specs.declared.events.Event.TheVariants.{Break, Mend}
use Rattle.pm_base.specs.declared.names.Unit.{Unit}
use Rattle.pm_topology.specs.declared.topology.Topology.{Topology}
use Rattle.pm_topology.specs.Places.{KindLaws}
use Rattle.pm_topology.specs.WellFormed.{IsWellFormed}
use Rattle.pm_device.specs.Act.{Act, AreHarmless, refusals, values_after}
use Rattle.pm_topology.specs.Units.{has_unit}
use Rattle.pm_device.specs.Chains.{values_after-same}
use Rattle.pm_core.specs.declared.outbox.Done.{Done}
use Rattle.pm_core.specs.Outbox.{Outputs}
use Rattle.pm_state.specs.State.{Fixed, State}
use Rattle.pm_state.specs.Units.{moved}
use Rattle.pm_state.specs.Values.{value}
use Rattle.pm_run.specs.Run.{Core, IsBookOf, Line, Setup}
use Rattle.pm_apply.specs.Order.{IsOrdered, LagsAreExplained}
use Rattle.pm_apply.specs.Part.{AllSucceed, Kept, Part, orders_of, part_of}
use Rattle.pm_record.specs.Record.{IsRecordOf, kept_value}
use Rattle.pm_drive.specs.Drive.{Driven, Given, acts, acts_of, answers_after, breaks, drive, drive_line, first_answers, give, kept_after, last_book, last_kept, later_answers, orders_in_cores, rigs}
use Rattle.pm_drive.specs.Drove.{AreExplained, BreaksNone, IsExplained}

-- what holds of the part of each core step, whatever the device answers
pub record PartLaws : Type 0 where
  pub ordered : (kept : Kept) (answers : List Bool) (book : State) (outputs : Outputs) → IsWellFormed book.fixed.topology → IsRecordOf book.fixed.topology kept → IsOrdered book.fixed.topology (kept_value kept) (orders_of (part_of kept answers book outputs).commands)
  pub explained : (kept : Kept) (answers : List Bool) (book : State) (outputs : Outputs) → IsWellFormed book.fixed.topology → IsRecordOf book.fixed.topology kept → LagsAreExplained book.fixed.topology (λ u. value u book) (part_of kept answers book outputs).kept (part_of kept answers book outputs).commands
  pub known : (kept : Kept) (answers : List Bool) (book : State) (outputs : Outputs) → IsWellFormed book.fixed.topology → AreHarmless book.fixed.topology (orders_of (part_of kept answers book outputs).commands)
  pub is_record : (kept : Kept) (answers : List Bool) (book : State) (outputs : Outputs) → IsWellFormed book.fixed.topology → IsRecordOf book.fixed.topology kept → IsRecordOf book.fixed.topology (part_of kept answers book outputs).kept
  pub values : (kept : Kept) (answers : List Bool) (book : State) (outputs : Outputs) → IsWellFormed book.fixed.topology → IsRecordOf book.fixed.topology kept → (unit : Unit) → kept_value (part_of kept answers book outputs).kept unit ≡ values_after (orders_of (part_of kept answers book outputs).commands) (kept_value kept) unit
  pub same : (kept : Kept) (answers : List Bool) (book : State) (outputs : Outputs) → refusals (orders_of (part_of kept answers book outputs).commands) ≡ 0 → part_of kept answers book outputs ≡ part_of kept [] book outputs
  pub reaches : (kept : Kept) (answers : List Bool) (book : State) (outputs : Outputs) → IsWellFormed book.fixed.topology → IsRecordOf book.fixed.topology kept → refusals (orders_of (part_of kept answers book outputs).commands) ≡ 0 → (unit : Unit) → has_unit book.fixed.topology unit ≡ true → kept_value (part_of kept answers book outputs).kept unit ≡ value unit book
  pub answered : (kept : Kept) (answers : List Bool) (book : State) (outputs : Outputs) (before : Unit → ℕ) → IsWellFormed book.fixed.topology → IsRecordOf book.fixed.topology kept → outputs.moved ≡ moved before book → AllSucceed (part_of kept answers book outputs).commands → (part_of kept answers book outputs).answer ≡ outputs.answer
  pub unrefused : (commands : List Done) → refusals (orders_of commands) ≡ 0 → AllSucceed commands
  pub join : (t : Topology) (values : Unit → ℕ) (first second : List Act) → IsOrdered t values first → IsOrdered t (values_after first values) second → IsOrdered t values (first ++ second)
  pub alike : (t : Topology) (values others : Unit → ℕ) (acts : List Act) → ((unit : Unit) → values unit ≡ others unit) → IsOrdered t values acts → IsOrdered t others acts
  pub refused : (first second : List Act) → refusals (first ++ second) ≡ refusals first + refusals second
  pub harmless : (t : Topology) (first second : List Act) → AreHarmless t first → AreHarmless t second → AreHarmless t (first ++ second)
  pub kinds : KindLaws
  pub after : (first second : List Act) (value : Unit → ℕ) (unit : Unit) → values_after (first ++ second) value unit ≡ values_after second (values_after first value) unit

-- from kept values to kept values by these acts, in order
pub record Moves (t : Topology) (kept last : Kept) (done : List Act) : Type 0 where
  pub is_record : IsRecordOf t last
  pub values : (unit : Unit) → kept_value last unit ≡ values_after done (kept_value kept) unit
  pub ordered : IsOrdered t (kept_value kept) done

-- after core steps without answers there are none
pub no_answers : (cores : List Core) → answers_after cores [] ≡ []
no_answers [] = refl
no_answers (core ∷ cores) = no_answers cores

-- the book after the last of these core steps, or this one where there is none
abbrev pub last_after : State → List Core → State
last_after book [] = book
last_after book (core ∷ cores) = last_after core.after cores

-- the book after each core step is one of the run
abbrev pub OfRun : Setup → List Core → Type 0
OfRun c cores = Each (λ (core : Core). IsBookOf c core.after) cores

-- so it is in each line, from this book on; and a line ends with the book of its last core step
pub record Goes (c : Setup) (book : State) (line : Line) : Type 0 where
  pub cores : OfRun c line.cores
  pub ends : line.after.book ≡ last_after book line.cores

abbrev pub AllGo : Setup → State → List Line → Type 0
AllGo c book [] = ⊤
AllGo c book (line ∷ lines) = Goes c book line × AllGo c line.after.book lines

module _ (c : Setup) (well : IsWellFormed c.topology) (laws : PartLaws) where
  pub topology_is : (book : State) → IsBookOf c book → book.fixed.topology ≡ c.topology
  topology_is book is = ap (λ (f : Fixed). f.topology) is.fixed

  Moves-refl : (kept : Kept) → IsRecordOf c.topology kept → Moves c.topology kept kept []
  Moves-refl kept is = record { is_record = is; values = λ unit. refl; ordered = tt }

  Moves-trans : (kept mid last : Kept) (first second : List Act) → Moves c.topology kept mid first → Moves c.topology mid last second → Moves c.topology kept last (first ++ second)
  Moves-trans kept mid last first second one two = record {
    is_record = two.is_record;
    values = λ unit. two.values unit ∙ values_after-same second (kept_value mid) (values_after first (kept_value kept)) one.values unit ∙ sym (laws.after first second (kept_value kept) unit);
    ordered = laws.join c.topology (kept_value kept) first second one.ordered (laws.alike c.topology (kept_value mid) (values_after first (kept_value kept)) second one.values two.ordered);
  }

  -- nothing moves where a node is broken or mended
  rigs_move : (event : Event) (kept : Kept) → IsRecordOf c.topology kept → Moves c.topology kept kept (rigs event)
  rigs_move (Break node) kept is = record { is_record = is; values = λ unit. refl; ordered = tt }
  rigs_move (Mend node) kept is = record { is_record = is; values = λ unit. refl; ordered = tt }
  rigs_move _ kept is = Moves-refl kept is

  -- one core step
  pub part_moves : (kept : Kept) (answers : List Bool) (core : Core) → IsBookOf c core.after → IsRecordOf c.topology kept → Moves c.topology kept (part_of kept answers core.after core.outputs).kept (orders_of (part_of kept answers core.after core.outputs).commands)
  part_moves kept answers core book is =
      let t : core.after.fixed.topology ≡ c.topology = topology_is core.after book in
      let formed : IsWellFormed core.after.fixed.topology = subst IsWellFormed (sym t) well in
      let here : IsRecordOf core.after.fixed.topology kept = subst (λ (t : Topology). IsRecordOf t kept) (sym t) is in
      subst (λ (t : Topology). Moves t kept (part_of kept answers core.after core.outputs).kept (orders_of (part_of kept answers core.after core.outputs).commands)) t
      (record {
        is_record = laws.is_record kept answers core.after core.outputs formed here;
        values = laws.values kept answers core.after core.outputs formed here;
        ordered = laws.ordered kept answers core.after core.outputs formed here;
      })

  pub cores_move : (cores : List Core) (kept : Kept) (answers : List (List Bool)) → OfRun c cores → IsRecordOf c.topology kept
      → Moves c.topology kept (kept_after kept (give kept answers cores)) (orders_in_cores (give kept answers cores))
  cores_move [] kept answers books is = Moves-refl kept is
  cores_move (core ∷ cores) kept answers books is =
      let p : Part = part_of kept (first_answers answers) core.after core.outputs in
      let one = part_moves kept (first_answers answers) core books.0 is in
      let rest : List Given = give p.kept (later_answers answers) cores in
      Moves-trans kept p.kept (kept_after p.kept rest) (orders_of p.commands) (orders_in_cores rest) one
      (cores_move cores p.kept (later_answers answers) books.1 one.is_record)

  line_moves : (line : Line) (kept : Kept) (answers : List (List Bool)) → OfRun c line.cores → IsRecordOf c.topology kept
      → Moves c.topology kept (drive_line kept answers line).kept (acts_of (drive_line kept answers line))
  line_moves line kept answers books is =
      let given : List Given = give kept answers line.cores in
      Moves-trans kept kept (kept_after kept given) (rigs line.event) (orders_in_cores given) (rigs_move line.event kept is)
      (cores_move line.cores kept answers books is)

  pub lines_move : (lines : List Line) (book : State) (kept : Kept) (answers : List (List Bool)) → AllGo c book lines → IsRecordOf c.topology kept
      → Moves c.topology kept (last_kept kept (drive kept answers lines)) (acts (drive kept answers lines))
  lines_move [] book kept answers go is = Moves-refl kept is
  lines_move (line ∷ lines) book kept answers go is =
      let x : Driven = drive_line kept answers line in
      let later : List (List Bool) = answers_after line.cores answers in
      let one = line_moves line kept answers go.0.cores is in
      Moves-trans kept x.kept (last_kept x.kept (drive x.kept later lines)) (acts_of x) (acts (drive x.kept later lines)) one
      (lines_move lines line.after.book x.kept later go.1 one.is_record)

  -- ---- nothing is done that can fail on a whole device

  cores_harmless : (cores : List Core) (kept : Kept) (answers : List (List Bool)) → OfRun c cores
      → AreHarmless c.topology (orders_in_cores (give kept answers cores))
  cores_harmless [] kept answers books = tt
  cores_harmless (core ∷ cores) kept answers books =
      let p : Part = part_of kept (first_answers answers) core.after core.outputs in
      let t : core.after.fixed.topology ≡ c.topology = topology_is core.after books.0 in
      let here = laws.known kept (first_answers answers) core.after core.outputs (subst IsWellFormed (sym t) well) in
      laws.harmless c.topology (orders_of p.commands) (orders_in_cores (give p.kept (later_answers answers) cores))
      (subst (λ (t : Topology). AreHarmless t (orders_of p.commands)) t here)
      (cores_harmless cores p.kept (later_answers answers) books.1)

  rigs_harmless : (event : Event) → breaks event ≡ false → AreHarmless c.topology (rigs event)
  rigs_harmless (Break node) none = cc
  rigs_harmless (Mend node) none = (refl, tt)
  rigs_harmless _ none = tt

  pub lines_harmless : (lines : List Line) (book : State) (kept : Kept) (answers : List (List Bool)) → AllGo c book lines
      → BreaksNone (drive kept answers lines) → AreHarmless c.topology (acts (drive kept answers lines))
  lines_harmless [] book kept answers go none = tt
  lines_harmless (line ∷ lines) book kept answers go none =
      let given : List Given = give kept answers line.cores in
      let later : List Driven = drive (kept_after kept given) (answers_after line.cores answers) lines in
      let first = laws.harmless c.topology (rigs line.event) (orders_in_cores given) (rigs_harmless line.event none.0)
      (cores_harmless line.cores kept answers go.0.cores) in
      laws.harmless c.topology (rigs line.event ++ orders_in_cores given) (acts later) first
      (lines_harmless lines line.after.book (kept_after kept given) (answers_after line.cores answers) go.1 none.1)

  -- ---- what lags is explained

  cores_explained : (cores : List Core) (kept : Kept) (answers : List (List Bool)) → OfRun c cores → IsRecordOf c.topology kept
      → Each (IsExplained c.topology) (give kept answers cores)
  cores_explained [] kept answers books is = tt
  cores_explained (core ∷ cores) kept answers books is =
      let p : Part = part_of kept (first_answers answers) core.after core.outputs in
      let t : core.after.fixed.topology ≡ c.topology = topology_is core.after books.0 in
      let formed : IsWellFormed core.after.fixed.topology = subst IsWellFormed (sym t) well in
      let here : IsRecordOf core.after.fixed.topology kept = subst (λ (t : Topology). IsRecordOf t kept) (sym t) is in (
        subst (λ (t : Topology). LagsAreExplained t (λ u. value u core.after) p.kept p.commands) t (laws.explained kept (first_answers answers) core.after core.outputs formed here),
        cores_explained cores p.kept (later_answers answers) books.1 (part_moves kept (first_answers answers) core books.0 is).is_record,
      )

  pub lines_explained : (lines : List Line) (book : State) (kept : Kept) (answers : List (List Bool)) → AllGo c book lines → IsRecordOf c.topology kept
      → AreExplained c.topology (drive kept answers lines)
  lines_explained [] book kept answers go is = tt
  lines_explained (line ∷ lines) book kept answers go is = (
    cores_explained line.cores kept answers go.0.cores is,
    lines_explained lines line.after.book (drive_line kept answers line).kept (answers_after line.cores answers) go.1
        (cores_move line.cores kept answers go.0.cores is).is_record,
  )

  -- ---- nothing is refused

  pub none_left : (a b sum : ℕ) → sum ≡ a + b → sum ≡ 0 → a ≡ 0
  none_left a b sum is none = omega arith

  pub none_right : (a b sum : ℕ) → sum ≡ a + b → sum ≡ 0 → b ≡ 0
  none_right a b sum is none = omega arith

  cores_same : (cores : List Core) (kept : Kept) (answers : List (List Bool)) → refusals (orders_in_cores (give kept answers cores)) ≡ 0
      → give kept answers cores ≡ give kept [] cores
  cores_same [] kept answers none = refl
  cores_same (core ∷ cores) kept answers none =
      let p : Part = part_of kept (first_answers answers) core.after core.outputs in
      let q : Part = part_of kept [] core.after core.outputs in
      let rest : List Given = give p.kept (later_answers answers) cores in
      let split = laws.refused (orders_of p.commands) (orders_in_cores rest) in
      let one : p ≡ q = laws.same kept (first_answers answers) core.after core.outputs (none_left (refusals (orders_of p.commands)) (refusals (orders_in_cores rest)) (refusals (orders_of p.commands ++ orders_in_cores rest)) split none) in
      let two : rest ≡ give p.kept [] cores = cores_same cores p.kept (later_answers answers) (none_right (refusals (orders_of p.commands)) (refusals (orders_in_cores rest)) (refusals (orders_of p.commands ++ orders_in_cores rest)) split none) in
      ap (λ (gs : List Given). record { core = core; part = p } ∷ gs) two
      ∙ ap (λ (r : Part). record { core = core; part = r } ∷ give r.kept [] cores) one

  -- where nothing is refused in a line and those after it, nothing is in the core steps of the line, nor after it
  pub line_none : (line : Line) (given : List Given) (rest : List Driven) → refusals ((rigs line.event ++ orders_in_cores given) ++ acts rest) ≡ 0
      → (refusals (orders_in_cores given) ≡ 0) × (refusals (acts rest) ≡ 0)
  line_none line given rest none =
      let first : List Act = rigs line.event ++ orders_in_cores given in
      let split = laws.refused first (acts rest) in
      let within = laws.refused (rigs line.event) (orders_in_cores given) in
      let here = none_left (refusals first) (refusals (acts rest)) (refusals (first ++ acts rest)) split none in (
        none_right (refusals (rigs line.event)) (refusals (orders_in_cores given)) (refusals first) within here,
        none_right (refusals first) (refusals (acts rest)) (refusals (first ++ acts rest)) split none,
      )

  pub lines_same : (lines : List Line) (kept : Kept) (answers : List (List Bool)) → refusals (acts (drive kept answers lines)) ≡ 0
      → drive kept answers lines ≡ drive kept [] lines
  lines_same [] kept answers none = refl
  lines_same (line ∷ lines) kept answers none =
      let given : List Given = give kept answers line.cores in
      let others : List Given = give kept [] line.cores in
      let later : List (List Bool) = answers_after line.cores answers in
      let rest : List Driven = drive (kept_after kept given) later lines in
      let halves = line_none line given rest none in
      let one : given ≡ others = cores_same line.cores kept answers halves.0 in
      let two : rest ≡ drive (kept_after kept given) [] lines = lines_same lines (kept_after kept given) later halves.1 in
      ap (λ (xs : List Driven). drive_line kept answers line ∷ xs) two
      ∙ ap (λ (gs : List Given). record { line = line; cores = gs; kept = kept_after kept gs } ∷ drive (kept_after kept gs) [] lines) one
      ∙ ap (λ (answers : List (List Bool)). drive_line kept [] line ∷ drive (kept_after kept others) answers lines) (sym (no_answers line.cores))

  -- ---- the kept values are the book's

  -- the kept values of the units of the chip are those of a book
  abbrev pub Reaches : Kept → State → Type 0
  Reaches kept book = (unit : Unit) → has_unit c.topology unit ≡ true → kept_value kept unit ≡ value unit book

  pub part_reaches : (kept : Kept) (answers : List Bool) (core : Core) → IsBookOf c core.after → IsRecordOf c.topology kept → refusals (orders_of (part_of kept answers core.after core.outputs).commands) ≡ 0 → Reaches (part_of kept answers core.after core.outputs).kept core.after
  part_reaches kept answers core book is none unit there =
      let t : core.after.fixed.topology ≡ c.topology = topology_is core.after book in
      laws.reaches kept answers core.after core.outputs (subst IsWellFormed (sym t) well) (subst (λ (t : Topology). IsRecordOf t kept) (sym t) is) none unit
      (ap (λ (t : Topology). has_unit t unit) t ∙ there)

  cores_reach : (cores : List Core) (kept : Kept) (answers : List (List Bool)) (book : State) → Reaches kept book → OfRun c cores → IsRecordOf c.topology kept
      → refusals (orders_in_cores (give kept answers cores)) ≡ 0 → Reaches (kept_after kept (give kept answers cores)) (last_after book cores)
  cores_reach [] kept answers book reached books is none = reached
  cores_reach (core ∷ cores) kept answers book reached books is none =
      let p : Part = part_of kept (first_answers answers) core.after core.outputs in
      let rest : List Given = give p.kept (later_answers answers) cores in
      let split = laws.refused (orders_of p.commands) (orders_in_cores rest) in
      cores_reach cores p.kept (later_answers answers) core.after
      (part_reaches kept (first_answers answers) core books.0 is (none_left (refusals (orders_of p.commands)) (refusals (orders_in_cores rest)) (refusals (orders_of p.commands ++ orders_in_cores rest)) split none))
      books.1 (part_moves kept (first_answers answers) core books.0 is).is_record
      (none_right (refusals (orders_of p.commands)) (refusals (orders_in_cores rest)) (refusals (orders_of p.commands ++ orders_in_cores rest)) split none)

  pub lines_reach : (lines : List Line) (kept : Kept) (answers : List (List Bool)) (book : State) → Reaches kept book → AllGo c book lines → IsRecordOf c.topology kept
      → refusals (acts (drive kept answers lines)) ≡ 0 → Reaches (last_kept kept (drive kept answers lines)) (last_book book (drive kept answers lines))
  lines_reach [] kept answers book reached go is none = reached
  lines_reach (line ∷ lines) kept answers book reached go is none =
      let given : List Given = give kept answers line.cores in
      let mid : Kept = kept_after kept given in
      let later : List (List Bool) = answers_after line.cores answers in
      let rest : List Driven = drive mid later lines in
      let halves = line_none line given rest none in
      let here : Reaches mid (last_after book line.cores) = cores_reach line.cores kept answers book reached go.0.cores is halves.0 in
      lines_reach lines mid later line.after.book (subst (Reaches mid) (sym go.0.ends) here) go.1 (cores_move line.cores kept answers go.0.cores is).is_record
      halves.1
