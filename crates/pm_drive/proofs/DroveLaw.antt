-- A device that was driven through the first lines of a run stands as the headline says.
use Rattle.std.proofs.Common.{◌≡◌, ℕ, ◌+◌, Bool, true, List, [], ◌∷◌, ◌++◌, take, Option, Some, None, refl, sym, ◌∙◌, ap, subst, zero, suc, arith, inl, inr}
use Rattle.std.specs.Prelude.{map}
use Rattle.std.specs.List.{AllByRecursion as Each}
use Rattle.pm_base.specs.Faults.{Rose}
use Rattle.pm_base.specs.declared.events.Event.{Event}
use Rattle.pm_base.specs.declared.names.Unit.{Unit}
use Rattle.pm_topology.specs.declared.topology.Topology.{Topology}
use Rattle.pm_topology.specs.WellFormed.{IsWellFormed}
use Rattle.pm_device.specs.declared.device.Device as Device
use Rattle.pm_device.specs.Act.{Act, AreHarmless, Chain, ShowsAll, refusals}
use Rattle.pm_device.specs.Fresh.{IsWhole}
use Rattle.pm_topology.specs.Units.{has_unit}
use Rattle.pm_device.specs.Chains.{values_after-same}
use Rattle.pm_state.specs.Load.{load_of}
use Rattle.pm_state.specs.State.{Fixed, State}
use Rattle.pm_core.specs.Step.{effect, outputs_at_load}
use Rattle.pm_state.specs.Values.{value}
use Rattle.pm_run.specs.Run.{Core, IsBookOf, Line, Setup, Stand, book_after, core_0, cores_of, line_0, line_of, lines_of, loaded, run, split}
use Rattle.pm_apply.specs.Part.{Kept, Part, orders_of, part_of}
use Rattle.pm_record.specs.Record.{IsRecordOf, at_zero, kept_value}
use Rattle.pm_drive.specs.Drive.{Driven, acts, answers_after, drive, drive_line, driven, first_answers, last_book, last_kept, later_answers, until}
use Rattle.pm_drive.specs.Drove.{BreaksNone, Drove, Follows, IsFaulted, NoFailure}
use Rattle.pm_drive.proofs.DroveLemmas.{AllGo, Moves, OfRun, PartLaws, Reaches, last_after, lines_explained, lines_harmless, lines_move, lines_reach, lines_same, none_left, none_right, part_moves, part_reaches}
use Rattle.pm_drive.proofs.MetLemmas.{met_by}
use Rattle.pm_drive.proofs.ToldLemmas.{LineMoved, answers_as_book, lines_faulted, lines_told, run_moved}

-- ---- first lines

pub take-drive : (n : ℕ) (lines : List Line) (kept : Kept) (answers : List (List Bool)) → take n (drive kept answers lines) ≡ drive kept answers (take n lines)
take-drive zero lines kept answers = refl
take-drive (suc n) [] kept answers = refl
take-drive (suc n) (line ∷ lines) kept answers =
    ap (λ (xs : List Driven). drive_line kept answers line ∷ xs) (take-drive n lines (drive_line kept answers line).kept (answers_after line.cores answers))

pub until-drive : (cut : Option ℕ) (lines : List Line) (kept : Kept) (answers : List (List Bool)) → until cut (drive kept answers lines) ≡ drive kept answers (until cut lines)
until-drive None lines kept answers = refl
until-drive (Some k) lines kept answers = take-drive (k + 1) lines kept answers

-- the lines up to a cut begin with the first one
abbrev rest_until : {X : Type 0} → Option ℕ → List X → List X
rest_until None xs = xs
rest_until (Some k) xs = take k xs

until-first : {X : Type 0} (cut : Option ℕ) (x : X) (xs : List X) → until cut (x ∷ xs) ≡ x ∷ rest_until cut xs
until-first None x xs = refl
until-first (Some k) x xs = let on : k + 1 ≡ suc k = omega arith in ap (λ n. take n (x ∷ xs)) on

pub lines-driven : (lines : List Line) (kept : Kept) (answers : List (List Bool)) → map (λ (x : Driven). x.line) (drive kept answers lines) ≡ lines
lines-driven [] kept answers = refl
lines-driven (line ∷ lines) kept answers =
    ap (λ (ls : List Line). line ∷ ls) (lines-driven lines (drive_line kept answers line).kept (answers_after line.cores answers))

-- ---- the lines of a run

module _ (c : Setup) (keeps : (event : Event) (book : State) → IsBookOf c book → IsBookOf c (effect event book)) where
  cores_go : (events : List Event) (book : State) → IsBookOf c book → OfRun c (cores_of events book)
  cores_go [] book is = tt
  cores_go (event ∷ events) book is = (keeps event book is, cores_go events (effect event book) (keeps event book is))

  ends_with : (events : List Event) (book : State) → book_after events book ≡ last_after book (cores_of events book)
  ends_with [] book = refl
  ends_with (event ∷ events) book = ends_with events (effect event book)

  last_is : (events : List Event) (book : State) → IsBookOf c book → IsBookOf c (book_after events book)
  last_is [] book is = is
  last_is (event ∷ events) book is = last_is events (effect event book) (keeps event book is)

  lines_go : (events : List Event) (stand : Stand) → IsBookOf c stand.book → AllGo c stand.book (lines_of c events stand)
  lines_go [] stand is = tt
  lines_go (event ∷ events) stand is =
      let es : List Event = (split c event stand).events in (
        record { cores = cores_go es stand.book is; ends = ends_with es stand.book },
        lines_go events (line_of c event stand).after (last_is es stand.book is),
      )

  pub run_goes : IsBookOf c (loaded c).book → (events : List Event) → AllGo c (loaded c).book (run c events)
  run_goes load events = (record { cores = (load, tt); ends = refl }, lines_go events (loaded c) load)

take-go : (c : Setup) (n : ℕ) (book : State) (lines : List Line) → AllGo c book lines → AllGo c book (take n lines)
take-go c zero book lines go = tt
take-go c (suc n) book [] go = tt
take-go c (suc n) book (line ∷ lines) go = (go.0, take-go c n line.after.book lines go.1)

rest-go : (c : Setup) (cut : Option ℕ) (book : State) (lines : List Line) → AllGo c book lines → AllGo c book (rest_until cut lines)
rest-go c None book lines go = go
rest-go c (Some k) book lines go = take-go c k book lines go

-- what holds of each line holds of each up to a cut
take-all : {X : Type 0} (P : X → Type 0) (n : ℕ) (xs : List X) → Each P xs → Each P (take n xs)
take-all P zero xs all = tt
take-all P (suc n) [] all = tt
take-all P (suc n) (x ∷ xs) all = (all.0, take-all P n xs all.1)

until-all : {X : Type 0} (P : X → Type 0) (cut : Option ℕ) (xs : List X) → Each P xs → Each P (until cut xs)
until-all P None xs all = all
until-all P (Some k) xs all = take-all P (k + 1) xs all

-- ---- the law

module _ {D : Type 0} (d : Device.Ghosts D) (c : Setup) (well : IsWellFormed c.topology) (laws : PartLaws)
    (loads : IsBookOf c (loaded c).book) (keeps : (event : Event) (book : State) → IsBookOf c book → IsBookOf c (effect event book))
    (zero_record : IsRecordOf c.topology (at_zero c.topology)) (zeros : (unit : Unit) → kept_value (at_zero c.topology) unit ≡ 0)
    (shows : (done : List Act) (old new : D) → Chain d.Does done old new → ShowsAll d.values_observable d.nodes_observable done (d.state old) (d.state new))
    (still : (done : List Act) (old new : D) → Chain d.Does done old new → (Rose (d.state old).faults (d.state new).faults → ⊥) → refusals done ≡ 0)
    (whole : (t : Topology) (done : List Act) (old new : D) → Chain d.Does done old new → d.nodes_observable → IsWhole t (d.state old) → AreHarmless t done → refusals done ≡ 0)
  where
    unrefused : (xs : List Driven) (old new : D) → Chain d.Does (acts xs) old new → (BreaksNone xs → AreHarmless c.topology (acts xs)) → NoFailure d c.topology xs old new → refusals (acts xs) ≡ 0
    unrefused xs old new given harmless (inl none) = still (acts xs) old new given none
    unrefused xs old new given harmless (inr sound) = whole c.topology (acts xs) old new given sound.0 sound.1 (harmless sound.2)

    -- lines that begin with line 0
    module _ (answers : List (List Bool)) (rest : List Line) (old new : D)
        (go : AllGo c (loaded c).book rest)
        (all_moved : Each LineMoved (line_0 c ∷ rest))
        (idle : d.values_observable → (unit : Unit) → (d.state old).value unit ≡ 0)
        (given : Chain d.Does (acts (drive (at_zero c.topology) answers (line_0 c ∷ rest))) old new)
      where
        abbrev first : Kept
        first = at_zero c.topology

        abbrev lines : List Line
        lines = line_0 c ∷ rest

        abbrev xs : List Driven
        xs = drive first answers lines

        abbrev load : State
        load = load_of c.object c.attached c.topology

        all_go : AllGo c load lines
        all_go = (record { cores = (loads, tt); ends = refl }, go)

        seen : ShowsAll d.values_observable d.nodes_observable (acts xs) (d.state old) (d.state new)
        seen = shows (acts xs) old new given

        moves : Moves c.topology first (last_kept first xs) (acts xs)
        moves = lines_move c well laws lines load first answers all_go zero_record

        none_refused : NoFailure d c.topology xs old new → refusals (acts xs) ≡ 0
        none_refused = unrefused xs old new given (lines_harmless c well laws lines load first answers all_go)

        faulted : Each (λ (x : Driven). Each IsFaulted x.cores) xs
        faulted = lines_faulted c well laws lines load first answers all_go all_moved zero_record

        stands : d.values_observable → (unit : Unit) → (d.state new).value unit ≡ kept_value (last_kept first xs) unit
        stands told unit =
            seen.values told unit
            ∙ values_after-same (acts xs) (d.state old).value (kept_value first) (λ u. idle told u ∙ sym (zeros u)) unit
            ∙ sym (moves.values unit)

        -- the book at load, and then the others
        reaches : refusals (acts xs) ≡ 0 → Reaches c well laws (last_kept first xs) (last_book load xs)
        reaches none =
            let p : Part = part_of first (first_answers answers) load (outputs_at_load load) in
            let later : List Driven = drive p.kept (later_answers answers) rest in
            let split = laws.refused (orders_of p.commands ++ []) (acts later) in
            let front = none_left c well laws (refusals (orders_of p.commands ++ [])) (refusals (acts later)) (refusals (acts xs)) split none in
            let alone = none_left c well laws (refusals (orders_of p.commands)) (refusals []) (refusals (orders_of p.commands ++ [])) (laws.refused (orders_of p.commands) []) front in
            let back = none_right c well laws (refusals (orders_of p.commands ++ [])) (refusals (acts later)) (refusals (acts xs)) split none in
            lines_reach c well laws rest p.kept (later_answers answers) load (part_reaches c well laws first (first_answers answers) (core_0 c) loads zero_record alone)
            go (part_moves c well laws first (first_answers answers) (core_0 c) loads zero_record).is_record back

        last_of_run : (rest : List Line) (kept : Kept) (answers : List (List Bool)) (book : State) → IsBookOf c book → AllGo c book rest → IsBookOf c (last_book book (drive kept answers rest))
        last_of_run [] kept answers book is all = is
        last_of_run (line ∷ rest) kept answers book is all =
            last_of_run rest (drive_line kept answers line).kept (answers_after line.cores answers) line.after.book
            (subst (IsBookOf c) (sym all.0.ends) (after line.cores book is all.0.cores)) all.1
          where
            after : (cores : List Core) (book : State) → IsBookOf c book → OfRun c cores → IsBookOf c (last_after book cores)
            after [] book is all = is
            after (core ∷ cores) book is all = after cores core.after all.0 all.1

        follows : d.values_observable → NoFailure d c.topology xs old new → Follows (last_book load xs) (d.state new)
        follows told no_failure =
            let none = none_refused no_failure in
            let book : State = last_book load xs in
            let is : IsBookOf c book = last_of_run lines first answers load loads all_go in
            let t : book.fixed.topology ≡ c.topology = ap (λ (f : Fixed). f.topology) is.fixed in
            let same : (unit : Unit) → has_unit book.fixed.topology unit ≡ true → (d.state new).value unit ≡ value unit book =
            λ unit there. stands told unit ∙ reaches none unit (ap (λ (t : Topology). has_unit t unit) (sym t) ∙ there)
            in
            record { values = same; met = met_by laws.kinds book (λ u. value u book) (d.state new).value (λ u there. sym (same u there)) is.met }

        pub drove_from : Drove d c xs old new
        drove_from = record {
          given = given;
          counted = seen.counted;
          stands = stands;
          matched = seen.matched;
          broken = seen.broken;
          ordered = laws.alike c.topology (kept_value first) (λ unit. 0) (acts xs) zeros moves.ordered;
          explained = lines_explained c well laws lines load first answers all_go zero_record;
          told = record { told = lines_told lines first answers; faulted = faulted };
          answered = λ no_failure. answers_as_book c well laws xs (none_refused no_failure) faulted;
          unfailing = λ no_failure.
              lines_same c well laws lines first answers (none_refused no_failure)
              ∙ ap (drive first []) (sym (lines-driven lines first answers));
          follows = follows;
        }

    -- the lines of a run up to a cut
    pub drove : (events : List Event) (answers : List (List Bool)) (cut : Option ℕ) (old new : D) → (d.values_observable → (unit : Unit) → (d.state old).value unit ≡ 0) → Chain d.Does (acts (until cut (driven c answers events))) old new → Drove d c (until cut (driven c answers events)) old new
    drove events answers cut old new idle given =
        let first : Kept = at_zero c.topology in
        let rest : List Line = rest_until cut (lines_of c events (loaded c)) in
        let is : until cut (driven c answers events) ≡ drive first answers (line_0 c ∷ rest) =
        until-drive cut (run c events) first answers ∙ ap (drive first answers) (until-first cut (line_0 c) (lines_of c events (loaded c)))
        in
        let go : AllGo c (loaded c).book rest = rest-go c cut (loaded c).book (lines_of c events (loaded c)) (run_goes c keeps loads events).1 in
        let moved : Each LineMoved (line_0 c ∷ rest) = subst (Each LineMoved) (until-first cut (line_0 c) (lines_of c events (loaded c))) (until-all LineMoved cut (run c events) (run_moved c events)) in
        subst (λ (xs : List Driven). Drove d c xs old new) (sym is) (drove_from answers rest old new go moved idle (subst (λ (xs : List Driven). Chain d.Does (acts xs) old new) is given))
