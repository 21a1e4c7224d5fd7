-- The lines about a unit beyond the reach of a master are those of the run without its messages.
use Rattle.std.proofs.Common.{◌≡◌, ℕ, ◌+◌, Bool, List, [], ◌∷◌, ◌++◌, Option, None, refl, ap, sym, ◌∙◌}
use Rattle.std.specs.Prelude.{filter, flat_map, map}
use Rattle.pm_base.specs.declared.events.Event.{Event}
use Rattle.pm_base.specs.declared.names.NodeId.{NodeId}
use Rattle.pm_base.specs.declared.names.Unit.{Unit}
use Rattle.pm_topology.specs.WellFormed.{IsWellFormed}
use Rattle.pm_state.specs.Load.{load_of}
use Rattle.pm_state.specs.State.{State}
use Rattle.pm_state.specs.Units.{units}
use Rattle.pm_clock_tree.specs.Tree.{Tree}
use Rattle.pm_board.specs.Board.{Standing}
use Rattle.pm_run.specs.Run.{Line, Setup, fixed_of, run}
use Rattle.pm_laws.specs.Quiet.{quiet}
use Rattle.pm_apply.specs.Part.{Kept}
use Rattle.pm_record.specs.Record.{at_zero}
use Rattle.pm_trace.specs.declared.step.StepLine.TheVariants as told
use Rattle.pm_trace.specs.Step.{step_words}
use Rattle.pm_drive.specs.Drive.{Driven, drive, driven, last_book, last_kept, until}
use Rattle.pm_drive.specs.Clocks.{first_tree, last_tree}
use Rattle.pm_drive.specs.Completed.{completed_in}
use Rattle.pm_drive.proofs.DroveLaw.{lines-driven, until-drive}
use Rattle.pm_apart.specs.Apart.{AreDrivenAlike, IsDrivenAlike, IsOutOfReach, StaysApart, StepsStayApart}
use Rattle.pm_apart.specs.Lines.{clock_lines, closing_line_of, commands_on, is_about, numbered, run_lines, set_lines, step_lines, table_lines}
use Rattle.pm_apart.proofs.Cuts.{until_both}
use Rattle.pm_apart.proofs.FilterLemmas.{parts_alike}
use Rattle.pm_apart.proofs.CompletedLaw.{about_is_deaf, boards_alike}
use Rattle.pm_apart.proofs.RunsLaw.{ReachLaws, runs_alike}
use Rattle.pm_apart.proofs.TablesLaw.{clocks_apart, line_same, table_same}
use Rattle.pm_apart.proofs.TextsLaw.{lines_about}
use Rattle.pm_laws.specs.Border.{AreObjects}

-- equal commands, step by step, have equal lines
set_same : (u : Unit) (n : ℕ) (xs ys : List Driven) → AreDrivenAlike u xs ys → set_lines u n xs ≡ set_lines u n ys
set_same u n [] [] alike = refl
set_same u n [] (y ∷ ys) alike = absurd alike
set_same u n (x ∷ xs) [] alike = absurd alike
set_same u n (x ∷ xs) (y ∷ ys) alike =
    ap (λ ds. map (λ d. numbered n (step_words (told.Command d))) ds ++ set_lines u (n + 1) xs) alike.0
    ∙ ap (λ lines. map (λ d. numbered n (step_words (told.Command d))) (commands_on u y) ++ lines) (set_same u (n + 1) xs ys alike.1)

module _ (laws : ReachLaws) (c : Setup) (m : NodeId) (events : List Event) (u : Unit) (object : AreObjects (fixed_of c)) (chip : IsWellFormed c.topology)
    (beyond : IsOutOfReach c m u) where
  abbrev loud : List Driven
  loud = driven c [] events

  abbrev still : List Driven
  still = driven c [] (quiet m events)

  abbrev book : List Driven → State
  book xs = last_book (load_of c.object c.attached c.topology) xs

  abbrev kept : List Driven → Kept
  kept xs = last_kept (at_zero c.topology) xs

  pub commands_apart : AreDrivenAlike u loud still
  commands_apart = (runs_alike laws c m u object chip beyond events).commands

  pub closing_apart : closing_line_of c loud u ≡ closing_line_of c still u
  closing_apart = line_same laws c m u object chip beyond (book loud) (book still) (kept loud) (kept still) (runs_alike laws c m u object chip beyond events).end

  -- of the lines up to a cut
  book_steps_apart : (cut : Option ℕ) → filter (is_about u) (step_lines 0 (until cut loud)) ≡ filter (is_about u) (step_lines 0 (until cut still))
  book_steps_apart cut =
      lines_about u 0 (until cut loud)
      ∙ (set_same u 0 (until cut loud) (until cut still) (until_both (IsDrivenAlike u) cut loud still commands_apart) ∙ sym (lines_about u 0 (until cut still)))

  -- so with any two boards
  pub steps_apart : (board other : Standing) (cut : Option ℕ)
      → filter (is_about u) (step_lines 0 (completed_in c board (until cut loud))) ≡ filter (is_about u) (step_lines 0 (completed_in c other (until cut still)))
  steps_apart board other cut = boards_alike (is_about u) (about_is_deaf u) c board other (until cut loud) (until cut still) (book_steps_apart cut)

  -- of the closing tables
  tables_apart : filter (is_about u) (table_lines c loud) ≡ filter (is_about u) (table_lines c still)
  tables_apart =
      let first : Tree = last_tree (first_tree c) loud in
      let second : Tree = last_tree (first_tree c) still in
      parts_alike (is_about u) (flat_map (closing_line_of c loud) (units (book loud))) (clock_lines first)
      (flat_map (closing_line_of c still) (units (book still))) (clock_lines second)
      (table_same laws c m u object chip beyond (book loud) (book still) (kept loud) (kept still) (runs_alike laws c m u object chip beyond events).end)
      (clocks_apart u first ∙ sym (clocks_apart u second))

  pub run_apart : (board other : Standing) → filter (is_about u) (run_lines c board [] events) ≡ filter (is_about u) (run_lines c other [] (quiet m events))
  run_apart board other =
      parts_alike (is_about u) (step_lines 0 (completed_in c board loud)) (table_lines c loud) (step_lines 0 (completed_in c other still)) (table_lines c still)
      (steps_apart board other None)
      tables_apart

-- ---- a device that reported no failure

-- the lines up to a cut, over one that never fails
abbrev FollowsUntil : Setup → List (List Bool) → List Event → Option ℕ → Type 0
FollowsUntil c answers events cut =
    until cut (driven c answers events) ≡ drive (at_zero c.topology) [] (map (λ (x : Driven). x.line) (until cut (driven c answers events)))

-- are those of the run over one that never fails
unfailing_run : (c : Setup) (answers : List (List Bool)) (events : List Event) (cut : Option ℕ)
    → FollowsUntil c answers events cut → until cut (driven c answers events) ≡ until cut (driven c [] events)
unfailing_run c answers events cut is =
    let first = at_zero c.topology in
    let lines : List Line = until cut (run c events) in
    is
    ∙ (ap (λ (xs : List Driven). drive first [] (map (λ (x : Driven). x.line) xs)) (until-drive cut (run c events) first answers)
    ∙ (ap (drive first []) (lines-driven lines first answers) ∙ sym (until-drive cut (run c events) first [])))

pub run_by : (c : Setup) (answers : List (List Bool)) (events : List Event) → FollowsUntil c answers events None
    → StaysApart c [] events → StaysApart c answers events
run_by c answers events is apart board other m unit beyond =
    ap (λ xs. filter (is_about unit) (step_lines 0 (completed_in c board xs) ++ table_lines c xs)) (unfailing_run c answers events None is)
    ∙ apart board other m unit beyond

pub steps_by : (c : Setup) (answers : List (List Bool)) (events : List Event) (cut : Option ℕ) → FollowsUntil c answers events cut
    → StepsStayApart c [] events cut → StepsStayApart c answers events cut
steps_by c answers events cut is apart board other m unit beyond =
    ap (λ xs. filter (is_about unit) (step_lines 0 (completed_in c board xs))) (unfailing_run c answers events cut is) ∙ apart board other m unit beyond
