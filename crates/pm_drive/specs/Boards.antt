-- Whatever modules and tasks a board brings to a run, what is told changes, and nothing else; and so it is with the clocks.
use Rattle.std.specs.Prelude.{◌≡◌, List, map, Option, ℕ}
use Rattle.pm_base.specs.declared.events.Event.{Event}
use Rattle.pm_board.specs.Board.{Standing}
use Rattle.pm_state.specs.State.{State}
use Rattle.pm_apply.specs.Part.{Kept}
use Rattle.pm_drive.specs.Drive.{Driven, acts, last_book, last_kept, until}
use Rattle.pm_clock_tree.specs.Tree.{Tree}
use Rattle.pm_drive.specs.Clocks.{clocked_by, clocked_cores}
use Rattle.pm_drive.specs.Completed.{completed_by, completed_cores, last_board}
use Rattle.pm_drive.specs.Lowered.{given_in}

-- the event of a driven line
abbrev pub event_of : Driven → Event
event_of x = x.line.event

-- driven lines, as they are told where they find a board, are those of the same events. Their core steps follow one another
-- with the same books, outputs and commands, and with the answers as they are told; the same is done to the device; and they
-- end with the same book and the same kept values. Where the text breaks off, the lines up to there are told as they are in the whole
pub record LeavesRun (board : Standing) (xs : List Driven) : Type 0 where
  pub events : map event_of (completed_by board xs) ≡ map event_of xs
  pub steps : given_in (completed_by board xs) ≡ completed_cores board.modules (given_in xs)
  pub done : acts (completed_by board xs) ≡ acts xs
  pub book : (book : State) → last_book book (completed_by board xs) ≡ last_book book xs
  pub kept : (kept : Kept) → last_kept kept (completed_by board xs) ≡ last_kept kept xs
  pub front : (cut : Option ℕ) → until cut (completed_by board xs) ≡ completed_by board (until cut xs)

-- so it is with the clocks of the book, which driven lines find so: of their core steps the answers to calls on clocks are those of
-- the clocks, and nothing else is changed
pub record ClocksLeaveRun (tree : Tree) (xs : List Driven) : Type 0 where
  pub events : map event_of (clocked_by tree xs) ≡ map event_of xs
  pub steps : given_in (clocked_by tree xs) ≡ clocked_cores tree (given_in xs)
  pub done : acts (clocked_by tree xs) ≡ acts xs
  pub book : (book : State) → last_book book (clocked_by tree xs) ≡ last_book book xs
  pub kept : (kept : Kept) → last_kept kept (clocked_by tree xs) ≡ last_kept kept xs
  pub board : (board : Standing) → last_board board (clocked_by tree xs) ≡ last_board board xs
  pub front : (cut : Option ℕ) → until cut (clocked_by tree xs) ≡ clocked_by tree (until cut xs)
