-- Whatever a board brings, what is told of driven lines changes, and nothing else.
use Rattle.std.proofs.Common.{◌≡◌, ℕ, ◌+◌, List, [], ◌∷◌, ◌++◌, take, Option, Some, None, refl, sym, ap, ◌∙◌, zero, suc}
use Rattle.std.specs.Prelude.{map}
use Rattle.std.proofs.lemmas.List.{map-append}
use Rattle.pm_base.specs.declared.events.Event.{Event}
use Rattle.pm_device.specs.Act.{Act}
use Rattle.pm_modules.specs.Ranges.{Ranged}
use Rattle.pm_board.specs.Board.{Standing, board_after}
use Rattle.pm_state.specs.State.{State}
use Rattle.pm_apply.specs.Part.{Kept, orders_of}
use Rattle.pm_drive.specs.Boards.{LeavesRun, event_of}
use Rattle.pm_drive.specs.Drive.{Driven, Given, acts, last_book, last_kept, orders_in_cores, rigs, until}
use Rattle.pm_drive.specs.Completed.{completed_by, completed_cores, completed_line, completed_core}
use Rattle.pm_drive.specs.Lowered.{given_in}

-- the commands of core steps are those of the steps as they are told
pub orders_completed : (modules : List Ranged) (given : List Given) → orders_in_cores (completed_cores modules given) ≡ orders_in_cores given
orders_completed modules [] = refl
orders_completed modules (g ∷ given) = ap (λ (more : List Act). orders_of g.part.commands ++ more) (orders_completed modules given)

events_completed : (board : Standing) (xs : List Driven) → map event_of (completed_by board xs) ≡ map event_of xs
events_completed board [] = refl
events_completed board (x ∷ xs) = ap (λ (events : List Event). x.line.event ∷ events) (events_completed (board_after x.line.event board) xs)

steps_completed : (board : Standing) (xs : List Driven) → given_in (completed_by board xs) ≡ completed_cores board.modules (given_in xs)
steps_completed board [] = refl
steps_completed board (x ∷ xs) =
    ap (λ (more : List Given). completed_cores board.modules x.cores ++ more) (steps_completed (board_after x.line.event board) xs)
    ∙ sym (map-append (completed_core board.modules) x.cores (given_in xs))

pub acts_completed : (board : Standing) (xs : List Driven) → acts (completed_by board xs) ≡ acts xs
acts_completed board [] = refl
acts_completed board (x ∷ xs) =
    ap (λ (orders : List Act). (rigs x.line.event ++ orders) ++ acts (completed_by (board_after x.line.event board) xs)) (orders_completed board.modules x.cores)
    ∙ ap (λ (more : List Act). (rigs x.line.event ++ orders_in_cores x.cores) ++ more) (acts_completed (board_after x.line.event board) xs)

pub book_completed : (board : Standing) (xs : List Driven) (book : State) → last_book book (completed_by board xs) ≡ last_book book xs
book_completed board [] book = refl
book_completed board (x ∷ xs) book = book_completed (board_after x.line.event board) xs x.line.after.book

pub kept_completed : (board : Standing) (xs : List Driven) (kept : Kept) → last_kept kept (completed_by board xs) ≡ last_kept kept xs
kept_completed board [] kept = refl
kept_completed board (x ∷ xs) kept = kept_completed (board_after x.line.event board) xs x.kept

-- ---- first lines

pub front_of : (n : ℕ) (board : Standing) (xs : List Driven) → take n (completed_by board xs) ≡ completed_by board (take n xs)
front_of zero board xs = refl
front_of (suc n) board [] = refl
front_of (suc n) board (x ∷ xs) = ap (λ (ys : List Driven). completed_line board x ∷ ys) (front_of n (board_after x.line.event board) xs)

pub until_completed : (cut : Option ℕ) (board : Standing) (xs : List Driven) → until cut (completed_by board xs) ≡ completed_by board (until cut xs)
until_completed None board xs = refl
until_completed (Some k) board xs = front_of (k + 1) board xs

pub leaves_run : (board : Standing) (xs : List Driven) → LeavesRun board xs
leaves_run board xs = record {
  events = events_completed board xs;
  steps = steps_completed board xs;
  done = acts_completed board xs;
  book = book_completed board xs;
  kept = kept_completed board xs;
  front = λ cut. until_completed cut board xs;
}
