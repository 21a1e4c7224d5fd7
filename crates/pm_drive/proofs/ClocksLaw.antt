-- Whatever clocks driven lines find, what is told of them changes, and nothing else.
use Rattle.std.proofs.Common.{◌≡◌, ℕ, ◌+◌, List, [], ◌∷◌, ◌++◌, take, Option, Some, None, refl, sym, ap, ◌∙◌, zero, suc}
use Rattle.std.specs.Prelude.{map}
use Rattle.pm_base.specs.declared.events.Event.{Event}
use Rattle.pm_device.specs.Act.{Act}
use Rattle.pm_clock_tree.specs.Tree.{Tree}
use Rattle.pm_board.specs.Board.{Standing, board_after}
use Rattle.pm_state.specs.State.{State}
use Rattle.pm_apply.specs.Part.{Kept, orders_of}
use Rattle.pm_drive.specs.Boards.{ClocksLeaveRun, event_of}
use Rattle.pm_clocks.specs.Clocked.{tree_after_core}
use Rattle.pm_drive.specs.Clocks.{clocked_by, clocked_core, clocked_cores, clocked_line, last_tree, tree_along}
use Rattle.pm_drive.specs.Drive.{Driven, Given, acts, last_book, last_kept, orders_in_cores, rigs, until}
use Rattle.pm_drive.specs.Completed.{last_board}
use Rattle.pm_drive.specs.Lowered.{given_in}

-- ---- core steps in two parts

pub cores_join : (tree : Tree) (first later : List Given) → clocked_cores tree (first ++ later) ≡ clocked_cores tree first ++ clocked_cores (tree_along first tree) later
cores_join tree [] later = refl
cores_join tree (g ∷ first) later =
    ap (λ (more : List Given). clocked_core tree g ∷ more) (cores_join (tree_after_core g.core tree) first later)

pub along_join : (tree : Tree) (first later : List Given) → tree_along (first ++ later) tree ≡ tree_along later (tree_along first tree)
along_join tree [] later = refl
along_join tree (g ∷ first) later = along_join (tree_after_core g.core tree) first later

-- the tree after lines is that after their core steps
pub tree_in : (tree : Tree) (xs : List Driven) → last_tree tree xs ≡ tree_along (given_in xs) tree
tree_in tree [] = refl
tree_in tree (x ∷ xs) = tree_in (tree_along x.cores tree) xs ∙ sym (along_join tree x.cores (given_in xs))

-- ---- what stays

-- the commands of core steps are those of the steps as they are told
orders_clocked : (tree : Tree) (given : List Given) → orders_in_cores (clocked_cores tree given) ≡ orders_in_cores given
orders_clocked tree [] = refl
orders_clocked tree (g ∷ given) =
    ap (λ (more : List Act). orders_of g.part.commands ++ more) (orders_clocked (tree_after_core g.core tree) given)

events_clocked : (tree : Tree) (xs : List Driven) → map event_of (clocked_by tree xs) ≡ map event_of xs
events_clocked tree [] = refl
events_clocked tree (x ∷ xs) = ap (λ (events : List Event). x.line.event ∷ events) (events_clocked (tree_along x.cores tree) xs)

steps_clocked : (tree : Tree) (xs : List Driven) → given_in (clocked_by tree xs) ≡ clocked_cores tree (given_in xs)
steps_clocked tree [] = refl
steps_clocked tree (x ∷ xs) =
    ap (λ (more : List Given). clocked_cores tree x.cores ++ more) (steps_clocked (tree_along x.cores tree) xs)
    ∙ sym (cores_join tree x.cores (given_in xs))

acts_clocked : (tree : Tree) (xs : List Driven) → acts (clocked_by tree xs) ≡ acts xs
acts_clocked tree [] = refl
acts_clocked tree (x ∷ xs) =
    ap (λ (orders : List Act). (rigs x.line.event ++ orders) ++ acts (clocked_by (tree_along x.cores tree) xs)) (orders_clocked tree x.cores)
    ∙ ap (λ (more : List Act). (rigs x.line.event ++ orders_in_cores x.cores) ++ more) (acts_clocked (tree_along x.cores tree) xs)

book_clocked : (tree : Tree) (xs : List Driven) (book : State) → last_book book (clocked_by tree xs) ≡ last_book book xs
book_clocked tree [] book = refl
book_clocked tree (x ∷ xs) book = book_clocked (tree_along x.cores tree) xs x.line.after.book

kept_clocked : (tree : Tree) (xs : List Driven) (kept : Kept) → last_kept kept (clocked_by tree xs) ≡ last_kept kept xs
kept_clocked tree [] kept = refl
kept_clocked tree (x ∷ xs) kept = kept_clocked (tree_along x.cores tree) xs x.kept

pub board_clocked : (tree : Tree) (xs : List Driven) (board : Standing) → last_board board (clocked_by tree xs) ≡ last_board board xs
board_clocked tree [] board = refl
board_clocked tree (x ∷ xs) board = board_clocked (tree_along x.cores tree) xs (board_after x.line.event board)

-- ---- first lines

front_of : (n : ℕ) (tree : Tree) (xs : List Driven) → take n (clocked_by tree xs) ≡ clocked_by tree (take n xs)
front_of zero tree xs = refl
front_of (suc n) tree [] = refl
front_of (suc n) tree (x ∷ xs) = ap (λ (ys : List Driven). clocked_line tree x ∷ ys) (front_of n (tree_along x.cores tree) xs)

pub until_clocked : (cut : Option ℕ) (tree : Tree) (xs : List Driven) → until cut (clocked_by tree xs) ≡ clocked_by tree (until cut xs)
until_clocked None tree xs = refl
until_clocked (Some k) tree xs = front_of (k + 1) tree xs

pub clocks_leave_run : (tree : Tree) (xs : List Driven) → ClocksLeaveRun tree xs
clocks_leave_run tree xs = record {
  events = events_clocked tree xs;
  steps = steps_clocked tree xs;
  done = acts_clocked tree xs;
  book = book_clocked tree xs;
  kept = kept_clocked tree xs;
  board = board_clocked tree xs;
  front = λ cut. until_clocked cut tree xs;
}
