-- Where a run stands, with what its last core step put out.
use Rattle.std.specs.Prelude.{◌≡◌}
use Rattle.pm_base.specs.declared.events.Event.{Event}
use Rattle.pm_split.specs.Boxes.{Boxes}
use Rattle.pm_run.specs.Run.{Stand}
use Rattle.pm_core.specs.declared.outbox.Outbox.{Outbox}
use Rattle.pm_clock_tree.specs.Told.{Clocked}
use Rattle.pm_clock_tree.specs.Tree.{Tree}
use Rattle.pm_clocks.specs.Clocked.{StandsOver, clock_answer, clocks_of, tree_after}
use Rattle.pm_state.specs.State.{State}
use Rattle.pm_core.specs.Step.{outputs}
use Rattle.pm_apply.specs.Part.{Kept, answers_in, part_in, part_of}
use Rattle.pm_drive.specs.Clocks.{clocked_part}

-- the book, the values that the device last took, the outbox of the last step, the boxes of the masters, and the clocks with what
-- was told of them
pub record Progress : Type 0 where
  pub book : State
  pub kept : Kept
  pub outbox : Outbox
  pub boxes : Boxes
  pub clocks : Clocked

abbrev pub stand_in : Progress → Stand
stand_in now = record { book = now.book; boxes = now.boxes }

-- a clock tree stands over a book
pub record IsOver (book : State) (tree : Tree) : Type 0 where
  pub stands : StandsOver book tree

-- clocks are those of a book at load
pub record AreOf (book : State) (clocks : Clocked) : Type 0 where
  pub are : clocks ≡ clocks_of book
  pub over : IsOver book clocks.tree

-- after a core event, after which the book is this, clocks and the outbox went on so: the clocks' answer is in the outbox
pub record Follow (event : Event) (book : State) (before after : Outbox) (old new : Clocked) : Type 0 where
  pub clocks : new ≡ record old { tree = tree_after event before.answer book old.tree }
  pub out : after ≡ record before { answer = clock_answer event before.answer book old.tree }
  pub over : IsOver book new.tree

-- a core event was carried out: what the device was given, and the clocks after it
pub record HasGoneOn (event : Event) (old new : Progress) : Type 0 where
  pub part : part_in new.kept new.outbox
      ≡ clocked_part event new.book old.clocks.tree (part_of old.kept (answers_in new.outbox) new.book (outputs event old.book))
  pub clocks : new.clocks ≡ record old.clocks { tree = tree_after event (outputs event old.book).answer new.book old.clocks.tree }
