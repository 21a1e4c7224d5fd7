-- The clocks over a book: what they read of it, and what a core step does to them.
use Rattle.std.specs.Prelude.{◌≡◌, ◌==◌, Bool, not, ◌&&◌, List, is_some, map, Option, Some, None}
use Rattle.std.specs.Option.{option_map}
use Rattle.pm_base.specs.declared.names.Mode.TheVariants.{Off}
use Rattle.pm_base.specs.declared.names.NodeId.{NodeId}
use Rattle.pm_base.specs.declared.names.Unit.{Unit}
use Rattle.pm_base.specs.declared.names.Unit.TheVariants.{Node}
use Rattle.pm_base.specs.declared.events.Event.{Event}
use Rattle.pm_base.specs.declared.events.Event.TheVariants.{Ipi}
use Rattle.pm_ipi.specs.declared.responses.Response.{Response}
use Rattle.pm_object.specs.declared.object.MasterRec.{MasterRec}
use Rattle.pm_topology.specs.declared.places.Kind.{Kind}
use Rattle.pm_topology.specs.Places.{kind_of, slave_of}
use Rattle.pm_perms.specs.Permits.{may_use}
use Rattle.pm_procs.specs.Modes.{same_mode}
use Rattle.pm_state.specs.Nodes.{master_mode}
use Rattle.pm_state.specs.State.{State, in_force}
use Rattle.pm_state.specs.Values.{value}
use Rattle.pm_core.specs.declared.replies.Answer.{Answer}
use Rattle.pm_core.specs.declared.replies.Answer.TheVariants.{Reply}
use Rattle.pm_core.specs.Step.{effect, outputs}
use Rattle.pm_run.specs.Run.{Core}
use Rattle.pm_clock_tree.specs.declared.calls.ClockCall.{ClockCall}
use Rattle.pm_clock_tree.specs.Calls.{clock_call}
use Rattle.pm_clock_tree.specs.Followed.{Stands, after_step}
use Rattle.pm_clock_tree.specs.Served.{response}
use Rattle.pm_clock_tree.specs.Told.{Clocked, loaded_clocks}
use Rattle.pm_clock_tree.specs.Tree.{Seen, Tree, loaded}

-- ---- the part of a book that clocks read

-- a node of this kind is a slave
abbrev pub is_slave : Kind → Bool
is_slave kind = is_some (slave_of kind)

-- a slave of the chip is in a state other than 0
abbrev pub is_on : State → NodeId → Bool
is_on book node = is_slave (kind_of book.fixed.topology node) && not (value (Node node) book == 0)

abbrev pub view_of : State → Seen
view_of book = record {
  is_off = λ master. same_mode (master_mode master book) Off;
  may_use = λ master slave. may_use (in_force book) book.fixed.topology master slave;
  is_on = is_on book;
}

-- the nodes of the masters, in object order
abbrev pub node_of : MasterRec → NodeId
node_of master = record { 0 = master.node }

abbrev pub masters_of : State → List NodeId
masters_of book = map node_of book.fixed.object.masters

-- ---- the clocks at load

abbrev pub tree_of : State → Tree
tree_of book = loaded (masters_of book) (view_of book)

abbrev pub clocks_of : State → Clocked
clocks_of book = loaded_clocks (masters_of book) (view_of book)

-- ---- a core step

-- the call on a clock that a core event makes, with its sender, if the book replies to it; a dropped message makes
-- none
abbrev pub made : Event → Answer → Option (NodeId × ClockCall)
made (Ipi sender message) (Reply master reply) = option_map (λ call. (sender, call)) (clock_call message)
made event answer = None

-- the clock tree after a core event, by the event, the book's answer and the book after it
abbrev pub tree_after : Event → Answer → State → Tree → Tree
tree_after event answer book tree = after_step (view_of book) (made event answer) tree

-- the tree after a core step: the book's own answer says whether a call on a clock was made. No device occurs in it
abbrev pub tree_after_core : Core → Tree → Tree
tree_after_core core tree = tree_after core.event core.outputs.answer core.after tree

-- a reply with this response in place of its own; any other answer stays
abbrev pub with_response : Response → Answer → Answer
with_response response (Reply master reply) = Reply master response
with_response response answer = answer

-- the answer that is told: with the clocks' response if they served a call, else the book's
abbrev pub answered : Seen → Tree → Option (NodeId × ClockCall) → Answer → Answer
answered seen tree None answer = answer
answered seen tree (Some call) answer = with_response (response seen call.0 call.1 tree) answer

abbrev pub clock_answer : Event → Answer → State → Tree → Answer
clock_answer event answer book tree = answered (view_of book) tree (made event answer) answer

-- the clocks fit a book: no master enables a clock while it is off or may not use the clock's slave, and each root is
-- as its slave is
abbrev pub StandsOver : State → Tree → Type 0
StandsOver book tree = Stands (view_of book) tree

-- this event stepped a book that the clocks fitted to this book, and these units moved
pub record HasStepped (event : Event) (units : List Unit) (tree : Tree) (after : State) : Type 0 where
  pub before : State
  pub book : after ≡ effect event before
  pub moved : units ≡ (outputs event before).moved
  pub stood : StandsOver before tree
