-- A controller between two calls, and what its step comes to.
use Rattle.std.specs.Prelude.{ℕ, Bool, if◌then◌else◌, List, ◌++◌, Option, Some, None, ◌==◌, ◌&&◌, is_none}
use Rattle.std.specs.List.{list_all}
use Rattle.pm_base.specs.declared.names.Command.{Command}
use Rattle.pm_base.specs.declared.names.NodeId.{NodeId}
use Rattle.pm_base.specs.declared.names.Unit.{Unit}
use Rattle.pm_base.specs.declared.names.Unit.TheVariants.{Node}
use Rattle.pm_base.specs.declared.names.Mode.{Mode}
use Rattle.pm_topology.specs.declared.topology.Topology.{Topology}
use Rattle.pm_topology.specs.declared.places.Kind.{Kind}
use Rattle.pm_topology.specs.declared.places.Kind.TheVariants.{Proc}
use Rattle.pm_topology.specs.Places.{kind_of}
use Rattle.pm_topology.specs.Units.{has_unit}
use Rattle.pm_state.specs.Nodes.{mode}
use Rattle.pm_state.specs.State.{State}
use Rattle.pm_state.specs.Units.{units}
use Rattle.pm_state.specs.Values.{value}
use Rattle.pm_core.specs.declared.outbox.Done.{Done}
use Rattle.pm_core.specs.declared.outbox.Outbox.{Outbox}
use Rattle.pm_core.specs.Outbox.{Outputs, outputs_in}
use Rattle.pm_apply.specs.declared.carrying.Carrying.{Carrying}
use Rattle.pm_apply.specs.Failing.{falls_short, told_answer}
use Rattle.pm_apply.specs.Left.{turns_left}
use Rattle.pm_apply.specs.Part.{Part, part_in}
use Rattle.pm_apply.specs.Plan.{Carried, plan}
use Rattle.pm_record.specs.Record.{Kept, kept_value, marked}
use Rattle.pm_trace.specs.Step.{notices_in, step_text}

-- the book; the values that the device last took; what the last step put out, with its commands that were answered; the turns that
-- are left of it; and the command that waits for its answer, if one does
pub record Controls : Type 0 where
  pub book : State
  pub kept : Kept
  pub outbox : Outbox
  pub left : Carrying
  pub waits : Option Command

abbrev pub chip_of : Controls → Topology
chip_of c = c.book.fixed.topology

-- ---- what the step comes to

-- the part of a step that had these commands, and then these others, which left the record so
abbrev pub part_with : State → Outputs → List Done → Carried → Part
part_with book outputs done later =
    let after = marked (λ u. value u book) later.kept in
    record {
      commands = done ++ later.done;
      kept = after;
      answer = told_answer (falls_short (λ u. value u book) outputs.moved outputs.pulse (done ++ later.done) after) outputs.answer;
    }

-- the commands of the turns that are left, under these answers of the device, of which one that isn't given is a yes
abbrev pub later_commands : Controls → List Bool → Carried
later_commands c answers = plan (chip_of c) (λ u. value u c.book) (turns_left (chip_of c) c.outbox.pulse c.left) c.kept answers

-- under these further answers the step comes to the commands that were answered and those of the turns that are left; where no
-- command waits it is over, and this is what it came to
abbrev pub coming_where : Controls → Option Command → List Bool → Part
coming_where c None answers = part_in c.kept c.outbox
coming_where c (Some command) answers = part_with c.book (outputs_in c.outbox) c.outbox.done.items (later_commands c answers)

abbrev pub coming : Controls → List Bool → Part
coming c answers = coming_where c c.waits answers

-- ---- what is read of it

-- the value of a node in the book, where the chip has it
abbrev pub value_of : NodeId → Controls → Option ℕ
value_of node c = if has_unit (chip_of c) (Node node) then Some (value (Node node) c.book) else None

-- the mode of a processor, where the chip has it
abbrev pub mode_where : NodeId → State → Kind → Option Mode
mode_where node book (Proc place) = Some (mode node book)
mode_where node book _ = None

abbrev pub mode_of : NodeId → Controls → Option Mode
mode_of node c = mode_where node c.book (kind_of (chip_of c) node)

-- the lines of the last step, each after this number
abbrev pub text_of : ℕ → Controls → List ℕ
text_of n c = step_text n c.outbox.done.items (notices_in c.outbox) c.outbox.answer

-- the device last took the book's value for a unit
abbrev pub stands_at : State → Kept → Unit → Bool
stands_at book kept unit = kept_value kept unit == value unit book

-- no command waits, and the device last took the book's value for each unit of the chip
abbrev pub is_settled : Controls → Bool
is_settled c = is_none c.waits && list_all (stands_at c.book c.kept) (units c.book)
