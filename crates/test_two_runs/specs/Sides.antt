-- Two books side by side, one of them without the messages of a master.
use Rattle.std.specs.List.{list_any}
use Rattle.std.specs.Prelude.{◌==◌, IsTrue}
use Rattle.pm_base.specs.declared.names.NodeId.{NodeId}
use Rattle.pm_object.specs.declared.attached.Attached.{Attached}
use Rattle.pm_object.specs.declared.attached.Content.TheVariants as content
use Rattle.pm_object.specs.declared.object.MasterRec.{MasterRec}
use Rattle.pm_object.specs.declared.object.Object.{Object}
use Rattle.pm_state.specs.State.{State}
use Rattle.pm_laws.specs.Agree.{Agree}
use Rattle.pm_laws.specs.Border.{AreObjects}
use Rattle.pm_laws.specs.Left.{border_in}

-- both books have the same object, which has the master, and the same attached objects; all that can be put in force
-- is well formed; and the books agree beyond the reach
pub record AreSides (m : NodeId) (loud quiet : State) : Type 0 where
  pub object : AreObjects loud.fixed
  pub named : IsTrue (list_any (λ (r : MasterRec). r.node == m.0) loud.fixed.object.masters)
  pub agree : Agree (border_in loud m) loud quiet

-- an object that is attached at address 4096
abbrev pub at_4096 : Object → Attached
at_4096 object = record { address = 4096; content = content.Object object }
