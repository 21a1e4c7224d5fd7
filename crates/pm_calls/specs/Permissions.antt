-- The permission that each call needs, by the records of the object in force.
use Rattle.std.specs.Prelude.{◌≡◌, ℕ, ◌==◌, ◌&&◌, ◌||◌, Bool, true, false, Option, Some, None}
use Rattle.pm_base.specs.declared.names.NodeId.{NodeId}
use Rattle.pm_ipi.specs.declared.calls.Call.{Call}
use Rattle.pm_ipi.specs.declared.calls.Call.TheVariants as call
use Rattle.pm_perms.specs.Permits.{may_configure, may_force, may_reset, may_shut, may_suspend, may_use, may_wake}
use Rattle.pm_topology.specs.declared.places.Kind.{Kind}
use Rattle.pm_topology.specs.declared.places.Kind.TheVariants.{Proc, Slave, Power}
use Rattle.pm_topology.specs.Places.{kind_of}
use Rattle.pm_base.specs.Places.{is_place}
use Rattle.pm_state.specs.Members.{owner_at}
use Rattle.pm_state.specs.Nodes.{named_master}
use Rattle.pm_state.specs.Sound.{IsSound, is_own}
use Rattle.pm_state.specs.State.{Fixed, State, in_force}
use Rattle.pm_state.specs.Values.{master_place}
use Rattle.pm_calls.specs.calls.{called}

-- the caller may use the slave
abbrev pub uses : NodeId → NodeId → State → Bool
uses master slave book = may_use (in_force book) book.fixed.topology master slave

-- the node is a processor of the caller, which is the master at place m
abbrev pub has : ℕ → NodeId → State → Bool
has m proc book = is_own book.fixed m (kind_of book.fixed.topology proc)

-- the caller may be told of a node of this kind: of a slave that it may use, and of any power node
abbrev pub may_be_told : NodeId → NodeId → Kind → State → Bool
may_be_told master node (Slave s) book = uses master node book
may_be_told master node (Power w) book = true
may_be_told master node _ book = false

-- the place of the processor's owner; none if the kind is no processor, or no configured master has it
abbrev pub owner_of : Fixed → Kind → Option ℕ
owner_of fixed (Proc p) = owner_at fixed.object fixed.topology p
owner_of fixed _ = None

-- the permission that a call needs of the master at place m. A call on a slave needs that the caller may use it, and
-- a call on a processor that it is the caller's own. A request to another master needs that the caller may suspend or
-- wake that one; its own it may wake. The other calls need their own permissions. Calls that only read, and the end
-- of the initialization, need none
abbrev pub IsPermission : ℕ → NodeId → Call → State → Bool → Type 0
IsPermission m master (call.SetConfiguration address) book permitted =
    permitted ≡ may_configure (in_force book) book.fixed.topology master
IsPermission m master (call.RegisterNotifier node event wake enable) book permitted =
    permitted ≡ may_be_told master node (kind_of book.fixed.topology node) book
IsPermission m master (call.RequestSuspend node ack latency state) book permitted =
    (other : NodeId) → named_master book.fixed node ≡ master_place other book
    → permitted ≡ may_suspend (in_force book) book.fixed.topology master other
IsPermission m master (call.SelfSuspend node address) book permitted = permitted ≡ has m node book
IsPermission m master (call.ForcePowerdown node ack) book permitted =
    permitted ≡ may_force (in_force book) book.fixed.topology master node
IsPermission m master (call.AbortSuspend node reason) book permitted = permitted ≡ has m node book
IsPermission m master (call.RequestWakeup node address ack) book permitted =
    (other : NodeId) → owner_of book.fixed (kind_of book.fixed.topology node) ≡ master_place other book
    → permitted ≡ (is_place m (master_place other book) || may_wake (in_force book) book.fixed.topology master other)
IsPermission m master (call.SetWakeupSource target source enable) book permitted =
    permitted ≡ (has m target book && uses master source book)
IsPermission m master (call.SystemShutdown shutdown_type subtype) book permitted =
    permitted ≡ ((shutdown_type == 2) || may_shut (in_force book) book.fixed.topology master subtype)
IsPermission m master (call.RequestNode node caps ack) book permitted = permitted ≡ uses master node book
IsPermission m master (call.ReleaseNode node) book permitted = permitted ≡ uses master node book
IsPermission m master (call.SetRequirement node caps ack) book permitted = permitted ≡ uses master node book
IsPermission m master (call.SetMaxLatency node latency) book permitted = permitted ≡ uses master node book
IsPermission m master (call.ResetAssert line action) book permitted =
    permitted ≡ may_reset (in_force book) book.fixed.topology master line
IsPermission m master _ book permitted = permitted ≡ true

-- for each call of a configured master, in every sound book, the fifth check is that the object in force permits it
abbrev pub ArePermissions : Type 0
ArePermissions = (m : ℕ) (master : NodeId) (call : Call) (book : State)
    → IsSound book → master_place master book ≡ Some m
    → IsPermission m master call book (called m call book).checks.permitted
