-- The part of the book that the calls read.
use Rattle.std.specs.Prelude.{ℕ, Bool, true, false, ◌==◌, ◌||◌, List, slice_get, if◌then◌else◌, is_some, Option, Some, None, option_map}
use Rattle.std.specs.Option.{option_map_or}
use Rattle.pm_base.specs.declared.names.NodeId.{NodeId}
use Rattle.pm_object.specs.declared.object.MasterRec.{MasterRec}
use Rattle.pm_calls.specs.declared.views.RowView.{RowView}
use Rattle.pm_calls.specs.declared.views.StatusView.{StatusView}
use Rattle.pm_calls.specs.declared.views.ProcView.{ProcView}
use Rattle.pm_calls.specs.declared.views.WakeView.{WakeView}
use Rattle.pm_calls.specs.declared.views.Wakeable.{Wakeable}
use Rattle.pm_calls.specs.declared.views.SuspendView.{SuspendView}
use Rattle.pm_calls.specs.declared.views.Suspendable.{Suspendable}
use Rattle.pm_calls.specs.declared.views.Watched.{Watched}
use Rattle.pm_calls.specs.declared.views.Watched.TheVariants.{Nothing, PowerNode, SlaveNode}
use Rattle.pm_rows.specs.Rows.{entry_at, rival_of, now_of, usage_of}
use Rattle.pm_topology.specs.declared.places.Kind.{Kind}
use Rattle.pm_topology.specs.declared.places.Kind.TheVariants.{Proc, Slave, Power, Unknown}
use Rattle.pm_topology.specs.Places.{kind_of}
use Rattle.pm_procs.specs.declared.procs.Proc.{Proc as Processor}
use Rattle.pm_procs.specs.Procs.{proc_at}
use Rattle.pm_state.specs.Members.{owner_at, owns, mode_of_master}
use Rattle.pm_base.specs.Masters.{is_master_number}
use Rattle.pm_grants.specs.Grants.{permits_suspend, permits_use, permits_wake}
use Rattle.pm_procs.specs.Pending.{pending_at}
use Rattle.pm_state.specs.Values.{slave_place, point_at}
use Rattle.pm_state.specs.State.{Fixed, State, grants_in, in_force}
use Rattle.pm_state.specs.Nodes.{master_node, named_master}

-- the node of another master that uses the slave at place s, if the slave can't be shared
abbrev pub rival_node : ℕ → ℕ → State → Option NodeId
rival_node m s book = option_map (master_node book.fixed.object.masters) (rival_of m s book.now.core.rows)

abbrev pub row_view_at : ℕ → Option ℕ → State → RowView
row_view_at m None book = record { slave = None; entry = None; rival = None }
row_view_at m (Some s) book = record {
  slave = Some s;
  entry = entry_at m s book.now.core.rows;
  rival = rival_node m s book;
}

-- what the master at place m sees of its row on a slave: the slave's place; the row, if the pair is permitted; and
-- the other master that uses the slave, if it can't be shared
abbrev pub row_view : ℕ → NodeId → State → RowView
row_view m node book = row_view_at m (slave_place node book) book

-- the processor at place p, if the master at place m has it
abbrev pub own_proc : ℕ → ℕ → State → Option Processor
own_proc m p book =
    if owns book.fixed.object book.fixed.topology m p then Some (proc_at p book.now.core.procs) else None

-- what a master sees of a node of this kind, as a processor
abbrev pub proc_view_at : ℕ → Kind → State → ProcView
proc_view_at m (Proc p) book = record { place = Some p; own = own_proc m p book }
proc_view_at m _ book = record { place = None; own = None }

-- what the master at place m sees of a processor: its place, if the node is one, and its mode and resume address, if
-- it is its own
abbrev pub proc_view : ℕ → NodeId → State → ProcView
proc_view m node book = proc_view_at m (kind_of book.fixed.topology node) book

-- the master at place m may wake the processors of the one at place k: they are its own, or the object permits it
abbrev pub can_wake : ℕ → ℕ → State → Bool
can_wake m k book = (k == m) || permits_wake (grants_in book) m k

-- the processor at place p with its owner, if it has one and the master at place m may wake the owner's processors
abbrev pub wakeable : ℕ → ℕ → Option ℕ → State → Option Wakeable
wakeable m p None book = None
wakeable m p (Some k) book =
    if can_wake m k book then Some (record { owner = k; proc = proc_at p book.now.core.procs }) else None

abbrev pub wake_view_at : ℕ → Kind → State → WakeView
wake_view_at m (Proc p) book =
    record { place = Some p; target = wakeable m p (owner_at book.fixed.object book.fixed.topology p) book }
wake_view_at m _ book = record { place = None; target = None }

-- what the master at place m sees of a processor that it wants to wake: its place, if the node is one; and its owner,
-- mode and resume address, if it may
abbrev pub wake_view : ℕ → NodeId → State → WakeView
wake_view m node book = wake_view_at m (kind_of book.fixed.topology node) book

-- a request to suspend is pending on the master at place m
abbrev pub is_asked : ℕ → State → Bool
is_asked m book = is_some (pending_at m book.now.talk.pending)

-- the node can name a master: it is a processor, or a number that masters have
abbrev pub is_proc : Kind → Bool
is_proc (Proc p) = true
is_proc _ = false

abbrev pub names_master : Fixed → NodeId → Bool
names_master fixed node = is_proc (kind_of fixed.topology node) || is_master_number node.0

-- the timeout of the master at a place; 0 without such a master
abbrev pub master_timeout : List MasterRec → ℕ → ℕ
master_timeout masters place = option_map_or (λ (master : MasterRec). master.timeout) (slice_get masters place) 0

-- the object permits the master at place m to ask the one at place k to suspend
abbrev pub can_suspend : ℕ → ℕ → State → Bool
can_suspend m k book = permits_suspend (grants_in book) m k

-- the master at place k as a target of a request to suspend
abbrev pub suspendable_at : ℕ → State → Suspendable
suspendable_at k book = record {
  master = k;
  pending = is_asked k book;
  mode = mode_of_master book.fixed book.now.core k;
  timeout = master_timeout (in_force book).masters k;
}

abbrev pub suspendable : ℕ → Option ℕ → State → Option Suspendable
suspendable m None book = None
suspendable m (Some k) book = if can_suspend m k book then Some (suspendable_at k book) else None

-- what the master at place m sees of another that it asks to suspend: whether the node can name a master; and its
-- place, whether a request is pending on it, its mode and its timeout, if the object permits the request
abbrev pub suspend_view : ℕ → NodeId → State → SuspendView
suspend_view m node book =
    record { named = names_master book.fixed node; target = suspendable m (named_master book.fixed node) book }

-- what the master at place m sees of a node of this kind for which it sets a notifier: a slave, and whether it may
-- use it; a power node; or nothing
abbrev pub watched_at : ℕ → Kind → State → Watched
watched_at m (Slave s) book = SlaveNode (permits_use (grants_in book) m s)
watched_at m (Power w) book = PowerNode
watched_at m _ book = Nothing

abbrev pub watched : ℕ → NodeId → State → Watched
watched m node book = watched_at m (kind_of book.fixed.topology node) book

-- the status of a node that isn't a slave: its operating point alone
abbrev pub plain : ℕ → StatusView
plain value = record { state = Some value; requested = record { 0 = 0 }; usage = 0 }

abbrev pub status_view_at : ℕ → Kind → ℕ → State → StatusView
status_view_at m Unknown value book = record { state = None; requested = record { 0 = 0 }; usage = 0 }
status_view_at m (Slave s) value book = record {
  state = Some value;
  requested = now_of (entry_at m s book.now.core.rows);
  usage = usage_of m s book.now.core.rows;
}
status_view_at m _ value book = plain value

-- the status of a node as the master at place m is told it: its operating point, and of a slave the capabilities that
-- the master requires now, and who uses it
abbrev pub status_view : ℕ → NodeId → State → StatusView
status_view m node book =
    status_view_at m (kind_of book.fixed.topology node) (point_at (kind_of book.fixed.topology node) book.fixed book.now.core) book
