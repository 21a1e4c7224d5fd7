-- The fifth check of a call is the permission by the object in force.
use Rattle.std.proofs.Common.{◌≡◌, ◌∙◌, ℕ, ◌==◌, ◌&&◌, ◌||◌, Bool, true, false, is_some, cond, Option, Some, None, refl, sym, ap}
use Rattle.std.specs.Prelude.{option_map}
use Rattle.pm_base.specs.declared.names.LineId.{LineId}
use Rattle.pm_base.specs.declared.names.NodeId.{NodeId}
use Rattle.pm_ipi.specs.declared.calls.Call.{Call}
use Rattle.pm_ipi.specs.declared.calls.Call.TheVariants as call
use Rattle.pm_grants.specs.Grants.{permits_reset, permits_suspend, permits_use, permits_wake}
use Rattle.pm_grants.specs.Laws.{GrantLaws, at_place, at_places, master_place as place_among}
use Rattle.pm_perms.specs.Permits.{may_reset, may_suspend, may_use, may_wake}
use Rattle.pm_rows.specs.declared.row.Entry.{Entry}
use Rattle.pm_rows.specs.Rows.{entry_at}
use Rattle.pm_topology.specs.declared.places.Kind.{Kind}
use Rattle.pm_topology.specs.declared.places.Kind.TheVariants.{Proc, Slave, Power, Unknown}
use Rattle.pm_topology.specs.Places.{kind_at, kind_of, line_place as chip_line, power_place, proc_place, slave_place as chip_slave}
use Rattle.pm_state.proofs.ObjectsLaw.{of_run, place_same}
use Rattle.pm_base.specs.Places.{is_place}
use Rattle.pm_state.specs.Members.{owner_at, owns}
use Rattle.pm_state.specs.Nodes.{named_master, row, row_at}
use Rattle.pm_state.specs.Sound.{IsSound, is_own}
use Rattle.pm_state.specs.State.{State, grants_in, in_force}
use Rattle.pm_state.specs.Values.{line_place, master_place, slave_place}
use Rattle.pm_calls.specs.Permissions.{ArePermissions, IsPermission, has, may_be_told, owner_of, uses}
use Rattle.pm_calls.specs.ResetLines.{can_reset, line_view}
use Rattle.pm_calls.specs.Views.{can_suspend, can_wake, proc_view_at, row_view, row_view_at, suspendable, suspendable_at, wake_view_at, wakeable, watched_at}
use Rattle.pm_calls.specs.calls.RegisterNotifier.{may_watch}
use Rattle.pm_calls.specs.calls.{called}

-- a master has a row on a slave exactly if the object in force permits the pair
abbrev pub HasRows : Type 0
HasRows = (master slave : NodeId) (book : State) → IsSound book
    → is_some (row master slave book) ≡ may_use (in_force book) book.fixed.topology master slave

-- what is chosen by a test is there exactly if the test passes
chosen : {X : Type 0} (b : Bool) (x : X) → is_some (cond b (Some x) None) ≡ b
chosen true x = refl
chosen false x = refl

mapped : (entry : Option Entry) → is_some entry ≡ is_some (option_map (λ (e : Entry). e.row) entry)
mapped None = refl
mapped (Some entry) = refl

module _ (grants : GrantLaws) (rows : HasRows) (m : ℕ) (master : NodeId) (book : State) (sound : IsSound book) (place : master_place master book ≡ Some m) where
  -- a number names one place in the loaded object and in the one in force
  same_place : (node : NodeId) → place_among (in_force book).masters node ≡ master_place node book
  same_place node =
      sym (place_same node.0 book.fixed.object.masters (in_force book).masters (of_run book.fixed sound.force.place (in_force book) sound.force.there))

  here : place_among (in_force book).masters master ≡ Some m
  here = same_place master ∙ place

  -- ---- slaves

  entry_there : (s : Option ℕ) → is_some (row_view_at m s book).entry ≡ is_some (row_at (Some m) s book)
  entry_there None = refl
  entry_there (Some s) = mapped (entry_at m s book.now.core.rows)

  entry_used : (node : NodeId) → is_some (row_view m node book).entry ≡ uses master node book
  entry_used node =
      entry_there (slave_place node book)
      ∙ ap (λ (p : Option ℕ). is_some (row_at p (slave_place node book) book)) (sym place)
      ∙ rows master node book sound

  -- the place of a slave by its kind
  slave_at : (proc slave power : Option ℕ) (s : ℕ) → kind_at proc slave power ≡ Slave s → slave ≡ Some s
  slave_at (Some p) slave power s is = cc
  slave_at None slave (Some w) s is = cc
  slave_at None (Some k) None s is = let same : k ≡ s = cc in ap (λ (n : ℕ). Some n) same
  slave_at None None None s is = cc

  used_at : (node : NodeId) (s : ℕ) → kind_of book.fixed.topology node ≡ Slave s → permits_use (grants_in book) m s ≡ uses master node book
  used_at node s kind =
      let t = book.fixed.topology in
      let there : chip_slave t.slaves node.0 ≡ Some s = slave_at (proc_place t.procs node.0) (chip_slave t.slaves node.0) (power_place t.powers node.0) s kind in
      sym (grants.use_ (in_force book) t master node
      ∙ ap (λ (p : Option ℕ). at_places (permits_use (grants_in book)) p (chip_slave t.slaves node.0)) here
      ∙ ap (λ (p : Option ℕ). at_place (permits_use (grants_in book) m) p) there)

  told_by : (node : NodeId) (kind : Kind) → kind_of book.fixed.topology node ≡ kind → may_watch (watched_at m kind book) ≡ may_be_told master node kind book
  told_by node (Proc p) is = refl
  told_by node (Slave s) is = used_at node s is
  told_by node (Power w) is = refl
  told_by node Unknown is = refl

  -- ---- processors

  own_there : (kind : Kind) → is_some (proc_view_at m kind book).own ≡ is_own book.fixed m kind
  own_there (Proc p) = chosen (owns book.fixed.object book.fixed.topology m p) _
  own_there (Slave s) = refl
  own_there (Power w) = refl
  own_there Unknown = refl

  -- ---- other masters

  suspends : (other : NodeId) (k : Option ℕ) → k ≡ master_place other book → is_some (suspendable m k book) ≡ may_suspend (in_force book) book.fixed.topology master other
  suspends other k is =
      by k
      ∙ sym (grants.suspend (in_force book) book.fixed.topology master other
      ∙ ap (λ (p : Option ℕ). at_places (permits_suspend (grants_in book)) p (place_among (in_force book).masters other)) here
      ∙ ap (λ (p : Option ℕ). at_place (permits_suspend (grants_in book) m) p) (same_place other ∙ sym is))
    where
      by : (k : Option ℕ) → is_some (suspendable m k book) ≡ at_place (permits_suspend (grants_in book) m) k
      by None = refl
      by (Some k) = chosen (can_suspend m k book) (suspendable_at k book)

  wakes : (other : NodeId) (kind : Kind) → owner_of book.fixed kind ≡ master_place other book
      → is_some (wake_view_at m kind book).target ≡ (is_place m (master_place other book) || may_wake (in_force book) book.fixed.topology master other)
  wakes other kind is =
      by kind
      ∙ ap (λ (p : Option ℕ). is_place m p || at_place (permits_wake (grants_in book) m) p) is
      ∙ ap (λ (may : Bool). is_place m (master_place other book) || may)
      (sym (grants.wake (in_force book) book.fixed.topology master other
      ∙ ap (λ (p : Option ℕ). at_places (permits_wake (grants_in book)) p (place_among (in_force book).masters other)) here
      ∙ ap (λ (p : Option ℕ). at_place (permits_wake (grants_in book) m) p) (same_place other)))
    where
      woken : (p : ℕ) (k : Option ℕ) → is_some (wakeable m p k book) ≡ (is_place m k || at_place (permits_wake (grants_in book) m) k)
      woken p None = refl
      woken p (Some k) = chosen (can_wake m k book) _

      by : (kind : Kind) → is_some (wake_view_at m kind book).target
          ≡ (is_place m (owner_of book.fixed kind) || at_place (permits_wake (grants_in book) m) (owner_of book.fixed kind))
      by (Proc p) = woken p (owner_at book.fixed.object book.fixed.topology p)
      by (Slave s) = refl
      by (Power w) = refl
      by Unknown = refl

  -- ---- reset lines

  resets : (line : LineId) → (line_view m line book).permitted ≡ may_reset (in_force book) book.fixed.topology master line
  resets line =
      by (line_place line book.fixed)
      ∙ sym (grants.reset (in_force book) book.fixed.topology master line
      ∙ ap (λ (p : Option ℕ). at_places (permits_reset (grants_in book)) p (chip_line book.fixed.topology.lines line.0)) here)
    where
      by : (l : Option ℕ) → can_reset m l book ≡ at_place (permits_reset (grants_in book) m) l
      by None = refl
      by (Some l) = refl

  -- ---- each call

  by_call : (made : Call) → IsPermission m master made book (called m made book).checks.permitted
  by_call call.GetApiVersion = refl
  by_call (call.SetConfiguration address) =
      sym (grants.configure (in_force book) book.fixed.topology master ∙ ap (at_place _) here)
  by_call (call.GetNodeStatus node) = refl
  by_call (call.GetOpCharacteristic node characteristic) = refl
  by_call (call.RegisterNotifier node event wake enable) = told_by node (kind_of book.fixed.topology node) refl
  by_call (call.RequestSuspend node ack latency state) = λ other is. suspends other (named_master book.fixed node) is
  by_call (call.SelfSuspend node address) = own_there (kind_of book.fixed.topology node)
  by_call (call.ForcePowerdown node ack) =
      sym (grants.force (in_force book) book.fixed.topology master node ∙ ap (at_place _) here)
  by_call (call.AbortSuspend node reason) = own_there (kind_of book.fixed.topology node)
  by_call (call.RequestWakeup node address ack) = λ other is. wakes other (kind_of book.fixed.topology node) is
  by_call (call.SetWakeupSource target source enable) =
      ap (λ (own : Bool). own && is_some (row_view m source book).entry) (own_there (kind_of book.fixed.topology target))
      ∙ ap (λ (may : Bool). has m target book && may) (entry_used source)
  by_call (call.SystemShutdown shutdown_type subtype) =
      ap (λ (may : Bool). (shutdown_type == 2) || may) (sym (grants.shut (in_force book) book.fixed.topology master subtype ∙ ap (at_place _) here))
  by_call (call.RequestNode node caps ack) = entry_used node
  by_call (call.ReleaseNode node) = entry_used node
  by_call (call.SetRequirement node caps ack) = entry_used node
  by_call (call.SetMaxLatency node latency) = entry_used node
  by_call (call.ResetAssert line action) = resets line
  by_call (call.ResetGetStatus line) = refl
  by_call call.InitFinalize = refl
  by_call call.Unknown = refl

pub checks_permitted : GrantLaws → HasRows → ArePermissions
checks_permitted grants rows m master made book sound place = by_call grants rows m master book sound place made
