-- The call that arms a row names a processor of its caller.
use Rattle.std.proofs.Common.{◌≡◌, ℕ, ◌==◌, Bool, true, false, if◌then◌else◌, IsTrue, Some, None, is_some, refl}
use Rattle.pm_base.specs.declared.names.NodeId.{NodeId}
use Rattle.pm_procs.specs.declared.procs.Proc.{Proc as Processor}
use Rattle.pm_procs.specs.Procs.{proc_at}
use Rattle.pm_topology.specs.declared.places.Kind.{Kind}
use Rattle.pm_topology.specs.declared.places.Kind.TheVariants.{Proc, Slave, Power, Unknown}
use Rattle.pm_topology.specs.Places.{kind_of}
use Rattle.pm_state.specs.Members.{owns}
use Rattle.pm_state.specs.Sound.{is_own, arms_own}
use Rattle.pm_state.specs.State.{Fixed, State}
use Rattle.pm_calls.specs.Views.{proc_view, proc_view_at}
use Rattle.pm_calls.specs.calls.SetWakeupSource.{arming}
use Rattle.pm_state.proofs.ArmedLaw.{MayArm}

own_there : (own : Bool) (proc : Processor) → IsTrue (is_some (if own then Some proc else None)) → own ≡ true
own_there true proc is = refl
own_there false proc is = cc

own_kind : (m : ℕ) (kind : Kind) (book : State) → IsTrue (is_some (proc_view_at m kind book).own) → is_own book.fixed m kind ≡ true
own_kind m (Proc p) book is = own_there (owns book.fixed.object book.fixed.topology m p) (proc_at p book.now.core.procs) is
own_kind m (Slave s) book is = cc
own_kind m (Power w) book is = cc
own_kind m Unknown book is = cc

armed_by : (fixed : Fixed) (m : ℕ) (node : NodeId) (on : Bool) → is_own fixed m (kind_of fixed.topology node) ≡ true → arms_own fixed m (if on then Some node else None) ≡ true
armed_by fixed m node true own = own
armed_by fixed m node false own = refl

pub arming_may : (m : ℕ) (node : NodeId) (enable : ℕ) (book : State) → IsTrue (is_some (proc_view m node book).own) → MayArm book.fixed m (arming node enable)
arming_may m node enable book own = armed_by book.fixed m node (enable == 1) (own_kind m (kind_of book.fixed.topology node) book own)
