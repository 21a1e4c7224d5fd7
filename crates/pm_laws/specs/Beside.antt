-- Two lists of core events, or of core steps, set beside one another. The loud world has the messages of a master,
-- and the quiet one doesn't. The lists need not be equally long.
use Rattle.std.specs.Prelude.{◌≡◌, List, [], ◌∷◌}
use Rattle.pm_base.specs.declared.events.Event.{Event}
use Rattle.pm_base.specs.declared.events.Event.TheVariants.{Ipi, Pass, Wfi}
use Rattle.pm_base.specs.declared.names.NodeId.{NodeId}
use Rattle.pm_object.specs.declared.object.Object.{Object}
use Rattle.pm_topology.specs.declared.topology.Topology.{Topology}
use Rattle.pm_perms.specs.Owner.{owner}
use Rattle.pm_state.specs.State.{State}
use Rattle.pm_run.specs.Run.{Core, Setup, fixed_of}
use Rattle.pm_laws.specs.Agree.{Agree}
use Rattle.pm_laws.specs.ReachBorder.{border_of, configured_place}
use Rattle.pm_laws.specs.Told.{SameTold, TellsNothing}

-- the event is a message of this master, or a processor of it waits for an interrupt
abbrev pub IsOwn : Object → Topology → NodeId → Event → Type 0
IsOwn object t m (Ipi master message) = master.0 ≡ m.0
IsOwn object t m (Wfi proc) = owner object t proc ≡ configured_place object m
IsOwn object t m _ = ⊥

-- each event of the two lists is in both; or it is the master's own and in the first alone; or it is a Pass and in
-- the second alone
pub data Beside (object : Object) (t : Topology) (m : NodeId) : List Event → List Event → Type 0 where
  none : Beside object t m [] []
  both : (event : Event) (es fs : List Event) → Beside object t m es fs → Beside object t m (event ∷ es) (event ∷ fs)
  left : (event : Event) (es fs : List Event) → IsOwn object t m event → Beside object t m es fs
      → Beside object t m (event ∷ es) fs
  rest : (es fs : List Event) → Beside object t m es fs → Beside object t m es (Pass ∷ fs)

-- core steps beside one another, from these two books on. After each of them the two books agree beyond the reach of
-- the master. A step in both worlds tells the same there, and a step in one alone tells nothing
pub data AreBeside (c : Setup) (m : NodeId) : State → State → List Core → List Core → Type 0 where
  no_core : (a b : State) → AreBeside c m a b [] []
  both_cores : (a b : State) (x y : Core) (xs ys : List Core)
      → x.event ≡ y.event → x.before ≡ a → y.before ≡ b
      → Agree (border_of (fixed_of c) m) x.after y.after
      → SameTold c.object c.topology (border_of (fixed_of c) m) x y
      → AreBeside c m x.after y.after xs ys → AreBeside c m a b (x ∷ xs) (y ∷ ys)
  left_core : (a b : State) (x : Core) (xs ys : List Core)
      → IsOwn c.object c.topology m x.event → x.before ≡ a
      → Agree (border_of (fixed_of c) m) x.after b
      → TellsNothing c.object c.topology (border_of (fixed_of c) m) x
      → AreBeside c m x.after b xs ys → AreBeside c m a b (x ∷ xs) ys
  rest_core : (a b : State) (y : Core) (xs ys : List Core)
      → y.event ≡ Pass → y.before ≡ b
      → Agree (border_of (fixed_of c) m) a y.after
      → TellsNothing c.object c.topology (border_of (fixed_of c) m) y
      → AreBeside c m a y.after xs ys → AreBeside c m a b xs (y ∷ ys)
