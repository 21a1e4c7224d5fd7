-- The effects of boots, waits and interrupts on the processors.
use Rattle.std.specs.Prelude.{ℕ, ◌==◌, if◌then◌else◌, List, [], ◌∷◌, flat_map, Option, Some, None}
use Rattle.pm_base.specs.declared.names.NodeId.{NodeId}
use Rattle.pm_base.specs.declared.names.Mode.{Mode}
use Rattle.pm_base.specs.declared.names.Mode.TheVariants.{Off, Active, Asleep, Suspending}
use Rattle.pm_topology.specs.declared.places.Kind.{Kind}
use Rattle.pm_topology.specs.declared.places.Kind.TheVariants.{Proc, Slave}
use Rattle.pm_topology.specs.Places.{kind_of}
use Rattle.pm_procs.specs.declared.procs.Proc.{Proc as Processor}
use Rattle.pm_procs.specs.Procs.{proc_at}
use Rattle.pm_rows.specs.declared.row.Entry.{Entry}
use Rattle.pm_state.specs.Members.{owner_at}
use Rattle.pm_state.specs.Prims.{Prim, Put_proc}
use Rattle.pm_state.specs.State.{State}

-- a boot loader starts a processor that is off, at this address
abbrev pub booted : ℕ → ℕ → ℕ → Mode → List (List Prim)
booted m p address Off = (Put_proc m p Active address ∷ []) ∷ []
booted m p address Active = []
booted m p address Asleep = []
booted m p address Suspending = []

-- a processor that is suspending waits for an interrupt, and sleeps from then on
abbrev pub waits : ℕ → ℕ → ℕ → Mode → List (List Prim)
waits m p address Suspending = (Put_proc m p Asleep address ∷ []) ∷ []
waits m p address Off = []
waits m p address Active = []
waits m p address Asleep = []

-- a boot starts only a processor that a configured master has
abbrev pub boot_by : Option ℕ → ℕ → ℕ → Processor → List (List Prim)
boot_by None p address proc = []
boot_by (Some m) p address proc = booted m p address proc.mode

abbrev pub wait_by : Option ℕ → ℕ → Processor → List (List Prim)
wait_by None p proc = []
wait_by (Some m) p proc = waits m p proc.address proc.mode

-- a boot starts only a node that is a processor
abbrev pub boot_at : Kind → ℕ → State → List (List Prim)
boot_at (Proc p) address book =
    boot_by (owner_at book.fixed.object book.fixed.topology p) p address (proc_at p book.now.core.procs)
boot_at _ address book = []

abbrev pub wait_at : Kind → State → List (List Prim)
wait_at (Proc p) book = wait_by (owner_at book.fixed.object book.fixed.topology p) p (proc_at p book.now.core.procs)
wait_at _ book = []

-- the stages of a boot: none if the node is no processor, if no configured master has it, or if it isn't off
abbrev pub boot : NodeId → ℕ → State → List (List Prim)
boot node address book = boot_at (kind_of book.fixed.topology node) address book

abbrev pub wait : NodeId → State → List (List Prim)
wait node book = wait_at (kind_of book.fixed.topology node) book

-- an interrupt wakes a processor that is asleep or suspending: it is active, and keeps its resume address
abbrev pub woken_in : ℕ → ℕ → ℕ → Mode → List Prim
woken_in m p address Asleep = Put_proc m p Active address ∷ []
woken_in m p address Suspending = Put_proc m p Active address ∷ []
woken_in m p address Off = []
woken_in m p address Active = []

abbrev pub woken : ℕ → ℕ → Processor → List Prim
woken m p proc = woken_in m p proc.address proc.mode

-- the stages of an interrupt of a processor: none if no configured master has it
abbrev pub interrupt_by : Option ℕ → ℕ → Processor → List (List Prim)
interrupt_by None p proc = []
interrupt_by (Some m) p proc = woken m p proc ∷ []

abbrev pub interrupt_at : Kind → State → List (List Prim)
interrupt_at (Proc p) book =
    interrupt_by (owner_at book.fixed.object book.fixed.topology p) p (proc_at p book.now.core.procs)
interrupt_at _ book = []

abbrev pub interrupt : NodeId → State → List (List Prim)
interrupt node book = interrupt_at (kind_of book.fixed.topology node) book

-- the change if a master's processor of this kind wakes
abbrev pub woken_at : ℕ → Kind → State → List Prim
woken_at m (Proc p) book = woken m p (proc_at p book.now.core.procs)
woken_at m _ book = []

-- the change if a row of the master that is armed with this processor wakes it
abbrev pub woken_by : ℕ → Option NodeId → State → List Prim
woken_by m None book = []
woken_by m (Some node) book = woken_at m (kind_of book.fixed.topology node) book

-- the change by a row if the slave at place s raises its interrupt: a row on that slave wakes the processor that it
-- is armed with
abbrev pub woken_from : ℕ → State → Entry → List Prim
woken_from s book entry = if entry.seed.slave == s then woken_by entry.seed.master entry.row.armed book else []

-- the stages of a slave's interrupt: one, in which each armed row on the slave wakes its processor
abbrev pub raised_at : Kind → State → List (List Prim)
raised_at (Slave s) book = flat_map (woken_from s book) book.now.core.rows.entries ∷ []
raised_at _ book = []

abbrev pub raised : NodeId → State → List (List Prim)
raised node book = raised_at (kind_of book.fixed.topology node) book
