-- Most steps have one stage at most. What a step puts out follows from the values before it, what is logged along it, and the
-- book after it.
use Rattle.std.proofs.Common.{◌≡◌, ℕ, if◌then◌else◌, Bool, true, false, List, [], ◌∷◌, map, Option, Some, None, refl, subst, ap, ◌∙◌}
use Rattle.std.specs.Prelude.{replicate}
use Rattle.std.proofs.lemmas.Option.{unwrap_or-slice_get}
use Rattle.pm_base.specs.declared.names.NodeId.{NodeId}
use Rattle.pm_base.specs.declared.names.Mode.{Mode}
use Rattle.pm_base.specs.declared.names.Mode.TheVariants.{Off, Active, Asleep, Suspending}
use Rattle.pm_base.specs.declared.names.Unit.{Unit}
use Rattle.pm_base.specs.declared.events.Event.{Event}
use Rattle.pm_base.specs.declared.events.Event.TheVariants.{Ipi, Boot, Wfi, Irq, Gic}
use Rattle.pm_base.specs.declared.events.Message.{Message}
use Rattle.pm_topology.specs.declared.places.Kind.{Kind}
use Rattle.pm_topology.specs.declared.places.Kind.TheVariants.{Proc, Slave, Power, Unknown as NoNode}
use Rattle.pm_topology.specs.declared.topology.Topology.{Topology}
use Rattle.pm_topology.specs.Places.{IsKind, KindLaws, kind_of}
use Rattle.pm_procs.specs.declared.procs.Proc.{Proc as Processor}
use Rattle.pm_procs.specs.Procs.{proc_at}
use Rattle.pm_values.specs.declared.caches.UnitKind.{UnitKind}
use Rattle.pm_values.specs.Caches.{kind_of_unit, moved_by, starts_by, value_by, valued}
use Rattle.pm_calls.specs.Events.{boot, boot_at, boot_by, booted, wait, wait_at, wait_by, waits, interrupt, interrupt_at, interrupt_by, raised, raised_at}
use Rattle.pm_state.specs.Members.{owner_at}
use Rattle.pm_values.specs.Along.{Trail, IsTrail, trail_at_load}
use Rattle.pm_state.specs.Prims.{Prim}
use Rattle.pm_state.specs.Stages.{after_stages}
use Rattle.pm_values.specs.Starts.{starts, was_down}
use Rattle.pm_state.specs.State.{State}
use Rattle.pm_step.specs.Step.{is_ipi, stages, path, effect, served}
use Rattle.pm_state.specs.Units.{units, moved}
use Rattle.pm_state.specs.Values.{value}
use Rattle.pm_values.proofs.CachesLaw.{moves_are}
use Rattle.pm_state.proofs.LoadLaw.{get_or-replicate_any}
use Rattle.pm_values.proofs.AlongLaw.{HasOneAtMost}
use Rattle.pm_values.proofs.RestLaw.{starts_all, there}

-- ---- one stage at most

-- an event that is no message, and what it comes to
pub no_message : (event : Event) → ((master : NodeId) (message : Message) → event ≡ Ipi master message → ⊥) → is_ipi event ≡ false
no_message (Ipi master message) isnt = absurd (isnt master message refl)
no_message _ isnt = refl

pub none_served : (event : Event) (book : State) → is_ipi event ≡ false → served event book ≡ None
none_served (Ipi master message) book is = cc
none_served _ book is = refl

-- a place that is none
pub nowhere : (place : Option ℕ) → ((k : ℕ) → place ≡ Some k → ⊥) → place ≡ None
nowhere None isnt = refl
nowhere (Some k) isnt = absurd (isnt k refl)

booted_once : (m p address : ℕ) (mode : Mode) → HasOneAtMost (booted m p address mode)
booted_once m p address Off = refl
booted_once m p address Active = tt
booted_once m p address Asleep = tt
booted_once m p address Suspending = tt

boot_by_once : (owner : Option ℕ) (p address : ℕ) (proc : Processor) → HasOneAtMost (boot_by owner p address proc)
boot_by_once None p address proc = tt
boot_by_once (Some m) p address proc = booted_once m p address proc.mode

boot_once : (kind : Kind) (address : ℕ) (book : State) → HasOneAtMost (boot_at kind address book)
boot_once (Proc p) address book = boot_by_once (owner_at book.fixed.object book.fixed.topology p) p address (proc_at p book.now.core.procs)
boot_once (Slave s) address book = tt
boot_once (Power w) address book = tt
boot_once NoNode address book = tt

waits_once : (m p address : ℕ) (mode : Mode) → HasOneAtMost (waits m p address mode)
waits_once m p address Off = tt
waits_once m p address Active = tt
waits_once m p address Asleep = tt
waits_once m p address Suspending = refl

wait_by_once : (owner : Option ℕ) (p : ℕ) (proc : Processor) → HasOneAtMost (wait_by owner p proc)
wait_by_once None p proc = tt
wait_by_once (Some m) p proc = waits_once m p proc.address proc.mode

wait_once : (kind : Kind) (book : State) → HasOneAtMost (wait_at kind book)
wait_once (Proc p) book = wait_by_once (owner_at book.fixed.object book.fixed.topology p) p (proc_at p book.now.core.procs)
wait_once (Slave s) book = tt
wait_once (Power w) book = tt
wait_once NoNode book = tt

raised_once : (kind : Kind) (book : State) → HasOneAtMost (raised_at kind book)
raised_once (Slave s) book = refl
raised_once (Proc p) book = tt
raised_once (Power w) book = tt
raised_once NoNode book = tt

interrupt_by_once : (owner : Option ℕ) (p : ℕ) (proc : Processor) → HasOneAtMost (interrupt_by owner p proc)
interrupt_by_once None p proc = tt
interrupt_by_once (Some m) p proc = refl

interrupt_once : (kind : Kind) (book : State) → HasOneAtMost (interrupt_at kind book)
interrupt_once (Proc p) book = interrupt_by_once (owner_at book.fixed.object book.fixed.topology p) p (proc_at p book.now.core.procs)
interrupt_once (Slave s) book = tt
interrupt_once (Power w) book = tt
interrupt_once NoNode book = tt

halted_once : (halted : Bool) (stages : List (List Prim)) → HasOneAtMost stages → HasOneAtMost (if halted then [] else stages)
halted_once true stages once = tt
halted_once false stages once = once

-- an event that is no message
pub stages_once : (event : Event) (book : State) → is_ipi event ≡ false → HasOneAtMost (stages event book)
stages_once (Ipi master message) book is = cc
stages_once (Boot proc address) book is =
    halted_once book.now.core.halted (boot proc address book) (boot_once (kind_of book.fixed.topology proc) address book)
stages_once (Wfi proc) book is =
    halted_once book.now.core.halted (wait proc book) (wait_once (kind_of book.fixed.topology proc) book)
stages_once (Irq slave) book is =
    halted_once book.now.core.halted (raised slave book) (raised_once (kind_of book.fixed.topology slave) book)
stages_once (Gic proc) book is =
    halted_once book.now.core.halted (interrupt proc book) (interrupt_once (kind_of book.fixed.topology proc) book)
stages_once _ book is = tt

-- ---- what a step puts out

-- the units that move
pub step_moves : (event : Event) (old new : State) (kinds : List UnitKind) (values : List (Unit × ℕ)) → new ≡ after_stages (stages event old) old → kinds ≡ map (kind_of_unit old.fixed.topology) (units old) → values ≡ valued old → moved_by (value_by new.fixed new.now.core) kinds values ≡ moved (λ u. value u old) (effect event old)
step_moves event old new kinds values is kinds_are values_are =
    ap (λ (b : State). moved_by (value_by b.fixed b.now.core) kinds values) is
    ∙ moves_are (effect event old) (λ u. value u old) kinds values kinds_are values_are

-- the processors that start
pub step_starts : KindLaws → (event : Event) (old new : State) (along : Trail) (kinds : List UnitKind) (values : List (Unit × ℕ)) → new ≡ after_stages (stages event old) old → IsTrail old (path event old) along → kinds ≡ map (kind_of_unit old.fixed.topology) (units old) → values ≡ valued old → starts_by along.downs new.now.core.procs kinds values ≡ starts (was_down (old ∷ path event old)) (effect event old)
step_starts laws event old new along kinds values is trailed kinds_are values_are =
    let t : Topology = old.fixed.topology in
    ap (λ (b : State). starts_by along.downs b.now.core.procs kinds values) is
    ∙ starts_all along.downs (λ u. value u old) (was_down (old ∷ path event old)) (effect event old) kinds values kinds_are values_are
    (λ node p kind. trailed.downs p (there t node p (subst (IsKind t node) kind (laws.is t node))))

-- the processors that start with the load, before which all were down
pub load_starts : (book : State) (masters procs : ℕ) (along : Trail) (kinds : List UnitKind) (values : List (Unit × ℕ)) → along ≡ trail_at_load masters procs → kinds ≡ map (kind_of_unit book.fixed.topology) (units book) → values ≡ map (λ u. (u, 0)) (units book) → starts_by along.downs book.now.core.procs kinds values ≡ starts (λ p. true) book
load_starts book masters procs along kinds values are kinds_are values_are =
    ap (λ (n : Trail). starts_by n.downs book.now.core.procs kinds values) are
    ∙ starts_all (replicate procs true) (λ _. 0) (λ p. true) book kinds values kinds_are values_are
    (λ node p is. unwrap_or-slice_get (replicate procs true) p true ∙ get_or-replicate_any true procs p)
