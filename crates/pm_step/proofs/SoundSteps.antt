-- Each step keeps the book sound.
use Rattle.std.proofs.Common.{◌≡◌, ℕ, ◌<◌, if◌then◌else◌, Bool, true, false, not, ◌==◌, List, [], length, Option, Some, None, refl, sym, subst}
use Rattle.std.specs.Prelude.{option_and_then}
use Rattle.std.proofs.lemmas.List.Quantifiers.{position-Some}
use Rattle.pm_base.specs.declared.events.Event.{Event}
use Rattle.pm_base.specs.declared.events.Event.TheVariants.{Ipi, Boot, Wfi, Irq, Gic}
use Rattle.pm_base.specs.declared.names.Mode.{Mode}
use Rattle.pm_base.specs.declared.names.Mode.TheVariants.{Off, Active, Asleep, Suspending}
use Rattle.pm_ipi.specs.declared.calls.Call.{Call}
use Rattle.pm_ipi.specs.Calls.{call_of}
use Rattle.pm_notify.specs.Laws.{OrderLaws}
use Rattle.pm_object.specs.declared.object.MasterRec.{MasterRec}
use Rattle.pm_procs.specs.declared.procs.Proc.{Proc as Processor}
use Rattle.pm_procs.specs.Modes.{is_awake}
use Rattle.pm_procs.specs.Procs.{proc_at}
use Rattle.pm_topology.specs.declared.places.Kind.{Kind}
use Rattle.pm_topology.specs.declared.places.Kind.TheVariants.{Proc, Slave, Power, Unknown}
use Rattle.pm_topology.specs.Places.{kind_of}
use Rattle.pm_calls.specs.Events.{boot, boot_at, boot_by, booted, interrupt, raised, wait, wait_at, wait_by, waits}
use Rattle.pm_state.specs.Members.{mode_of_master, owner_at}
use Rattle.pm_state.specs.Prims.{Prim, Put_proc}
use Rattle.pm_state.specs.Sound.{IsSound, IsBook}
use Rattle.pm_state.specs.Stages.{after_stages}
use Rattle.pm_state.specs.State.{State}
use Rattle.pm_calls.proofs.CallsSound.{called_keeps}
use Rattle.pm_calls.specs.calls.{called}
use Rattle.pm_step.specs.Step.{effect, call_at, may_call, message_stages, stages, talk}
use Rattle.pm_state.specs.Values.{master_place}
use Rattle.pm_base.proofs.Booleans.{both}
use Rattle.pm_state.proofs.LoadLaw.{ModeLaws}
use Rattle.pm_state.proofs.RowLaws.{RowLaws}
use Rattle.pm_state.proofs.MasterNotesLaw.{talk_notes}
use Rattle.pm_state.proofs.ScopeSound.{KeepLaws}
use Rattle.pm_state.proofs.PendingLaw.{RequestLaws, talk_keeps}
use Rattle.pm_step.proofs.AskedLaw.{talk_named}
use Rattle.pm_state.proofs.StageLaw.{put, stage_keeps}
use Rattle.pm_calls.proofs.WakeSound.{raised_keeps, interrupt_keeps}

-- ---- events

call_keeps_if : KeepLaws → (call : Call) (book : State) (m : ℕ) (heard : Bool) → IsSound book → m < length book.fixed.object.masters → heard ≡ may_call m book → IsSound (after_stages (message_stages (if heard then Some (called m call book) else None)) book)
call_keeps_if laws call book m true sound there is = called_keeps laws m call book sound (record { there = there; awake = (both (not book.now.core.halted) (is_awake (mode_of_master book.fixed book.now.core m)) (sym is)).1 })
call_keeps_if laws call book m false sound there is = sound

message_keeps : KeepLaws → (call : Call) (book : State) (place : Option ℕ) → IsSound book → ((m : ℕ) → place ≡ Some m → m < length book.fixed.object.masters) → IsSound (after_stages (message_stages (option_and_then (call_at call book) place)) book)
message_keeps laws call book None sound there = sound
message_keeps laws call book (Some m) sound there =
    call_keeps_if laws call book m (may_call m book) sound (there m refl) refl

booted_keeps : RowLaws → (m p address : ℕ) (mode : Mode) (book : State) → IsSound book → IsSound (after_stages (booted m p address mode) book)
booted_keeps laws m p address Off book sound = stage_keeps laws book (Put_proc m p Active address) sound (put m p Active address)
booted_keeps laws m p address Active book sound = sound
booted_keeps laws m p address Asleep book sound = sound
booted_keeps laws m p address Suspending book sound = sound

waits_keeps : RowLaws → (m p address : ℕ) (mode : Mode) (book : State) → IsSound book → IsSound (after_stages (waits m p address mode) book)
waits_keeps laws m p address Off book sound = sound
waits_keeps laws m p address Active book sound = sound
waits_keeps laws m p address Asleep book sound = sound
waits_keeps laws m p address Suspending book sound = stage_keeps laws book (Put_proc m p Asleep address) sound (put m p Asleep address)

boot_by_keeps : RowLaws → (owner : Option ℕ) (p address : ℕ) (proc : Processor) (book : State) → IsSound book → IsSound (after_stages (boot_by owner p address proc) book)
boot_by_keeps laws None p address proc book sound = sound
boot_by_keeps laws (Some m) p address proc book sound = booted_keeps laws m p address proc.mode book sound

wait_by_keeps : RowLaws → (owner : Option ℕ) (p : ℕ) (proc : Processor) (book : State) → IsSound book → IsSound (after_stages (wait_by owner p proc) book)
wait_by_keeps laws None p proc book sound = sound
wait_by_keeps laws (Some m) p proc book sound = waits_keeps laws m p proc.address proc.mode book sound

boot_keeps : RowLaws → (kind : Kind) (address : ℕ) (book : State) → IsSound book → IsSound (after_stages (boot_at kind address book) book)
boot_keeps laws (Proc p) address book sound =
    boot_by_keeps laws (owner_at book.fixed.object book.fixed.topology p) p address (proc_at p book.now.core.procs) book sound
boot_keeps laws (Slave s) address book sound = sound
boot_keeps laws (Power w) address book sound = sound
boot_keeps laws Unknown address book sound = sound

wait_keeps : RowLaws → (kind : Kind) (book : State) → IsSound book → IsSound (after_stages (wait_at kind book) book)
wait_keeps laws (Proc p) book sound =
    wait_by_keeps laws (owner_at book.fixed.object book.fixed.topology p) p (proc_at p book.now.core.procs) book sound
wait_keeps laws (Slave s) book sound = sound
wait_keeps laws (Power w) book sound = sound
wait_keeps laws Unknown book sound = sound

halted_keeps : (halted : Bool) (stages : List (List Prim)) (book : State) → IsSound book → IsSound (after_stages stages book) → IsSound (after_stages (if halted then [] else stages) book)
halted_keeps true stages book sound after = sound
halted_keeps false stages book sound after = after

-- the stages of each step keep the book sound
stages_keep : KeepLaws → (event : Event) (book : State) → IsSound book → IsSound (after_stages (stages event book) book)
stages_keep laws (Ipi master message) book sound =
    message_keeps laws (call_of message) book (master_place master book) sound
    (λ m is. (position-Some (λ (x : MasterRec). x.node == master.0) book.fixed.object.masters m (record { node = 0; mask = 0; timeout = 0; suspend = 0; wake = 0 }) is).0)
stages_keep laws (Boot proc address) book sound =
    halted_keeps book.now.core.halted (boot proc address book) book sound (boot_keeps laws.rows (kind_of book.fixed.topology proc) address book sound)
stages_keep laws (Wfi proc) book sound =
    halted_keeps book.now.core.halted (wait proc book) book sound (wait_keeps laws.rows (kind_of book.fixed.topology proc) book sound)
stages_keep laws (Irq slave) book sound =
    halted_keeps book.now.core.halted (raised slave book) book sound (raised_keeps laws.rows (kind_of book.fixed.topology slave) book sound)
stages_keep laws (Gic proc) book sound =
    halted_keeps book.now.core.halted (interrupt proc book) book sound (interrupt_keeps laws.rows (kind_of book.fixed.topology proc) book sound)
stages_keep laws _ book sound = sound

-- each step keeps the book sound: what is told after its stages changes nothing but what is pending and the notes
pub effect_sound : RowLaws → ModeLaws → RequestLaws → OrderLaws → (event : Event) (book : State) → IsSound book → IsSound (effect event book)
effect_sound laws modes requests orders event book sound =
    let after : IsSound (after_stages (stages event book) book) = stages_keep (record { rows = laws; modes = modes; requests = requests; orders = orders }) event book sound in
    record {
      force = record { place = after.force.place; there = after.force.there };
      room = record { slaves = after.room.slaves; room = after.room.room };
      rows = after.rows;
      knows = record { each = after.knows.each; right = after.knows.right };
      procs = record { each = after.procs.each; nobodys = after.procs.nobodys };
      lines = after.lines;
      armed = after.armed;
      pending = talk_keeps requests book.fixed (talk event book) (after_stages (stages event book) book).now.talk (talk_named event book) after.pending;
      notes = talk_notes orders book.fixed.topology (length book.fixed.object.masters) (talk event book) (after_stages (stages event book) book).now.talk after.notes;
    }

-- what holds in every book is kept by each step
pub kept_by : ((event : Event) (book : State) → IsSound book → IsSound (effect event book))
    → (event : Event) (old new : State) → new ≡ effect event old → IsBook old → IsBook new
kept_by keeps event old new is of =
    let P : State → Type 0 = λ b. IsBook b in
    subst P (sym is) (record { formed = of.formed; sound = keeps event old of.sound })
