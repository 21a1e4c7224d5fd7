-- What wakes processors keeps the book sound.
use Rattle.std.proofs.Common.{ℕ, ◌==◌, Bool, true, false, if◌then◌else◌, List, [], ◌∷◌, Option, Some, None, refl, sym, subst}
use Rattle.std.specs.Prelude.{flat_map, unwrap_or}
use Rattle.pm_base.specs.declared.names.Mode.{Mode}
use Rattle.pm_base.specs.declared.names.Mode.TheVariants.{Off, Active, Asleep, Suspending}
use Rattle.pm_base.specs.declared.names.NodeId.{NodeId}
use Rattle.pm_procs.specs.declared.procs.Proc.{Proc as Processor}
use Rattle.pm_procs.specs.Procs.{proc_at}
use Rattle.pm_rows.specs.declared.row.Entry.{Entry}
use Rattle.pm_topology.specs.declared.places.Kind.{Kind}
use Rattle.pm_topology.specs.declared.places.Kind.TheVariants.{Proc, Slave, Power, Unknown}
use Rattle.pm_topology.specs.Places.{kind_of}
use Rattle.pm_calls.specs.declared.views.Wakeable.{Wakeable}
use Rattle.pm_calls.specs.Events.{woken, woken_in, woken_at, woken_by, woken_from, interrupt_by, interrupt_at, raised_at}
use Rattle.pm_state.specs.Members.{owner_at, owns}
use Rattle.pm_state.specs.Prims.{Prim, Put_proc, applies, changed}
use Rattle.pm_state.specs.Sound.{IsSound}
use Rattle.pm_state.specs.Stages.{after_stage, after_stages}
use Rattle.pm_state.specs.State.{Fixed, Now, State}
use Rattle.pm_calls.specs.calls.RequestWakeup.{woken_to}
use Rattle.pm_state.proofs.FollowLemmas.{applies_append}
use Rattle.pm_state.proofs.RowLaws.{RowLaws}
use Rattle.pm_state.proofs.StageLaw.{IsWithin, within, put, put_keeps, stage_keeps, empty_keeps, followed_sound}

woken_keeps : (fixed : Fixed) (now : Now) (m p address : ℕ) (mode : Mode) → IsWithin fixed now → IsWithin fixed (applies fixed (woken_in m p address mode) now)
woken_keeps fixed now m p address Off of = of
woken_keeps fixed now m p address Active of = of
woken_keeps fixed now m p address Asleep of = put_keeps fixed now m p Active address (owns fixed.object fixed.topology m p) refl of
woken_keeps fixed now m p address Suspending of = put_keeps fixed now m p Active address (owns fixed.object fixed.topology m p) refl of

kind_keeps : (fixed : Fixed) (now : Now) (m : ℕ) (kind : Kind) (book : State) → IsWithin fixed now → IsWithin fixed (applies fixed (woken_at m kind book) now)
kind_keeps fixed now m (Proc p) book of =
    woken_keeps fixed now m p (proc_at p book.now.core.procs).address (proc_at p book.now.core.procs).mode of
kind_keeps fixed now m (Slave s) book of = of
kind_keeps fixed now m (Power w) book of = of
kind_keeps fixed now m Unknown book of = of

armed_keeps : (fixed : Fixed) (now : Now) (m : ℕ) (armed : Option NodeId) (book : State) → IsWithin fixed now → IsWithin fixed (applies fixed (woken_by m armed book) now)
armed_keeps fixed now m None book of = of
armed_keeps fixed now m (Some node) book of = kind_keeps fixed now m (kind_of book.fixed.topology node) book of

there_keeps : (fixed : Fixed) (now : Now) (there : Bool) (m : ℕ) (armed : Option NodeId) (book : State) → IsWithin fixed now → IsWithin fixed (applies fixed (if there then woken_by m armed book else []) now)
there_keeps fixed now true m armed book of = armed_keeps fixed now m armed book of
there_keeps fixed now false m armed book of = of

rows_keep : (fixed : Fixed) (s : ℕ) (book : State) (es : List Entry) (now : Now) → IsWithin fixed now → IsWithin fixed (applies fixed (flat_map (woken_from s book) es) now)
rows_keep fixed s book [] now of = of
rows_keep fixed s book (e ∷ es) now of =
    let P : Now → Type 0 = λ n. IsWithin fixed n in
    subst P (sym (applies_append fixed (woken_from s book e) (flat_map (woken_from s book) es) now))
    (rows_keep fixed s book es (applies fixed (woken_from s book e) now)
    (there_keeps fixed now (e.seed.slave == s) e.seed.master e.row.armed book of))

-- the interrupt of a slave
pub raised_keeps : RowLaws → (kind : Kind) (book : State) → IsSound book → IsSound (after_stages (raised_at kind book) book)
raised_keeps laws (Slave s) book sound =
    followed_sound laws (changed (flat_map (woken_from s book) book.now.core.rows.entries) book)
    (rows_keep book.fixed s book book.now.core.rows.entries book.now (within book sound))
raised_keeps laws (Proc p) book sound = sound
raised_keeps laws (Power w) book sound = sound
raised_keeps laws Unknown book sound = sound

interrupt_by_keeps : RowLaws → (owner : Option ℕ) (p : ℕ) (proc : Processor) (book : State) → IsSound book → IsSound (after_stages (interrupt_by owner p proc) book)
interrupt_by_keeps laws None p proc book sound = sound
interrupt_by_keeps laws (Some m) p proc book sound =
    followed_sound laws (changed (woken m p proc) book) (woken_keeps book.fixed book.now m p proc.address proc.mode (within book sound))

-- an interrupt at a processor
pub interrupt_keeps : RowLaws → (kind : Kind) (book : State) → IsSound book → IsSound (after_stages (interrupt_at kind book) book)
interrupt_keeps laws (Proc p) book sound =
    interrupt_by_keeps laws (owner_at book.fixed.object book.fixed.topology p) p (proc_at p book.now.core.procs) book sound
interrupt_keeps laws (Slave s) book sound = sound
interrupt_keeps laws (Power w) book sound = sound
interrupt_keeps laws Unknown book sound = sound

-- the call that wakes a processor
pub request_keeps : RowLaws → (address place : Option ℕ) (target : Option Wakeable) (book : State) → IsSound book → IsSound (after_stage (woken_to address place target) book)
request_keeps laws address (Some p) (Some target) book sound =
    stage_keeps laws book (Put_proc target.owner p Active (unwrap_or address target.proc.address)) sound (put target.owner p Active (unwrap_or address target.proc.address))
request_keeps laws address (Some p) None book sound = empty_keeps laws book sound
request_keeps laws address None target book sound = empty_keeps laws book sound
