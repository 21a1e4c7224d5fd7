-- The processors of a chip: the mode and the resume address of each, and which master has which of them.
use Rattle.std.specs.Prelude.{ℕ, ◌==◌, ◌≡◌, Bool, true, false, List, Option, map, length, slice_get, slice_set, unwrap_or, replicate, []}
use Rattle.std.specs.List.{list_any}
use Rattle.pm_base.specs.declared.names.Mode.{Mode}
use Rattle.pm_base.specs.declared.names.Mode.TheVariants.{Off, Active, Asleep, Suspending}
use Rattle.pm_procs.specs.declared.pending.Pending.{Pending}
use Rattle.pm_procs.specs.declared.procs.Proc.{Proc}
use Rattle.pm_procs.specs.Modes.{mode_among}

-- each processor by its place; and for each master by its place, the places of its processors, the first one first, and
-- the request to suspend that is pending on it
pub record Procs : Type 0 where
  pub procs : List Proc
  pub members : List (List ℕ)
  pub pending : List (Option Pending)

-- a processor that is off
abbrev pub off : Proc
off = record { mode = Off; address = 0 }

-- the processor at a place: off where there is none
abbrev pub proc_at : ℕ → List Proc → Proc
proc_at p procs = unwrap_or (slice_get procs p) off

-- the mode of the processor at a place
abbrev pub mode_at : ℕ → List Proc → Mode
mode_at p procs = (proc_at p procs).mode

-- an interrupt wakes the processor, or has it go on in place of suspending
abbrev pub wakes_in : Mode → Bool
wakes_in Off = false
wakes_in Active = false
wakes_in Asleep = true
wakes_in Suspending = true

abbrev pub wakes : Proc → Bool
wakes proc = wakes_in proc.mode

-- a processor after it went to a mode: one that goes off forgets its resume address
abbrev pub gone : Mode → Proc → Proc
gone Off proc = off
gone Active proc = record proc { mode = Active }
gone Asleep proc = record proc { mode = Asleep }
gone Suspending proc = record proc { mode = Suspending }

abbrev pub with_mode : ℕ → Mode → List Proc → List Proc
with_mode p mode procs = slice_set procs p (gone mode (proc_at p procs))

abbrev pub with_address : ℕ → ℕ → List Proc → List Proc
with_address p address procs = slice_set procs p (record (proc_at p procs) { address = address })

-- the places of a master's processors
abbrev pub members_at : ℕ → List (List ℕ) → List ℕ
members_at m members = unwrap_or (slice_get members m) []

-- whether the master at place m has the processor at place p
abbrev pub has_member : ℕ → ℕ → List (List ℕ) → Bool
has_member m p members = list_any (λ q. q == p) (members_at m members)

-- the mode of the master at a place, by its processors
abbrev pub master_mode_in : ℕ → List (List ℕ) → List Proc → Mode
master_mode_in m members procs = mode_among (map (λ p. mode_at p procs) (members_at m members))

abbrev pub master_mode : ℕ → Procs → Mode
master_mode m procs = master_mode_in m procs.members procs.procs

-- these are the modes of the masters by their places, each by the processors of its master: off where there is no master
pub record AreModes (members : List (List ℕ)) (procs : List Proc) (modes : List Mode) : Type 0 where
  pub places : length modes ≡ length members
  pub each : (m : ℕ) → unwrap_or (slice_get modes m) Off ≡ master_mode_in m members procs

-- a processor after it went off, whatever it was
abbrev pub turned_off : Proc → Proc
turned_off proc = off

-- the processors after all of them went off, place by place
abbrev pub all_turned_off : List Proc → List Proc
all_turned_off procs = map turned_off procs

-- the processors at load: all are off
abbrev pub all_off : ℕ → List Proc
all_off count = replicate count off
