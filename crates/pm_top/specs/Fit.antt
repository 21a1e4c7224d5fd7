-- The topology of a form, and the device of it.
use Rattle.std.specs.Prelude.{◌≡◌, ◌⊎◌, ℕ, List, Option, Some, None, Ok}
use Rattle.pm_io.specs.Inputs.{Holds, Moment}
use Rattle.pm_chip.specs.Chip.{chip}
use Rattle.pm_topology.specs.declared.topology.Topology.{Topology}
use Rattle.pm_topofile.specs.Meaning.{meaning}
use Rattle.pm_device.specs.Act.{Fit}
use Rattle.pm_device.specs.declared.device.Device as Device
use Rattle.pm_replay.specs.Safe.{IsSafe}
use Rattle.pm_trace.specs.declared.faults.Fault.{Fault}
use Rattle.pm_trace.specs.declared.faults.Fault.TheVariants.{Memory, Read}
use Rattle.pm_top.specs.Words.{word}

-- the topology is the one that a text says which the word at this place names, and it keeps all rules; without a
-- place it is the chip's
abbrev pub HoldsTopology : Option ℕ → List (List ℕ) → Moment → Topology → Type 0
HoldsTopology None ws m topology = topology ≡ chip
HoldsTopology (Some k) ws m topology = (text : List ℕ) × Holds m (word k ws) text × (meaning text ≡ Ok topology)

module _ {D : Type 0} (d : Device.Ghosts D) where
  -- the device was fitted to the topology, if a word names it, and nothing else was done to it; else it is the chip's
  -- device, and nothing was done to it
  abbrev pub IsFitted : Option ℕ → Topology → D → D → Type 0
  IsFitted None topology old new = (topology ≡ chip) × (old ≡ new)
  IsFitted (Some k) topology old new = d.Does (Fit topology) old new

  -- nothing was done to the device, or, if a word names the topology, it was fitted to such a one
  abbrev pub MayBeFitted : Option ℕ → (Topology → Type 0) → D → D → Type 0
  MayBeFitted None Named old new = old ≡ new
  MayBeFitted (Some k) Named old new = (old ≡ new) ⊎ ((topology : Topology) × Named topology × d.Does (Fit topology) old new)

  -- a refusal leaves the device as it was; but a script that can't be opened, and want of memory, may come after the
  -- fit
  abbrev pub LeftBy : Fault → Option ℕ → (Topology → Type 0) → D → D → Type 0
  LeftBy Read named Named old new = MayBeFitted named Named old new
  LeftBy Memory named Named old new = MayBeFitted named Named old new
  LeftBy fault named Named old new = old ≡ new

  -- the device was the chip's, or, only if the word at this place names the topology, was fitted to one first. Since
  -- then, from values that are all 0, by that topology: no node was set to a value that needs power while its domain
  -- was down, and no domain was taken down under its users
  pub record IsSafeRun (place : Option ℕ) (old new : D) : Type 0 where
    pub named : Option ℕ
    pub asked : (named ≡ None) ⊎ (named ≡ place)
    pub topology : Topology
    pub start : D
    pub fitted : IsFitted named topology old start
    pub safe : IsSafe d topology start new
