-- The table of the Zynq UltraScale+ (node numbers and domains of UG1200): the five lists of its topology.
use Rattle.std.specs.Prelude.{ℕ, ◌+◌, Bool, true, false, Option, Some, None, List, [], ◌∷◌, ◌++◌, map, zero, suc}
use Rattle.std.specs.List.{flat_map}
use Rattle.pm_base.specs.Names.{numbered_node as node}
use Rattle.pm_base.specs.declared.names.NodeId.{NodeId}
use Rattle.pm_topology.specs.declared.topology.SlaveDef.{SlaveDef}
use Rattle.pm_topology.specs.declared.topology.ProcDef.{ProcDef}
use Rattle.pm_topology.specs.declared.topology.PowerDef.{PowerDef}
use Rattle.pm_topology.specs.declared.topology.LineDef.{LineDef}
use Rattle.pm_topology.specs.declared.topology.MasterDef.{MasterDef}
use Rattle.pm_topology.specs.declared.topology.Topology.{Topology}
use Rattle.pm_chip.specs.declared.classes.Class.{Class}
use Rattle.pm_chip.specs.declared.classes.Class.TheVariants.{Memory, Dram, Peripheral, Block, External}
use Rattle.pm_chip.specs.declared.chip.Group.{Group}
use Rattle.pm_chip.specs.Classes.{states_of}

-- a power node by its number, its parent's place, whether it is held, its figure and its latency
abbrev pub power : ℕ → Option ℕ → Bool → ℕ → ℕ → PowerDef
power number parent held figure latency = record { node = node number; parent = parent; held = held; figure = figure; latency = latency }

-- PLD, FPD, LPD, the island of the APU and that of the RPU
abbrev pub powers : List PowerDef
powers =
    power 9 None false 50 1000
    ∷ power 10 None false 80 2000
    ∷ power 62 None true 20 3000
    ∷ power 1 (Some 1) false 30 500
    ∷ power 6 (Some 2) false 10 300
    ∷ []

-- a processor by its number, its parent's place, its figure and its latency
abbrev pub proc : ℕ → ℕ → ℕ → ℕ → ProcDef
proc number parent figure latency = record { node = node number; parent = parent; figure = figure; latency = latency }

-- APU_0 to APU_3, RPU_0 and RPU_1
abbrev pub procs : List ProcDef
procs =
    proc 2 3 300 400
    ∷ proc 3 3 300 400
    ∷ proc 4 3 300 400
    ∷ proc 5 3 300 400
    ∷ proc 7 4 100 200
    ∷ proc 8 4 100 200
    ∷ []

-- slaves with numbers that follow one another, by the first number, how many they are, their parent's place and their class
abbrev pub group : ℕ → ℕ → ℕ → Class → Group
group first count parent class = record { 0 = first; 1 = count; 2 = parent; 3 = class }

abbrev pub slaves_from : ℕ → ℕ → ℕ → Class → List SlaveDef
slaves_from first zero parent class = []
slaves_from first (suc count) parent class =
    record { node = node first; parent = parent; states = states_of class } ∷ slaves_from (first + 1) count parent class

abbrev pub slaves_in : Group → List SlaveDef
slaves_in g = slaves_from g.0 g.1 g.2 g.3

-- the slaves by rising number; the places 0, 1, 2 and 4 are PLD, FPD, LPD and the island of the RPU
abbrev pub groups : List Group
groups =
    -- OCM, TCM, L2
    group 11 4 2 Memory
    ∷ group 15 4 4 Memory
    ∷ group 19 1 1 Memory
    -- GPU_PP
    ∷ group 20 2 1 Block
    -- USB, TTC, SATA, ETH, UART, SPI, I2C, SD
    ∷ group 22 2 2 Peripheral
    ∷ group 24 4 2 Peripheral
    ∷ group 28 1 1 Peripheral
    ∷ group 29 4 2 Peripheral
    ∷ group 33 2 2 Peripheral
    ∷ group 35 2 2 Peripheral
    ∷ group 37 2 2 Peripheral
    ∷ group 39 2 2 Peripheral
    -- DP
    ∷ group 41 1 1 Block
    -- GDMA, ADMA, NAND, QSPI, GPIO, CAN
    ∷ group 42 1 1 Peripheral
    ∷ group 43 1 2 Peripheral
    ∷ group 44 1 2 Peripheral
    ∷ group 45 1 2 Peripheral
    ∷ group 46 1 2 Peripheral
    ∷ group 47 2 2 Peripheral
    -- EXTERN
    ∷ group 49 1 2 External
    -- APLL, VPLL, DPLL, and RPLL, IOPLL
    ∷ group 50 3 1 Block
    ∷ group 53 2 2 Block
    -- DDR
    ∷ group 55 1 1 Dram
    -- IPI_APU, IPI_RPU_0
    ∷ group 56 2 2 Peripheral
    -- GPU, PCIE, PCAP
    ∷ group 58 1 1 Block
    ∷ group 59 1 1 Block
    ∷ group 60 1 2 Block
    -- RTC
    ∷ group 61 1 2 Peripheral
    -- VCU
    ∷ group 63 1 0 Block
    -- IPI_RPU_1, IPI_PL
    ∷ group 64 1 2 Peripheral
    ∷ group 65 4 2 Peripheral
    -- PL
    ∷ group 69 1 0 Block
    ∷ []

unfoldable pub slaves : List SlaveDef
slaves = flat_map slaves_in groups

-- the reset line of a processor or slave has its number
abbrev pub line_of : NodeId → LineDef
line_of target = record { line = record { 0 = target.0 }; target = Some target }

-- the lines by rising number
abbrev pub lines_of : List ProcDef → List SlaveDef → List LineDef
lines_of procs slaves = map (λ p. line_of p.node) procs ++ map (λ s. line_of s.node) slaves

-- a master by its number and its processors
abbrev pub master : ℕ → List NodeId → MasterDef
master number procs = record { node = node number; procs = procs }

-- the APU, the RPU in lock-step, and its two halves
abbrev pub masters : List MasterDef
masters =
    master 1 (node 2 ∷ node 3 ∷ node 4 ∷ node 5 ∷ [])
    ∷ master 6 (node 7 ∷ [])
    ∷ master 7 (node 7 ∷ [])
    ∷ master 8 (node 8 ∷ [])
    ∷ []

-- the table of the chip
unfoldable pub chip : Topology
chip = record { slaves = slaves; procs = procs; powers = powers; lines = lines_of procs slaves; masters = masters }
