-- The first fault of a topology: the power nodes first, then the processors, the slaves, the reset lines and the
-- masters; in a list the first entry that has a fault; and of its faults the first in the order of its rules. A master
-- that is missing comes after the faults of all entries.
use Rattle.std.specs.Prelude.{ℕ, ◌+◌, ◌-◌, ◌==◌, Bool, false, not, ◌&&◌, ◌||◌, if◌then◌else◌, nat_lt, nat_le, Option, Some, None, List, [], ◌∷◌, length, take, slice_get, bit_and}
use Rattle.std.specs.List.{list_any, list_all}
use Rattle.std.specs.Option.{option_map_or, option_or}
use Rattle.pm_base.specs.declared.names.NodeId.{NodeId}
use Rattle.pm_topology.specs.declared.topology.SlaveState.{SlaveState}
use Rattle.pm_topology.specs.declared.topology.SlaveDef.{SlaveDef}
use Rattle.pm_topology.specs.declared.topology.ProcDef.{ProcDef}
use Rattle.pm_topology.specs.declared.topology.PowerDef.{PowerDef}
use Rattle.pm_topology.specs.declared.topology.LineDef.{LineDef}
use Rattle.pm_topology.specs.declared.topology.MasterDef.{MasterDef}
use Rattle.pm_topology.specs.declared.topology.Topology.{Topology}
use Rattle.pm_topology.specs.declared.faults.TopoCause.{TopoCause}
use Rattle.pm_topology.specs.declared.faults.TopoCause.TheVariants.{Repeated, ParentLate, NoStates, LastNotFull, TooMany, BadTarget, BadMember, NoMaster, Overlap}
use Rattle.pm_topology.specs.declared.faults.TopoFault.{TopoFault}
use Rattle.pm_base.specs.Masters.{is_master_number, master_numbers}
use Rattle.pm_topology.specs.Masters.{may_have, has_twice, share, may_share}

-- the fault of an entry at a place, where it has a cause
abbrev pub fault_at : ℕ → Option TopoCause → Option TopoFault
fault_at place None = None
fault_at place (Some cause) = Some (record { cause = cause; place = place })

-- the first entry with a fault, of entries the first of which stands at a place
abbrev pub first_fault_from : {X : Type 0} → (ℕ → X → Option TopoCause) → ℕ → List X → Option TopoFault
first_fault_from cause_of place [] = None
first_fault_from cause_of place (x ∷ xs) = option_or (fault_at place (cause_of place x)) (first_fault_from cause_of (place + 1) xs)

-- whether a power node, a processor, a slave has this number
abbrev pub has_power : ℕ → List PowerDef → Bool
has_power number = list_any (λ p. p.node.0 == number)

abbrev pub has_proc : ℕ → List ProcDef → Bool
has_proc number = list_any (λ p. p.node.0 == number)

abbrev pub has_slave : ℕ → List SlaveDef → Bool
has_slave number = list_any (λ s. s.node.0 == number)

-- a power node's parent is late where it doesn't stand earlier
abbrev pub is_late : ℕ → Option ℕ → Bool
is_late place None = false
is_late place (Some parent) = nat_le place parent

abbrev pub power_cause : Topology → ℕ → PowerDef → Option TopoCause
power_cause t k p =
    if nat_le 64 k then Some TooMany
    else (if has_power p.node.0 (take k t.powers) then Some Repeated
    else (if is_late k p.parent then Some ParentLate
    else None))

abbrev pub proc_cause : Topology → ℕ → ProcDef → Option TopoCause
proc_cause t k p =
    if nat_le 64 k then Some TooMany
    else (if has_power p.node.0 t.powers || has_proc p.node.0 (take k t.procs) then Some Repeated
    else (if nat_le (length t.powers) p.parent then Some ParentLate
    else None))

-- the last state is full: it has each capability of each state, and latency 0
abbrev pub covers : SlaveState → SlaveState → Bool
covers last s = bit_and last.caps.0 s.caps.0 == s.caps.0

abbrev pub is_full : List SlaveState → SlaveState → Bool
is_full states last = (last.latency == 0) && list_all (covers last) states

abbrev pub last_is_full : List SlaveState → Bool
last_is_full states = option_map_or (is_full states) (slice_get states (length states - 1)) false

abbrev pub slave_cause : Topology → ℕ → SlaveDef → Option TopoCause
slave_cause t k s =
    if nat_le 512 k || nat_lt 4 (length s.states) then Some TooMany
    else (if has_power s.node.0 t.powers || (has_proc s.node.0 t.procs || has_slave s.node.0 (take k t.slaves)) then Some Repeated
    else (if nat_le (length t.powers) s.parent then Some ParentLate
    else (if length s.states == 0 then Some NoStates
    else (if not (last_is_full s.states) then Some LastNotFull
    else None))))

-- a target is bad where it is no processor and no slave
abbrev pub is_bad_target : Topology → Option NodeId → Bool
is_bad_target t None = false
is_bad_target t (Some node) = not (has_proc node.0 t.procs || has_slave node.0 t.slaves)

abbrev pub line_cause : Topology → ℕ → LineDef → Option TopoCause
line_cause t k l =
    if nat_le 1024 k then Some TooMany
    else (if list_any (λ e. e.line.0 == l.line.0) (take k t.lines) then Some Repeated
    else (if is_bad_target t l.target then Some BadTarget
    else None))

-- the members of a master are bad where its number isn't one of a master, it has no processor, or it names something
-- that is no processor, that it may not have, or twice
abbrev pub is_bad_member : Topology → ℕ → NodeId → Bool
is_bad_member t master n = not (has_proc n.0 t.procs) || not (may_have master n.0)

abbrev pub has_bad_members : Topology → MasterDef → Bool
has_bad_members t m =
    not (is_master_number m.node.0)
    || ((length m.procs == 0) || (list_any (is_bad_member t m.node.0) m.procs || has_twice m.procs))

-- two masters overlap where they have a processor in common and may not
abbrev pub overlap : MasterDef → MasterDef → Bool
overlap m n = share m n && not (may_share m n)

abbrev pub master_cause : Topology → ℕ → MasterDef → Option TopoCause
master_cause t k m =
    if nat_le 4 k then Some TooMany
    else (if list_any (λ e. e.node.0 == m.node.0) (take k t.masters) then Some Repeated
    else (if has_bad_members t m then Some BadMember
    else (if list_any (overlap m) (take k t.masters) then Some Overlap
    else None)))

-- a master is missing where one of their numbers has no entry; its place is the one after the last entry
abbrev pub has_all_masters : List MasterDef → Bool
has_all_masters masters = list_all (λ n. list_any (λ m. m.node.0 == n) masters) master_numbers

abbrev pub missing_master : List MasterDef → Option TopoFault
missing_master masters =
    if has_all_masters masters then None else Some (record { cause = NoMaster; place = length masters })

abbrev pub first_fault : Topology → Option TopoFault
first_fault t =
    option_or (first_fault_from (power_cause t) 0 t.powers)
    (option_or (first_fault_from (proc_cause t) 0 t.procs)
    (option_or (first_fault_from (slave_cause t) 0 t.slaves)
    (option_or (first_fault_from (line_cause t) 0 t.lines)
    (option_or (first_fault_from (master_cause t) 0 t.masters)
    (missing_master t.masters)))))
