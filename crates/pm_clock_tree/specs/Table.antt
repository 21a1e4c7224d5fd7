-- The table of clocks. It is this project's own; the nodes are those of UG1200.
use Rattle.std.specs.Prelude.{ℕ, ◌==◌, Bool, if◌then◌else◌, List, [], ◌∷◌, find, length, position, slice_get, is_some, Option, Some, None}
use Rattle.pm_base.specs.Names.{numbered_node as node}
use Rattle.pm_base.specs.declared.names.NodeId.{NodeId}
use Rattle.pm_clock_tree.specs.declared.table.ClockDef.{ClockDef}

-- the slaves that the roots come from, which are the clocks 0 to 4
abbrev pub roots : List NodeId
roots = node 50 ∷ node 51 ∷ node 52 ∷ node 53 ∷ node 54 ∷ []

-- a clock by its number, its slave and its two or three parents
abbrev pub two : ℕ → ℕ → ℕ → ℕ → ClockDef
two number slave first second =
    record { number = number; node = node slave; first = first; second = second; third = None }

abbrev pub three : ℕ → ℕ → ℕ → ℕ → ℕ → ClockDef
three number slave first second third =
    record { number = number; node = node slave; first = first; second = second; third = Some third }

-- the other clocks
abbrev pub clocks : List ClockDef
clocks =
    two 5 33 4 3
    ∷ two 6 34 4 3
    ∷ three 7 28 0 1 2
    ∷ two 8 39 4 3
    ∷ two 9 40 4 3
    ∷ two 10 29 4 3
    ∷ two 11 55 2 1
    ∷ two 12 41 1 3
    ∷ two 13 58 0 1
    ∷ two 14 24 5 4
    ∷ two 15 25 14 4
    ∷ []

-- a clock is a root
abbrev pub is_root : ℕ → Bool
is_root number = is_some (slice_get roots number)

-- the entry of a clock that is no root, and its place among these
abbrev pub is_numbered : ℕ → ClockDef → Bool
is_numbered number def = def.number == number

abbrev pub def_of : ℕ → Option ClockDef
def_of number = find (is_numbered number) clocks

abbrev pub clock_place : ℕ → Option ℕ
clock_place number = position (is_numbered number) clocks

-- the parent of a clock at an index
abbrev pub parent_at : ℕ → ClockDef → Option ℕ
parent_at index def =
    if index == 0 then Some def.first
    else if index == 1 then Some def.second
    else if index == 2 then def.third
    else None

-- how many roots and how many other clocks there are
abbrev pub root_count : ℕ
root_count = length roots

abbrev pub clock_count : ℕ
clock_count = length clocks
