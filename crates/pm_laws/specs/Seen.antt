-- The changes of a book that are seen from beyond a border.
use Rattle.std.specs.Prelude.{◌≡◌, Bool, true, false, ◌&&◌, ◌||◌, List, [], filter}
use Rattle.std.specs.List.{AllByRecursion as Each}
use Rattle.pm_rows.specs.declared.row.Change.{Change}
use Rattle.pm_rows.specs.declared.row.Change.TheVariants.{Request, Release, Set, Limit, Arm}
use Rattle.pm_state.specs.Prims.{Prim, At_row, Settle, Put_proc, Put_line, Shift, Clear, Halt, Reload, Enforce}
use Rattle.pm_laws.specs.Border.{Border}
use Rattle.pm_laws.specs.Both.{Both}

-- the change arms a row or disarms it
abbrev pub is_arming : Change → Bool
is_arming (Request caps) = false
is_arming Release = false
is_arming (Set mode caps) = false
is_arming (Limit latency) = false
is_arming (Arm target) = true

-- a change is seen if it belongs to a master beyond. The change of a row is seen only if its slave is beyond too, or
-- if it arms. The change of a reset line is seen if the line is beyond, and clearing the rows on a slave if a master
-- beyond may use it. A change of everything is seen if any master is beyond
abbrev pub seen : Border → Prim → Bool
seen border (At_row m s by) = border.master m && (border.slave s || is_arming by)
seen border (Settle m) = border.master m
seen border (Put_proc m p mode address) = border.master m
seen border (Put_line l asserted) = border.line l
seen border (Shift m mode) = border.master m
seen border (Clear s) = border.used s
seen border Halt = border.some
seen border Reload = border.some
seen border (Enforce k) = border.some

-- the changes among these that are seen
abbrev pub seen_part : Border → List Prim → List Prim
seen_part border prims = filter (seen border) prims

-- none of these changes is seen
abbrev pub IsUnseen : Border → List Prim → Type 0
IsUnseen border prims = seen_part border prims ≡ []

-- none of the changes in these stages is seen
abbrev pub AreHidden : Border → List (List Prim) → Type 0
AreHidden border stages = Each (IsUnseen border) stages

-- two stages have the same visible part; two lists of stages have so, stage by stage
abbrev pub IsSeenAlike : Border → List Prim → List Prim → Type 0
IsSeenAlike border first second = seen_part border first ≡ seen_part border second

abbrev pub AreAlike : Border → List (List Prim) → List (List Prim) → Type 0
AreAlike border first second = Both (IsSeenAlike border) first second
