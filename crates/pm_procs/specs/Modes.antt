-- The modes of processors, and the mode of several of them together.
use Rattle.std.specs.Prelude.{ℕ, Bool, true, false, ◌==◌, if◌then◌else◌, List}
use Rattle.std.specs.List.{list_any}
use Rattle.pm_base.specs.declared.names.Mode.{Mode}
use Rattle.pm_base.specs.declared.names.Mode.TheVariants.{Off, Active, Asleep, Suspending}

-- the number by which a mode is told
abbrev pub mode_number : Mode → ℕ
mode_number Off = 0
mode_number Active = 1
mode_number Asleep = 2
mode_number Suspending = 3

abbrev pub same_mode : Mode → Mode → Bool
same_mode a b = mode_number a == mode_number b

-- active or suspending: such a processor runs and needs its power node, and such a master is heard
abbrev pub is_awake : Mode → Bool
is_awake Off = false
is_awake Active = true
is_awake Asleep = false
is_awake Suspending = true

abbrev pub has_mode : Mode → List Mode → Bool
has_mode mode modes = list_any (same_mode mode) modes

-- the mode of a master by those of its processors (UG1137, subsystem states): active if one of them is, else suspending if
-- one is, else asleep if one is, else off
abbrev pub mode_among : List Mode → Mode
mode_among modes =
    if has_mode Active modes then Active
    else if has_mode Suspending modes then Suspending
    else if has_mode Asleep modes then Asleep
    else Off
