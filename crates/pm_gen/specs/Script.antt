-- The script that is made from a number.
use Rattle.std.specs.Prelude.{ℕ, zero, suc, ◌+◌, ◌*◌, ◌/◌, ◌%◌, ◌^◌, ◌==◌, nat_le, if◌then◌else◌, List, [], ◌∷◌, ◌++◌, codes, decimal, get_or}
use Rattle.pm_base.specs.declared.events.Event.{Event}
use Rattle.pm_script.specs.Named.{IsScript}

-- the number after another, of 64 bits, by Knuth's constants for a linear congruential generator
abbrev pub next : ℕ → ℕ
next state = (state * 6364136223846793005 + 1442695040888963407) % 2 ^ 64

-- the slaves that lines name
abbrev pub devices : List ℕ
devices = 11 ∷ 28 ∷ 33 ∷ 39 ∷ 46 ∷ []

abbrev pub device_at : ℕ → ℕ
device_at rest = get_or devices (rest % 5) 0

-- a line about a slave
abbrev pub about : List ℕ → ℕ → List ℕ → List ℕ
about before number after = before ++ decimal number ++ after

-- the line of a kind: the rest of its number says which slave it names, or how long a tick is
abbrev pub line_by : ℕ → ℕ → List ℕ
line_by kind rest =
    if nat_le kind 1 then about (codes "ipi 1 13 ") (device_at rest) (codes " 1 0 2\n")
    else if nat_le kind 3 then about (codes "ipi 1 14 ") (device_at rest) (codes "\n")
    else if nat_le kind 5 then about (codes "ipi 7 13 ") (device_at rest) (codes " 1 0 2\n")
    else if kind == 6 then about (codes "ipi 7 14 ") (device_at rest) (codes "\n")
    else if kind == 7 then codes "ipi 1 11 2 46 1\n"
    else if kind == 8 then codes "ipi 1 7 2 0 0 0 0\n"
    else if kind == 9 then codes "wfi 2\n"
    else if kind == 10 then codes "irq 46\n"
    else if kind == 11 then codes "gic 2\n"
    else if kind == 12 then about (codes "ipi 1 15 ") (device_at rest) (codes " 0 0 2\n")
    else if kind == 13 then about (codes "ipi 7 15 ") (device_at rest) (codes " 1 0 2\n")
    else if kind == 14 then about (codes "tick ") (rest % 50) (codes "\n")
    else codes "boot 7 0\n"

-- the line of a number: the bits from 33 on, of which the low four say its kind
abbrev pub line_of : ℕ → List ℕ
line_of state = line_by (state / 2 ^ 33 % 16) (state / 2 ^ 33 / 16)

-- so many lines, each of the number after the one before
unfoldable pub lines_from : ℕ → ℕ → List ℕ
lines_from zero state = []
lines_from (suc count) state = line_of (next state) ++ lines_from count (next state)

-- the first two lines
abbrev pub opening : List ℕ
opening = codes "ipi 1 21\nboot 7 0\n"

-- the script of a number: so many lines after the opening ones, which begin with the number itself
abbrev pub made : ℕ → List ℕ
made n = opening ++ lines_from n n

-- each line of a script has a meaning
abbrev pub HasMeaning : List ℕ → Type 0
HasMeaning text = (events : List Event) × IsScript text events
