-- The calls by their words (Arm DEN0022, function identifiers).
use Rattle.std.specs.Prelude.{ℕ, ◌/◌, ◌%◌, ◌^◌, ◌==◌, if◌then◌else◌, slice_index}
use Rattle.pm_psci.specs.declared.calls.Smc.{Smc}
use Rattle.pm_psci.specs.declared.calls.Function.{Function}
use Rattle.pm_psci.specs.declared.calls.Function.TheVariants.{CpuOn, CpuOff, AffinityInfo, SystemOff, SystemReset, Unknown}

-- the low and the high word of 64 bits
abbrev pub low_word : ℕ → ℕ
low_word word = word % 2 ^ 32

abbrev pub high_word : ℕ → ℕ
high_word word = word / 2 ^ 32

-- the argument at a place, counted from 0
abbrev pub argument : Smc → ℕ → ℕ
argument smc k = slice_index smc.args k

-- the function of a call: where it is of 32 bits, the low words of its arguments alone count. A level has 32 bits in either
-- form
abbrev pub function_of : Smc → Function
function_of smc =
    if smc.function == 0x84000002 then CpuOff
    else if smc.function == 0x84000003 then CpuOn (low_word (argument smc 0)) (low_word (argument smc 1))
    else if smc.function == 0xC4000003 then CpuOn (argument smc 0) (argument smc 1)
    else if smc.function == 0x84000004 then AffinityInfo (low_word (argument smc 0)) (low_word (argument smc 1))
    else if smc.function == 0xC4000004 then AffinityInfo (argument smc 0) (low_word (argument smc 1))
    else if smc.function == 0x84000008 then SystemOff
    else if smc.function == 0x84000009 then SystemReset
    else Unknown
