-- The calls that send no message, and what they are answered (Arm DEN0022, return codes).
use Rattle.std.specs.Prelude.{ℤ, negsuc, ◌%◌, ◌==◌, ◌&&◌, not, Bool, true, false, Option, Some, None, is_some, if◌then◌else◌}
use Rattle.pm_topology.specs.declared.topology.Topology.{Topology}
use Rattle.pm_psci.specs.declared.calls.Smc.{Smc}
use Rattle.pm_psci.specs.declared.calls.Function.{Function}
use Rattle.pm_psci.specs.declared.calls.Function.TheVariants.{CpuOn, AffinityInfo, Unknown}
use Rattle.pm_psci.specs.Calls.{function_of}
use Rattle.pm_psci.specs.Targets.{is_target, target_at}

-- NOT_SUPPORTED is -1, INVALID_PARAMETERS -2, DENIED -3
abbrev pub not_supported : ℤ
not_supported = negsuc 0

abbrev pub invalid_parameters : ℤ
invalid_parameters = negsuc 1

abbrev pub denied : ℤ
denied = negsuc 2

-- no function has the number
abbrev pub is_unknown : Function → Bool
is_unknown Unknown = true
is_unknown _ = false

-- each target is a processor of master 1, an entry is even, and a level is 0
abbrev pub are_valid : Topology → Function → Bool
are_valid t (CpuOn target entry) = is_some (target_at t target) && (entry % 2 == 0)
are_valid t (AffinityInfo target level) = is_some (target_at t target) && (level == 0)
are_valid t _ = true

-- the caller is no processor of master 1; no function has the number; an argument is outside its range
abbrev pub refusal : Topology → Smc → Option ℤ
refusal t smc =
    if not (is_target t smc.proc) then Some denied
    else if is_unknown (function_of smc) then Some not_supported
    else if not (are_valid t (function_of smc)) then Some invalid_parameters
    else None
