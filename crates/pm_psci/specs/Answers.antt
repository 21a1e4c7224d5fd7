-- What a call is answered (Arm DEN0022, return codes).
use Rattle.std.specs.Prelude.{ℕ, ℤ, pos, negsuc, ◌==◌, ◌||◌, Option, Some, None, if◌then◌else◌, option_and_then, slice_index}
use Rattle.std.specs.Option.{option_or}
use Rattle.pm_ipi.specs.declared.responses.Response.{Response}
use Rattle.pm_topology.specs.declared.topology.Topology.{Topology}
use Rattle.pm_psci.specs.declared.calls.Smc.{Smc}
use Rattle.pm_psci.specs.declared.calls.Function.{Function}
use Rattle.pm_psci.specs.declared.calls.Function.TheVariants.{CpuOn, CpuOff, AffinityInfo, SystemOff, SystemReset, Unknown}
use Rattle.pm_psci.specs.Calls.{function_of}
use Rattle.pm_psci.specs.Refusal.{denied, refusal}

-- ALREADY_ON is -4, INTERNAL_FAILURE -6
abbrev pub already_on : ℤ
already_on = negsuc 3

abbrev pub internal_failure : ℤ
internal_failure = negsuc 5

-- CPU_ON by the status of its message: the target started, it was on already, or the message was refused otherwise
abbrev pub started : ℕ → ℤ
started status = if status == 0 then pos 0 else if status == 1 then already_on else internal_failure

-- AFFINITY_INFO by the mode of the target: 0 where it is active or suspending, else 1
abbrev pub affinity : ℕ → ℤ
affinity mode = if (mode == 1) || (mode == 3) then pos 0 else pos 1

-- a call that isn't refused, from the reply to its message: CPU_OFF that is done has no answer, nor has a shutdown
abbrev pub answer_of : Function → Response → Option ℤ
answer_of (CpuOn target entry) response = Some (started response.status)
answer_of CpuOff response = if response.status == 0 then None else Some denied
answer_of (AffinityInfo target level) response = Some (affinity (slice_index response.words 0))
answer_of SystemOff response = None
answer_of SystemReset response = None
answer_of Unknown response = None

-- the answer of a call: its refusal, which needs no reply, and else what the reply says
abbrev pub answered : Topology → Smc → Option Response → Option ℤ
answered t smc reply = option_or (refusal t smc) (option_and_then (answer_of (function_of smc)) reply)
