-- The events that a call comes to: a function of the table and the call alone.
use Rattle.std.specs.Prelude.{ℕ, ◌+◌, List, [], ◌∷◌, is_some, unwrap_or, if◌then◌else◌}
use Rattle.pm_base.specs.declared.events.Event.{Event}
use Rattle.pm_base.specs.declared.events.Event.TheVariants.{Ipi, Wfi, Pass}
use Rattle.pm_topology.specs.declared.topology.Topology.{Topology}
use Rattle.pm_psci.specs.declared.calls.Smc.{Smc}
use Rattle.pm_psci.specs.declared.calls.Function.{Function}
use Rattle.pm_psci.specs.declared.calls.Function.TheVariants.{CpuOn, CpuOff, AffinityInfo, SystemOff, SystemReset, Unknown}
use Rattle.pm_psci.specs.Calls.{function_of, low_word, high_word}
use Rattle.pm_psci.specs.Targets.{target_at}
use Rattle.pm_psci.specs.Refusal.{refusal}

-- a message of master 1
abbrev pub sent_by_master : ℕ → List ℕ → Event
sent_by_master api args = Ipi (record { 0 = 1 }) (record { api = api; args = args })

-- the number of the target at a place
abbrev pub target_number : Topology → ℕ → ℕ
target_number t place = (unwrap_or (target_at t place) (record { 0 = 0 })).0

-- what a call comes to that isn't refused
abbrev pub sent : Topology → Smc → Function → List Event
-- REQUEST_WAKEUP: the target, the entry, whose bit 0 says that there is one, and an acknowledgement by a reply
sent t smc (CpuOn target entry) =
    sent_by_master 10 (target_number t target ∷ (low_word entry + 1) ∷ high_word entry ∷ 2 ∷ 0 ∷ []) ∷ []
-- SELF_SUSPEND of the caller, with no address at which it resumes; and then it waits for an interrupt
sent t smc CpuOff = sent_by_master 7 (smc.proc.0 ∷ 0 ∷ 0 ∷ 0 ∷ 0 ∷ []) ∷ Wfi smc.proc ∷ []
-- GET_NODE_STATUS of the target
sent t smc (AffinityInfo target level) = sent_by_master 3 (target_number t target ∷ 0 ∷ 0 ∷ 0 ∷ 0 ∷ []) ∷ []
-- SYSTEM_SHUTDOWN of the whole system: a shutdown, or a restart
sent t smc SystemOff = sent_by_master 12 (0 ∷ 2 ∷ 0 ∷ 0 ∷ 0 ∷ []) ∷ []
sent t smc SystemReset = sent_by_master 12 (1 ∷ 2 ∷ 0 ∷ 0 ∷ 0 ∷ []) ∷ []
sent t smc Unknown = []

-- what comes to nothing is one pass
abbrev pub or_pass : List Event → List Event
or_pass [] = Pass ∷ []
or_pass (event ∷ events) = event ∷ events

abbrev pub lowered : Topology → Smc → List Event
lowered t smc = or_pass (if is_some (refusal t smc) then [] else sent t smc (function_of smc))
