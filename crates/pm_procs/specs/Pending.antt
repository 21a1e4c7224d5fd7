-- Requests to suspend that are pending: at most one for each master that is asked.
use Rattle.std.specs.Prelude.{ℕ, ◌-◌, ◌^◌, ◌==◌, nat_le, Bool, false, if◌then◌else◌, List, map, replicate, slice_get, slice_set, unwrap_or, Option, Some, None, option_map}
use Rattle.pm_base.specs.declared.names.NodeId.{NodeId}
use Rattle.pm_ipi.specs.declared.calls.AckKind.{AckKind}
use Rattle.pm_procs.specs.declared.pending.Pending.{Pending}

-- ---- one request

-- the time until a request is due, by the timeout of the master that is asked: none where it is never due
abbrev pub time_left : ℕ → Option ℕ
time_left timeout = if timeout == 2 ^ 32 - 1 then None else Some timeout

-- a request that was just made
abbrev pub request_of : ℕ → AckKind → NodeId → ℕ → Pending
request_of by ack node timeout = record { by = by; ack = ack; node = node; left = time_left timeout }

-- the request after this much time: what was left of its time is less by that, or 0 where it was no more
abbrev pub lowered : ℕ → Pending → Pending
lowered count request = record request { left = option_map (λ left. left - count) request.left }

-- whether no more time than this is left of a request's time
abbrev pub is_within : ℕ → Option ℕ → Bool
is_within count None = false
is_within count (Some left) = nat_le left count

-- whether a request is due where this much time passes: one of which no time is left is due in any tick
abbrev pub is_due : ℕ → Pending → Bool
is_due count request = is_within count request.left

-- ---- those of all masters, by the places of the masters that are asked

-- nothing is pending on any of so many masters
abbrev pub none_pending : ℕ → List (Option Pending)
none_pending masters = replicate masters None

-- what is pending on the master at a place: nothing where it isn't there
abbrev pub pending_at : ℕ → List (Option Pending) → Option Pending
pending_at m pending = unwrap_or (slice_get pending m) None

-- this request is pending on the master at a place from now on. Nothing changes where it isn't there
abbrev pub asked : ℕ → Pending → List (Option Pending) → List (Option Pending)
asked m request pending = slice_set pending m (Some request)

-- nothing is pending any more on the master at a place
abbrev pub ended : ℕ → List (Option Pending) → List (Option Pending)
ended m pending = slice_set pending m None

-- each request after this much time
abbrev pub all_lowered : ℕ → List (Option Pending) → List (Option Pending)
all_lowered count pending = map (option_map (lowered count)) pending

-- what is pending on a master once all requests ended: nothing
abbrev pub dropped : Option Pending → Option Pending
dropped request = None

-- nothing is pending any more on any master
abbrev pub all_ended : List (Option Pending) → List (Option Pending)
all_ended pending = map dropped pending
