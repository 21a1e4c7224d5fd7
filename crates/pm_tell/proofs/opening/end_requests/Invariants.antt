use Rattle.std.proofs.Common.{◌≡◌, drop}
use Rattle.pm_tell.specs.Opening.{ends}
use Rattle.pm_state.specs.Talk.{talked}
use Rattle.pm_tell.proofs.opening.end_requests.Given as goal

-- the requests that are left end after those that did
abbrev pub invariant-loop-end : goal.invariant-loop-end
invariant-loop-end l = talked (ends (drop l.end-index l.ended)) l.tables ≡ talked (ends l.ended) l.fn.tables
