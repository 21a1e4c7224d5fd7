-- The place of the chosen state of a slave is small.
use Rattle.std.proofs.Common.{ℕ, ◌<◌, ◌≤◌, ◌^◌, length, Some, None, unwrap_or, nat_lt, cond, arith}
use Rattle.std.specs.List.{position_or_len}
use Rattle.std.proofs.lemmas.Bool.Decides.{nat_tests}
use Rattle.pm_topology.specs.declared.topology.SlaveDef.{SlaveDef}
use Rattle.pm_topology.specs.WellFormed.{HasFullLast}
use Rattle.pm_slaves.specs.Choice.{meets}
use Rattle.pm_rows.specs.declared.wanted.Wanted.{Wanted}
use Rattle.pm_state.specs.Choice.{state_for}

position_small : (place len : ℕ) → len ≤ 4 → unwrap_or (cond (nat_lt place len) (Some place) None) 0 < 2 ^ 32
position_small place len few = grind (arith, nat_tests)

pub chosen_fits : (wanted : Wanted) (slave : SlaveDef) → HasFullLast slave.states → state_for wanted slave.states < 2 ^ 32
chosen_fits wanted slave full =
    position_small (position_or_len (meets wanted.caps.0 wanted.limit) slave.states) (length slave.states) full.few
