use Rattle.std.proofs.Common.{◌≡◌, ◌++◌, drop, replicate}
use Rattle.pm_base.specs.declared.names.Mode.TheVariants.{Off}
use Rattle.pm_state.proofs.stages.put_all_off.Given as goal

-- the masters before place m are off, and the others are known as before
abbrev pub invariant-loop-m : goal.invariant-loop-m
invariant-loop-m l = record {
  known : l.rows.known ≡ replicate l.m Off ++ drop l.m l.initial.rows.known;
  slaves : l.rows.slaves ≡ l.initial.rows.slaves;
  room : l.rows.room ≡ l.initial.rows.room;
}
