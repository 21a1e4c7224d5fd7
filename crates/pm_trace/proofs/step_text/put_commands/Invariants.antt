use Rattle.std.proofs.Common.{◌≡◌, ◌+◌, ◌*◌, ◌≤◌, ◌++◌, drop, length, map}
use Rattle.pm_trace.specs.declared.step.StepLine.TheVariants as told
use Rattle.pm_trace.specs.declared.step.TheConstants.{LINE}
use Rattle.pm_trace.specs.declared.step_text.TheConstants.{ROOM}
use Rattle.pm_trace.specs.StepText.{lines_of_step}
use Rattle.pm_trace.proofs.step_text.put_commands.Given as goal

-- the lines that were written so far are before those that were there
abbrev pub invariant-loop-left : goal.invariant-loop-left
invariant-loop-left l = record {
  left : l.left ≤ length l.commands;
  room : l.left * LINE ≤ l.from;
  within : l.from ≤ ROOM;
  put : drop l.from l.text ≡ lines_of_step l.number (map told.Command (drop l.left l.commands)) ++ drop l.at l.fn.text;
}

abbrev pub decreases-loop-left : goal.decreases-loop-left
decreases-loop-left l = l.left
