-- The text of several lines of a core step.
use Rattle.std.specs.Prelude.{ℕ, List, map}
use Rattle.std.specs.List.{concat}
use Rattle.pm_trace.specs.declared.step.StepLine.{StepLine}
use Rattle.pm_trace.specs.Step.{numbered_line, step_words}

-- the text of these lines of script line n
abbrev pub lines_of_step : ℕ → List StepLine → List ℕ
lines_of_step n lines = concat (map (numbered_line n) (map step_words lines))
