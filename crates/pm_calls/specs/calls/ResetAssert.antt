-- PM_RESET_ASSERT (UG1200).
use Rattle.std.specs.Prelude.{ℕ, Bool, ◌==◌, ◌||◌, if◌then◌else◌, is_some, List, [], ◌∷◌, ◌++◌, Option, Some, None}
use Rattle.pm_base.specs.declared.names.LineId.{LineId}
use Rattle.pm_base.specs.declared.names.Mode.TheVariants.{Off}
use Rattle.pm_calls.specs.declared.reset_lines.LineView.{LineView}
use Rattle.pm_calls.specs.declared.reset_lines.OwnedProc.{OwnedProc}
use Rattle.pm_calls.specs.Checks.{Checks, in_range, unchecked}
use Rattle.pm_state.specs.Prims.{Prim, Put_line, Put_proc}
use Rattle.pm_calls.specs.Verdict.{Called, changing, pulsing}

-- 0 releases, 1 asserts, and 2 pulses
abbrev pub is_action : ℕ → Bool
is_action action = (action == 0) || ((action == 1) || (action == 2))

-- the chip has the line, the action is known, and the caller may reset the line
abbrev pub reset_checks : ℕ → LineView → Checks
reset_checks action view =
    record unchecked { node = is_some view.place; arguments = in_range (is_action action); permitted = view.permitted }

-- the change of the line at this place: asserted or released
abbrev pub line_put : Option ℕ → Bool → List Prim
line_put None asserted = []
line_put (Some l) asserted = Put_line l asserted ∷ []

-- the processor that the line resets, if it resets one, goes off
abbrev pub stopped : Option OwnedProc → List Prim
stopped None = []
stopped (Some target) = Put_proc target.owner target.proc Off 0 ∷ []

-- a line that is released stops nothing
abbrev pub stopped_by : ℕ → Option OwnedProc → List Prim
stopped_by action target = if action == 0 then [] else stopped target

-- an asserted line has the value 1, any other 0; asserted or pulsed, it stops its processor
abbrev pub reset_changes : ℕ → LineView → List Prim
reset_changes action view = line_put view.place (action == 1) ++ stopped_by action view.target

-- the line, if the action is a pulse
abbrev pub pulsed : ℕ → LineId → Option LineId
pulsed action line = if action == 2 then Some line else None

abbrev pub reset_assert : LineId → ℕ → LineView → Called
reset_assert line action view =
    record (changing (reset_checks action view) (reset_changes action view)) { effects = pulsing (pulsed action line) }
