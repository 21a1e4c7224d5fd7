-- The calls on clocks by their words (UG1200, PM_CLOCK_ENABLE to PM_CLOCK_GETPARENT).
use Rattle.std.specs.Prelude.{ℕ, ◌==◌, Bool, true, false, if◌then◌else◌, slice_index, Option, Some, None}
use Rattle.std.specs.Option.{option_map}
use Rattle.pm_base.specs.declared.events.Message.{Message}
use Rattle.pm_clock_tree.specs.declared.calls.ClockAct.{ClockAct}
use Rattle.pm_clock_tree.specs.declared.calls.ClockAct.TheVariants.{Enable, Disable, State, SetDivider, Divider, SetParent, Parent}
use Rattle.pm_clock_tree.specs.declared.calls.ClockCall.{ClockCall}

-- what a call with this number and this second argument asks of a clock: CLOCK_ENABLE, CLOCK_DISABLE, CLOCK_GETSTATE,
-- CLOCK_SETDIVIDER, CLOCK_GETDIVIDER, CLOCK_SETPARENT and CLOCK_GETPARENT
abbrev pub act_by : ℕ → ℕ → Option ClockAct
act_by number argument =
    if number == 36 then Some Enable
    else if number == 37 then Some Disable
    else if number == 38 then Some State
    else if number == 39 then Some (SetDivider argument)
    else if number == 40 then Some Divider
    else if number == 43 then Some (SetParent argument)
    else if number == 44 then Some Parent
    else None

abbrev pub act_of : Message → Option ClockAct
act_of message = act_by message.api (slice_index message.args 1)

-- the call on a clock that a message makes, if its number is one of these: its first argument is the clock
abbrev pub clock_call : Message → Option ClockCall
clock_call message = option_map (λ act. record { clock = slice_index message.args 0; act = act }) (act_of message)

-- a call enables the clock or takes that back, or changes how it runs: any but those that only ask
abbrev pub is_change : ClockAct → Bool
is_change State = false
is_change Divider = false
is_change Parent = false
is_change act = true

-- a call changes how a clock runs for all that enable it
abbrev pub is_setting : ClockAct → Bool
is_setting (SetDivider divider) = true
is_setting (SetParent index) = true
is_setting act = false
