-- The verdict on a message: it is dropped, refused by the first of the seven checks of its call that fails, or accepted with the
-- effects of the call.
use Rattle.std.specs.Prelude.{ℕ, Bool, true, false, List, [], ◌∷◌, Option, Some, None}
use Rattle.pm_base.specs.declared.names.LineId.{LineId}
use Rattle.pm_ipi.specs.declared.responses.Response.{Response}
use Rattle.pm_ipi.specs.Responses.{success, refusal, used_by}
use Rattle.pm_ipi.specs.Status.{failure, invalid_parameter, no_feature, no_access, invalid_node, double_request}
use Rattle.pm_calls.specs.declared.verdict.Asked.{Asked}
use Rattle.pm_calls.specs.declared.verdict.Effects.{Effects}
use Rattle.pm_calls.specs.declared.verdict.Say.{Say}
use Rattle.pm_calls.specs.declared.verdict.Say.TheVariants.{Ask, Abort, Renew}
use Rattle.pm_calls.specs.declared.verdict.Verdict.{Verdict}
use Rattle.pm_calls.specs.declared.verdict.Verdict.TheVariants.{Dropped, Refused, Accepted}
use Rattle.pm_calls.specs.Checks.{Checks, Cause, Known, Acknowledge, Node, Arguments, Permitted, Capable, Stands, Fits, NotUsed, InUse, UsedBy, WrongMode, first_failing, Finding}
use Rattle.pm_state.specs.Prims.{Prim}

-- ---- what a call is

-- a call: its seven checks, and, if they hold, the stages of its step (each a list of changes) and its other effects
pub record Called : Type 0 where
  pub checks : Checks
  pub stages : List (List Prim)
  pub effects : Effects

-- the effects of a call that tells these words
abbrev pub told : List ℕ → Effects
told words = record { words = words; says = None; pulse = None }

-- the effects of a call that tells nothing, and has the masters told this
abbrev pub saying : Option Say → Effects
saying says = record { words = 0 ∷ 0 ∷ 0 ∷ []; says = says; pulse = None }

-- the effects of a call that tells nothing, and pulses this reset line
abbrev pub pulsing : Option LineId → Effects
pulsing line = record { words = 0 ∷ 0 ∷ 0 ∷ []; says = None; pulse = line }

-- a call that changes the book in these stages, and does nothing else
abbrev pub staged : Checks → List (List Prim) → Called
staged checks stages = record { checks = checks; stages = stages; effects = saying None }

-- a call that changes the book in one stage, and does nothing else
abbrev pub changing : Checks → List Prim → Called
changing checks changes = staged checks (changes ∷ [])

-- a call that changes nothing of the book by itself, and has these effects
abbrev pub effecting : Checks → Effects → Called
effecting checks effects = record { checks = checks; stages = []; effects = effects }

-- ---- the verdict

-- the verdict by the finding of the last check
abbrev pub verdict_finding : Finding → Effects → Verdict
verdict_finding Fits effects = Accepted effects
verdict_finding NotUsed effects = Refused (refusal no_access)
verdict_finding InUse effects = Refused (refusal double_request)
verdict_finding (UsedBy other) effects = Refused (used_by other)
verdict_finding WrongMode effects = Refused (refusal failure)

-- the verdict by the first check that fails
abbrev pub verdict_by : Cause → Effects → Verdict
verdict_by Known effects = Refused (refusal no_feature)
verdict_by Acknowledge effects = Refused (refusal invalid_parameter)
verdict_by Node effects = Refused (refusal invalid_node)
verdict_by (Arguments words) effects = Refused (record { status = invalid_parameter; words = words })
verdict_by Permitted effects = Refused (refusal no_access)
verdict_by Capable effects = Refused (refusal no_feature)
verdict_by (Stands finding) effects = verdict_finding finding effects

abbrev pub verdict_of : Called → Verdict
verdict_of call = verdict_by (first_failing call.checks) call.effects

-- the stages of a call: none if a check fails
abbrev pub stages_by : Cause → List (List Prim) → List (List Prim)
stages_by (Stands Fits) stages = stages
stages_by _ stages = []

abbrev pub stages_of : Called → List (List Prim)
stages_of call = stages_by (first_failing call.checks) call.stages

-- ---- what follows from it

-- what the masters are told because of it
abbrev pub says_of : Verdict → Option Say
says_of (Accepted effects) = effects.says
says_of _ = None

-- the reset line that it pulses
abbrev pub pulse_of : Verdict → Option LineId
pulse_of (Accepted effects) = effects.pulse
pulse_of _ = None

-- a message that is dropped or refused
abbrev pub is_refusal : Verdict → Bool
is_refusal (Accepted effects) = false
is_refusal _ = true

-- the request, if a master is asked to suspend
abbrev pub asked_by : Option Say → Option Asked
asked_by (Some (Ask asked)) = Some asked
asked_by _ = None

-- the place of the master that aborts its suspend, if one does
abbrev pub aborted_by : Option Say → Option ℕ
aborted_by (Some (Abort m)) = Some m
aborted_by _ = None

-- whether all is restarted
abbrev pub renews_all : Option Say → Bool
renews_all (Some Renew) = true
renews_all _ = false

-- the response to an accepted call with these effects; a request to suspend is answered when it ends
abbrev pub response_to : Option Say → List ℕ → Option Response
response_to (Some (Ask asked)) words = None
response_to _ words = Some (success words)

-- the response that the sender of a message gets in the message's step
abbrev pub response_of : Verdict → Option Response
response_of Dropped = None
response_of (Refused response) = Some response
response_of (Accepted effects) = response_to effects.says effects.words
