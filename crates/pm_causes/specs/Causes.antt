-- The first of a call's seven checks that fails, and the response to the call.
use Rattle.std.specs.Prelude.{ℕ, List, []}
use Rattle.pm_ipi.specs.declared.calls.Call.{Call}
use Rattle.pm_ipi.specs.declared.responses.Response.{Response}
use Rattle.pm_calls.specs.declared.verdict.Verdict.{Verdict}
use Rattle.pm_calls.specs.declared.verdict.Verdict.TheVariants.{Dropped, Refused, Accepted}
use Rattle.pm_calls.specs.Checks.{Cause, Checks, first_failing}
use Rattle.pm_state.specs.State.{State}
use Rattle.pm_calls.specs.calls.{called}
use Rattle.pm_calls.specs.Verdict.{verdict_of}

-- the seven checks of a call of the configured master at place m
abbrev pub checks_of : ℕ → Call → State → Checks
checks_of m call book = (called m call book).checks

-- the first of them that fails
abbrev pub cause : ℕ → Call → State → Cause
cause m call book = first_failing (checks_of m call book)

-- the status in a verdict: 0 for an accepted call. No call has the verdict Dropped
abbrev pub status_in : Verdict → ℕ
status_in Dropped = 0
status_in (Refused response) = response.status
status_in (Accepted effects) = 0

-- the words in a verdict
abbrev pub words_in : Verdict → List ℕ
words_in Dropped = []
words_in (Refused response) = response.words
words_in (Accepted effects) = effects.words

-- the status with which the call is answered
abbrev pub status : ℕ → Call → State → ℕ
status m call book = status_in (verdict_of (called m call book))

-- the words that come with it
abbrev pub words : ℕ → Call → State → List ℕ
words m call book = words_in (verdict_of (called m call book))

-- the response to the call: its status and its words
abbrev pub response : ℕ → Call → State → Response
response m call book = record { status = status m call book; words = words m call book }
