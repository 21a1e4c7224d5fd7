use Rattle.std.proofs.Common.{Some, None, if◌then◌else◌, sym, ◌∙◌, ap}
use Rattle.std.specs.Prelude.{option_and_then}
use Rattle.pm_calls.specs.calls.{called}
use Rattle.pm_step.specs.Step.{call_in, call_at, message_stages}
use Rattle.pm_values.proofs.AlongLaw.{still_trailed}
use Rattle.pm_step.proofs.StepLaw.{nowhere}
use Rattle.pm_step.proofs.step.receive.Goals as goal

pub returns-in_default-clause-along : goal.returns-in_default-clause-along
returns-in_default-clause-along c =
    let book = c.args.tables.now in
    let call = c.args.call.now in
    still_trailed (message_stages (call_in c.args.master call book)) book c.args.along.now
    (ap (λ p. message_stages (option_and_then (call_at call book) p))
    (sym c.master_place.ensures ∙ nowhere c.master_place.result c.in_default.not-Some))
    c.requires.along

pub returns-else-may_call-clause-along : goal.returns-else-may_call-clause-along
returns-else-may_call-clause-along c =
    let book = c.args.tables.now in
    let call = c.args.call.now in
    let place = c.in-Some.m in
    still_trailed (message_stages (call_in c.args.master call book)) book c.args.along.now
    (ap (λ p. message_stages (option_and_then (call_at call book) p)) (sym c.master_place.ensures ∙ c.in-Some.is)
    ∙ ap (λ h. message_stages (if h then Some (called place call book) else None)) (sym c.may_call.ensures ∙ c.if-may_call.false))
    c.requires.along
