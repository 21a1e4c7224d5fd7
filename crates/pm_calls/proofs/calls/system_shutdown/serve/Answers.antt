use Rattle.std.proofs.Common.{◌<◌, ◌⊎◌, inl, inr, ◌==◌, ◌&&◌, ◌||◌, sym, ◌∙◌}
use Rattle.std.specs.Prelude.{nat_le}
use Rattle.pm_grants.specs.Grants.{permits_shut}
use Rattle.pm_calls.specs.Verdict.{stages_of}
use Rattle.pm_state.specs.State.{grants_in}
use Rattle.pm_calls.specs.calls.SystemShutdown.{system_shutdown}
use Rattle.pm_values.proofs.AlongLaw.{still_trailed}
use Rattle.pm_calls.proofs.ShutdownCases.{is_scope, isnt_known, isnt_shut}
use Rattle.pm_calls.proofs.Verdicts.{clash, none_done, nothing_done, ranged}
use Rattle.pm_calls.proofs.calls.system_shutdown.serve.Goals as goal

pub returns-then-shutdown_type-gt2-clause-along : goal.returns-then-shutdown_type-gt2-clause-along
returns-then-shutdown_type-gt2-clause-along c =
    let book = c.args.tables.now in
    let kind = c.args.shutdown_type in
    let sub = c.args.subtype in
    let call = system_shutdown (grants_in book) book.fixed c.args.master kind sub in
    let beyond : (2 < kind) ⊎ (2 < sub) = elim c.then-shutdown_type-gt2.either [ inl type ↦ inl type | inr scope ↦ inr scope.1 ] in
    let known = nat_le kind 2 && nat_le sub 2 in
    still_trailed (stages_of call) book c.args.along.now
    (none_done call (λ all. clash known (ranged known all.arguments) (isnt_known kind sub beyond)))
    c.requires.along

pub returns-then-shutdown_type-eq-SCOPE-clause-along : goal.returns-then-shutdown_type-eq-SCOPE-clause-along
returns-then-shutdown_type-eq-SCOPE-clause-along c =
    let book = c.args.tables.now in
    let call = system_shutdown (grants_in book) book.fixed c.args.master c.args.shutdown_type c.args.subtype in
    still_trailed (stages_of call) book c.args.along.now
    (nothing_done call (is_scope book.fixed c.args.master c.args.shutdown_type c.args.subtype c.if-shutdown_type-eq-SCOPE.true))
    c.requires.along

pub returns-then-not-permits_shutdown-clause-along : goal.returns-then-not-permits_shutdown-clause-along
returns-then-not-permits_shutdown-clause-along c =
    let book = c.args.tables.now in
    let kind = c.args.shutdown_type in
    let sub = c.args.subtype in
    let call = system_shutdown (grants_in book) book.fixed c.args.master kind sub in
    let may = permits_shut (grants_in book) c.args.master sub in
    still_trailed (stages_of call) book c.args.along.now
    (none_done call (λ all. clash ((kind == 2) || may) all.permitted (isnt_shut kind may c.if-shutdown_type-eq-SCOPE.false (sym c.permits_shutdown.ensures ∙ c.if-not-permits_shutdown.true))))
    c.requires.along
