use Rattle.std.proofs.Common.{◌≡◌, false, not, sym, ◌∙◌, ap}
use Rattle.std.specs.Prelude.{is_some}
use Rattle.pm_topology.specs.Places.{kind_of}
use Rattle.pm_ipi.specs.Calls.{ack_kind}
use Rattle.pm_perms.specs.Permits.{can_be_forced}
use Rattle.pm_grants.specs.Grants.{permits_force}
use Rattle.pm_calls.specs.Verdict.{stages_of}
use Rattle.pm_state.specs.State.{grants_in}
use Rattle.pm_calls.specs.calls.ForcePowerdown.{force_powerdown}
use Rattle.pm_values.proofs.AlongLaw.{still_trailed}
use Rattle.pm_calls.proofs.Verdicts.{clash, none_done}
use Rattle.pm_calls.proofs.calls.force_powerdown.serve.Goals as goal

pub returns-then-is_none-clause-along : goal.returns-then-is_none-clause-along
returns-then-is_none-clause-along c =
    let book = c.args.tables.now in
    let call = force_powerdown (grants_in book) book.fixed c.args.master c.args.node c.args.ack in
    let fails : is_some (ack_kind c.args.ack) ≡ false =
    ap is_some (sym c.ack_kind.ensures) ∙ (c.is_none.ensures ∙ ap not c.if-is_none.true)
    in
    still_trailed (stages_of call) book c.args.along.now
    (none_done call (λ all. clash (is_some (ack_kind c.args.ack)) all.acknowledge fails))
    c.requires.along

pub returns-then-not-can_be_forced-clause-along : goal.returns-then-not-can_be_forced-clause-along
returns-then-not-can_be_forced-clause-along c =
    let book = c.args.tables.now in
    let call = force_powerdown (grants_in book) book.fixed c.args.master c.args.node c.args.ack in
    let forced = can_be_forced (kind_of book.fixed.topology c.args.node) in
    let fails : forced ≡ false =
    ap can_be_forced (sym c.kind.ensures) ∙ (sym c.can_be_forced.ensures ∙ c.if-not-can_be_forced.true)
    in
    still_trailed (stages_of call) book c.args.along.now (none_done call (λ all. clash forced all.node fails)) c.requires.along

pub returns-then-not-permits_force-clause-along : goal.returns-then-not-permits_force-clause-along
returns-then-not-permits_force-clause-along c =
    let book = c.args.tables.now in
    let call = force_powerdown (grants_in book) book.fixed c.args.master c.args.node c.args.ack in
    let may = permits_force (grants_in book) c.args.master (kind_of book.fixed.topology c.args.node) in
    let fails : may ≡ false = sym c.permits_force.ensures ∙ c.if-not-permits_force.true in
    still_trailed (stages_of call) book c.args.along.now (none_done call (λ all. clash may all.permitted fails)) c.requires.along
