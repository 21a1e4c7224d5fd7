use Rattle.std.proofs.Common.{◌∙◌, ap}
use Rattle.pm_state.specs.State.{grants_in}
use Rattle.pm_state.proofs.KeptLemmas.{grants_at, policy_there}
use Rattle.pm_state.proofs.tables.Tables.grants.Goals as goal

pub get-requires : goal.get-requires
get-requires c =
    let kept = c.self.invariant.2 in
    policy_there _ _ _ _ _ _ _ _ _ kept c.self.inside.force kept.chosen

pub returns : goal.returns
returns c =
    let kept = c.self.invariant.2 in
    grants_at _ _ _ _ _ _ _ _ _ kept c.self.inside.force c.get.result.now kept.chosen c.get.ensures ∙ ap grants_in c.self.view_is
