use Rattle.std.proofs.Common.{List, ◌++◌, ap, ◌∙◌, subst, sym}
use Rattle.pm_device.specs.Act.{Act}
use Rattle.pm_apply.specs.Order.{IsOrdered}
use Rattle.pm_replay.proofs.safe.logged_acts_are_safe.Goals as goal

pub returns-clause-model : goal.returns-clause-model
returns-clause-model c t old new fresh safe =
    let P : List Act → Type 0 = IsOrdered t (λ unit. 0) in
    subst P (sym (c.chains_are_logged.ensures.model safe.acts old new safe.given ∙ ap (λ log. log ++ safe.acts) fresh)) safe.ordered

pub returns-clause-listed : goal.returns-clause-listed
returns-clause-listed c t old new fresh safe =
    let P : List Act → Type 0 = IsOrdered t (λ unit. 0) in
    subst P (sym (c.chains_are_logged.ensures.listed safe.acts old new safe.given ∙ ap (λ log. log ++ safe.acts) fresh)) safe.ordered
