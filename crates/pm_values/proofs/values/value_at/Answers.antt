use Rattle.std.proofs.Common.{ℕ, Option, unwrap_or, ap, ◌∙◌}
use Rattle.std.specs.Prelude.{option_map}
use Rattle.pm_base.specs.declared.names.Unit.{Unit}
use Rattle.pm_state.specs.Values.{value}
use Rattle.pm_values.proofs.CachesLaw.{entry_kept}
use Rattle.pm_values.proofs.values.value_at.Goals as goal

pub returns-clause-value : goal.returns-clause-value
returns-clause-value c = λ unit there.
    c.value_at.ensures
    ∙ ap (λ (o : Option (Unit × ℕ)). unwrap_or (option_map (λ (e : Unit × ℕ). e.1) o) 0) (entry_kept c.args.tables.now c.args.caches.now c.args.place c.requires)
    ∙ ap (λ (o : Option Unit). unwrap_or (option_map (λ (e : Unit × ℕ). e.1) (option_map (λ u. (u, value u c.args.tables.now)) o)) 0) there

pub returns-clause-past : goal.returns-clause-past
returns-clause-past c = λ none.
    c.value_at.ensures
    ∙ ap (λ (o : Option (Unit × ℕ)). unwrap_or (option_map (λ (e : Unit × ℕ). e.1) o) 0) (entry_kept c.args.tables.now c.args.caches.now c.args.place c.requires)
    ∙ ap (λ (o : Option Unit). unwrap_or (option_map (λ (e : Unit × ℕ). e.1) (option_map (λ u. (u, value u c.args.tables.now)) o)) 0) none
