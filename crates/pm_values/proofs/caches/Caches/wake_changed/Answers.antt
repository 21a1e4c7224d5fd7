use Rattle.std.proofs.Common.{Bool, List, slice_get, refl, ap, sym, ◌∙◌}
use Rattle.pm_procs.specs.declared.procs.Proc.{Proc as Processor}
use Rattle.pm_values.specs.Caches.{has_stayed}
use Rattle.pm_values.proofs.caches.Caches.wake_changed.Goals as goal

pub returns-clause-chosen : goal.returns-clause-chosen
returns-clause-chosen c = record {
  states = c.requires.states;
  needs = c.requires.needs;
  runs = c.requires.runs;
  power = c.requires.power;
  kinds = c.wake_changed.ensures.items;
  used = refl;
  values = refl;
}

pub returns-clause-stay : goal.returns-clause-stay
returns-clause-stay c = λ k kind at may is.
    let downs = c.args.along.now.downs in
    let core = c.args.tables.now.now.core in
    let entry = slice_get c.args.self.now.values k in
    sym (ap (λ (ps : List Processor). has_stayed downs ps c.ups.result.now kind entry) c.procs.ensures.procs
    ∙ ap (λ (us : List Bool). has_stayed downs core.procs us kind entry) c.ups.ensures)
    ∙ c.wake_changed.ensures.stay k kind at may is
