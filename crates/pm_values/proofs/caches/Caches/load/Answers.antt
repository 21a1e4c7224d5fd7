use Rattle.std.proofs.Common.{◌≡◌, ◌∙◌, ℕ, List, length, ap, map, subst, sym}
use Rattle.std.proofs.lemmas.Result.{IfOk-at_ok}
use Rattle.pm_base.specs.declared.names.Unit.{Unit}
use Rattle.pm_topology.specs.declared.topology.Topology.{Topology}
use Rattle.pm_topology.specs.UnitMap.{all_at, units_in}
use Rattle.pm_topology.specs.Units.{units_of}
use Rattle.pm_topology.specs.WellFormed.{IsWellFormed}
use Rattle.pm_power.specs.Forest.{Needs}
use Rattle.pm_values.specs.declared.caches.Caches.{Caches}
use Rattle.pm_values.specs.Caches.{HasPlaces, idle}
use Rattle.pm_values.specs.Kinds.{UnitKinds}
use Rattle.pm_values.proofs.CachesLaw.{idle_is, zeros_units}
use Rattle.pm_values.proofs.caches.Caches.load.Goals as goal

pub found_of-requires : goal.found_of-requires
found_of-requires c = subst IsWellFormed (sym c.topology-t.ensures.topology) c.stays_well_formed.ensures

pub returns-clause-places : goal.returns-clause-places
returns-clause-places c =
    let t = c.topology-t.result.now in
    let loaded = c.in_ok-kinds in
    let found = c.in_ok-found in
    let caches : Caches = record {
      kinds = loaded.kinds;
      states = loaded.states;
      needs = loaded.needs;
      runs = loaded.runs;
      used = loaded.used;
      power = loaded.power;
      values = loaded.values;
    } in
    let P : Topology → Type 0 = λ t. HasPlaces t caches in
    let power = ap (λ (f : UnitKinds × Needs × List (Unit × ℕ)). f.1) loaded.ensures.0 ∙ found.ensures.power in
    subst P c.topology-t.ensures.topology (record {
      kinds = ap (λ (f : UnitKinds × Needs × List (Unit × ℕ)). f.0.items) loaded.ensures.0 ∙ found.ensures.kinds;
      states = IfOk-at_ok (λ f. length f.0.items ≡ c.len.result) loaded.ensures.1 c.flags_of-flags.ensures.states ∙ c.len.ensures;
      needs = IfOk-at_ok (λ f. length f.1.items ≡ _) loaded.ensures.1 c.flags_of-flags.ensures.needs ∙ c.len.ensures;
      runs = IfOk-at_ok (λ f. length f.2.items ≡ _) loaded.ensures.1 c.flags_of-flags.ensures.runs ∙ c.len-2.ensures;
      used = IfOk-at_ok (λ f. length f.3.items ≡ _) loaded.ensures.1 c.flags_of-flags.ensures.used ∙ c.len.ensures;
      powers = ap (λ (n : Needs). n.powers) power;
      children = ap (λ (n : Needs). map idle n.children) power ∙ idle_is t;
      units = ap (λ (f : UnitKinds × Needs × List (Unit × ℕ)). units_in f.2) loaded.ensures.0 ∙ ap units_in found.ensures.values ∙ zeros_units (units_of t);
    })

pub returns-clause-zeros : goal.returns-clause-zeros
returns-clause-zeros c =
    ap (λ (f : UnitKinds × Needs × List (Unit × ℕ)). f.2) c.in_ok-kinds.ensures.0
    ∙ c.in_ok-found.ensures.values
    ∙ ap (λ (t : Topology). all_at 0 (units_of t)) c.topology-t.ensures.topology
