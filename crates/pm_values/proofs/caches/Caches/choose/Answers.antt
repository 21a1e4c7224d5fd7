use Rattle.std.proofs.Common.{◌≡◌, ◌++◌, length, take, drop, refl, sym, ◌∙◌, ap}
use Rattle.pm_state.specs.Values.{placed, chosen, need_of, run_of}
use Rattle.pm_values.proofs.CachesLaw.{written_back, forest_is}
use Rattle.pm_state.proofs.PlacedLemmas.{length-placed}
use Rattle.pm_values.proofs.caches.Caches.choose.Goals as goal

-- the states are written, and the needs, and which processors run
states_are : (c : goal.After-recompute) → take c.args.self.now.states.len (c.choose.new.states ++ drop (length c.choose.new.states) c.args.self.now.states.items) ≡ placed (chosen c.args.tables.now.now.core) 0 c.args.tables.now.fixed.topology.slaves
states_are c =
    let places : length c.choose.new.states ≡ c.args.self.now.states.len =
    ap length c.choose.ensures.states ∙ (length-placed (chosen c.args.tables.now.now.core) 0 c.args.tables.now.fixed.topology.slaves
    ∙ (sym c.requires.states ∙ (ap length (sym c.deref_mut.ensures.value) ∙ c.deref_mut.ensures.len)))
    in
    written_back c.choose.new.states c.args.self.now.states.items c.args.self.now.states.len places ∙ c.choose.ensures.states

needs_are : (c : goal.After-recompute) → take c.args.self.now.needs.len (c.choose.new.needs ++ drop (length c.choose.new.needs) c.args.self.now.needs.items) ≡ placed (need_of c.args.tables.now.now.core) 0 c.args.tables.now.fixed.topology.slaves
needs_are c =
    let places : length c.choose.new.needs ≡ c.args.self.now.needs.len =
    ap length c.choose.ensures.needs ∙ (length-placed (need_of c.args.tables.now.now.core) 0 c.args.tables.now.fixed.topology.slaves
    ∙ (sym c.requires.needs ∙ (ap length (sym c.deref_mut-2.ensures.value) ∙ c.deref_mut-2.ensures.len)))
    in
    written_back c.choose.new.needs c.args.self.now.needs.items c.args.self.now.needs.len places ∙ c.choose.ensures.needs

runs_are : (c : goal.After-recompute) → take c.args.self.now.runs.len (c.log_runs.new.runs ++ drop (length c.log_runs.new.runs) c.args.self.now.runs.items) ≡ placed (run_of c.args.tables.now.now.core) 0 c.args.tables.now.fixed.topology.procs
runs_are c =
    let places : length c.log_runs.new.runs ≡ c.args.self.now.runs.len =
    ap length c.log_runs.ensures ∙ (length-placed (run_of c.args.tables.now.now.core) 0 c.args.tables.now.fixed.topology.procs
    ∙ (sym c.requires.runs ∙ (ap length (sym c.deref_mut-3.ensures.value) ∙ c.deref_mut-3.ensures.len)))
    in
    written_back c.log_runs.new.runs c.args.self.now.runs.items c.args.self.now.runs.len places ∙ c.log_runs.ensures

pub returns : goal.returns
returns c = record {
  states = states_are c;
  needs = needs_are c;
  runs = runs_are c;
  power = c.recompute.ensures
      ∙ forest_is c.args.tables.now.fixed c.args.tables.now.now.core c.args.self.now.power c.deref.result.now c.deref-2.result.now
      (c.deref.ensures.value ∙ needs_are c) (c.deref-2.ensures.value ∙ runs_are c) c.requires.powers c.requires.children;
  kinds = refl;
  used = refl;
  values = refl;
}
