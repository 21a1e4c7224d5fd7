use Rattle.std.proofs.Common.{◌≡◌, ◌++◌, length, take, drop, sym, ◌∙◌, ap}
use Rattle.pm_state.specs.Values.{placed}
use Rattle.pm_state.proofs.PlacedLemmas.{length-placed}
use Rattle.pm_values.specs.Caches.{use_of}
use Rattle.pm_values.proofs.CachesLaw.{written_back}
use Rattle.pm_values.proofs.caches.Caches.log_changes.Goals as goal

pub log_uses-requires : goal.log_uses-requires
log_uses-requires c =
    ap length c.deref_mut.ensures.value ∙ (ap (λ v. length v.items) c.log_values.ensures.written.used ∙ c.requires.room.places.used)

-- whether each slave is used is written
used_is : (c : goal.After-self-1) → take c.log_values.new.self.used.len (c.log_uses.new.used ++ drop (length c.log_uses.new.used) c.log_values.new.self.used.items) ≡ placed (use_of c.args.tables.now.now.core) 0 c.args.tables.now.fixed.topology.slaves
used_is c =
    let slaves = c.args.tables.now.fixed.topology.slaves in
    let were : length c.log_values.new.self.used.items ≡ length slaves =
    ap (λ v. length v.items) c.log_values.ensures.written.used ∙ c.requires.room.places.used
    in
    let places : length c.log_uses.new.used ≡ c.log_values.new.self.used.len =
    ap length c.log_uses.ensures ∙ (length-placed (use_of c.args.tables.now.now.core) 0 slaves
    ∙ (sym were ∙ (ap length (sym c.deref_mut.ensures.value) ∙ c.deref_mut.ensures.len)))
    in
    written_back c.log_uses.new.used c.log_values.new.self.used.items c.log_values.new.self.used.len places ∙ c.log_uses.ensures

pub returns-clause-kept : goal.returns-clause-kept
returns-clause-kept c =
    let written = c.log_values.ensures.written in
    record {
      kinds = ap (λ v. v.items) written.kinds ∙ c.requires.room.places.kinds;
      states = ap (λ v. v.items) written.states ∙ c.requires.chosen.states;
      needs = ap (λ v. v.items) written.needs ∙ c.requires.chosen.needs;
      runs = ap (λ v. v.items) written.runs ∙ c.requires.chosen.runs;
      used = used_is c;
      power = written.power ∙ c.requires.chosen.power;
      values = written.values;
    }
