-- A topology has no first fault exactly where it is well formed.
use Rattle.std.proofs.Common.{◌≡◌, ℕ, ◌+◌, ◌<◌, ◌≤◌, Some, None, List, length, slice_get, refl, arith, subst, Result, Ok, Err, MatchResult, IsOk}
use Rattle.pm_topology.specs.declared.topology.SlaveDef.{SlaveDef}
use Rattle.pm_topology.specs.declared.topology.ProcDef.{ProcDef}
use Rattle.pm_topology.specs.declared.topology.PowerDef.{PowerDef}
use Rattle.pm_topology.specs.declared.topology.LineDef.{LineDef}
use Rattle.pm_topology.specs.declared.topology.MasterDef.{MasterDef}
use Rattle.pm_topology.specs.declared.topology.Topology.{Topology}
use Rattle.pm_topology.specs.declared.faults.TopoFault.{TopoFault}
use Rattle.pm_topology.specs.FirstFault.{first_fault, power_cause, proc_cause, slave_cause, line_cause, master_cause, missing_master, first_fault_from}
use Rattle.pm_topology.specs.WellFormed.{EachEntry, IsWellFormed}
use Rattle.std.proofs.lemmas.Option.{slice_get_within}
use Rattle.pm_topology.proofs.Entries.{neither_there, none_there, faultless_at, faultless_from, distinct_from, distinct_to, apart_from, apart_to, within_limit}
use Rattle.pm_topology.proofs.Causes.{PowerKeeps, power_keeps, power_kept, earlier, not_late, ProcKeeps, proc_keeps, proc_kept, SlaveKeeps, slave_keeps, slave_kept, LineKeeps, line_keeps, line_kept}
use Rattle.pm_topology.proofs.MastersLaw.{MasterKeeps, master_keeps, master_kept, rules_from, none_missing, none_overlaps}

-- every entry keeps the rules of its list
record EntriesKeep (t : Topology) : Type 0 where
  powers : EachEntry t.powers (PowerKeeps t)
  procs : EachEntry t.procs (ProcKeeps t)
  slaves : EachEntry t.slaves (SlaveKeeps t)
  lines : EachEntry t.lines (LineKeeps t)
  masters : EachEntry t.masters (MasterKeeps t)
  none_missing : missing_master t.masters ≡ None

entries_keep : (t : Topology) → first_fault t ≡ None → EntriesKeep t
entries_keep t e =
    let powers = neither_there (first_fault_from (power_cause t) 0 t.powers) _ e in
    let procs = neither_there (first_fault_from (proc_cause t) 0 t.procs) _ powers.1 in
    let slaves = neither_there (first_fault_from (slave_cause t) 0 t.slaves) _ procs.1 in
    let lines = neither_there (first_fault_from (line_cause t) 0 t.lines) _ slaves.1 in
    let masters = neither_there (first_fault_from (master_cause t) 0 t.masters) (missing_master t.masters) lines.1 in
    record {
      powers = λ k x here. power_keeps t k x (faultless_at (power_cause t) 0 t.powers powers.0 k x k here (omega arith));
      procs = λ k x here. proc_keeps t k x (faultless_at (proc_cause t) 0 t.procs procs.0 k x k here (omega arith));
      slaves = λ k x here. slave_keeps t k x (faultless_at (slave_cause t) 0 t.slaves slaves.0 k x k here (omega arith));
      lines = λ k x here. line_keeps t k x (faultless_at (line_cause t) 0 t.lines lines.0 k x k here (omega arith));
      masters = λ k x here. master_keeps t k x (faultless_at (master_cause t) 0 t.masters masters.0 k x k here (omega arith));
      none_missing = masters.1;
    }

pub well_formed_from : (t : Topology) → first_fault t ≡ None → IsWellFormed t
well_formed_from t e =
    let keep = entries_keep t e in
    record {
      few_powers = within_limit t.powers 64 (λ x here. let at = (keep.powers 64 x here).within in absurd (omega arith));
      few_procs = within_limit t.procs 64 (λ x here. let at = (keep.procs 64 x here).within in absurd (omega arith));
      few_slaves = within_limit t.slaves 512 (λ x here. let at = (keep.slaves 512 x here).within in absurd (omega arith));
      few_lines = within_limit t.lines 1024 (λ x here. let at = (keep.lines 1024 x here).within in absurd (omega arith));
      few_masters = within_limit t.masters 4 (λ x here. let at = (keep.masters 4 x here).within in absurd (omega arith));
      powers_distinct = distinct_from (λ (p : PowerDef). p.node.0) t.powers (λ k x here. (keep.powers k x here).new);
      procs_distinct = distinct_from (λ (p : ProcDef). p.node.0) t.procs (λ k x here. (keep.procs k x here).new);
      slaves_distinct = distinct_from (λ (s : SlaveDef). s.node.0) t.slaves (λ k x here. (keep.slaves k x here).new);
      powers_procs = apart_from (λ (p : PowerDef). p.node.0) t.powers (λ (p : ProcDef). p.node.0) t.procs (λ k x here. (keep.procs k x here).no_power);
      powers_slaves = apart_from (λ (p : PowerDef). p.node.0) t.powers (λ (s : SlaveDef). s.node.0) t.slaves (λ k x here. (keep.slaves k x here).no_power);
      procs_slaves = apart_from (λ (p : ProcDef). p.node.0) t.procs (λ (s : SlaveDef). s.node.0) t.slaves (λ k x here. (keep.slaves k x here).no_proc);
      lines_distinct = distinct_from (λ (l : LineDef). l.line.0) t.lines (λ k x here. (keep.lines k x here).new);
      masters_distinct = distinct_from (λ (m : MasterDef). m.node.0) t.masters (λ k x here. (keep.masters k x here).new);
      power_parents = λ k p here. earlier k p.parent (keep.powers k p here).early;
      proc_parents = λ k p here. (keep.procs k p here).parent;
      slave_parents = λ k s here. (keep.slaves k s here).parent;
      states = λ k s here. (keep.slaves k s here).states;
      targets = λ k l here. (keep.lines k l here).target;
      members = λ k m here. ((keep.masters k m here).some, (keep.masters k m here).members);
      masters = rules_from t keep.masters keep.none_missing;
    }

-- an entry of a short list stands below the limit
place : {X : Type 0} (xs : List X) (k at limit : ℕ) (x : X) → slice_get xs k ≡ Some x → length xs ≤ limit → at ≡ 0 + k → at < limit
place xs k at limit x here few is = let within = slice_get_within xs k x here in omega arith

pub faultless_where : (t : Topology) → IsWellFormed t → first_fault t ≡ None
faultless_where t well =
    none_there (first_fault_from (power_cause t) 0 t.powers) _
    (faultless_from (power_cause t) 0 t.powers (λ k p at here is.
    let same : k ≡ at = omega arith in
    let P : ℕ → Type 0 = λ n. slice_get t.powers n ≡ Some p in
    let there = subst P same here in
    power_kept t at p (record {
      within = place t.powers k at 64 p here well.few_powers is;
      new = distinct_to (λ (p : PowerDef). p.node.0) t.powers well.powers_distinct at p there;
      early = not_late at p.parent (well.power_parents at p there);
    })))
    (none_there (first_fault_from (proc_cause t) 0 t.procs) _
    (faultless_from (proc_cause t) 0 t.procs (λ k p at here is.
    let same : k ≡ at = omega arith in
    let P : ℕ → Type 0 = λ n. slice_get t.procs n ≡ Some p in
    let there = subst P same here in
    proc_kept t at p (record {
      within = place t.procs k at 64 p here well.few_procs is;
      no_power = apart_to (λ (p : PowerDef). p.node.0) t.powers (λ (p : ProcDef). p.node.0) t.procs well.powers_procs at p there;
      new = distinct_to (λ (p : ProcDef). p.node.0) t.procs well.procs_distinct at p there;
      parent = well.proc_parents at p there;
    })))
    (none_there (first_fault_from (slave_cause t) 0 t.slaves) _
    (faultless_from (slave_cause t) 0 t.slaves (λ k s at here is.
    let same : k ≡ at = omega arith in
    let P : ℕ → Type 0 = λ n. slice_get t.slaves n ≡ Some s in
    let there = subst P same here in
    slave_kept t at s (record {
      within = place t.slaves k at 512 s here well.few_slaves is;
      no_power = apart_to (λ (p : PowerDef). p.node.0) t.powers (λ (s : SlaveDef). s.node.0) t.slaves well.powers_slaves at s there;
      no_proc = apart_to (λ (p : ProcDef). p.node.0) t.procs (λ (s : SlaveDef). s.node.0) t.slaves well.procs_slaves at s there;
      new = distinct_to (λ (s : SlaveDef). s.node.0) t.slaves well.slaves_distinct at s there;
      parent = well.slave_parents at s there;
      states = well.states at s there;
    })))
    (none_there (first_fault_from (line_cause t) 0 t.lines) _
    (faultless_from (line_cause t) 0 t.lines (λ k l at here is.
    let same : k ≡ at = omega arith in
    let P : ℕ → Type 0 = λ n. slice_get t.lines n ≡ Some l in
    let there = subst P same here in
    line_kept t at l (record {
      within = place t.lines k at 1024 l here well.few_lines is;
      new = distinct_to (λ (l : LineDef). l.line.0) t.lines well.lines_distinct at l there;
      target = well.targets at l there;
    })))
    (none_there (first_fault_from (master_cause t) 0 t.masters) (missing_master t.masters)
    (faultless_from (master_cause t) 0 t.masters (λ k m at here is.
    let same : k ≡ at = omega arith in
    let P : ℕ → Type 0 = λ n. slice_get t.masters n ≡ Some m in
    let there = subst P same here in
    master_kept t at m (record {
      within = place t.masters k at 4 m here well.few_masters is;
      new = distinct_to (λ (m : MasterDef). m.node.0) t.masters well.masters_distinct at m there;
      number = well.masters.numbers at m there;
      some = (well.members at m there).0;
      members = (well.members at m there).1;
      own = well.masters.own at m there;
      once = well.masters.once at m there;
      apart = none_overlaps t well.masters at m there;
    })))
    (none_missing t well.masters)))))

-- an answer that is the first fault is Ok exactly where the topology is well formed
pub passes_where_well_formed : {T : Type 0} (t : Topology) (answer : Result T TopoFault)
    → MatchResult answer (λ _. first_fault t ≡ None) (λ fault. first_fault t ≡ Some fault)
    → (IsOk answer → IsWellFormed t) × (IsWellFormed t → IsOk answer)
passes_where_well_formed t (Ok x) none = ((λ _. well_formed_from t none), (λ _. refl))
passes_where_well_formed t (Err fault) found =
    ((λ is. cc), (λ well. let none = faultless_where t well in cc))
