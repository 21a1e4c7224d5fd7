use Rattle.std.proofs.Common.{◌≡◌, ℕ, drop}
use Rattle.std.specs.List.{list_any, enumerate_from}
use Rattle.pm_topology.specs.declared.topology.PowerDef.{PowerDef}
use Rattle.pm_reach.specs.Leads.{forces_at}
use Rattle.pm_reach.proofs.leads.forces_above.Given as goal

-- whether one of the power nodes that are left is above and may be forced says whether one of all is
abbrev pub invariant-loop-w : goal.invariant-loop-w
invariant-loop-w l =
    list_any (λ (p : ℕ × PowerDef). forces_at l.objects l.t l.master l.node p.0 p.1) (enumerate_from l.w (drop l.w l.t.powers))
    ≡ list_any (λ (p : ℕ × PowerDef). forces_at l.objects l.t l.master l.node p.0 p.1) (enumerate_from 0 l.t.powers)
