use Rattle.std.proofs.Common.{◌≡◌, ◌≤◌, ℕ, false, List, refl, sym, ◌∙◌, ap, subst, inl, inr, arith}
use Rattle.pm_base.specs.declared.names.NodeId.{NodeId}
use Rattle.pm_topology.specs.declared.places.Kind.{Kind}
use Rattle.pm_state.specs.Changes.{written_by}
use Rattle.pm_state.specs.Prims.{Prim, changed}
use Rattle.pm_state.specs.Scope.{is_under}
use Rattle.pm_state.specs.State.{Fixed}
use Rattle.pm_state.proofs.ScopeLemmas.{offs_none, offs_power, offs_proc}
use Rattle.pm_state.proofs.tables.Tables.force_off.Goals as goal

pub returns-in-Proc-clause-book : goal.returns-in-Proc-clause-book
returns-in-Proc-clause-book c =
    let fixed : Fixed = c.args.self.now.fixed in
    c.put_off.ensures.book
    ∙ ap (λ (prims : List Prim). changed prims c.args.self.now)
    (sym
    (offs_proc fixed c.args.forced c.in-Proc.p 0 fixed.topology.procs (sym c.forced_kind.ensures.kind ∙ c.in-Proc.is) (omega arith)
    (omega (arith, c.in-Proc.ensures.placed))))

pub returns-in-Proc-clause-written : goal.returns-in-Proc-clause-written
returns-in-Proc-clause-written c =
    let fixed : Fixed = c.args.self.now.fixed in
    c.put_off.ensures.written
    ∙ ap (λ (prims : List Prim). written_by prims c.args.self.now c.args.changes.now)
    (sym
    (offs_proc fixed c.args.forced c.in-Proc.p 0 fixed.topology.procs (sym c.forced_kind.ensures.kind ∙ c.in-Proc.is) (omega arith)
    (omega (arith, c.in-Proc.ensures.placed))))

pub returns-in-Power-clause-book : goal.returns-in-Power-clause-book
returns-in-Power-clause-book c =
    let fixed : Fixed = c.args.self.now.fixed in
    c.put_off_below.ensures.book
    ∙ ap (λ (prims : List Prim). changed prims c.args.self.now)
    (sym (offs_power fixed c.args.forced c.in-Power.w 0 fixed.topology.procs (sym c.forced_kind.ensures.kind ∙ c.in-Power.is)))

pub returns-in-Power-clause-written : goal.returns-in-Power-clause-written
returns-in-Power-clause-written c =
    let fixed : Fixed = c.args.self.now.fixed in
    c.put_off_below.ensures.written
    ∙ ap (λ (prims : List Prim). written_by prims c.args.self.now c.args.changes.now)
    (sym (offs_power fixed c.args.forced c.in-Power.w 0 fixed.topology.procs (sym c.forced_kind.ensures.kind ∙ c.in-Power.is)))

pub returns-in-Slave-clause-book : goal.returns-in-Slave-clause-book
returns-in-Slave-clause-book c =
    let fixed : Fixed = c.args.self.now.fixed in
    let is_none : Kind → Type 0 = λ kind. (k : ℕ) (node : NodeId) → 0 ≤ k → is_under fixed.topology kind k node ≡ false in
    let none : is_none c.forced_kind.result =
    elim c.in-Slave.is [
      | inl slave ↦ subst is_none (sym slave.1) (λ k node from. refl)
      | inr unknown ↦ subst is_none (sym unknown) (λ k node from. refl)
    ]
    in
    ap (λ (prims : List Prim). changed prims c.args.self.now)
    (sym (offs_none fixed c.args.forced 0 fixed.topology.procs (subst is_none c.forced_kind.ensures.kind none)))

pub returns-in-Slave-clause-written : goal.returns-in-Slave-clause-written
returns-in-Slave-clause-written c =
    let fixed : Fixed = c.args.self.now.fixed in
    let is_none : Kind → Type 0 = λ kind. (k : ℕ) (node : NodeId) → 0 ≤ k → is_under fixed.topology kind k node ≡ false in
    let none : is_none c.forced_kind.result =
    elim c.in-Slave.is [
      | inl slave ↦ subst is_none (sym slave.1) (λ k node from. refl)
      | inr unknown ↦ subst is_none (sym unknown) (λ k node from. refl)
    ]
    in
    ap (λ (prims : List Prim). written_by prims c.args.self.now c.args.changes.now)
    (sym (offs_none fixed c.args.forced 0 fixed.topology.procs (subst is_none c.forced_kind.ensures.kind none)))
