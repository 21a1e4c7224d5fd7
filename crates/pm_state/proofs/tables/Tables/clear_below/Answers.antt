use Rattle.std.proofs.Common.{◌≡◌, false, List, refl, sym, ◌∙◌, ap, subst, inl, inr}
use Rattle.pm_base.specs.declared.names.NodeId.{NodeId}
use Rattle.pm_topology.specs.declared.places.Kind.{Kind}
use Rattle.pm_state.specs.Changes.{written_by}
use Rattle.pm_state.specs.Prims.{Prim, changed}
use Rattle.pm_state.specs.Scope.{is_slave_under}
use Rattle.pm_state.specs.State.{Fixed}
use Rattle.pm_state.proofs.ScopeLemmas.{clears_none, clears_power}
use Rattle.pm_state.proofs.tables.Tables.clear_below.Goals as goal

pub returns-in-Power-clause-book : goal.returns-in-Power-clause-book
returns-in-Power-clause-book c =
    let fixed : Fixed = c.args.self.now.fixed in
    c.clear_slaves.ensures.book
    ∙ ap (λ (prims : List Prim). changed prims c.args.self.now)
    (sym (clears_power fixed c.args.forced c.in-Power.w 0 fixed.topology.slaves (sym c.forced_kind.ensures.kind ∙ c.in-Power.is)))

pub returns-in-Power-clause-written : goal.returns-in-Power-clause-written
returns-in-Power-clause-written c =
    let fixed : Fixed = c.args.self.now.fixed in
    c.clear_slaves.ensures.written
    ∙ ap (λ (prims : List Prim). written_by prims c.args.self.now c.args.changes.now)
    (sym (clears_power fixed c.args.forced c.in-Power.w 0 fixed.topology.slaves (sym c.forced_kind.ensures.kind ∙ c.in-Power.is)))

pub returns-in-Proc-clause-book : goal.returns-in-Proc-clause-book
returns-in-Proc-clause-book c =
    let fixed : Fixed = c.args.self.now.fixed in
    let is_none : Kind → Type 0 = λ kind. (node : NodeId) → is_slave_under fixed.topology kind node ≡ false in
    let none : is_none c.forced_kind.result =
    elim c.in-Proc.is [
      | inl proc ↦ subst is_none (sym proc.1) (λ node. refl)
      | inr other ↦ elim other [
        | inl slave ↦ subst is_none (sym slave.1) (λ node. refl)
        | inr unknown ↦ subst is_none (sym unknown) (λ node. refl)
      ]
    ]
    in
    ap (λ (prims : List Prim). changed prims c.args.self.now)
    (sym (clears_none fixed c.args.forced 0 fixed.topology.slaves (subst is_none c.forced_kind.ensures.kind none)))

pub returns-in-Proc-clause-written : goal.returns-in-Proc-clause-written
returns-in-Proc-clause-written c =
    let fixed : Fixed = c.args.self.now.fixed in
    let is_none : Kind → Type 0 = λ kind. (node : NodeId) → is_slave_under fixed.topology kind node ≡ false in
    let none : is_none c.forced_kind.result =
    elim c.in-Proc.is [
      | inl proc ↦ subst is_none (sym proc.1) (λ node. refl)
      | inr other ↦ elim other [
        | inl slave ↦ subst is_none (sym slave.1) (λ node. refl)
        | inr unknown ↦ subst is_none (sym unknown) (λ node. refl)
      ]
    ]
    in
    ap (λ (prims : List Prim). written_by prims c.args.self.now c.args.changes.now)
    (sym (clears_none fixed c.args.forced 0 fixed.topology.slaves (subst is_none c.forced_kind.ensures.kind none)))
