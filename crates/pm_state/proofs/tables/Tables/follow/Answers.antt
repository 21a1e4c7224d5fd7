use Rattle.std.proofs.Common.{◌≡◌, List, [], length, drop, refl, sym, ◌∙◌, ap, arith}
use Rattle.std.proofs.lemmas.List.{drop_all}
use Rattle.pm_object.specs.declared.object.MasterRec.{MasterRec}
use Rattle.pm_state.specs.Prims.{changed}
use Rattle.pm_state.specs.Stages.{follow_from}
use Rattle.pm_state.specs.State.{State}
use Rattle.pm_state.specs.Changes.{written_by}
use Rattle.pm_state.proofs.FollowLemmas.{follow_step}
use Rattle.pm_state.proofs.WrittenLemmas.{follow_written}
use Rattle.pm_state.proofs.tables.Tables.follow.Goals as goal

nobody : MasterRec
nobody = record { node = 0; mask = 0; timeout = 0; suspend = 0; wake = 0 }

pub loop-m-init : goal.loop-m-init
loop-m-init c = record { fixed = refl; whole = refl; written = refl }

pub loop-m-preserved : goal.loop-m-preserved
loop-m-preserved c =
    let masters = c.args.self.now.fixed.object.masters in
    let count : c.len-m-end.result ≡ length masters =
    c.len-m-end.ensures ∙ ap (λ (b : State). length b.fixed.object.masters) c.self.view_is
    in
    record {
      fixed = ap (λ (b : State). b.fixed) c.follow_master.ensures.book ∙ c.loop-m.invariant.fixed;
      whole = follow_step c.loop-m.self c.follow_master.new.self c.loop-m.m nobody masters c.follow_master.ensures.book (omega (arith, count, c.loop-m-test.true))
          ∙ c.loop-m.invariant.whole;
      written = follow_written c.loop-m.self c.follow_master.new.self c.loop-m.m nobody masters c.loop-m.changes c.follow_master.new.changes
          c.follow_master.ensures.book c.follow_master.ensures.written (omega (arith, count, c.loop-m-test.true))
          ∙ c.loop-m.invariant.written;
    }

pub returns-clause-book : goal.returns-clause-book
returns-clause-book c =
    let masters = c.args.self.now.fixed.object.masters in
    let count : c.len-m-end.result ≡ length masters =
    c.len-m-end.ensures ∙ ap (λ (b : State). length b.fixed.object.masters) c.self.view_is
    in
    let none : drop c.loop-m.m masters ≡ [] = drop_all c.loop-m.m masters (omega (arith, count, c.loop-m-test.false)) in
    sym (ap (λ (left : List MasterRec). changed (follow_from c.loop-m.self.fixed c.loop-m.self.now.core c.loop-m.m left) c.loop-m.self) none)
    ∙ c.loop-m.invariant.whole

pub returns-clause-written : goal.returns-clause-written
returns-clause-written c =
    let masters = c.args.self.now.fixed.object.masters in
    let count : c.len-m-end.result ≡ length masters =
    c.len-m-end.ensures ∙ ap (λ (b : State). length b.fixed.object.masters) c.self.view_is
    in
    let none : drop c.loop-m.m masters ≡ [] = drop_all c.loop-m.m masters (omega (arith, count, c.loop-m-test.false)) in
    sym (ap (λ (left : List MasterRec). written_by (follow_from c.loop-m.self.fixed c.loop-m.self.now.core c.loop-m.m left) c.loop-m.self c.loop-m.changes) none)
    ∙ c.loop-m.invariant.written
