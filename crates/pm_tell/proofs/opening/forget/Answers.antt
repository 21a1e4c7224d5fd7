use Rattle.std.proofs.Common.{◌≡◌, List, [], drop, refl, sym, ◌∙◌, ap, arith}
use Rattle.std.proofs.lemmas.List.{drop_all}
use Rattle.pm_object.specs.declared.object.MasterRec.{MasterRec}
use Rattle.pm_state.specs.State.{State}
use Rattle.pm_tell.specs.Opening.{forgets_from}
use Rattle.pm_state.specs.Talk.{talked}
use Rattle.pm_tell.specs.Telling.{turns_in}
use Rattle.pm_tell.proofs.TalkLemmas.{forget_step}
use Rattle.pm_tell.proofs.opening.forget.Goals as goal

nobody : MasterRec
nobody = record { node = 0; mask = 0; timeout = 0; suspend = 0; wake = 0 }

pub loop-m-init : goal.loop-m-init
loop-m-init c = record { fixed = refl; core = refl; whole = refl }

pub loop-m-preserved : goal.loop-m-preserved
loop-m-preserved c =
    let masters = c.args.tables.now.fixed.object.masters in
    let m = c.loop-m.m in
    let turns = turns_in c.args.telling.now in
    record {
      fixed = ap (λ (b : State). b.fixed) c.forget_master.ensures ∙ c.loop-m.invariant.fixed;
      core = ap (λ (b : State). b.now.core) c.forget_master.ensures ∙ c.loop-m.invariant.core;
      whole = forget_step turns c.loop-m.tables c.forget_master.new.tables m nobody masters c.forget_master.ensures (omega (arith, c.masters-m-end.ensures, c.loop-m-test.true))
          ∙ c.loop-m.invariant.whole;
    }

pub returns : goal.returns
returns c =
    let masters = c.args.tables.now.fixed.object.masters in
    let turns = turns_in c.args.telling.now in
    let none : drop c.loop-m.m masters ≡ [] = drop_all c.loop-m.m masters (omega (arith, c.masters-m-end.ensures, c.loop-m-test.false)) in
    sym (ap (λ (left : List MasterRec). talked (forgets_from turns c.loop-m.m left) c.loop-m.tables) none) ∙ c.loop-m.invariant.whole
