use Rattle.std.proofs.Common.{◌≡◌, List, [], drop, map, flat_map, refl, sym, ◌∙◌, ap, arith}
use Rattle.std.proofs.lemmas.List.{drop_all}
use Rattle.std.proofs.lemmas.Option.{slice_get-get_or}
use Rattle.pm_tell.specs.declared.ended.Ended.{Ended}
use Rattle.pm_tell.specs.Callbacks.{acknowledged_to}
use Rattle.pm_state.specs.Talk.{Talk, talked, wait_of}
use Rattle.pm_tell.proofs.TalkLemmas.{each_step, map_flat}
use Rattle.pm_tell.proofs.keeping.keep_ended.Goals as goal

pub loop-end-init : goal.loop-end-init
loop-end-init c = refl

pub loop-end-preserved : goal.loop-end-preserved
loop-end-preserved c =
    let change : Ended → List Talk = λ end. map (wait_of c.args.k) (acknowledged_to c.args.k end) in
    each_step change c.args.ended.now c.loop-end.end-index _ c.loop-end.tables c.keep_end.new.tables
    (slice_get-get_or c.args.ended.now c.loop-end.end-index _ c.loop-end-test.true) c.keep_end.ensures
    ∙ c.loop-end.invariant

pub returns : goal.returns
returns c =
    let k = c.args.k in
    let change : Ended → List Talk = λ end. map (wait_of k) (acknowledged_to k end) in
    let ended = c.args.ended.now in
    let none : drop c.loop-end.end-index ended ≡ [] = drop_all c.loop-end.end-index ended (omega (arith, c.loop-end-test.false)) in
    sym (ap (λ left. talked (flat_map change left) c.loop-end.tables) none)
    ∙ (c.loop-end.invariant ∙ ap (λ changes. talked changes c.args.tables.now) (sym (map_flat (wait_of k) (acknowledged_to k) ended)))
