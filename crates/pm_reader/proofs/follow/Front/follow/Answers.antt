-- The lines that were read ahead are followed first, and then each line behind them.
use Rattle.std.proofs.Common.{◌≡◌, ◌+◌, ◌≤◌, ℕ, List, Err, Result, ap, arith, replicate, subst, sym, ◌∙◌}
use Rattle.std.specs.Prelude.{⊤}
use Rattle.std.proofs.lemmas.Result.{err_from_is_err_and}
use Rattle.pm_base.specs.declared.events.Event.TheVariants.{Pass}
use Rattle.pm_io.specs.Readings.{Meanwhile}
use Rattle.pm_reader.specs.declared.follow.LineStop.{LineStop}
use Rattle.pm_reader.specs.declared.follow.LinesEnd.{LinesEnd}
use Rattle.pm_reader.specs.Meant.{ComesTo}
use Rattle.pm_reader.specs.Follow.{FollowedFront, FollowedInput, FollowedOne, ReadsLines}
use Rattle.pm_script.specs.Script.{script_limit}
use Rattle.pm_reader.specs.declared.meant.Meant.TheVariants as meant
use Rattle.pm_reader.proofs.StandsLemmas.{front_left, front_stopped}
use Rattle.pm_reader.proofs.MeantLemmas.{bad_calls, broken_calls, meant_smaller, meant_turns, over_calls, waits_as, waits_bad, waits_broken, waits_few, waits_first, waits_next, waits_over}
use Rattle.pm_reader.proofs.follow.Front.follow.Goals as goal

pub returns-in_err-follow_passed-clause-followed : goal.returns-in_err-follow_passed-clause-followed
returns-in_err-follow_passed-clause-followed g c = λ ahead front.
    let exit = err_from_is_err_and c.from_residual.result c.from_residual.ensures.1 in
    let why : LineStop = c.in_err-follow_passed.field-0.0 in
    let fails = subst (λ (r : Result ⊤ LineStop). FollowedFront g.F.Follower.Follows (replicate c.args.self.now.lines Pass) c.args.follower.now c.follow_passed.new.follower r) c.in_err-follow_passed.was c.follow_passed.ensures in
    subst (λ (r : Result LinesEnd LineStop). FollowedInput g.F.Follower.Follows g.I.Inputs.observable c.args.id ahead (g.I.Inputs.state c.args.inputs.now) c.args.follower.now c.follow_passed.new.follower r) (sym (exit.1 ∙ ap Err exit.2))
    (front_stopped g.F.Follower.Follows g.I.Inputs.observable c.args.id ahead c.args.follower.now c.args.self.now (g.I.Inputs.state c.args.inputs.now) c.follow_passed.new.follower why fails front)

pub returns-in_err-follow_passed-clause-reads : goal.returns-in_err-follow_passed-clause-reads
returns-in_err-follow_passed-clause-reads g c = λ ahead front.
    let exit = err_from_is_err_and c.from_residual.result c.from_residual.ensures.1 in
    let why : LineStop = c.in_err-follow_passed.field-0.0 in
    let fails = subst (λ (r : Result ⊤ LineStop). FollowedFront g.F.Follower.Follows (replicate c.args.self.now.lines Pass) c.args.follower.now c.follow_passed.new.follower r) c.in_err-follow_passed.was c.follow_passed.ensures in
    subst (λ (r : Result LinesEnd LineStop). Meanwhile ahead.first (g.I.Inputs.state c.args.inputs.now) (ReadsLines c.args.id r)) (sym (exit.1 ∙ ap Err exit.2))
    (front_left g.F.Follower.Follows g.I.Inputs.observable c.args.id ahead c.args.follower.now c.args.self.now (g.I.Inputs.state c.args.inputs.now) c.follow_passed.new.follower why fails front)

pub lines-init : goal.lines-init
lines-init g c = λ ahead front.
    let through = subst (λ (r : Result ⊤ LineStop). FollowedFront g.F.Follower.Follows (replicate c.args.self.now.lines Pass) c.args.follower.now c.follow_passed.new.follower r) c.in_ok-follow_passed.was c.follow_passed.ensures in
    waits_first g.F.Follower.Follows g.I.Inputs.observable c.args.id ahead c.args.follower.now c.args.self.now (g.I.Inputs.state c.args.inputs.now) c.follow_passed.new.follower c.meant_of-meant.result c.meant_of-meant.new.event front through
    (subst (λ (line : List ℕ). ComesTo c.args.self.now.taken line c.meant_of-meant.result c.meant_of-meant.new.event) c.as_slice.ensures.value c.meant_of-meant.ensures)

pub overflow_add-count : goal.overflow_add-count
overflow_add-count g c =
    let few : c.lines.count ≤ script_limit + 1 =
    waits_few g.F.Follower.Follows g.I.Inputs.observable c.args.id c.requires.front.0 c.args.follower.now c.args.self.now.lines c.lines.count (g.I.Inputs.state c.lines.inputs) c.lines.follower c.lines.event c.lines.self.reader c.lines.meant (c.lines.invariant c.requires.front.0 c.requires.front.1)
    in
    omega (arith, few)

pub overflow_add-count-in-Event : goal.overflow_add-count-in-Event
overflow_add-count-in-Event g c =
    let few : c.lines.count ≤ script_limit + 1 =
    waits_few g.F.Follower.Follows g.I.Inputs.observable c.args.id c.requires.front.0 c.args.follower.now c.args.self.now.lines c.lines.count (g.I.Inputs.state c.lines.inputs) c.lines.follower c.lines.event c.lines.self.reader c.lines.meant (c.lines.invariant c.requires.front.0 c.requires.front.1)
    in
    omega (arith, few)

pub overflow_add-result : goal.overflow_add-result
overflow_add-result g c =
    let few : c.lines.count ≤ script_limit + 1 =
    waits_few g.F.Follower.Follows g.I.Inputs.observable c.args.id c.requires.front.0 c.args.follower.now c.args.self.now.lines c.lines.count (g.I.Inputs.state c.lines.inputs) c.lines.follower c.lines.event c.lines.self.reader c.lines.meant (c.lines.invariant c.requires.front.0 c.requires.front.1)
    in
    omega (arith, few)

pub returns-in_err-follow_one-in-Event-clause-followed : goal.returns-in_err-follow_one-in-Event-clause-followed
returns-in_err-follow_one-in-Event-clause-followed g c = λ ahead front.
    let exit = err_from_is_err_and c.from_residual-in_err-follow_one-in-Event.result c.from_residual-in_err-follow_one-in-Event.ensures.1 in
    let why : LineStop = c.in_err-follow_one-in-Event.field-0.0 in
    let one = subst (λ (r : Result ⊤ LineStop). FollowedOne g.F.Follower.Follows (c.lines.count + 1) c.lines.event c.lines.follower c.follow_one.new.follower r) c.in_err-follow_one-in-Event.was c.follow_one.ensures in
    let waits = waits_as g.F.Follower.Follows g.I.Inputs.observable c.args.id ahead c.args.follower.now c.args.self.now.lines c.lines.count (g.I.Inputs.state c.lines.inputs) c.lines.follower c.lines.event c.lines.self.reader c.lines.meant meant.Event c.in-Event.is (c.lines.invariant ahead front) in
    subst (λ (r : Result LinesEnd LineStop). FollowedInput g.F.Follower.Follows g.I.Inputs.observable c.args.id ahead (g.I.Inputs.state c.lines.inputs) c.args.follower.now c.follow_one.new.follower r) (sym (exit.1 ∙ ap Err exit.2))
    (waits_broken g.F.Follower.Follows g.I.Inputs.observable c.args.id ahead c.args.follower.now c.args.self.now.lines c.lines.count (g.I.Inputs.state c.lines.inputs) c.lines.follower c.lines.event c.lines.self.reader c.follow_one.new.follower why waits one)

pub returns-in_err-follow_one-in-Event-clause-reads : goal.returns-in_err-follow_one-in-Event-clause-reads
returns-in_err-follow_one-in-Event-clause-reads g c = λ ahead front.
    let exit = err_from_is_err_and c.from_residual-in_err-follow_one-in-Event.result c.from_residual-in_err-follow_one-in-Event.ensures.1 in
    let why : LineStop = c.in_err-follow_one-in-Event.field-0.0 in
    let one = subst (λ (r : Result ⊤ LineStop). FollowedOne g.F.Follower.Follows (c.lines.count + 1) c.lines.event c.lines.follower c.follow_one.new.follower r) c.in_err-follow_one-in-Event.was c.follow_one.ensures in
    let waits = waits_as g.F.Follower.Follows g.I.Inputs.observable c.args.id ahead c.args.follower.now c.args.self.now.lines c.lines.count (g.I.Inputs.state c.lines.inputs) c.lines.follower c.lines.event c.lines.self.reader c.lines.meant meant.Event c.in-Event.is (c.lines.invariant ahead front) in
    subst (λ (r : Result LinesEnd LineStop). Meanwhile ahead.first (g.I.Inputs.state c.lines.inputs) (ReadsLines c.args.id r)) (sym (exit.1 ∙ ap Err exit.2))
    (broken_calls g.F.Follower.Follows g.I.Inputs.observable c.args.id ahead c.args.follower.now c.args.self.now.lines c.lines.count (g.I.Inputs.state c.lines.inputs) c.lines.follower c.lines.event c.lines.self.reader c.follow_one.new.follower why waits one)

pub lines-smaller : goal.lines-smaller
lines-smaller g c =
    let was : meant_turns c.lines.meant ≡ 1 = ap meant_turns c.in-Event.is in
    omega (arith, was, meant_smaller g.I.Inputs.observable c.args.id (g.I.Inputs.state c.lines.inputs) (g.I.Inputs.state c.next_meant-meant.new.inputs) c.lines.self.reader c.next_meant-meant.new.self c.next_meant-meant.result c.next_meant-meant.new.event c.next_meant-meant.ensures)

pub lines-preserved : goal.lines-preserved
lines-preserved g c = λ ahead front.
    let one = subst (λ (r : Result ⊤ LineStop). FollowedOne g.F.Follower.Follows (c.lines.count + 1) c.lines.event c.lines.follower c.follow_one.new.follower r) c.in_ok-follow_one-in-Event.was c.follow_one.ensures in
    let waits = waits_as g.F.Follower.Follows g.I.Inputs.observable c.args.id ahead c.args.follower.now c.args.self.now.lines c.lines.count (g.I.Inputs.state c.lines.inputs) c.lines.follower c.lines.event c.lines.self.reader c.lines.meant meant.Event c.in-Event.is (c.lines.invariant ahead front) in
    waits_next g.F.Follower.Follows g.I.Inputs.observable c.args.id ahead c.args.follower.now c.args.self.now.lines c.lines.count (g.I.Inputs.state c.lines.inputs) c.lines.follower c.lines.event c.lines.self.reader (g.I.Inputs.state c.next_meant-meant.new.inputs) c.follow_one.new.follower c.next_meant-meant.new.self c.next_meant-meant.result c.next_meant-meant.new.event
    waits one c.next_meant-meant.ensures

pub returns-in-Bad-clause-followed : goal.returns-in-Bad-clause-followed
returns-in-Bad-clause-followed g c = λ ahead front.
    waits_bad g.F.Follower.Follows g.I.Inputs.observable c.args.id ahead c.args.follower.now c.args.self.now.lines c.lines.count (g.I.Inputs.state c.lines.inputs) c.lines.follower c.lines.event c.lines.self.reader c.in-Bad.cause (waits_as g.F.Follower.Follows g.I.Inputs.observable c.args.id ahead c.args.follower.now c.args.self.now.lines c.lines.count (g.I.Inputs.state c.lines.inputs) c.lines.follower c.lines.event c.lines.self.reader c.lines.meant (meant.Bad c.in-Bad.cause) c.in-Bad.is (c.lines.invariant ahead front))

pub returns-in-Bad-clause-reads : goal.returns-in-Bad-clause-reads
returns-in-Bad-clause-reads g c = λ ahead front.
    bad_calls g.F.Follower.Follows g.I.Inputs.observable c.args.id ahead c.args.follower.now c.args.self.now.lines c.lines.count (g.I.Inputs.state c.lines.inputs) c.lines.follower c.lines.event c.lines.self.reader c.in-Bad.cause (waits_as g.F.Follower.Follows g.I.Inputs.observable c.args.id ahead c.args.follower.now c.args.self.now.lines c.lines.count (g.I.Inputs.state c.lines.inputs) c.lines.follower c.lines.event c.lines.self.reader c.lines.meant (meant.Bad c.in-Bad.cause) c.in-Bad.is (c.lines.invariant ahead front))

pub returns-in-Over-clause-followed : goal.returns-in-Over-clause-followed
returns-in-Over-clause-followed g c = λ ahead front.
    waits_over g.F.Follower.Follows g.I.Inputs.observable c.args.id ahead c.args.follower.now c.args.self.now.lines c.lines.count (g.I.Inputs.state c.lines.inputs) c.lines.follower c.lines.event c.lines.self.reader c.in-Over.stop (waits_as g.F.Follower.Follows g.I.Inputs.observable c.args.id ahead c.args.follower.now c.args.self.now.lines c.lines.count (g.I.Inputs.state c.lines.inputs) c.lines.follower c.lines.event c.lines.self.reader c.lines.meant (meant.Over c.in-Over.stop) c.in-Over.is (c.lines.invariant ahead front))

pub returns-in-Over-clause-reads : goal.returns-in-Over-clause-reads
returns-in-Over-clause-reads g c = λ ahead front.
    over_calls g.F.Follower.Follows g.I.Inputs.observable c.args.id ahead c.args.follower.now c.args.self.now.lines c.lines.count (g.I.Inputs.state c.lines.inputs) c.lines.follower c.lines.event c.lines.self.reader c.in-Over.stop (waits_as g.F.Follower.Follows g.I.Inputs.observable c.args.id ahead c.args.follower.now c.args.self.now.lines c.lines.count (g.I.Inputs.state c.lines.inputs) c.lines.follower c.lines.event c.lines.self.reader c.lines.meant (meant.Over c.in-Over.stop) c.in-Over.is (c.lines.invariant ahead front))
