-- One more line of the block was followed, or the follower failed at it.
use Rattle.std.proofs.Common.{◌+◌, Err, Result, ap, replicate, subst, sym, ◌∙◌}
use Rattle.std.specs.Prelude.{⊤}
use Rattle.std.proofs.lemmas.Result.{err_from_is_err_and}
use Rattle.pm_base.specs.declared.events.Event.TheVariants.{Pass}
use Rattle.pm_reader.specs.declared.follow.LineStop.{LineStop}
use Rattle.pm_reader.specs.Follow.{FollowedFront, FollowedOne}
use Rattle.pm_reader.proofs.FrontLemmas.{fails_at, through_one}
use Rattle.pm_reader.proofs.follow.follow_passed.Goals as goal

pub returns-in_err-follow_one : goal.returns-in_err-follow_one
returns-in_err-follow_one g c =
    let exit = err_from_is_err_and c.from_residual.result c.from_residual.ensures.1 in
    let why : LineStop = c.in_err-follow_one.field-0.0 in
    let one = subst (λ (r : Result ⊤ LineStop). FollowedOne g.F.Follower.Follows (c.loop-k.k + 1) Pass c.loop-k.follower c.follow_one.new.follower r) c.in_err-follow_one.was c.follow_one.ensures in
    subst (λ (r : Result ⊤ LineStop). FollowedFront g.F.Follower.Follows (replicate c.args.lines Pass) c.args.follower.now c.follow_one.new.follower r)
    (sym (exit.1 ∙ ap Err exit.2))
    (fails_at g.F.Follower.Follows c.args.lines c.loop-k.k c.args.follower.now c.loop-k.follower c.follow_one.new.follower why c.loop-k-test.true c.loop-k.invariant one)

pub loop-k-preserved : goal.loop-k-preserved
loop-k-preserved g c =
    let one = subst (λ (r : Result ⊤ LineStop). FollowedOne g.F.Follower.Follows (c.loop-k.k + 1) Pass c.loop-k.follower c.follow_one.new.follower r) c.in_ok-follow_one.was c.follow_one.ensures in
    through_one g.F.Follower.Follows c.loop-k.k c.args.follower.now c.loop-k.follower c.follow_one.new.follower c.loop-k.invariant one
