-- No word stands before the comment.
use Rattle.std.proofs.Common.{arith}
use Rattle.std.proofs.lemmas.Grind.{common_steps}
use Rattle.pm_script.proofs.ShortLemmas.{comment_means}
use Rattle.pm_script.proofs.short.read_comment.Goals as goal

pub returns-in_ok-feed-in-35 : goal.returns-in_ok-feed-in-35
returns-in_ok-feed-in-35 c =
    comment_means c.args.text.now c.in_ok-feed-in-35.feed c.leave_nothing.new.event (grind (arith, common_steps)) (grind (arith, common_steps)) c.in_ok-feed-in-35.ensures c.leave_nothing.ensures
