use Rattle.std.proofs.Common.{arith}
use Rattle.pm_script.proofs.FirstLineLemmas.{plain_means}
use Rattle.pm_script.proofs.short.read_first.Goals as goal

pub returns-then-feed-lt-TOO_LONG-clause-means : goal.returns-then-feed-lt-TOO_LONG-clause-means
returns-then-feed-lt-TOO_LONG-clause-means c = plain_means c.args.text.now c.in_ok-feed.feed c.read_short.new.event c.in_ok-feed.ensures (omega arith)
