use Rattle.std.proofs.Common.{sym}
use Rattle.std.proofs.lemmas.List.{take_rest}
use Rattle.pm_gen.proofs.NamedLemmas.{feed_before}
use Rattle.pm_gen.proofs.summary.behind_feed.Goals as goal

pub returns : goal.returns
returns c = rw take_rest (feed_before c.args.text.now c.in_ok-feed.feed (sym c.in_ok-feed.ensures))
