-- The keyword is the first word, and the numbers are the others.
use Rattle.pm_script.proofs.ShortLemmas.{numbers_mean}
use Rattle.pm_script.proofs.short.read_numbers.Goals as goal

pub returns-then-leave : goal.returns-then-leave
returns-then-leave c =
    let found = c.in_ok-feed.ensures in
    numbers_mean c.args.kind c.args.text.now c.args.from c.in_ok-feed.feed c.find_numbers.new.numbers c.leave.new.event c.requires.from c.requires.text found.ends found.numbers (c.leave.ensures c.if-leave.true)
