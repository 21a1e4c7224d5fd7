-- The words that are kept stand at the same places as all words.
use Rattle.std.proofs.Common.{◌≡◌, ◌∙◌, ap, is_some, length}
use Rattle.pm_block.proofs.BlockLemmas.{takes_few, takes_here}
use Rattle.pm_block.proofs.block.Block.takes.Goals as goal

pub returns-then-is_some : goal.returns-then-is_some
returns-then-is_some c = λ pieces is.
    takes_here c.args.address pieces c.args.self.now c.is_some.result is (c.is_some.ensures ∙ ap is_some c.place.ensures) c.if-is_some.true

pub returns-else-is_some : goal.returns-else-is_some
returns-else-is_some c = λ pieces is.
    let many : c.len.result ≡ length c.args.self.now = cc in
    takes_few c.args.address pieces c.args.self.now c.is_some.result c.len.result is (c.is_some.ensures ∙ ap is_some c.place.ensures) c.if-is_some.false many
