use Rattle.std.proofs.Common.{◌∙◌, sym}
use Rattle.pm_rows.proofs.Left.{left_put}
use Rattle.pm_rows.proofs.passing.put_at.Goals as goal

pub returns-then-not-is_left : goal.returns-then-not-is_left
returns-then-not-is_left g c = c.put_read.ensures c.args.steps.now c.entry-entry.ensures.steps

pub returns-else-not-is_left : goal.returns-else-not-is_left
returns-else-not-is_left g c =
    left_put c.args.pass c.args.known.now c.args.k c.args.table.now c.args.steps.now c.entry-entry.new.steps c.entry-entry.result
    c.entry-entry.ensures.entry (sym c.is_left.ensures ∙ c.if-not-is_left.false) c.entry-entry.ensures.placed c.entry-entry.ensures.few
    c.requires.ready c.entry-entry.ensures.steps
