use Rattle.pm_rows.specs.declared.row.Entry.{Entry}
use Rattle.pm_rows.specs.Modes.{mode_in}
use Rattle.pm_rows.specs.Passes.{known_after, row_after}
use Rattle.pm_rows.proofs.Paid.{was_put}
use Rattle.pm_rows.proofs.passing.put_read.Goals as goal

pub returns : goal.returns
returns g c = λ start reads x at.
    was_put c.args.k c.mode_in-from.result c.mode_after-to.result c.row_after-row.result
    (λ (e : Entry). mode_in e.seed.master c.args.known.now) (λ (e : Entry). mode_in e.seed.master (known_after c.args.pass c.args.known.now))
    (row_after c.args.pass c.args.table.now.entries) x c.args.entry c.args.table.now c.put.new.self start c.args.steps.now c.put.new.steps
    at c.requires.here c.mode_in-from.ensures c.mode_after-to.ensures c.row_after-row.ensures c.requires.placed
    c.put.ensures.entries c.put.ensures.tally c.put.ensures.slaves c.put.ensures.room reads c.put.ensures.steps
