use Rattle.std.proofs.Common.{◌∙◌, ap, slice_set, subst, sym}
use Rattle.pm_base.specs.declared.names.Mode.{Mode}
use Rattle.pm_rows.specs.Counted.{counted, counted_in}
use Rattle.pm_rows.specs.Passes.{rests}
use Rattle.pm_rows.specs.Passing.{IsPut}
use Rattle.pm_rows.specs.Shift.{is_taken, shifted_row}
use Rattle.pm_rows.specs.declared.row.Entry.{Entry}
use Rattle.pm_rows.specs.Modes.{mode_in}
use Rattle.pm_rows.proofs.Calm.{rest_put, turned_is}
use Rattle.pm_rows.proofs.Paid.{was_put}
use Rattle.pm_rows.proofs.turning.turn_at.Goals as goal

pub returns-else-not-rests : goal.returns-else-not-rests
returns-else-not-rests g c = λ x at.
    let taken = is_taken c.args.table.now.entries x in
    let turns = c.requires.turns x at in
    let resting = ap (λ differs. rests differs c.entry-entry.result) (sym c.arming_differs.ensures)
    ∙ (sym c.rests.ensures ∙ c.if-not-rests.false)
    in
    let P : Mode → Type 0 = λ mode. IsPut c.args.k (counted c.args.known.now x)
    (counted_in mode (record x { row = shifted_row c.args.from c.args.to taken x.row }))
    c.args.table.now c.args.steps.now c.args.table.now c.entry-entry.new.steps
    in
    subst P (sym turns.1)
    (rest_put c.args.k c.args.known.now c.args.from c.args.to taken c.args.table.now c.args.steps.now c.entry-entry.new.steps
    x c.entry-entry.result at c.entry-entry.ensures.entry resting c.requires.calm c.entry-entry.ensures.placed c.entry-entry.ensures.few
    c.requires.ready turns.0 c.entry-entry.ensures.steps)

pub returns-then-not-rests : goal.returns-then-not-rests
returns-then-not-rests g c = λ x at.
    let entries = c.args.table.now.entries in
    let entry : Entry = c.entry-entry.result in
    let turns = c.requires.turns entry c.entry-entry.ensures.entry in
    was_put c.args.k c.args.from c.args.to c.turned_row-row.result
    (λ (e : Entry). mode_in e.seed.master c.args.known.now) (λ (e : Entry). mode_in e.seed.master (slice_set c.args.known.now c.args.m c.args.to))
    (λ (e : Entry). shifted_row c.args.from c.args.to (is_taken entries e) e.row) x entry c.args.table.now c.put_alike.new.self c.args.steps.now
    c.entry-entry.new.steps c.put_alike.new.steps at c.entry-entry.ensures.entry (sym turns.0) (sym turns.1)
    (c.turned_row-row.ensures ∙ turned_is c.args.from c.args.to (is_taken entries entry) entry.row c.requires.calm)
    c.entry-entry.ensures.placed c.put_alike.ensures.entries c.put_alike.ensures.tally c.put_alike.ensures.slaves c.put_alike.ensures.room
    c.entry-entry.ensures.steps c.put_alike.ensures.steps
