use Rattle.std.proofs.Common.{◌∙◌, ap, arith, sym}
use Rattle.pm_rows.specs.declared.row.Entry.{Entry}
use Rattle.pm_rows.proofs.Filled.{fill_ends, fill_left, fill_limit, fill_next, fill_ready, fill_starts, fill_within}
use Rattle.pm_rows.proofs.filling.fill.Goals.{then-not-is_blank, else-not-is_blank}
use Rattle.pm_rows.proofs.filling.fill.Goals as goal

pub loop-k-init : goal.loop-k-init
loop-k-init g c = fill_starts c.args.known.now c.args.seeds.now c.args.table.now c.requires.rows c.requires.counted

pub entry-entry-requires : goal.entry-entry-requires
entry-entry-requires g c = fill_within c.args.known.now c.args.seeds.now c.args.table.now c.loop-k.table c.loop-k.k c.loop-k.invariant c.loop-k-test.true

pub put-requires-clause-ready : goal.put-requires-clause-ready
put-requires-clause-ready g c =
    fill_ready c.args.known.now c.args.seeds.now c.args.table.now c.loop-k.table c.loop-k.k c.loop-k.invariant c.seed_at-seed.result c.entry-entry.result c.mode_in-mode.result
    c.seed_at-seed.ensures c.entry-entry.ensures.entry c.mode_in-mode.ensures c.entry-entry.ensures.placed c.entry-entry.ensures.few

pub put-requires-clause-limit : goal.put-requires-clause-limit
put-requires-clause-limit g c =
    fill_limit c.args.known.now c.args.seeds.now c.args.table.now c.loop-k.table c.loop-k.k c.loop-k.invariant c.entry-entry.result.seed.slave c.entry-entry.ensures.placed

pub loop-k-preserved : goal.loop-k-preserved
loop-k-preserved g c =
    elim c.if-not-is_blank.branch [
      | then-not-is_blank w ↦
          rw (w.table-is) (fill_next c.args.known.now c.args.seeds.now c.args.table.now c.loop-k.table c.loop-k.k c.loop-k.invariant c.seed_at-seed.result w.entry-entry.result w.mode_in-mode.result
          w.loaded-loaded.result.row w.put.new.self c.seed_at-seed.ensures w.entry-entry.ensures.entry w.mode_in-mode.ensures
          (ap (λ (e : Entry). e.row) w.loaded-loaded.ensures) w.entry-entry.ensures.placed
          w.put.ensures.entries w.put.ensures.tally w.put.ensures.slaves w.put.ensures.room)
      | else-not-is_blank w ↦
          rw (w.table-is) (fill_left c.args.known.now c.args.seeds.now c.args.table.now c.loop-k.table c.loop-k.k c.loop-k.invariant c.seed_at-seed.result
          c.seed_at-seed.ensures (sym c.is_blank.ensures ∙ w.if-not-is_blank.false))
    ]

pub returns : goal.returns
returns g c =
    let all = fill_ends c.args.known.now c.args.seeds.now c.args.table.now c.loop-k.table c.loop-k.k c.loop-k.invariant (omega (arith, c.loop-k-test.false, c.loop-k.auto.k-end)) in
    record { rows = all.rows; counted = all.counted; slaves = all.slaves; room = all.room }
