use Rattle.std.proofs.Common.{◌+◌, ◌<◌, ◌&&◌, Bool, length, ap, ◌∙◌, arith}
use Rattle.pm_state.specs.Changes.{is_live, is_of, listed_if}
use Rattle.pm_state.proofs.ChangesLemmas.{rows_end, rows_next, rows_step}
use Rattle.pm_state.proofs.changes.Places.add_rows.Goals as goal

pub entries-init : goal.entries-init
entries-init c =
    rows_next (is_of c.args.master c.args.starts) c.args.rows.now.entries 0 c.next_row-k.result c.args.self.now (omega arith)
    (λ j e there past below. ap (λ (own : Bool). own && is_live c.args.starts e.row) (c.next_row-k.ensures.none j e there past below))

pub entries-preserved : goal.entries-preserved
entries-preserved c =
    let rows = c.args.rows.now.entries in
    let entry = c.entry-entry.result in
    rows_next (is_of c.args.master c.args.starts) rows (c.entries.k + 1) c.next_row-k-in-entries.result c.add_if.new.self c.next_row-k-in-entries.ensures.after
    (λ j e there past below. ap (λ (own : Bool). own && is_live c.args.starts e.row) (c.next_row-k-in-entries.ensures.none j e there past below))
    ∙ (rows_step (is_of c.args.master c.args.starts) rows c.entries.k entry c.entries.self c.add_if.new.self c.entry-entry.ensures (omega (arith, c.len-end.ensures, c.entries-test.true))
    (c.add_if.ensures ∙ ap (λ (b : Bool). listed_if b entry.seed.slave c.entries.self) c.is_of.ensures) ∙ c.entries.invariant)

pub entries-smaller : goal.entries-smaller
entries-smaller c = omega (arith, c.next_row-k-in-entries.ensures.after, c.entries-test.true)

pub returns : goal.returns
returns c = rows_end (is_of c.args.master c.args.starts) c.args.rows.now.entries c.entries.k c.entries.self (omega (arith, c.len-end.ensures, c.entries-test.false)) ∙ c.entries.invariant
