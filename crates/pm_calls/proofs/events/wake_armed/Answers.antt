use Rattle.std.proofs.Common.{◌≡◌, List, [], length, drop, Some, refl, sym, ◌∙◌, ap, arith}
use Rattle.std.specs.Prelude.{slice_get}
use Rattle.std.proofs.lemmas.List.{drop_all}
use Rattle.pm_rows.specs.declared.row.Entry.{Entry}
use Rattle.pm_rows.specs.Rows.{Rows}
use Rattle.pm_state.specs.State.{Fixed, Now, State}
use Rattle.pm_calls.proofs.WakeLemmas.{wake_each, each_is, rows_stay, wake_step}
use Rattle.pm_calls.proofs.WakeWritten.{write_each, write_step, each_writes}
use Rattle.pm_calls.proofs.events.wake_armed.Goals as goal

pub loop-k-init : goal.loop-k-init
loop-k-init c = record { fixed = refl; rows = refl; whole = refl; written = refl }

pub loop-k-preserved : goal.loop-k-preserved
loop-k-preserved c =
    let entries : List Entry = c.args.tables.now.now.core.rows.entries in
    let e : Entry = c.entry-entry.result in
    let count : c.len-k-end.result ≡ length entries =
    c.len-k-end.ensures ∙ ap (λ (r : Rows). length r.entries) c.rows.ensures
    in
    let found : slice_get entries c.loop-k.k ≡ Some e =
    sym (ap (λ (r : Rows). slice_get r.entries c.loop-k.k) c.loop-k.invariant.rows)
    ∙ (sym (ap (λ (r : Rows). slice_get r.entries c.loop-k.k) c.rows-in-loop-k.ensures) ∙ c.entry-entry.ensures)
    in
    record {
      fixed = ap (λ (b : State). b.fixed) c.wake_from.ensures.book ∙ c.loop-k.invariant.fixed;
      rows = ap (λ (b : State). b.now.core.rows) c.wake_from.ensures.book ∙ (rows_stay c.args.s e c.loop-k.tables ∙ c.loop-k.invariant.rows);
      whole = wake_step c.loop-k.tables c.wake_from.new.tables c.args.s c.loop-k.k e entries c.wake_from.ensures.book found (omega (arith, count, c.loop-k-test.true))
          ∙ c.loop-k.invariant.whole;
      written = write_step c.loop-k.tables c.wake_from.new.tables c.args.s c.loop-k.k e entries c.loop-k.changes c.wake_from.new.changes
          c.wake_from.ensures.book c.wake_from.ensures.written found (omega (arith, count, c.loop-k-test.true))
          ∙ c.loop-k.invariant.written;
    }

pub returns-clause-book : goal.returns-clause-book
returns-clause-book c =
    let book : State = c.args.tables.now in
    let entries : List Entry = book.now.core.rows.entries in
    let count : c.len-k-end.result ≡ length entries =
    c.len-k-end.ensures ∙ ap (λ (r : Rows). length r.entries) c.rows.ensures
    in
    let none : drop c.loop-k.k entries ≡ [] = drop_all c.loop-k.k entries (omega (arith, count, c.loop-k-test.false)) in
    let all : c.loop-k.tables.now ≡ wake_each book.fixed c.args.s entries book.now =
    sym (ap (λ (es : List Entry). wake_each c.loop-k.tables.fixed c.args.s es c.loop-k.tables.now) none) ∙ c.loop-k.invariant.whole
    in
    let by_fixed : Fixed → State = λ f. record { fixed = f; now = c.loop-k.tables.now } in
    let by_now : Now → State = λ n. record { fixed = book.fixed; now = n } in
    ap by_fixed c.loop-k.invariant.fixed ∙ ap by_now (all ∙ sym (each_is book.fixed c.args.s entries book.now))

pub returns-clause-written : goal.returns-clause-written
returns-clause-written c =
    let book : State = c.args.tables.now in
    let entries : List Entry = book.now.core.rows.entries in
    let count : c.len-k-end.result ≡ length entries =
    c.len-k-end.ensures ∙ ap (λ (r : Rows). length r.entries) c.rows.ensures
    in
    let none : drop c.loop-k.k entries ≡ [] = drop_all c.loop-k.k entries (omega (arith, count, c.loop-k-test.false)) in
    sym (ap (λ (es : List Entry). write_each c.loop-k.tables.fixed c.args.s es c.loop-k.tables.now c.loop-k.changes) none)
    ∙ (c.loop-k.invariant.written ∙ sym (each_writes book.fixed c.args.s entries book.now c.args.changes.now))
