use Rattle.std.proofs.Common.{◌≡◌, ◌∙◌, ℕ, List, [], Result, Ok, ap, arith, length, refl, replicate, subst, sym, true}
use Rattle.std.specs.Prelude.{IfOk}
use Rattle.std.proofs.lemmas.List.{length-replicate}
use Rattle.pm_base.specs.BoundedList.{Bounded}
use Rattle.pm_rows.specs.declared.row.Pair.{Pair}
use Rattle.pm_rows.specs.declared.row.Row.{Row}
use Rattle.pm_rows.specs.Counted.{blank_row}
use Rattle.pm_rows.specs.Kept.{IsKept}
use Rattle.pm_rows.proofs.Blank.{blank_kept}
use Rattle.pm_rows.proofs.Linked.{linked_none}
use Rattle.pm_rows.proofs.Ranges.{indexed_first}
use Rattle.pm_rows.proofs.table.Table.blank.Goals as goal

given : {T E : Type 0} (P : T → Type 0) (made : Result T E) (x : T) → made ≡ Ok x → IfOk made P → P x
given P made x is holds =
    let Q : Result _ _ → Type 0 = λ r. IfOk r P in
    subst Q is holds

-- four values that were had by pairs
four : {A B C D E : Type 0} (a : Result A E) (b : Result B E) (c : Result C E) (d : Result D E) (first : Result (A × B) E) (second : Result (C × D) E)
    (all : Result ((A × B) × (C × D)) E) (x : (A × B) × (C × D)) → all ≡ Ok x → IfOk all (λ p. (first ≡ Ok p.0) × (second ≡ Ok p.1))
    → IfOk first (λ p. (a ≡ Ok p.0) × (b ≡ Ok p.1)) → IfOk second (λ p. (c ≡ Ok p.0) × (d ≡ Ok p.1))
    → ((a ≡ Ok x.0.0) × (b ≡ Ok x.0.1)) × ((c ≡ Ok x.1.0) × (d ≡ Ok x.1.1))
four a b c d first second all x is whole one two =
    let parts = given (λ p. (first ≡ Ok p.0) × (second ≡ Ok p.1)) all x is whole in
    (given (λ p. (a ≡ Ok p.0) × (b ≡ Ok p.1)) first x.0 parts.0 one, given (λ p. (c ≡ Ok p.0) × (d ≡ Ok p.1)) second x.1 parts.1 two)

pub invariant_of-result : goal.invariant_of-result
invariant_of-result c =
    let none : List Pair = [] in
    let rows = c.in_ok-rows.rows in
    let counts = c.in_ok-rows.counts in
    let made = four c.with_room.result c.load.result c.load-2.result c.load-3.result c.both.result c.both-2.result c.both-rows.result rows
    c.in_ok-rows.ensures.0 c.both-rows.ensures c.both.ensures c.both-2.ensures
    in
    let counted = four c.load-4.result c.load-5.result c.load-6.result c.load-7.result c.both-3.result c.both-4.result c.both-counts.result counts
    c.in_ok-rows.ensures.1 c.both-counts.ensures c.both-3.ensures c.both-4.ensures
    in
    let seeds : rows.0.0 ≡ record { items = none; room = c.args.room } =
    given (λ (list : Bounded Pair). list ≡ record { items = none; room = c.args.room }) c.with_room.result rows.0.0 made.0.0 c.with_room.ensures
    in
    let first = given (λ spans. spans.first.items ≡ replicate c.args.slaves 0) c.load.result rows.0.1 made.0.1 c.load.ensures.first in
    let past = given (λ spans. spans.past.items ≡ replicate c.args.slaves 0) c.load.result rows.0.1 made.0.1 c.load.ensures.past in
    let cells : rows.1.0 ≡ replicate c.args.room blank_row =
    given (λ cells. cells ≡ replicate c.args.room c.blank_row.result) c.load-2.result rows.1.0 made.1.0 c.load-2.ensures
    ∙ ap (replicate c.args.room) c.blank_row.ensures
    in
    let size : length rows.1.0 ≡ c.args.room = ap length cells ∙ length-replicate {A = Row} c.args.room blank_row in
    let users : length counts.1.1 ≡ c.args.slaves =
    ap length (given (λ counts. counts ≡ replicate c.args.slaves 0) c.load-7.result counts.1.1 counted.1.1 c.load-7.ensures)
    ∙ length-replicate {A = ℕ} c.args.slaves 0
    in
    let each : length rows.0.1.first.items ≡ c.args.slaves = ap length first ∙ length-replicate {A = ℕ} c.args.slaves 0 in
    let P : Bounded Pair → Type 0 = λ pairs. IsKept pairs rows.1.0 (length counts.1.1) true rows.0.1.first.items rows.0.1.past.items in
    let Q : ℕ → Type 0 = λ n. IsKept (record { items = none; room = c.args.room }) rows.1.0 n true rows.0.1.first.items rows.0.1.past.items in (
      subst P (sym seeds)
          (subst Q (sym users)
          (blank_kept none c.args.room c.args.slaves rows.1.0 true rows.0.1.first.items rows.0.1.past.items
          cells (omega arith) c.requires.few refl each refl
          (indexed_first none rows.0.1.first.items rows.0.1.past.items c.args.slaves 0 first past))),
      sym size,
      linked_none rows.0.0.items _ _ (ap (λ (b : Bounded Pair). length b.items) seeds),
    )
