use Rattle.std.proofs.Common.{◌≡◌, ◌∙◌, ◌≤◌, ◌<◌, ◌^◌, ℕ, true, IsTrue, List, ap, arith, length, map, subst, sym}
use Rattle.std.specs.List.{list_all}
use Rattle.std.proofs.lemmas.List.{length-replicate}
use Rattle.pm_base.specs.BoundedList.{Bounded}
use Rattle.pm_rows.specs.declared.row.Entry.{Entry}
use Rattle.pm_rows.specs.declared.row.Pair.{Pair}
use Rattle.pm_rows.specs.declared.row.Row.{Row}
use Rattle.pm_rows.specs.Counted.{Table, blank_entry, blank_row, entries_of, is_narrow_pair, is_placed_pair}
use Rattle.pm_rows.specs.Kept.{IsKept}
use Rattle.pm_rows.specs.Links.{IsLinked}
use Rattle.pm_rows.specs.Rows.{pair_of}
use Rattle.pm_rows.specs.Spans.{IsIndexed}
use Rattle.pm_rows.proofs.Blank.{blank_kept, blank_rows, pairs_count, placed_pairs}
use Rattle.pm_rows.proofs.table.Table.refit.Goals as goal

pub index-requires-clause-placed : goal.index-requires-clause-placed
index-requires-clause-placed c =
    let pairs : List Pair = map pair_of c.args.seeds.now in
    let slaves : length c.self.inside.spans.first.items ≡ c.args.self.now.slaves = ap (λ (t : Table). t.slaves) c.self.view_is in
    let items : c.as_slice.result.now ≡ pairs = c.as_slice.ensures ∙ ap (λ (b : Bounded Pair). b.items) c.put_pairs.ensures in
    let P : List Pair → Type 0 = λ ps. IsTrue (list_all (is_placed_pair (length c.self.inside.spans.first.items)) ps) in
    let Q : ℕ → Type 0 = λ n. IsTrue (list_all (is_placed_pair n) pairs) in
    subst P (sym items) (subst Q (sym slaves) (placed_pairs c.args.self.now.slaves c.args.seeds.now ∙ c.requires.placed))

pub invariant_of-self : goal.invariant_of-self
invariant_of-self c =
    let pairs : List Pair = map pair_of c.args.seeds.now in
    let room : ℕ = c.self.inside.room in
    let users : ℕ = length c.self.inside.users in
    let slaves : length c.self.inside.spans.first.items ≡ c.args.self.now.slaves = ap (λ (t : Table). t.slaves) c.self.view_is in
    let whole : room ≡ c.args.self.now.room = ap (λ (t : Table). t.room) c.self.view_is in
    let items : c.as_slice.result.now ≡ pairs = c.as_slice.ensures ∙ ap (λ (b : Bounded Pair). b.items) c.put_pairs.ensures in
    let again : c.as_slice-3.result.now ≡ pairs = c.as_slice-3.ensures ∙ ap (λ (b : Bounded Pair). b.items) c.put_pairs.ensures in
    let each : length c.self.inside.spans.first.items ≡ users = c.self.invariant.0.each in
    let bound : Bounded Pair = record { items = pairs; room = room } in
    let is_bound : c.put_pairs.new.pairs ≡ bound =
    c.put_pairs.ensures ∙ ap (λ n. record { items = pairs; room = n }) (c.self.invariant.0.room ∙ sym c.self.invariant.1)
    in
    let size : length c.blank_all.new.cells ≡ room = ap length c.blank_all.ensures ∙ length-replicate {A = Row} room blank_row in
    let few : room < 2 ^ 31 = omega (arith, c.self.invariant.0.base.few, c.self.invariant.1) in
    let fits : length pairs ≤ room = omega (arith, pairs_count c.args.seeds.now, c.requires.room, whole) in
    let Placed : ℕ → Type 0 = λ n. list_all (is_placed_pair n) pairs ≡ true in
    let placed : Placed users = subst Placed (sym slaves ∙ each) (placed_pairs c.args.self.now.slaves c.args.seeds.now ∙ c.requires.placed) in
    let Indexed : List Pair → Type 0 = λ ps. IsIndexed (length ps) ps c.index.new.self.first.items c.index.new.self.past.items in
    let P : Bounded Pair → Type 0 = λ b. IsKept b c.blank_all.new.cells users c.are_narrow-self-inside.result c.index.new.self.first.items c.index.new.self.past.items in (
      subst P (sym is_bound)
          (blank_kept pairs room users c.blank_all.new.cells c.are_narrow-self-inside.result c.index.new.self.first.items c.index.new.self.past.items
          c.blank_all.ensures fits few placed (c.index.ensures.each ∙ each)
          (c.are_narrow-self-inside.ensures ∙ ap (list_all is_narrow_pair) again)
          (subst Indexed items c.index.ensures.index)),
      sym size,
      subst (λ (ps : List Pair). IsLinked 0 ps c.link.new.self.first.items c.link.new.self.next.items) c.as_slice-2.ensures c.link.ensures,
    )

pub returns : goal.returns
returns c =
    let pairs : List Pair = map pair_of c.args.seeds.now in
    let room : ℕ = c.self.inside.room in
    let whole : room ≡ c.args.self.now.room = ap (λ (t : Table). t.room) c.self.view_is in
    let fits : length pairs ≤ room = omega (arith, pairs_count c.args.seeds.now, c.requires.room, whole) in
    let blank : List Entry = map blank_entry pairs in
    let entries : entries_of c.put_pairs.new.pairs.items c.blank_all.new.cells ≡ blank =
    ap (λ ps. entries_of ps c.blank_all.new.cells) (ap (λ (b : Bounded Pair). b.items) c.put_pairs.ensures)
    ∙ (ap (entries_of pairs) c.blank_all.ensures ∙ blank_rows pairs room fits)
    in
    let F : List Entry → ℕ → Table = λ es n. record {
      entries = es;
      tally = record {
        access = c.self.inside.access;
        context = c.self.inside.context;
        wakeup = c.self.inside.wakeup;
        users = c.self.inside.users;
        limits = c.self.inside.limits;
      };
      slaves = n;
      room = room;
    } in
    ap (λ es. F es (length c.index.new.self.first.items)) entries
    ∙ (ap (F blank) c.index.ensures.each ∙ ap (λ (t : Table). record t { entries = blank }) c.self.view_is)
