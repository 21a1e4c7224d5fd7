use Rattle.std.proofs.Common.{◌≡◌, ℕ, ◌∙◌, IsTrue, List, length, ap, subst, sym, arith}
use Rattle.std.specs.Prelude.{slice_get, unwrap_or}
use Rattle.std.specs.List.{list_all}
use Rattle.std.proofs.lemmas.List.{length-map}
use Rattle.pm_base.specs.BoundedList.{Bounded}
use Rattle.pm_object.specs.declared.object.Object.{Object}
use Rattle.pm_rows.specs.declared.row.RowSeed.{RowSeed}
use Rattle.pm_rows.specs.Counted.{is_placed_seed}
use Rattle.pm_rows.specs.Rows.{Rows}
use Rattle.pm_state.specs.Pairs.{seed_anew, seeds_among, seeds_anew}
use Rattle.pm_state.proofs.KeptLemmas.{anew_placed, keeps_after, pairs_at, policy_there, rows_fit, seeds_fit}
use Rattle.pm_state.proofs.tables.Tables.enforce.Goals as goal

pub get-requires : goal.get-requires
get-requires c = policy_there _ _ _ _ _ _ _ _ _ c.self.invariant.2 c.args.k (omega (arith, c.len.ensures, c.if-k-len.true))

pub put_anew-requires : goal.put_anew-requires
put_anew-requires c =
    let fit = seeds_fit _ _ _ _ _ _ _ _ _ c.self.invariant.2 c.args.k c.get.result.now c.get.ensures in
    omega (arith, fit, ap length c.as_slice.ensures)

pub reload-requires-clause-room : goal.reload-requires-clause-room
reload-requires-clause-room c =
    let fit = rows_fit _ _ _ _ _ _ _ _ _ c.self.invariant.2 c.args.k c.get.result.now c.get.ensures in
    let items = c.as_slice-then-k-len.ensures ∙ ap (λ (b : Bounded RowSeed). b.items) c.put_anew.ensures in
    let many = ap length items ∙ length-map c.as_slice.result.now (seed_anew c.self.inside.rows.known c.as_slice.result.now) in
    omega (arith, fit, many, ap length c.as_slice.ensures)

pub reload-requires-clause-placed : goal.reload-requires-clause-placed
reload-requires-clause-placed c =
    let kept = c.self.invariant.2 in
    let known = c.self.inside.rows.known in
    let slaves : ℕ = c.self.inside.rows.slaves in
    let object : Object = unwrap_or (slice_get c.self.inside.objects c.args.k) c.self.inside.object in
    let pairs = c.as_slice.ensures ∙ pairs_at _ _ _ _ _ _ _ _ _ kept c.args.k c.get.result.now (omega (arith, c.len.ensures, c.if-k-len.true)) c.get.ensures in
    let items : c.as_slice-then-k-len.result.now ≡ seeds_anew object c.self.inside.topology known =
    c.as_slice-then-k-len.ensures ∙ (ap (λ (b : Bounded RowSeed). b.items) c.put_anew.ensures ∙ ap (seeds_among known) pairs)
    in
    let P : List RowSeed → Type 0 = λ seeds. IsTrue (list_all (is_placed_seed slaves) seeds) in
    subst P (sym items) (anew_placed known object c.self.inside.topology slaves kept.each_slave)

pub invariant_of-self : goal.invariant_of-self
invariant_of-self c = (
  c.self.invariant.0,
  c.self.invariant.1,
  keeps_after _ _ _ _ _ _ _ _ _ c.self.invariant.2 c.args.k c.put_anew.new.seeds.room c.reload.new.rows.slaves c.reload.new.rows.room (omega (arith, c.len.ensures, c.if-k-len.true))
      (ap (λ (b : Bounded RowSeed). b.room) c.put_anew.ensures)
      (ap (λ (r : Rows). r.slaves) c.reload.ensures)
      (ap (λ (r : Rows). r.room) c.reload.ensures),
)
