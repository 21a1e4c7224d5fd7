use Rattle.std.proofs.Common.{◌≡◌, ℕ, ◌∙◌, IsTrue, List, length, map, ap, subst, sym, arith}
use Rattle.std.specs.Prelude.{slice_get, unwrap_or}
use Rattle.std.specs.List.{list_all}
use Rattle.std.proofs.lemmas.List.{length-map}
use Rattle.pm_base.specs.BoundedList.{Bounded}
use Rattle.pm_object.specs.declared.object.Object.{Object}
use Rattle.pm_rows.specs.declared.row.RowSeed.{RowSeed}
use Rattle.pm_rows.specs.Counted.{is_placed_seed}
use Rattle.pm_state.specs.declared.pairs.Permitted.{Permitted}
use Rattle.pm_state.specs.Pairs.{seed_at_load, seeds_at_load}
use Rattle.pm_state.proofs.KeptLemmas.{load_placed, pairs_at, policy_there, rows_fit, seeds_fit}
use Rattle.pm_state.proofs.tables.Tables.reload.Goals as goal

pub get-requires : goal.get-requires
get-requires c = let kept = c.self.invariant.2 in policy_there _ _ _ _ _ _ _ _ _ kept c.self.inside.force kept.chosen

pub put_at_load-requires : goal.put_at_load-requires
put_at_load-requires c =
    let fit = seeds_fit _ _ _ _ _ _ _ _ _ c.self.invariant.2 c.self.inside.force c.get.result.now c.get.ensures in
    omega (arith, fit, ap length c.as_slice.ensures)

pub reload-requires-clause-room : goal.reload-requires-clause-room
reload-requires-clause-room c =
    let fit = rows_fit _ _ _ _ _ _ _ _ _ c.self.invariant.2 c.self.inside.force c.get.result.now c.get.ensures in
    let items = c.as_slice-2.ensures ∙ ap (λ (b : Bounded RowSeed). b.items) c.put_at_load.ensures in
    let many = ap length items ∙ length-map c.as_slice.result.now (seed_at_load c.active_at_load-first.result) in
    omega (arith, fit, many, ap length c.as_slice.ensures, c.know_load.ensures.room)

pub reload-requires-clause-placed : goal.reload-requires-clause-placed
reload-requires-clause-placed c =
    let kept = c.self.invariant.2 in
    let first : ℕ = c.active_at_load-first.result in
    let slaves : ℕ = c.know_load.new.rows.slaves in
    let object : Object = unwrap_or (slice_get c.self.inside.objects c.self.inside.force) c.self.inside.object in
    let pairs = c.as_slice.ensures ∙ pairs_at _ _ _ _ _ _ _ _ _ kept c.self.inside.force c.get.result.now kept.chosen c.get.ensures in
    let items : c.as_slice-2.result.now ≡ seeds_at_load first object c.self.inside.topology =
    c.as_slice-2.ensures
    ∙ (ap (λ (b : Bounded RowSeed). b.items) c.put_at_load.ensures ∙ ap (λ (ps : List Permitted). map (seed_at_load first) ps) pairs)
    in
    let P : List RowSeed → Type 0 = λ seeds. IsTrue (list_all (is_placed_seed slaves) seeds) in
    subst P (sym items) (load_placed first object c.self.inside.topology slaves (c.know_load.ensures.slaves ∙ kept.each_slave))
