use Rattle.std.proofs.Common.{◌≡◌, ◌∙◌, Some, ap, arith, length, refl, slice_get, sym}
use Rattle.pm_rows.proofs.Cells.{seen_within, seen_cell, seen_entry, seen_placed, seen_few}
use Rattle.pm_rows.proofs.table.Table.entry.Goals as goal

pub pair_at-requires : goal.pair_at-requires
pair_at-requires g c =
    let within = seen_within c.args.self.now c.self.inside.seeds.items c.self.inside.cells _ (length c.self.inside.users) _ _ c.self.view_is c.self.invariant.0.base c.args.k c.requires in
    omega (arith, within, ap length c.as_slice.ensures)

pub read-requires : goal.read-requires
read-requires g c =
    seen_cell c.args.self.now c.self.inside.seeds.items c.self.inside.cells _ (length c.self.inside.users) _ _ c.self.view_is c.self.invariant.0.base c.args.k c.requires

pub returns-clause-entry : goal.returns-clause-entry
returns-clause-entry g c =
    let pair : slice_get c.self.inside.seeds.items c.args.k ≡ Some c.pair_at.result = ap (λ xs. slice_get xs c.args.k) (sym c.as_slice.ensures) ∙ c.pair_at.ensures in
    seen_entry c.args.self.now c.self.inside.seeds.items c.self.inside.cells _ (length c.self.inside.users) _ _ c.self.view_is c.self.invariant.0.base c.args.k c.pair_at.result c.read.result
    pair
    c.read.ensures.value

pub returns-clause-placed : goal.returns-clause-placed
returns-clause-placed g c =
    let pair : slice_get c.self.inside.seeds.items c.args.k ≡ Some c.pair_at.result = ap (λ xs. slice_get xs c.args.k) (sym c.as_slice.ensures) ∙ c.pair_at.ensures in
    seen_placed c.args.self.now c.self.inside.seeds.items c.self.inside.cells _ (length c.self.inside.users) _ _ c.self.view_is c.self.invariant.0.base c.args.k c.pair_at.result refl pair

pub returns-clause-few : goal.returns-clause-few
returns-clause-few g c =
    seen_few c.args.self.now c.self.inside.seeds.items c.self.inside.cells _ (length c.self.inside.users) _ _ c.self.view_is c.self.invariant.0.base
