use Rattle.std.proofs.Common.{◌≡◌, ◌∙◌, Some, ap, arith, length, slice_get, sym}
use Rattle.pm_rows.proofs.Cells.{seen_within, seen_cell, seen_entry}
use Rattle.pm_rows.proofs.table.Table.peek.Goals as goal

pub pair_at-requires : goal.pair_at-requires
pair_at-requires c =
    let within = seen_within c.args.self.now c.self.inside.seeds.items c.self.inside.cells _ (length c.self.inside.users) _ _ c.self.view_is c.self.invariant.0.base c.args.k c.requires in
    omega (arith, within, ap length c.as_slice.ensures)

pub value-requires : goal.value-requires
value-requires c =
    seen_cell c.args.self.now c.self.inside.seeds.items c.self.inside.cells _ (length c.self.inside.users) _ _ c.self.view_is c.self.invariant.0.base c.args.k c.requires

pub returns : goal.returns
returns c =
    let pair : slice_get c.self.inside.seeds.items c.args.k ≡ Some c.pair_at.result = ap (λ xs. slice_get xs c.args.k) (sym c.as_slice.ensures) ∙ c.pair_at.ensures in
    seen_entry c.args.self.now c.self.inside.seeds.items c.self.inside.cells _ (length c.self.inside.users) _ _ c.self.view_is c.self.invariant.0.base c.args.k c.pair_at.result c.value.result
    pair
    c.value.ensures
