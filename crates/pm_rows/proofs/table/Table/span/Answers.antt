use Rattle.std.proofs.Common.{◌≡◌, ◌∙◌, ap, length, unwrap_or, slice_get, arith}
use Rattle.pm_rows.specs.Spans.{span_place}
use Rattle.pm_rows.proofs.Cells.{seen_span}
use Rattle.pm_rows.proofs.table.Table.span.Goals as goal

pub returns : goal.returns
returns c =
    let place : c.at_or.result ≡ span_place c.args.slave c.self.inside.spans.first.items =
    c.at_or.ensures ∙ ap (λ xs. unwrap_or (slice_get xs c.args.slave) 0) c.deref-2.ensures.value
    in
    seen_span c.args.self.now c.self.inside.seeds c.self.inside.cells _ (length c.self.inside.users) c.self.inside.narrow
    c.self.inside.spans.first.items c.self.inside.spans.past.items _ _ c.self.view_is c.self.invariant.0 c.args.slave c.min.result c.at_or-past.result
    (omega (arith, c.min.ensures, place))
    (c.at_or-past.ensures ∙ ap (λ xs. unwrap_or (slice_get xs c.args.slave) 0) c.deref.ensures.value)
