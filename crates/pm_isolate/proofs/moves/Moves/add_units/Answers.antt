use Rattle.std.proofs.Common.{◌+◌, ◌∙◌, List, ap, drop, sym}
use Rattle.std.proofs.lemmas.Option.{slice_get-get_or}
use Rattle.pm_base.specs.declared.names.Unit.{Unit}
use Rattle.pm_base.proofs.ListLemmas.{drop_found}
use Rattle.pm_isolate.specs.Moves.{with_units}
use Rattle.pm_isolate.proofs.moves.Moves.add_units.Goals as goal

pub loop-unit-preserved : goal.loop-unit-preserved
loop-unit-preserved c =
    let marks = c.args.marks.now in
    let units = c.args.units.now in
    let k = c.loop-unit.unit-index in
    let at = slice_get-get_or units k _ c.loop-unit-test.true in
    ap (λ m. with_units marks (drop (k + 1) units) m) c.add_unit.ensures
    ∙ sym (ap (λ (us : List Unit). with_units marks us c.loop-unit.self) (drop_found units k _ at))
    ∙ c.loop-unit.invariant
